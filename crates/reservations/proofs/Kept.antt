-- What a desk keeps whatever is sent: all but that the keys fit, which their type tells.
use Rattle.std.proofs.Common.{◌≡◌, ℕ, ◌<◌, ◌^◌, length, get_or, Some, IsTrue}
use Rattle.reservations.specs.declared.state.Holder.{Holder}
use Rattle.reservations.specs.declared.state.State.{State}
use Rattle.reservations.specs.Desk.{IsDesk, IsInitiator, KnownWait, is_registered, is_type}

pub record Keeps (d : State) : Type 0 where
  pub eight_keys : length d.keys ≡ 8
  pub holder_registered : (h : Holder) → d.holder ≡ Some h → IsInitiator h.initiator × IsTrue (is_registered d h.initiator)
  pub holder_type : (h : Holder) → d.holder ≡ Some h → IsTrue (is_type h.kind)
  pub generation_fits : d.generation < 2 ^ 32
  pub eight_lists : length d.waiting ≡ 8
  pub known_wait : KnownWait d.waiting

pub keeps-desk : (d : State) → IsDesk d → Keeps d
keeps-desk d s = record {
  eight_keys = s.eight_keys;
  holder_registered = s.holder_registered;
  holder_type = s.holder_type;
  generation_fits = s.generation_fits;
  eight_lists = s.eight_lists;
  known_wait = s.known_wait;
}

pub desk-kept : (d : State) → Keeps d → ((k : ℕ) → k < 8 → get_or d.keys k 0 < 2 ^ 64) → IsDesk d
desk-kept d s fit = record {
  eight_keys = s.eight_keys;
  keys_fit = fit;
  holder_registered = s.holder_registered;
  holder_type = s.holder_type;
  generation_fits = s.generation_fits;
  eight_lists = s.eight_lists;
  known_wait = s.known_wait;
}
