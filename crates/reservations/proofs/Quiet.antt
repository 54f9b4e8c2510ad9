-- Who is kept out, and what changes nothing.
use Rattle.std.proofs.Common.{◌≡◌, ◌≢◌, refl, ℕ, ◌==◌, Bool, true, false, not, List, Some}
use Rattle.std.specs.Prelude.{◌&&◌, ◌||◌, slice_index}
use Rattle.disk_base.specs.declared.command.DataOut.{DataOut}
use Rattle.reservations.specs.declared.state.Holder.{Holder}
use Rattle.reservations.specs.declared.state.State.{State}
use Rattle.reservations.specs.declared.verdict.Verdict.TheVariants.{Admit}
use Rattle.reservations.specs.Conflict.{is_reading, is_writing}
use Rattle.reservations.specs.Desk.{is_exclusive_access, is_for_registrants, is_registered}
use Rattle.reservations.specs.Judged.{judged}
use Rattle.reservations.specs.Laws.{AskingChangesNothing, ReadsAreKeptOut, WritesAreKeptOut, is_quiet}
use Rattle.reservations.specs.Verdicts.{Judgement}
use Rattle.reservations.proofs.Ways.{by-ways, is_kept_out}

kept-out : (a c n : Bool) → a ≡ false → c ≡ true → n ≡ false → (not a && (c && not n)) ≡ true
kept-out true c n p q s = absurd (cc)
kept-out false false n p q s = absurd (cc)
kept-out false true true p q s = absurd (cc)
kept-out false true false p q s = refl

-- whom a holder keeps out isn't admitted
not-admitted : (d : State) (h : Holder) (i : ℕ) (cdb : List ℕ) (sent : DataOut) → d.holder ≡ Some h → is_kept_out d i cdb h ≡ true
    → (judged d i cdb sent).verdict ≢ Admit
not-admitted d h i cdb sent held out = by-ways (λ (j : Judgement). j.verdict ≢ Admit) d i cdb sent (record {
  told_way = λ s met is. cc;
  keys_way = λ is. cc;
  reservation_way = λ is. cc;
  refused_way = λ s is. cc;
  key_way = λ is. cc;
  holder_way = λ k also is. cc;
  admit_way = λ free is. let no : is_kept_out d i cdb h ≡ false = free h held in cc;
  register_way = λ r asked is. cc;
  reserve_way = λ r asked named own none is. cc;
  same_way = λ is. cc;
  release_way = λ is. cc;
  drop_way = λ k kind also mine is. cc;
  clear_way = λ own is. cc;
  preempt_way = λ r asked named own is. cc;
})

or-left : (x y : Bool) → x ≡ true → (x || y) ≡ true
or-left true y h = refl
or-left false y h = absurd (cc)

or-right : (x y z : Bool) → y ≡ true → z ≡ true → (x || (y && z)) ≡ true
or-right true y z h k = refl
or-right false true true h k = refl
or-right false true false h k = k
or-right false false z h k = h

pub writes-kept-out : WritesAreKeptOut
writes-kept-out d h i cdb sent stranger writes =
    not-admitted d h i cdb sent stranger.held (kept-out (h.initiator == i) _ (is_for_registrants h.kind && is_registered d i) stranger.another
    (or-left (is_writing (slice_index cdb 0)) (is_reading (slice_index cdb 0) && is_exclusive_access h.kind) writes) stranger.no_right)

pub reads-kept-out : ReadsAreKeptOut
reads-kept-out d h i cdb sent stranger reads exclusive =
    not-admitted d h i cdb sent stranger.held (kept-out (h.initiator == i) _ (is_for_registrants h.kind && is_registered d i) stranger.another
    (or-right (is_writing (slice_index cdb 0)) (is_reading (slice_index cdb 0)) (is_exclusive_access h.kind) reads exclusive) stranger.no_right)

pub asking-changes-nothing : AskingChangesNothing
asking-changes-nothing d i cdb sent = by-ways (λ (j : Judgement). is_quiet j.verdict ≡ true → j.desk ≡ d) d i cdb sent (record {
  told_way = λ s met quiet. absurd (cc);
  keys_way = λ quiet. refl;
  reservation_way = λ quiet. refl;
  refused_way = λ s quiet. refl;
  key_way = λ quiet. refl;
  holder_way = λ k also quiet. refl;
  admit_way = λ free quiet. refl;
  register_way = λ r asked quiet. absurd (cc);
  reserve_way = λ r asked named own none quiet. absurd (cc);
  same_way = λ quiet. refl;
  release_way = λ quiet. refl;
  drop_way = λ k kind also mine quiet. absurd (cc);
  clear_way = λ own quiet. absurd (cc);
  preempt_way = λ r asked named own quiet. absurd (cc);
})
