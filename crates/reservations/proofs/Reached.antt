-- What a desk keeps, whatever arrived and was cut.
use Rattle.std.proofs.Common.{sym, subst, List, [], ◌∷◌}
use Rattle.sense_data.specs.Attentions.{KnownStayKnown}
use Rattle.reservations.specs.declared.state.State.{State}
use Rattle.reservations.specs.Desk.{desk_at_start}
use Rattle.reservations.specs.Judged.{judged}
use Rattle.reservations.specs.Laws.{HoldersAreRegistered}
use Rattle.reservations.specs.Runs.{AreEvents, Event, IsReached, after_events}
use Rattle.reservations.specs.Runs.Event.{Arrival, Cut}
use Rattle.reservations.proofs.Kept.{Keeps}
use Rattle.reservations.proofs.Sound.{sound-judged}
use Rattle.reservations.proofs.Start.{start-kept}

sound-after : KnownStayKnown → (d : State) (es : List Event) → AreEvents es → Keeps d → Keeps (after_events d es)
sound-after law d [] are s = s
sound-after law d (Arrival i cdb sent ∷ es) are s =
    sound-after law (judged d i cdb sent).desk es are.1 (sound-judged law d i cdb sent are.0 s)
sound-after law d (Cut ∷ es) are s = sound-after law desk_at_start es are.1 start-kept

pub sound-reached : KnownStayKnown → (d : State) → IsReached d → Keeps d
sound-reached law d is =
    subst (λ (e : State). Keeps e) (sym is.after) (sound-after law desk_at_start is.events is.are_events start-kept)

pub holders-are-registered : KnownStayKnown → HoldersAreRegistered
holders-are-registered law d h is held =
    let s = sound-reached law d is in
    ((s.holder_registered h held).0, (s.holder_registered h held).1, s.holder_type h held)
