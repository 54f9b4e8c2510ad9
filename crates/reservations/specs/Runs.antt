-- Commands that arrive at the desk, and power cuts, one after another.
use Rattle.std.specs.Prelude.{◌≡◌, ℕ, List, [], ◌∷◌}
use Rattle.disk_base.specs.declared.command.DataOut.{DataOut}
use Rattle.reservations.specs.declared.state.State.{State}
use Rattle.reservations.specs.Desk.{IsInitiator, desk_at_start}
use Rattle.reservations.specs.Judged.{judged}

-- a command of an initiator with what is sent, or a power cut
pub data Event : Type 0 where
  Arrival : (i : ℕ) (cdb : List ℕ) (sent : DataOut) → Event
  Cut : Event

-- an initiator sends it
abbrev pub IsEvent : Event → Type 0
IsEvent (Arrival i cdb sent) = IsInitiator i
IsEvent Cut = Unit {0}

abbrev pub AreEvents : List Event → Type 0
AreEvents [] = Unit {0}
AreEvents (e ∷ es) = IsEvent e × AreEvents es

-- the desk after an event
abbrev pub after_event : State → Event → State
after_event d (Arrival i cdb sent) = (judged d i cdb sent).desk
after_event d Cut = desk_at_start

-- and after some, in order
abbrev pub after_events : State → List Event → State
after_events d [] = d
after_events d (e ∷ es) = after_events (after_event d e) es

-- a desk that some arrivals and cuts lead to
pub record IsReached (d : State) : Type 0 where
  pub events : List Event
  pub are_events : AreEvents events
  pub after : d ≡ after_events desk_at_start events
