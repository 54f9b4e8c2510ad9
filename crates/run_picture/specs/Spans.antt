-- What goes over turns.
use Rattle.std.specs.Prelude.{ℕ, ◌==◌, Bool, false, if◌then◌else◌, List, [], ◌∷◌, Option, Some, None}
use Rattle.std.specs.Option.{option_map, option_map_or, is_some}
use Rattle.disk_base.specs.declared.address.Lba.{Lba}
use Rattle.run_picture.specs.declared.event.Event.{Event}
use Rattle.run_picture.specs.declared.event.Event.TheVariants.{Came, Began, Answered, Gone, Wrote, Hardened, GivenUp, PowerOff, PowerOn}
use Rattle.run_picture.specs.declared.points.Point.{Point}
use Rattle.run_picture.specs.declared.spans.Subject.{Subject}
use Rattle.run_picture.specs.declared.spans.Subject.TheVariants.{Command, Dirty, Dark}
use Rattle.run_picture.specs.declared.spans.Ending.{Ending}
use Rattle.run_picture.specs.declared.spans.Ending.TheVariants.{WithStatus, ByFunction, ByCut, OnMedium, PowerBack, Open}
use Rattle.run_picture.specs.declared.spans.Span.{Span}
use Rattle.run_picture.specs.declared.spans.End.{End}

-- a command is in from its arrival on; a put or a given-up block is dirty; a cut leaves no power
abbrev pub opens : Event → Option Subject
opens (Came c i) = Some (Command c i)
opens (Wrote c b) = Some (Dirty b)
opens (GivenUp b) = Some (Dirty b)
opens PowerOff = Some Dark
opens other = None

-- a command ends with its reply, by a function, or by a cut
abbrev pub closes_command : ℕ → Event → Option Ending
closes_command c (Answered d status) = if d == c then Some (WithStatus status) else None
closes_command c (Gone d) = if d == c then Some ByFunction else None
closes_command c PowerOff = Some ByCut
closes_command c other = None

-- a block is dirty until its newest value is on the medium, or a cut
abbrev pub closes_dirt : Lba → Event → Option Ending
closes_dirt b (Hardened who a) = if a.0 == b.0 then Some OnMedium else None
closes_dirt b PowerOff = Some ByCut
closes_dirt b other = None

-- the power is off until it comes back
abbrev pub closes_dark : Event → Option Ending
closes_dark PowerOn = Some PowerBack
closes_dark other = None

-- how an event ends what a span is about
abbrev pub closes : Subject → Event → Option Ending
closes (Command c i) event = closes_command c event
closes (Dirty b) event = closes_dirt b event
closes Dark event = closes_dark event

-- the event is the start of a command that the span is about
abbrev pub begins : Subject → Event → Bool
begins (Command c i) (Began d) = d == c
begins subject other = false

-- the turn of the first of later points that begins the work, unless it is over before
abbrev pub start_of : Subject → List Point → Option ℕ
start_of subject [] = None
start_of subject (p ∷ later) = if begins subject p.event then Some p.turn else if is_some (closes subject p.event) then None else start_of subject later

-- the turn of the first of later points that ends it, and how; where none does, it is open at the last turn
abbrev pub end_of : Subject → ℕ → List Point → End
end_of subject last [] = record { turn = last; ending = Open }
end_of subject last (p ∷ later) = option_map_or (λ ending. record { turn = p.turn; ending = ending }) (closes subject p.event) (end_of subject last later)

-- the span of what a point of a turn opens, with later points behind it
abbrev pub span_of : ℕ → ℕ → List Point → Subject → Span
span_of last turn later subject = let end = end_of subject last later in record {
  subject = subject;
  from = turn;
  began_before = false;
  start = start_of subject later;
  to = end.turn;
  ending = end.ending;
}

-- the span that a point opens, where it does
abbrev pub span_at : ℕ → Point → List Point → Option Span
span_at last p later = option_map (span_of last p.turn later) (opens p.event)
