-- The marks of a history that was worked out by hand: a write that a power cut catches, and a command that a function ends.
use Rattle.std.proofs.Common.{◌≡◌, ℕ, true, false, List, [], ◌∷◌, refl}
use Rattle.std.specs.Prelude.{Some, None}
use Rattle.std.specs.List.{flat_map}
use Rattle.disk_base.specs.declared.address.Lba.{Lba}
use Rattle.disk_base.specs.declared.command.Attribute.TheVariants.{Simple}
use Rattle.disk_base.specs.declared.command.DataOut.TheVariants.{Nothing}
use Rattle.disk_base.specs.declared.command.Function.TheVariants.{AbortSet}
use Rattle.platter_model.specs.declared.world.World.TheVariants as world
use Rattle.block_machine.specs.declared.entry.Recovered.TheVariants.{Ready}
use Rattle.block_machine.specs.declared.entry.Entry.{Entry}
use Rattle.block_machine.specs.declared.entry.Entry.TheVariants.{Arrived, Started, Put, Harden, Ended, Aborted, Asked, Cut, PoweredOn}
use Rattle.block_machine.specs.declared.entry.Who.TheVariants.{Drive}
use Rattle.block_machine.specs.declared.turn.Label.{Label}
use Rattle.block_machine.specs.declared.turn.Label.TheVariants.{Arrive, Work, Destage, World}
use Rattle.block_machine.specs.declared.turn.Turn.{Turn}
use Rattle.run_picture.specs.declared.spans.Subject.TheVariants.{Command, Dirty, Dark}
use Rattle.run_picture.specs.declared.spans.Subject.{Subject}
use Rattle.run_picture.specs.declared.spans.Ending.TheVariants.{WithStatus, ByFunction, ByCut, OnMedium, PowerBack, Open as StillOpen}
use Rattle.run_picture.specs.declared.spans.Ending.{Ending}
use Rattle.run_picture.specs.declared.spans.Span.{Span}
use Rattle.run_picture.specs.declared.marks.Mark.{Mark}
use Rattle.run_picture.specs.declared.marks.Mark.TheVariants.{At, Over}
use Rattle.run_picture.specs.declared.window.Window.{Window}
use Rattle.run_picture.specs.Marks.{marks_of}
use Rattle.run_picture.specs.Blocks.{blocks_of}
use Rattle.run_picture.specs.Draw.{marks_within}

abbrev turn : Label → List Entry → Turn
turn label entries = record { label = label; ops_from = 0; ops_to = 0; entries = entries }

abbrev comes : ℕ → ℕ → Turn
comes c i = turn (Arrive i) (Arrived c i (record { 0 = c }) Simple [] Nothing ∷ [])

abbrev four : Lba
four = record { 0 = 4 }

abbrev history : List Turn
history =
    comes 1 1
    ∷ turn (Work 1) (Started 1 ∷ [])
    ∷ turn (Work 1) (Put 1 four [] ∷ [])
    ∷ comes 2 2
    ∷ turn (Arrive 2) (Asked 2 AbortSet ∷ Aborted 2 ∷ [])
    ∷ turn (World world.Cut) (Cut ∷ [])
    ∷ turn (World world.Power) (PoweredOn (Ready 1) ∷ [])
    ∷ comes 3 1
    ∷ turn (Work 3) (Started 3 ∷ [])
    ∷ turn (Work 3) (Put 3 four [] ∷ Ended 3 (record { status = 0; sense = None }) ∷ [])
    ∷ turn Destage (Harden Drive four ∷ [])
    ∷ comes 4 1
    ∷ []

abbrev over : Mark → List Span
over (At p) = []
over (Over s) = s ∷ []

abbrev command : ℕ → ℕ → ℕ → ℕ → ℕ → Ending → Span
command c i from start to ending = record { subject = Command c i; from = from; began_before = false; start = Some start; to = to; ending = ending }

abbrev other : Subject → ℕ → ℕ → Ending → Span
other subject from to ending = record { subject = subject; from = from; began_before = false; start = None; to = to; ending = ending }

-- what goes over turns: a bar that the cut ends, a dirty stretch that doesn't go on behind it, a bar that a function ends, the time
-- without power, a bar that ends GOOD, a dirty stretch up to its harden, and a bar that is open at the last turn
spans : flat_map over (marks_of history) ≡
    command 1 1 1 2 6 ByCut
    ∷ other (Dirty four) 3 6 ByCut
    ∷ other (Command 2 2) 4 5 ByFunction
    ∷ other Dark 6 7 PowerBack
    ∷ command 3 1 8 9 10 (WithStatus 0)
    ∷ other (Dirty four) 10 11 OnMedium
    ∷ other (Command 4 1) 12 12 StillOpen
    ∷ []
spans = refl

-- each block that is named has one row
rows : blocks_of (marks_of history) ≡ four ∷ []
rows = refl

-- from turn 2 to turn 5: what began before says so, and what goes on is open at the edge
abbrev middle : Window
middle = record { from = 2; to = 5 }

cut_at_the_edges : flat_map over (marks_within middle history) ≡
    (record { subject = Command 1 1; from = 2; began_before = true; start = Some 2; to = 5; ending = StillOpen })
    ∷ other (Dirty four) 3 5 StillOpen
    ∷ other (Command 2 2) 4 5 ByFunction
    ∷ []
cut_at_the_edges = refl

-- a bar ends in the turn of its reply, and not in a later one
ends_in_its_turn : flat_map over (marks_of (comes 1 1 ∷ turn (Work 1) (Ended 1 (record { status = 2; sense = None }) ∷ []) ∷ comes 2 1 ∷ []))
    ≡ other (Command 1 1) 1 2 (WithStatus 2) ∷ other (Command 2 1) 3 3 StillOpen ∷ []
ends_in_its_turn = refl
