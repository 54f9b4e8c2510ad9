-- For each rule on commands two histories that break it alone, and the turn that may not come.
use Rattle.std.proofs.Common.{◌≡◌, ℕ, zero, suc, ◌+◌, List, [], ◌∷◌, ◌++◌, refl}
use Rattle.std.specs.Prelude.{Some}
use Rattle.disk_base.specs.declared.command.Attribute.TheVariants.{Simple, Ordered, Head}
use Rattle.disk_base.specs.declared.command.DataOut.TheVariants.{Nothing, Fill}
use Rattle.disk_base.specs.declared.command.Function.TheVariants.{Abort, AbortSet, Clear, Reset}
use Rattle.cdb_reader.specs.Operation.{operation_of}
use Rattle.block_machine.specs.declared.entry.Entry.TheVariants.{Arrived, Aborted, Asked, Tick}
use Rattle.block_machine.specs.declared.turn.Label.TheVariants.{Arrive, Scan}
use Rattle.block_machine.specs.declared.turn.Turn.{Turn}
use Rattle.block_machine.proofs.Building.{turn, read, write, sync, reassign, blocks_named, test_unit_ready, comes_as, comes, comes_full, sends, asks, starts, at_once, works, moves, get, good, cut, ready, reads, stops_at}

-- commands are numbered as they come: none is passed over, and none comes twice
numbered : (stops_at (comes 2 1 test_unit_ready ∷ []) ≡ Some 1) × (stops_at (ready 1 1 ++ comes 1 1 test_unit_ready ∷ []) ≡ Some 3)
unfolding operation_of
numbered = (refl, refl)

-- the turn of an arrival has its command or its function, of its initiator
arrives : (stops_at (turn (Arrive 2) (Arrived 1 1 (record { 0 = 1 }) Simple test_unit_ready Nothing ∷ []) ∷ []) ≡ Some 1)
    × (stops_at (turn (Arrive 1) [] ∷ []) ≡ Some 1)
arrives = (refl, refl)

-- a function is that of the turn's initiator, and alone
asked : (stops_at (turn (Arrive 2) (Asked 1 AbortSet ∷ []) ∷ []) ≡ Some 1)
    × (stops_at (turn (Arrive 1) (Asked 1 AbortSet ∷ Asked 1 AbortSet ∷ []) ∷ []) ≡ Some 1)
asked = (refl, refl)

-- commands and functions come in turns of arrivals alone
arrivals_apart : (stops_at (turn Scan (Arrived 1 1 (record { 0 = 1 }) Simple test_unit_ready Nothing ∷ []) ∷ []) ≡ Some 1)
    × (stops_at (turn Scan (Asked 1 AbortSet ∷ []) ∷ []) ≡ Some 1)
arrivals_apart = (refl, refl)

-- so many commands come, numbered from one on
ready_arrivals : ℕ → ℕ → List Turn
ready_arrivals c zero = []
ready_arrivals c (suc n) = comes c 1 test_unit_ready ∷ ready_arrivals (c + 1) n

-- TASK SET FULL is told exactly where 64 commands are in
told_full : (stops_at (ready_arrivals 1 63 ++ comes_full 64 1 test_unit_ready ∷ []) ≡ Some 64)
    × (stops_at (ready_arrivals 1 64 ++ comes 65 1 test_unit_ready ∷ []) ≡ Some 65)
unfolding operation_of ready_arrivals
told_full = (refl, refl)

-- a command that found no room isn't in: it doesn't start, and it isn't aborted
full_is_out : (stops_at (ready_arrivals 1 64 ++ comes_full 65 1 test_unit_ready ∷ starts 65 ∷ []) ≡ Some 66)
    × (stops_at (ready_arrivals 1 64 ++ comes_full 65 1 test_unit_ready ∷ asks 1 (Abort (record { 0 = 65 })) (65 ∷ []) ∷ []) ≡ Some 66)
unfolding operation_of ready_arrivals
full_is_out = (refl, refl)

-- what starts came before, and didn't start yet
starts_once : (stops_at (starts 1 ∷ []) ≡ Some 1) × (stops_at (comes 1 1 (read 0 1) ∷ starts 1 ∷ starts 1 ∷ []) ≡ Some 3)
unfolding operation_of
starts_once = (refl, refl)

-- none starts beside a HEAD OF QUEUE command, an older or a younger one
head_first : (stops_at (comes_as Head 1 1 test_unit_ready Nothing ∷ comes 2 2 test_unit_ready ∷ at_once 2 (good 2 ∷ []) ∷ []) ≡ Some 3)
    × (stops_at (comes 1 1 test_unit_ready ∷ comes_as Head 2 2 test_unit_ready Nothing ∷ at_once 1 (good 1 ∷ []) ∷ []) ≡ Some 3)
unfolding operation_of
head_first = (refl, refl)

-- an ORDERED one doesn't start past an older command, of its own initiator or another
ordered_last : (stops_at (comes 1 1 test_unit_ready ∷ comes_as Ordered 2 1 test_unit_ready Nothing ∷ at_once 2 (good 2 ∷ []) ∷ []) ≡ Some 3)
    × (stops_at (comes_as Ordered 1 1 test_unit_ready Nothing ∷ comes_as Ordered 2 2 test_unit_ready Nothing ∷ at_once 2 (good 2 ∷ []) ∷ []) ≡ Some 3)
unfolding operation_of
ordered_last = (refl, refl)

-- a SIMPLE one doesn't start past an older ORDERED one, started or not
simple_behind_ordered : (stops_at (comes_as Ordered 1 1 test_unit_ready Nothing ∷ comes 2 2 test_unit_ready ∷ at_once 2 (good 2 ∷ []) ∷ []) ≡ Some 3)
    × (stops_at (comes_as Ordered 1 1 (read 0 1) Nothing ∷ comes 2 2 test_unit_ready ∷ starts 1 ∷ at_once 2 (good 2 ∷ []) ∷ []) ≡ Some 4)
unfolding operation_of
simple_behind_ordered = (refl, refl)

-- nor past an older one of its initiator on a common block, where one of the two writes
simple_in_order : (stops_at (sends 1 1 (write 5 2) (Fill 1) ∷ comes 2 1 (read 6 1) ∷ starts 2 ∷ []) ≡ Some 3)
    × (stops_at (comes 1 1 (read 5 2) ∷ sends 2 1 (write 6 1) (Fill 1) ∷ starts 2 ∷ []) ≡ Some 3)
unfolding operation_of
simple_in_order = (refl, refl)

-- REASSIGN BLOCKS touches every block
reassign_in_order : (stops_at (sends 1 1 reassign (blocks_named (3 ∷ [])) ∷ comes 2 1 (read 6 1) ∷ starts 2 ∷ []) ≡ Some 3)
    × (stops_at (comes 1 1 (sync 6 1) ∷ sends 2 1 reassign (blocks_named (3 ∷ [])) ∷ starts 2 ∷ []) ≡ Some 3)
unfolding operation_of
reassign_in_order = (refl, refl)

-- what a command does comes after its start and before its end
within_life : (stops_at (comes 1 1 (read 0 1) ∷ works 1 (get 1 0 0 ∷ []) ∷ []) ≡ Some 2)
    × (stops_at (reads 1 0 0 ++ works 1 (good 1 ∷ []) ∷ []) ≡ Some 4)
unfolding operation_of
within_life = (refl, refl)

-- a command that was aborted or cut off does nothing more
after_its_life : (stops_at (comes 1 1 (read 0 1) ∷ starts 1 ∷ asks 1 AbortSet (1 ∷ []) ∷ works 1 (get 1 0 0 ∷ []) ∷ []) ≡ Some 4)
    × (stops_at (comes 1 1 (read 0 1) ∷ starts 1 ∷ cut ∷ works 1 (get 1 0 0 ∷ []) ∷ []) ≡ Some 4)
unfolding operation_of
after_its_life = (refl, refl)

-- it does so in turns of work on it: not in those of another, nor of the scan
own_turns : (stops_at (comes 1 1 (read 0 1) ∷ comes 2 1 (read 0 1) ∷ starts 1 ∷ works 2 (get 1 0 0 ∷ []) ∷ []) ≡ Some 4)
    × (stops_at (comes 1 1 (read 0 1) ∷ starts 1 ∷ turn Scan (get 1 0 0 ∷ []) ∷ []) ≡ Some 3)
unfolding operation_of
own_turns = (refl, refl)

-- in turns of moves it puts and hardens alone: it gets and ends in its own
moves_write : (stops_at (comes 1 1 (read 0 1) ∷ starts 1 ∷ moves 1 (get 1 0 0 ∷ []) ∷ []) ≡ Some 3)
    × (stops_at (comes 1 1 (read 0 1) ∷ starts 1 ∷ works 1 (get 1 0 0 ∷ []) ∷ moves 1 (good 1 ∷ []) ∷ []) ≡ Some 4)
unfolding operation_of
moves_write = (refl, refl)

-- a start stands alone where the command doesn't end in it
starts_apart : (stops_at (comes 1 1 (read 0 2) ∷ at_once 1 (get 1 0 0 ∷ []) ∷ []) ≡ Some 2)
    × (stops_at (comes 1 1 (read 0 1) ∷ at_once 1 (Tick 5 ∷ []) ∷ []) ≡ Some 2)
unfolding operation_of
starts_apart = (refl, refl)

-- ABORT TASK ends the initiator's command of the tag, and no other
abort_ends : (stops_at (comes 1 1 test_unit_ready ∷ asks 1 (Abort (record { 0 = 1 })) [] ∷ []) ≡ Some 2)
    × (stops_at (comes 1 1 test_unit_ready ∷ asks 2 (Abort (record { 0 = 1 })) (1 ∷ []) ∷ []) ≡ Some 2)
unfolding operation_of
abort_ends = (refl, refl)

-- ABORT TASK SET ends all of the initiator's commands, by age
abort_set_ends : (stops_at (comes 1 1 test_unit_ready ∷ comes 2 1 test_unit_ready ∷ asks 1 AbortSet (2 ∷ 1 ∷ []) ∷ []) ≡ Some 3)
    × (stops_at (comes 1 1 test_unit_ready ∷ comes 2 2 test_unit_ready ∷ asks 1 AbortSet (1 ∷ 2 ∷ []) ∷ []) ≡ Some 3)
unfolding operation_of
abort_set_ends = (refl, refl)

-- CLEAR TASK SET and LOGICAL UNIT RESET end all commands
all_end : (stops_at (comes 1 1 test_unit_ready ∷ comes 2 2 test_unit_ready ∷ asks 1 Clear (1 ∷ []) ∷ []) ≡ Some 3)
    × (stops_at (comes 1 1 test_unit_ready ∷ comes 2 2 test_unit_ready ∷ asks 1 Reset (1 ∷ []) ∷ []) ≡ Some 3)
unfolding operation_of
all_end = (refl, refl)

-- nothing is aborted without a function that asks for it
aborted_by_function : (stops_at (comes 1 1 test_unit_ready ∷ turn (Arrive 1) (Aborted 1 ∷ []) ∷ []) ≡ Some 2)
    × (stops_at (comes 1 1 test_unit_ready ∷ works 1 (Aborted 1 ∷ []) ∷ []) ≡ Some 2)
unfolding operation_of
aborted_by_function = (refl, refl)
