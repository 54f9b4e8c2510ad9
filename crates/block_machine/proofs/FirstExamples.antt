-- A read and a write, legal and with one thing changed.
use Rattle.std.proofs.Common.{◌≡◌, true, [], ◌∷◌, refl}
use Rattle.std.specs.Prelude.{Some}
use Rattle.cdb_reader.specs.Operation.{operation_of}
use Rattle.block_machine.proofs.Building.{read, comes, starts, at_once, works, get, good, fails, test_unit_ready, is_legal_on, stops_on_at}

-- the first history: an attention, and then a read
first_read : is_legal_on (comes 1 1 test_unit_ready ∷ at_once 1 (fails 1 6 0x29 0x01 ∷ [])
    ∷ comes 2 1 (read 0 1) ∷ starts 2 ∷ works 2 (get 2 0 0 ∷ good 2 ∷ []) ∷ []) ≡ true
unfolding operation_of
first_read = refl

-- another value than zeros
first_read_of_ones : stops_on_at (comes 1 1 test_unit_ready ∷ at_once 1 (fails 1 6 0x29 0x01 ∷ [])
    ∷ comes 2 1 (read 0 1) ∷ starts 2 ∷ works 2 (get 2 0 1 ∷ good 2 ∷ []) ∷ []) ≡ Some 5
unfolding operation_of
first_read_of_ones = refl
