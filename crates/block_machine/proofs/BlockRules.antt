-- For each rule on blocks two histories that break it alone, and the turn that may not come.
use Rattle.std.proofs.Common.{◌≡◌, [], ◌∷◌, ◌++◌, refl}
use Rattle.std.specs.Prelude.{Some}
use Rattle.cdb_reader.specs.Operation.{operation_of}
use Rattle.block_machine.specs.declared.entry.Recovered.TheVariants.{Ready}
use Rattle.block_machine.proofs.Building.{sync, comes, starts, works, moves, destages, hard_by_drive, pass, lose, good, cut, power, reads, reads_bad, writes, forces, stops_at, told}

-- a clean block gives what is on the medium: zeros at first, and then what was hardened and not what was before
got_clean : (stops_at (reads 1 5 1) ≡ Some 3) × (stops_at (forces 1 5 1 ++ reads 2 5 0) ≡ Some 6)
unfolding operation_of
got_clean = (refl, refl)

-- a dirty block gives its newest value: not the one on the medium, and not the one put before
got_dirty : (stops_at (writes 1 5 1 ++ reads 2 5 0) ≡ Some 6) × (stops_at (writes 1 5 1 ++ writes 2 5 2 ++ reads 3 5 1) ≡ Some 9)
unfolding operation_of
got_dirty = (refl, refl)

-- a dirty block is never bad: after a write, and while a lost mark is on its way
got_bad_dirty : (stops_at (writes 1 5 1 ++ reads_bad 2 5) ≡ Some 6) × (stops_at (moves 1 (lose 5 ∷ []) ∷ reads_bad 1 5) ≡ Some 4)
unfolding operation_of
got_bad_dirty = (refl, refl)

-- what was got once is got again: the value after a cut, be it the old or the new one
got_settles : (stops_at (writes 1 5 1 ++ cut ∷ power (Ready 6) ∷ told 2 1 0x29 0x01 ++ reads 3 5 0 ++ reads 4 5 1) ≡ Some 13)
    × (stops_at (writes 1 5 1 ++ cut ∷ power (Ready 6) ∷ told 2 1 0x29 0x01 ++ reads 3 5 1 ++ reads 4 5 0) ≡ Some 13)
unfolding operation_of
got_settles = (refl, refl)

-- after a cut no value that was never there: neither of another block, nor from before the last harden
got_after_cut : (stops_at (writes 1 5 1 ++ writes 2 6 2 ++ cut ∷ power (Ready 6) ∷ told 3 1 0x29 0x01 ++ reads 4 5 2) ≡ Some 13)
    × (stops_at (forces 1 5 1 ++ cut ∷ power (Ready 6) ∷ told 2 1 0x29 0x01 ++ reads 3 5 0) ≡ Some 10)
unfolding operation_of
got_after_cut = (refl, refl)

-- only a dirty block is hardened: not one that nothing was put into, and not twice
hardened_dirty : (stops_at (destages (hard_by_drive 5 ∷ []) ∷ []) ≡ Some 1)
    × (stops_at (writes 1 5 1 ++ destages (hard_by_drive 5 ∷ []) ∷ destages (hard_by_drive 5 ∷ []) ∷ []) ≡ Some 5)
unfolding operation_of
hardened_dirty = (refl, refl)

-- a block that was put again keeps nothing older: after the harden it is the newest value
hardened_newest : (stops_at (writes 1 5 1 ++ writes 2 5 2 ++ destages (hard_by_drive 5 ∷ []) ∷ reads 3 5 1) ≡ Some 10)
    × (stops_at (writes 1 5 1 ++ writes 2 5 2 ++ destages (hard_by_drive 5 ∷ []) ∷ reads 3 5 0) ≡ Some 10)
unfolding operation_of
hardened_newest = (refl, refl)

-- only a block that isn't dirty is given up: not after a write, and not twice
given_up_clean : (stops_at (writes 1 5 1 ++ moves 1 (lose 5 ∷ []) ∷ []) ≡ Some 4)
    × (stops_at (moves 1 (lose 5 ∷ []) ∷ moves 2 (lose 5 ∷ []) ∷ []) ≡ Some 2)
unfolding operation_of
given_up_clean = (refl, refl)

-- a block that was given up and hardened gives nothing: not its value from before, and no zeros after a write
given_up_lost : (stops_at (moves 1 (lose 5 ∷ hard_by_drive 5 ∷ []) ∷ reads 1 5 0) ≡ Some 4)
    × (stops_at (forces 1 5 1 ++ moves 1 (lose 5 ∷ hard_by_drive 5 ∷ []) ∷ reads 2 5 1) ≡ Some 7)
unfolding operation_of
given_up_lost = (refl, refl)

-- a range that is passed has no dirty block, neither first nor last
passed_clean : (stops_at (writes 1 5 1 ++ comes 2 1 (sync 5 3) ∷ starts 2 ∷ works 2 (pass 2 5 8 ∷ good 2 ∷ []) ∷ []) ≡ Some 6)
    × (stops_at (writes 1 5 1 ++ comes 2 1 (sync 3 3) ∷ starts 2 ∷ works 2 (pass 2 3 6 ∷ good 2 ∷ []) ∷ []) ≡ Some 6)
unfolding operation_of
passed_clean = (refl, refl)
