-- Where a chain with a pair ends.
use Rattle.std.proofs.Common.{◌≡◌, suc, ◌-◌, List, [], ◌∷◌, length, get_or, refl, arith}
use Rattle.std.specs.Prelude.{◌≢◌}
use Rattle.disk_base.specs.declared.address.Psn.{Psn}
use Rattle.geometry_map.specs.declared.pair.Pair.{Pair}
use Rattle.geometry_map.specs.Chains.{chain_end}

-- the same wherever it begins
pub end_anywhere : (at other : Psn) (chain : List Pair) → chain ≢ [] → chain_end at chain ≡ chain_end other chain
end_anywhere at other [] some = absurd (some refl)
end_anywhere at other (p ∷ ps) some = refl

-- at the spare of its last pair
pub end_is_last : (at : Psn) (chain : List Pair) (d : Pair) → chain ≢ [] → (get_or chain (length chain - 1) d).new ≡ chain_end at chain
end_is_last at [] d some = absurd (some refl)
end_is_last at (p ∷ []) d some = refl
end_is_last at (p ∷ q ∷ rest) d some =
    let last : length (p ∷ q ∷ rest) - 1 ≡ suc (length (q ∷ rest) - 1) = omega arith in
    rw last (end_is_last p.new (q ∷ rest) d (λ none. cc))
