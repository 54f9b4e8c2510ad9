-- A list of eight that is written place by place.
use Rattle.std.proofs.Common.{◌≡◌, ◌∙◌, ◌≢◌, ℕ, ◌+◌, ◌<◌, List, length, get_or, set, map, arith, below_more, get_or-set_other, get_or-set_same}
use Rattle.std.specs.List.{range_with_len}
use Rattle.std.proofs.lemmas.List.{length-set}
use Rattle.std.proofs.lemmas.List.FromFn.{fill_by_all}

-- what stands below a place is what a function gives
pub record Filled {X : Type 0} (d : X) (f : ℕ → X) (xs : List X) (k : ℕ) : Type 0 where
  pub long : length xs ≡ 8
  pub below : (j : ℕ) → j < k → get_or xs j d ≡ f j

-- one more place
pub filled-more : {X : Type 0} (d : X) (f : ℕ → X) (xs : List X) (k : ℕ) (v : X) → k < 8 → v ≡ f k → Filled d f xs k → Filled d f (set xs k v) (k + 1)
filled-more d f xs k v lt is so =
    let inside : k < length xs = omega (arith, so.long) in record {
      long = length-set xs k v ∙ so.long;
      below = below_more _ _ (λ j h. let ne : j ≢ k = omega arith in get_or-set_other xs k j v d ne ∙ so.below j h) (get_or-set_same xs k v d inside ∙ is);
    }

-- all eight
pub filled-all : {X : Type 0} (d : X) (f : ℕ → X) (xs : List X) (k : ℕ) → k ≡ 8 → Filled d f xs k → xs ≡ map f (range_with_len 0 8)
filled-all d f xs k end so = fill_by_all f xs 8 d so.long (λ j lt. so.below j (omega arith))
