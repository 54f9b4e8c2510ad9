-- The first dirty block of a range, by the cache and by the history.
use Rattle.std.proofs.Common.{◌≡◌, ◌≢◌, ◌⊎◌, ℕ, zero, suc, ◌+◌, ◌<◌, ◌≤◌, Bool, true, false, not, cond, eqb, List, [], ◌∷◌, length, Option, Some, None, IsSome, refl, sym, ap, ◌∙◌, subst, arith, ⊎_elim, inl, inr, get_or}
use Rattle.std.specs.Prelude.{◌-◌, Contains, find, filter}
use Rattle.std.specs.List.{list_all, range_with_len}
use Rattle.std.specs.Map.{keys_of, lookup}
use Rattle.std.specs.Option.{option_map, is_some}
use Rattle.std.proofs.lemmas.Option.{slice_get-get_or}
use Rattle.std.proofs.lemmas.Bool.{eq-eqb, eqb-true, ltb-true, leb-true, lt-ltb, le-leb, cases_eq}
use Rattle.std.proofs.lemmas.List.Elements.{All-contains}
use Rattle.disk_base.specs.declared.address.Lba.{Lba}
use Rattle.disk_base.specs.declared.block.Value.{Value}
use Rattle.disk_base.specs.declared.block.Value.TheVariants.{Data}
use Rattle.write_cache.specs.Contents.{Contents, is_at, newest, is_within, dirty_within, IsLeast}
use Rattle.block_machine.specs.Blocks.{Blocks, is_dirty, none_dirty, newest as newest_value}
use Rattle.block_machine.proofs.Booleans.{and_both, both}
use Rattle.drive_scene.specs.Holds.{first_dirty}
use Rattle.drive_scene.proofs.HardenTurns.{dirty-newest}

-- a test of addresses
same_address : (b q : Lba) → is_at b q ≡ true → q ≡ b
same_address b q same = let lba : ℕ → Lba = λ n. record { 0 = n } in sym (ap lba (eqb-true b.0 q.0 same))

module _ (p : ℕ → Bool) where
  -- none of a range passes
  pub none_passes : (a n : ℕ) → ((j : ℕ) → a ≤ j → j < a + n → p j ≡ false) → list_all (λ b. not (p b)) (range_with_len a n) ≡ true
  none_passes a zero none = refl
  none_passes a (suc n) none =
      and_both _ _ (ap not (none a (omega arith) (omega arith))) (none_passes (a + 1) n (λ j low high. none j (omega arith) (omega arith)))

  -- the first of a range that passes
  pub first_passes : (a n k : ℕ) → p k ≡ true → a ≤ k → k < a + n → ((j : ℕ) → a ≤ j → j < k → p j ≡ false) → find p (range_with_len a n) ≡ Some k
  first_passes a zero k passes low high before = absurd (omega arith)
  first_passes a (suc n) k passes low high before =
      by (λ other. first_passes (a + 1) n k passes (omega arith) (omega arith) (λ j from to. before j (omega arith) to)) (cases_eq a k)
    where
      by : (a ≢ k → find p (range_with_len (a + 1) n) ≡ Some k) → ((a ≡ k) ⊎ (a ≢ k)) → cond (p a) (Some a) (find p (range_with_len (a + 1) n)) ≡ Some k
      by rest is = ⊎_elim
          (λ (same : a ≡ k). ap (λ (t : Bool). cond t (Some a) (find p (range_with_len (a + 1) n))) (ap p same ∙ passes) ∙ ap (λ (m : ℕ). Some m) same)
          (λ (other : a ≢ k). ap (λ (t : Bool). cond t (Some a) (find p (range_with_len (a + 1) n))) (before a (omega arith) (omega (arith, other))) ∙ rest other)
          is

-- a block with a newest value, by its state
dirty_has_newest : (xs : List Value) → not (eqb (length xs) 0) ≡ true → IsSome (newest_value (record { base = []; newer = xs }))
dirty_has_newest [] is = absurd (cc)
dirty_has_newest (x ∷ xs) is = ap is_some (slice_get-get_or (x ∷ xs) (length (x ∷ xs) - 1) x (omega arith))

-- an address of a range is among those of the dirty blocks in it where its block is dirty
pub there_within : (from to q : Lba) (v : List ℕ) (es : List (Lba × List ℕ)) → lookup (is_at q) es ≡ Some v → is_within from to q ≡ true
    → Contains (filter (is_within from to) (keys_of es)) q
there_within from to q v [] found within = absurd (cc)
there_within from to q v (e ∷ es) found within = by (λ rest. there_within from to q v es rest within) (is_at q e.0) refl (is_within from to e.0) refl found
  where
    by : (lookup (is_at q) es ≡ Some v → Contains (filter (is_within from to) (keys_of es)) q) → (t : Bool) → is_at q e.0 ≡ t → (u : Bool) → is_within from to e.0 ≡ u
        → cond t (Some e.1) (lookup (is_at q) es) ≡ Some v → Contains (cond u (e.0 ∷ filter (is_within from to) (keys_of es)) (filter (is_within from to) (keys_of es))) q
    by rest true is true inside there = (0, omega arith, same_address q e.0 is)
    by rest true is false outside there = absurd (let same = ap (is_within from to) (same_address q e.0 is) in cc)
    by rest false is true inside there = let k = rest there in (suc k.0, omega (arith, k.1), k.2)
    by rest false is false outside there = rest there

-- the first of some, or one behind it
first_or_rest : (x q : Lba) (xs : List Lba) (k : ℕ) → k < suc (length xs) → get_or (x ∷ xs) k q ≡ q → (x ≡ q) ⊎ Contains xs q
first_or_rest x q xs zero below at = inl at
first_or_rest x q xs (suc k) below at = inr (k, omega arith, at)

-- and the other way round
pub within_there : (from to q : Lba) (es : List (Lba × List ℕ)) → Contains (filter (is_within from to) (keys_of es)) q
    → (is_within from to q ≡ true) × IsSome (lookup (is_at q) es)
within_there from to q [] among = absurd (omega (arith, among.1))
within_there from to q (e ∷ es) among = by (within_there from to q es) (is_within from to e.0) refl among
  where
    later : (t : Bool) → IsSome (lookup (is_at q) es) → IsSome (cond t (Some e.1) (lookup (is_at q) es))
    later true there = refl
    later false there = there

    by : (Contains (filter (is_within from to) (keys_of es)) q → (is_within from to q ≡ true) × IsSome (lookup (is_at q) es)) → (u : Bool) → is_within from to e.0 ≡ u
        → Contains (cond u (e.0 ∷ filter (is_within from to) (keys_of es)) (filter (is_within from to) (keys_of es))) q
        → (is_within from to q ≡ true) × IsSome (cond (is_at q e.0) (Some e.1) (lookup (is_at q) es))
    by rest true inside contains = ⊎_elim
        (λ (same : e.0 ≡ q).
        (ap (is_within from to) (sym same) ∙ inside, ap (λ (t : Bool). is_some (cond t (Some e.1) (lookup (is_at q) es))) (eq-eqb q.0 e.0.0 (λ i. (sym same i).0))))
        (λ more. let r = rest more in (r.0, later (is_at q e.0) r.1))
        (first_or_rest e.0 q (filter (is_within from to) (keys_of es)) contains.0 contains.1 contains.2)
    by rest false outside contains = let r = rest contains in (r.0, later (is_at q e.0) r.1)

-- the data of a dirty block are there
has_data : (f : List ℕ → Value) (o : Option (List ℕ)) → IsSome (option_map f o) → (bytes : List ℕ) × (o ≡ Some bytes)
has_data f None is = absurd (cc)
has_data f (Some bytes) is = (bytes, refl)

pub dirty_data : (blocks : Blocks) (cache : Contents) (q : Lba) → newest_value (blocks q.0) ≡ option_map Data (newest q cache)
    → is_dirty (blocks q.0) ≡ true → (bytes : List ℕ) × (newest q cache ≡ Some bytes)
dirty_data blocks cache q same dirty = has_data Data (newest q cache) (subst IsSome same (dirty_has_newest (blocks q.0).newer dirty))

pub data_dirty : (blocks : Blocks) (cache : Contents) (q : Lba) → newest_value (blocks q.0) ≡ option_map Data (newest q cache)
    → IsSome (newest q cache) → is_dirty (blocks q.0) ≡ true
data_dirty blocks cache q same there = by (newest q cache) refl there
  where
    by : (o : Option (List ℕ)) → newest q cache ≡ o → IsSome o → is_dirty (blocks q.0) ≡ true
    by None is some = absurd (cc)
    by (Some bytes) is some = dirty-newest (blocks q.0) (Data bytes) (same ∙ ap (option_map Data) is)

abbrev lba : ℕ → Lba
lba n = record { 0 = n }

inside : (from to : Lba) (j : ℕ) → from.0 ≤ j → j < to.0 → is_within from to (lba j) ≡ true
inside from to j low high = and_both _ _ (le-leb from.0 j low) (lt-ltb j to.0 high)

-- where the cache has no dirty block in a range, the history has none
pub none_of_cache : (blocks : Blocks) (cache : Contents) (from to : Lba) → ((q : Lba) → newest_value (blocks q.0) ≡ option_map Data (newest q cache))
    → dirty_within from to cache ≡ [] → (j : ℕ) → from.0 ≤ j → j < to.0 → is_dirty (blocks j) ≡ false
none_of_cache blocks cache from to same none j low high = by (is_dirty (blocks j)) refl
  where
    by : (t : Bool) → is_dirty (blocks j) ≡ t → is_dirty (blocks j) ≡ false
    by false is = is
    by true is =
        let held = dirty_data blocks cache (lba j) (same (lba j)) is in
        let among : Contains (dirty_within from to cache) (lba j) = there_within from to (lba j) held.0 cache.dirty held.1 (inside from to j low high) in
        let never : Contains [] (lba j) = subst (λ (bs : List Lba). Contains bs (lba j)) none among in
        absurd (omega (arith, never.1))

-- the least dirty block of the cache in a range is the first of the history
pub record IsFirstDirty (blocks : Blocks) (from to b : ℕ) : Type 0 where
  pub low : from ≤ b
  pub high : b < to
  pub dirty : is_dirty (blocks b) ≡ true
  pub before : (j : ℕ) → from ≤ j → j < b → is_dirty (blocks j) ≡ false

pub least_of_cache : (blocks : Blocks) (cache : Contents) (from to b : Lba) → ((q : Lba) → newest_value (blocks q.0) ≡ option_map Data (newest q cache))
    → IsLeast (dirty_within from to cache) b → IsFirstDirty blocks from.0 to.0 b.0
least_of_cache blocks cache from to b same least =
    let there = within_there from to b cache.dirty least.among in
    let tests = both _ _ there.0 in
    record {
      low = leb-true from.0 b.0 tests.0;
      high = ltb-true b.0 to.0 tests.1;
      dirty = data_dirty blocks cache b (same b) there.1;
      before = λ j low below. before j low below (is_dirty (blocks j)) refl;
    }
  where
    before : (j : ℕ) → from.0 ≤ j → j < b.0 → (t : Bool) → is_dirty (blocks j) ≡ t → is_dirty (blocks j) ≡ false
    before j low below false is = is
    before j low below true is =
        let there = within_there from to b cache.dirty least.among in
        let high : b.0 < to.0 = ltb-true b.0 to.0 (both _ _ there.0).1 in
        let held = dirty_data blocks cache (lba j) (same (lba j)) is in
        let among : Contains (dirty_within from to cache) (lba j) =
        there_within from to (lba j) held.0 cache.dirty held.1 (inside from to j low (omega (arith, below, high))) in
        let least_is : b.0 ≤ j = All-contains (λ (k : Lba). b.0 ≤ k.0) (dirty_within from to cache) (lba j) least.least among in
        absurd (omega (arith, least_is, below))

pub first_dirty-is : (blocks : Blocks) (from to b : ℕ) → IsFirstDirty blocks from to b → first_dirty blocks from to ≡ Some b
first_dirty-is blocks from to b is =
    first_passes (λ j. is_dirty (blocks j)) from (to - from) b is.dirty is.low (omega (arith, is.low, is.high)) is.before

pub none_dirty-before : (blocks : Blocks) (from b : ℕ) → ((j : ℕ) → from ≤ j → j < b → is_dirty (blocks j) ≡ false) → none_dirty blocks from b ≡ true
none_dirty-before blocks from b none = none_passes (λ j. is_dirty (blocks j)) from (b - from) (λ j low high. none j low (omega arith))

-- before the first dirty block none is
found_first : (p : ℕ → Bool) (a n k : ℕ) → find p (range_with_len a n) ≡ Some k → (j : ℕ) → a ≤ j → j < k → p j ≡ false
found_first p a zero k found j low below = absurd (cc)
found_first p a (suc n) k found j low below = by (λ rest above. found_first p (a + 1) n k rest j above below) (p a) refl found
  where
    by : (find p (range_with_len (a + 1) n) ≡ Some k → a + 1 ≤ j → p j ≡ false) → (t : Bool) → p a ≡ t
        → cond t (Some a) (find p (range_with_len (a + 1) n)) ≡ Some k → p j ≡ false
    by rest true is there = let same : a ≡ k = cc in absurd (omega (arith, same, low, below))
    by rest false is there = ⊎_elim
        (λ (here : j ≡ a). ap p here ∙ is)
        (λ (other : j ≢ a). rest there (omega (arith, low, other)))
        (cases_eq j a)

pub none_before_first : (blocks : Blocks) (from to b : ℕ) → first_dirty blocks from to ≡ Some b → none_dirty blocks from b ≡ true
none_before_first blocks from to b is =
    none_dirty-before blocks from b (λ j low below. found_first (λ n. is_dirty (blocks n)) from (to - from) b is j low below)
