-- The table of stages, by place.
use Rattle.std.proofs.Common.{◌≡◌, ℕ, zero, suc, ◌+◌, ◌<◌, ◌≤◌, Bool, true, false, List, [], ◌∷◌, ◌++◌, length, take, get_or, refl, sym, ap, ◌∙◌, arith, length-append}
use Rattle.std.specs.Prelude.{pos, negsuc, Option, Some, None, IsSome, IsTrue, slice_get, ◌↔◌}
use mathlib.Core.Logic.{inl, inr}
use Rattle.std.proofs.Math.Nat.{eq-or-lt_of_le}
use Rattle.std.proofs.Math.Seq.{get_or-append_seam}
use Rattle.std.proofs.lemmas.List.{get_or_append_left, get_or-append-add, take_all, take_more}
use Rattle.std.proofs.lemmas.Option.{slice_get-get_or, slice_get_within, slice_get_past, get_or_from_slice_get}
use Rattle.disk_base.specs.declared.stage.How.TheVariants.{Light, Full, Erased}
use Rattle.disk_base.specs.declared.stage.Stage.{Stage}
use Rattle.read_recovery.specs.Stages.{stage, plain_stages, stages_of, is_heavy, next_stage}

-- what is read past the table's end
abbrev nothing : Stage
nothing = stage 0 0 (pos 0) Light

-- the four stages behind the plain ones
abbrev late : ℕ → List Stage
late r = stage (r + 1) r (pos 1) Light ∷ stage (r + 2) r (negsuc 0) Light ∷ stage (r + 3) r (pos 0) Full ∷ stage (r + 4) r (pos 0) Erased ∷ []

length-plain : (n : ℕ) → length (plain_stages n) ≡ n + 1
length-plain zero = refl
length-plain (suc n) = omega (arith, length-append (plain_stages n) (stage (suc n) (suc n) (pos 0) Light ∷ []), length-plain n)

length-stages : (r : ℕ) → length (stages_of r) ≡ r + 5
length-stages r = omega (arith, length-append (plain_stages r) (late r), length-plain r)

-- the last of the plain stages
last_plain : (n : ℕ) → get_or (plain_stages (suc n)) (suc n) nothing ≡ stage (suc n) (suc n) (pos 0) Light
last_plain n =
    let e : suc n ≡ length (plain_stages n) = omega (arith, length-plain n) in
    ap (λ i. get_or (plain_stages (suc n)) i nothing) e ∙ get_or-append_seam (plain_stages n) (stage (suc n) (suc n) (pos 0) Light) [] nothing

plain_at : (n k : ℕ) → k ≤ n → get_or (plain_stages n) k nothing ≡ stage k k (pos 0) Light
plain_at zero k h = let e : k ≡ 0 = omega arith in rw e
plain_at (suc n) k h = elim (eq-or-lt_of_le h) [
  | inl e ↦ rw e (last_plain n)
  | inr lt ↦ get_or_append_left (plain_stages n) (stage (suc n) (suc n) (pos 0) Light ∷ []) nothing k (omega (arith, length-plain n))
      ∙ plain_at n k (omega arith)
]

early_at : (r k : ℕ) → k ≤ r → get_or (stages_of r) k nothing ≡ stage k k (pos 0) Light
early_at r k h = get_or_append_left (plain_stages r) (late r) nothing k (omega (arith, length-plain r)) ∙ plain_at r k h

late_at : (r k j : ℕ) → k ≡ r + 1 + j → get_or (stages_of r) k nothing ≡ get_or (late r) j nothing
late_at r k j e =
    let place : k ≡ length (plain_stages r) + j = omega (arith, length-plain r) in
    ap (λ i. get_or (stages_of r) i nothing) place ∙ get_or-append-add (plain_stages r) (late r) j nothing

-- a stage of the table is there
known : (r k : ℕ) (s : Stage) → k < r + 5 → get_or (stages_of r) k nothing ≡ s → slice_get (stages_of r) k ≡ Some s
known r k s h e = slice_get-get_or (stages_of r) k nothing (omega (arith, length-stages r)) ∙ ap (λ x. Some x) e

pub plain_stage : (r k : ℕ) → k ≤ r → slice_get (stages_of r) k ≡ Some (stage k k (pos 0) Light)
plain_stage r k h = known r k (stage k k (pos 0) Light) (omega arith) (early_at r k h)

pub ahead_stage : (r k : ℕ) → k ≡ r + 1 → slice_get (stages_of r) k ≡ Some (stage k r (pos 1) Light)
ahead_stage r k e = known r k (stage k r (pos 1) Light) (omega arith) (late_at r k 0 (omega arith) ∙ ap (λ n. stage n r (pos 1) Light) (sym e))

pub behind_stage : (r k : ℕ) → k ≡ r + 2 → slice_get (stages_of r) k ≡ Some (stage k r (negsuc 0) Light)
behind_stage r k e = known r k (stage k r (negsuc 0) Light) (omega arith) (late_at r k 1 (omega arith) ∙ ap (λ n. stage n r (negsuc 0) Light) (sym e))

pub full_stage : (r k : ℕ) → k ≡ r + 3 → slice_get (stages_of r) k ≡ Some (stage k r (pos 0) Full)
full_stage r k e = known r k (stage k r (pos 0) Full) (omega arith) (late_at r k 2 (omega arith) ∙ ap (λ n. stage n r (pos 0) Full) (sym e))

pub erased_stage : (r k : ℕ) → k ≡ r + 4 → slice_get (stages_of r) k ≡ Some (stage k r (pos 0) Erased)
erased_stage r k e = known r k (stage k r (pos 0) Erased) (omega arith) (late_at r k 3 (omega arith) ∙ ap (λ n. stage n r (pos 0) Erased) (sym e))

-- from what a stage of the table is, whether it is heavy
light_there : (r k : ℕ) (s t : Stage) → k ≤ r + 2 → slice_get (stages_of r) k ≡ Some s → slice_get (stages_of r) k ≡ Some t → is_heavy t ≡ false → (IsTrue (is_heavy s)) ↔ (r + 3 ≤ k)
light_there r k s t h is known light =
    let same : s ≡ t = cc in
    (λ heavy. absurd (let no : is_heavy s ≡ false = ap is_heavy same ∙ light in cc), λ far. absurd (omega arith))

heavy_there : (r k : ℕ) (s t : Stage) → r + 3 ≤ k → slice_get (stages_of r) k ≡ Some s → slice_get (stages_of r) k ≡ Some t → is_heavy t ≡ true → (IsTrue (is_heavy s)) ↔ (r + 3 ≤ k)
heavy_there r k s t h is known heavy =
    let same : s ≡ t = cc in
    (λ _. h, λ _. ap is_heavy same ∙ heavy)

-- the last two are heavy, and no other
pub heavy_last_two : (r k : ℕ) (s : Stage) → slice_get (stages_of r) k ≡ Some s → (IsTrue (is_heavy s)) ↔ (r + 3 ≤ k)
heavy_last_two r k s is =
    let within : k ≤ r + 4 = omega (arith, slice_get_within (stages_of r) k s is, length-stages r) in
    elim (eq-or-lt_of_le within) [
      | inl e ↦ heavy_there r k s (stage k r (pos 0) Erased) (omega arith) is (erased_stage r k e) refl
      | inr lt4 ↦ let le3 : k ≤ r + 3 = omega arith in elim (eq-or-lt_of_le le3) [
        | inl e ↦ heavy_there r k s (stage k r (pos 0) Full) (omega arith) is (full_stage r k e) refl
        | inr lt3 ↦ let le2 : k ≤ r + 2 = omega arith in elim (eq-or-lt_of_le le2) [
          | inl e ↦ light_there r k s (stage k r (negsuc 0) Light) le2 is (behind_stage r k e) refl
          | inr lt2 ↦ let le1 : k ≤ r + 1 = omega arith in elim (eq-or-lt_of_le le1) [
            | inl e ↦ light_there r k s (stage k r (pos 1) Light) le2 is (ahead_stage r k e) refl
            | inr lt1 ↦ light_there r k s (stage k k (pos 0) Light) le2 is (plain_stage r k (omega arith)) refl
          ]
        ]
      ]
    ]

-- past the table there is no stage
pub past_table : (r k : ℕ) → r + 5 ≤ k → slice_get (stages_of r) k ≡ None
past_table r k h = slice_get_past (stages_of r) k (omega (arith, length-stages r))

-- where there is a stage, its number is within the table
within_table : (r k : ℕ) (o : Option Stage) → slice_get (stages_of r) k ≡ o → IsSome o → k < r + 5
within_table r k (Some s) is some = omega (arith, slice_get_within (stages_of r) k s is, length-stages r)
within_table r k None is some = absurd (cc some)

-- a read has a next stage only before one found, and before all failed
pub next_is_left : (r k : ℕ) (found : Bool) → IsSome (next_stage (record { retry = r; failed = k; found = found })) → (k < r + 5) × (found ≡ false)
next_is_left r k true some = absurd (cc some)
next_is_left r k false some = (within_table r k (slice_get (stages_of r) k) refl some, refl)

-- the first stages and the one behind them
pub take-one : (r k : ℕ) (s : Stage) → slice_get (stages_of r) k ≡ Some s → take (k + 1) (stages_of r) ≡ take k (stages_of r) ++ s ∷ []
take-one r k s is =
    take_more (stages_of r) k nothing (slice_get_within (stages_of r) k s is)
    ∙ ap (λ x. take k (stages_of r) ++ x ∷ []) (get_or_from_slice_get (stages_of r) k s nothing is)

-- all of the table
pub take-whole : (r k : ℕ) → r + 5 ≤ k → take k (stages_of r) ≡ stages_of r
take-whole r k h = take_all k (stages_of r) (omega (arith, length-stages r))

-- when all stages failed, no next one is left
pub none_is_left : (r k : ℕ) (found : Bool) → r + 5 ≤ k → next_stage (record { retry = r; failed = k; found = found }) ≡ None
none_is_left r k true h = refl
none_is_left r k false h = past_table r k h
