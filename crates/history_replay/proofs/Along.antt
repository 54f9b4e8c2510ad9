-- Items one after another, each of which steps on a state, as long as a test passes.
use Rattle.std.proofs.Common.{◌≡◌, ◌∙◌, ap, sym, refl, ℕ, ◌+◌, ◌<◌, ◌≤◌, Bool, true, false, cond, List, [], ◌∷◌, length, get_or, drop, arith}
use Rattle.std.specs.Prelude.{◌&&◌, fold, Option, Some, None}
use Rattle.std.specs.Option.{option_map, is_none}
use Rattle.std.proofs.lemmas.List.{drop_more, drop_all}
use Rattle.disk_base.specs.Along.{all_along, first_failing}

module _ {T : Type 0} where
  -- the item that comes next stands in front of those behind it
  pub front : (ts : List T) (k : ℕ) (t : T) → k < length ts → t ≡ get_or ts k t → drop k ts ≡ t ∷ drop (k + 1) ts
  front ts k t less is = drop_more ts k t less ∙ ap (λ (x : T). x ∷ drop (k + 1) ts) (sym is)

shift-none : (o : Option ℕ) → o ≡ option_map (λ n. n + 0) o
shift-none None = refl
shift-none (Some n) = let e : n ≡ n + 0 = omega arith in ap Some e

shift-more : (k : ℕ) (o : Option ℕ) → option_map (λ n. n + k) (option_map (λ n. n + 1) o) ≡ option_map (λ n. n + (k + 1)) o
shift-more k None = refl
shift-more k (Some n) = let e : (n + 1) + k ≡ n + (k + 1) = omega arith in ap Some e

module _ {S T : Type 0} (step : S → T → S) (p : S → T → Bool) where
  -- items from a state on come to those that are left from another on
  abbrev pub ComesTo : S → List T → S → List T → Type 0
  ComesTo s ts g rest = (all_along step p s ts ≡ all_along step p g rest) × (fold step s ts ≡ fold step g rest)

  -- one more item
  pub item_more : (s g : S) (ts : List T) (k : ℕ) (t : T) → k < length ts → t ≡ get_or ts k t → p g t ≡ true → ComesTo s ts g (drop k ts)
      → ComesTo s ts (step g t) (drop (k + 1) ts)
  item_more s g ts k t less is may to = (
    to.0 ∙ ap (λ l. all_along step p g l) (front ts k t less is) ∙ ap (λ (b : Bool). b && all_along step p (step g t) (drop (k + 1) ts)) may,
    to.1 ∙ ap (λ l. fold step g l) (front ts k t less is),
  )

  -- one that may not come
  pub item_refused : (s g : S) (ts : List T) (k : ℕ) (t : T) → k < length ts → t ≡ get_or ts k t → p g t ≡ false → ComesTo s ts g (drop k ts)
      → all_along step p s ts ≡ false
  item_refused s g ts k t less is may to =
      to.0 ∙ ap (λ l. all_along step p g l) (front ts k t less is) ∙ ap (λ (b : Bool). b && all_along step p (step g t) (drop (k + 1) ts)) may

  -- behind the last
  pub items_end : (s g : S) (ts : List T) (k : ℕ) → length ts ≤ k → ComesTo s ts g (drop k ts) → (all_along step p s ts ≡ true) × (fold step s ts ≡ g)
  items_end s g ts k all to =
      let end = drop_all k ts all in
      (to.0 ∙ ap (λ l. all_along step p g l) end, to.1 ∙ ap (λ l. fold step g l) end)

  -- the place of the first item that fails, from a state on
  abbrev pub first_of : S → List T → Option ℕ
  first_of s ts = first_failing step p s ts

  -- items from a state on come, k of them later, to those that are left from another state on
  abbrev pub FirstComesTo : S → List T → S → List T → ℕ → Type 0
  FirstComesTo s ts g rest k = (first_of s ts ≡ option_map (λ n. n + k) (first_of g rest)) × (fold step s ts ≡ fold step g rest)

  -- before the first
  pub first_begin : (s : S) (ts : List T) → FirstComesTo s ts s ts 0
  first_begin s ts = (shift-none (first_of s ts), refl)

  -- one more that passes
  pub first_more : (s g : S) (ts : List T) (k : ℕ) (t : T) → k < length ts → t ≡ get_or ts k t → p g t ≡ true → FirstComesTo s ts g (drop k ts) k
      → FirstComesTo s ts (step g t) (drop (k + 1) ts) (k + 1)
  first_more s g ts k t less is may to =
      let rest = drop (k + 1) ts in (
        to.0 ∙ ap (λ l. option_map (λ n. n + k) (first_of g l)) (front ts k t less is)
            ∙ ap (λ (b : Bool). option_map (λ n. n + k) (cond b (option_map (λ n. n + 1) (first_of (step g t) rest)) (Some 0))) may
            ∙ shift-more k (first_of (step g t) rest),
        to.1 ∙ ap (λ l. fold step g l) (front ts k t less is),
      )

  -- one that fails
  pub first_refused : (s g : S) (ts : List T) (k : ℕ) (t : T) → k < length ts → t ≡ get_or ts k t → p g t ≡ false → FirstComesTo s ts g (drop k ts) k
      → option_map (λ n. n + 1) (first_of s ts) ≡ Some (k + 1)
  first_refused s g ts k t less is may to =
      let rest = drop (k + 1) ts in
      let e : (0 + k) + 1 ≡ k + 1 = omega arith in
      ap (λ (o : Option ℕ). option_map (λ n. n + 1) o)
      (to.0 ∙ ap (λ l. option_map (λ n. n + k) (first_of g l)) (front ts k t less is)
      ∙ ap (λ (b : Bool). option_map (λ n. n + k) (cond b (option_map (λ n. n + 1) (first_of (step g t) rest)) (Some 0))) may)
      ∙ ap Some e

  -- behind the last
  pub first_end : (s g : S) (ts : List T) (k : ℕ) → length ts ≤ k → FirstComesTo s ts g (drop k ts) k → (first_of s ts ≡ None) × (fold step s ts ≡ g)
  first_end s g ts k all to =
      let end = drop_all k ts all in
      (to.0 ∙ ap (λ l. option_map (λ n. n + k) (first_of g l)) end, to.1 ∙ ap (λ l. fold step g l) end)

  none-step : (f : ℕ → ℕ) (b : Bool) (o : Option ℕ) (r : Bool) → is_none o ≡ r → is_none (cond b (option_map f o) (Some 0)) ≡ (b && r)
  none-step f true None r h = h
  none-step f true (Some n) r h = h
  none-step f false o r h = refl

  -- nothing fails where all passes
  pub none_fails : (s : S) (ts : List T) → is_none (first_failing step p s ts) ≡ all_along step p s ts
  none_fails s [] = refl
  none_fails s (t ∷ ts) = none-step (λ n. n + 1) (p s t) (first_failing step p (step s t) ts) (all_along step p (step s t) ts) (none_fails (step s t) ts)
