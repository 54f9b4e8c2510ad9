-- Turns one after another, along a script and as a history.
use Rattle.std.proofs.Common.{◌≡◌, ◌∙◌, ap, sym, refl, ℕ, suc, ◌+◌, ◌<◌, Bool, true, false, cond, List, [], ◌∷◌, ◌++◌, length, get_or, drop, take, arith}
use Rattle.std.specs.Prelude.{◌&&◌, fold, Option, Some, None}
use Rattle.std.specs.Option.{option_map}
use Rattle.std.proofs.lemmas.Bool.{and_parts}
use Rattle.std.proofs.lemmas.Grind.{fold-append}
use Rattle.std.proofs.lemmas.List.{take_more}
use Rattle.disk_base.specs.Along.{all_along, first_failing}

module _ {S T : Type 0} (step : S → T → S) (p : S → T → Bool) where
  -- items behind others that all pass
  pub all_more : (s : S) (xs : List T) (t : T) → all_along step p s xs ≡ true → p (fold step s xs) t ≡ true → all_along step p s (xs ++ t ∷ []) ≡ true
  all_more s [] t all may = ap (λ (b : Bool). b && true) may
  all_more s (x ∷ xs) t all may =
      let parts = and_parts (p s x) (all_along step p (step s x) xs) all in
      ap (λ (b : Bool). b && all_along step p (step s x) (xs ++ t ∷ [])) parts.0 ∙ all_more (step s x) xs t parts.1 may

  -- the first that fails stands behind those that pass
  pub first_behind : (s : S) (xs : List T) (t : T) (rest : List T) → all_along step p s xs ≡ true → p (fold step s xs) t ≡ false
      → first_failing step p s (xs ++ t ∷ rest) ≡ Some (length xs)
  first_behind s [] t rest all not_so = ap (λ (b : Bool). cond b (option_map (λ n. n + 1) (first_failing step p (step s t) rest)) (Some 0)) not_so
  first_behind s (x ∷ xs) t rest all not_so =
      let parts = and_parts (p s x) (all_along step p (step s x) xs) all in
      let more = first_failing step p (step s x) (xs ++ t ∷ rest) in
      let e : length xs + 1 ≡ suc (length xs) = omega arith in
      ap (λ (b : Bool). cond b (option_map (λ n. n + 1) more) (Some 0)) parts.0
      ∙ ap (option_map (λ n. n + 1)) (first_behind (step s x) xs t rest parts.1 not_so) ∙ ap Some e

  pub none_first : (s : S) (xs : List T) → all_along step p s xs ≡ true → first_failing step p s xs ≡ None
  none_first s [] all = refl
  none_first s (x ∷ xs) all =
      let parts = and_parts (p s x) (all_along step p (step s x) xs) all in
      ap (λ (b : Bool). cond b (option_map (λ n. n + 1) (first_failing step p (step s x) xs)) (Some 0)) parts.0
      ∙ ap (option_map (λ n. n + 1)) (none_first (step s x) xs parts.1)

  -- the turns so far, each of which passes
  abbrev pub Passes : S → List T → ℕ → S → Type 0
  Passes s ts k g = (all_along step p s (take k ts) ≡ true) × (fold step s (take k ts) ≡ g)

  pub passes_more : (s g : S) (ts : List T) (k : ℕ) (t : T) → k < length ts → t ≡ get_or ts k t → p g t ≡ true → Passes s ts k g
      → Passes s ts (k + 1) (step g t)
  passes_more s g ts k t less is may so =
      let one : take (k + 1) ts ≡ take k ts ++ t ∷ [] = take_more ts k t less ∙ ap (λ x. take k ts ++ x ∷ []) (sym is) in (
        ap (all_along step p s) one ∙ all_more s (take k ts) t so.0 (ap (λ x. p x t) so.1 ∙ may),
        ap (fold step s) one ∙ fold-append step s (take k ts) (t ∷ []) ∙ ap (λ x. step x t) so.1,
      )

  -- where one fails, an item stands there
  pub fails_at : (s : S) (ts : List T) (k : ℕ) → first_failing step p s ts ≡ Some k → (t : T) × (rest : List T) × (drop k ts ≡ t ∷ rest)
  fails_at s [] k is = absurd (cc)
  fails_at s (t ∷ ts) k is =
      by (p s t) (first_failing step p (step s t) ts) is (λ m at. fails_at (step s t) ts m at) refl
    where
      by : (b : Bool) (o : Option ℕ) → cond b (option_map (λ n. n + 1) o) (Some 0) ≡ Some k
          → ((m : ℕ) → first_failing step p (step s t) ts ≡ Some m → (u : T) × (rest : List T) × (drop m ts ≡ u ∷ rest))
          → first_failing step p (step s t) ts ≡ o → (u : T) × (rest : List T) × (drop k (t ∷ ts) ≡ u ∷ rest)
      by false o e more o-is = let zero-is : 0 ≡ k = cc in (t, ts, ap (λ n. drop n (t ∷ ts)) (sym zero-is))
      by true None e more o-is = absurd (cc)
      by true (Some m) e more o-is =
          let found = more m o-is in
          let next : m + 1 ≡ k = cc in
          let on : k ≡ suc m = omega (arith, next) in
          (found.0, found.1, ap (λ n. drop n (t ∷ ts)) on ∙ found.2)

  pub none_fails : (s : S) (ts : List T) → first_failing step p s ts ≡ None → all_along step p s ts ≡ true
  none_fails s [] is = refl
  none_fails s (t ∷ ts) is = by (p s t) (first_failing step p (step s t) ts) is refl (λ none. none_fails (step s t) ts none) refl
    where
      by : (b : Bool) (o : Option ℕ) → cond b (option_map (λ n. n + 1) o) (Some 0) ≡ None → p s t ≡ b
          → (first_failing step p (step s t) ts ≡ None → all_along step p (step s t) ts ≡ true) → first_failing step p (step s t) ts ≡ o
          → (p s t && all_along step p (step s t) ts) ≡ true
      by false o e b-is more o-is = absurd (cc)
      by true None e b-is more o-is = ap (λ (c : Bool). c && all_along step p (step s t) ts) b-is ∙ more o-is
      by true (Some m) e b-is more o-is = absurd (cc)
