-- The least of a list of addresses, one more address at a time.
use Rattle.std.proofs.Common.{◌≡◌, ℕ, zero, suc, ◌+◌, ◌<◌, ◌≤◌, ◌⊎◌, inl, inr, Bool, true, false, cond, List, [], ◌∷◌, ◌++◌, length, take, get_or, Option, Some, None, refl, sym, ap, subst, ◌∙◌, arith, MatchOption, add-one, append-nil}
use Rattle.std.specs.List.{All, filter}
use Rattle.std.specs.Map.{keys_of}
use Rattle.std.proofs.lemmas.List.Elements.{All-nil, All-push, All-weaker, Contains-push, Contains-append_left}
use Rattle.disk_base.specs.declared.address.Lba.{Lba}
use Rattle.write_cache.specs.Contents.{IsLeast}

-- what passes of one key more
pub filter-keys_more : {K X : Type 0} (p : K → Bool) (es : List (K × X)) (i : ℕ) (d : K × X) → i < length es
    → filter p (keys_of (take (suc i) es)) ≡ filter p (keys_of (take i es)) ++ cond (p (get_or es i d).0) ((get_or es i d).0 ∷ []) []
filter-keys_more p [] i d inside = absurd (omega arith)
filter-keys_more p (e ∷ es) zero d inside = elim (p e.0) as (λ y. cond y (e.0 ∷ []) [] ≡ cond y (e.0 ∷ []) []) [ true ↦ refl | false ↦ refl ]
filter-keys_more p (e ∷ es) (suc i) d inside =
    let later = filter-keys_more p es i d (omega arith) in
    elim (p e.0) as (λ y. cond y (e.0 ∷ filter p (keys_of (take (suc i) es))) (filter p (keys_of (take (suc i) es))) ≡ cond y (e.0 ∷ filter p (keys_of (take i es))) (filter p (keys_of (take i es))) ++ cond (p (get_or es i d).0) ((get_or es i d).0 ∷ []) []) [
      | true ↦ ap (λ rest. e.0 ∷ rest) later
      | false ↦ later
    ]

-- the lesser of the least and one address more is the least of both
pub IsLeast-push : (o : Option Lba) (bs : List Lba) (b r : Lba) → MatchOption o (bs ≡ []) (IsLeast bs)
    → MatchOption o (r ≡ b) (λ k. ((r ≡ k) × (k.0 ≤ b.0)) ⊎ ((r ≡ b) × (b.0 ≤ k.0))) → IsLeast (bs ++ b ∷ []) r
IsLeast-push None bs b r none same = subst (IsLeast (bs ++ b ∷ [])) (sym same) (record {
  among = Contains-push bs b;
  least = All-push (λ (k : Lba). b.0 ≤ k.0) bs b (subst (All (λ (k : Lba). b.0 ≤ k.0)) (sym none) (All-nil (λ (k : Lba). b.0 ≤ k.0))) (omega arith);
})
IsLeast-push (Some k) bs b r one cases = elim cases [
  | inl first ↦ subst (IsLeast (bs ++ b ∷ [])) (sym first.0) (record {
    among = Contains-append_left bs (b ∷ []) k one.among;
    least = All-push (λ (q : Lba). k.0 ≤ q.0) bs b one.least first.1;
  })
  | inr later ↦ subst (IsLeast (bs ++ b ∷ [])) (sym later.0) (record {
    among = Contains-push bs b;
    least = All-push (λ (q : Lba). b.0 ≤ q.0) bs b (All-weaker (λ (q : Lba). k.0 ≤ q.0) (λ (q : Lba). b.0 ≤ q.0) (λ q above. let below : b.0 ≤ k.0 = later.1 in omega arith) bs one.least) (omega arith);
  })
]

module _ (p : Lba → Bool) {X : Type 0} (es : List (Lba × X)) (i : ℕ) (d : Lba × X) (b : Lba) (o : Option Lba) where
  -- the least of those that pass among the first n keys
  abbrev IsLeastPassing : ℕ → Option Lba → Type 0
  IsLeastPassing n r = MatchOption r (filter p (keys_of (take n es)) ≡ []) (IsLeast (filter p (keys_of (take n es))))

  -- one key more that passes
  pub least-passing : (r : Lba) → i < length es → b ≡ (get_or es i d).0 → IsLeastPassing i o → p b ≡ true
      → MatchOption o (r ≡ b) (λ k. ((r ≡ k) × (k.0 ≤ b.0)) ⊎ ((r ≡ b) × (b.0 ≤ k.0))) → IsLeastPassing (i + 1) (Some r)
  least-passing r inside is so_far passes lesser =
      let more : filter p (keys_of (take (suc i) es)) ≡ filter p (keys_of (take i es)) ++ b ∷ [] =
      filter-keys_more p es i d inside ∙ ap (λ (k : Lba). filter p (keys_of (take i es)) ++ cond (p k) (k ∷ []) []) (sym is) ∙ ap (λ t. filter p (keys_of (take i es)) ++ cond t (b ∷ []) []) passes in
      rw (add-one, more) (IsLeast-push o (filter p (keys_of (take i es))) b r so_far lesser)

  -- one key more that doesn't
  pub least-not_passing : i < length es → b ≡ (get_or es i d).0 → IsLeastPassing i o → p b ≡ false → IsLeastPassing (i + 1) o
  least-not_passing inside is so_far fails =
      let more : filter p (keys_of (take (suc i) es)) ≡ filter p (keys_of (take i es)) =
      filter-keys_more p es i d inside ∙ ap (λ (k : Lba). filter p (keys_of (take i es)) ++ cond (p k) (k ∷ []) []) (sym is) ∙ ap (λ t. filter p (keys_of (take i es)) ++ cond t (b ∷ []) []) fails ∙ append-nil (filter p (keys_of (take i es))) in
      rw (add-one, more) so_far
