-- The best of a set of words: one level more, and the better of two sets.
use Rattle.std.proofs.Common.{◌≡◌, ◌⊎◌, ℕ, suc, ◌+◌, ◌^◌, ◌<◌, ◌≤◌, Bool, true, false, cond, ltb, List, [], ◌∷◌, length, Some, ℤ, pos, get_or, sym, ap, ◌∙◌, subst, inl, inr, arith}
use Rattle.std.proofs.Math.Nat.{eq-or-lt_of_le}
use Rattle.std.proofs.lemmas.Bool.{cases_lt, lt-ltb, le-ltb, cond-true, cond-false, cond_both}
use Rattle.prml_viterbi.specs.Trellis.{State, state_of, branch, branch_at, metric, Precedes, IsAtLeastAsGood}

-- this word is in the set and at least as good as each that is; its sum is within the bound
pub record IsBest (samples : List ℤ) (P : List Bool → Type 0) (bound sum : ℕ) (word : List Bool) : Type 0 where
  pub member : P word
  pub sum_is : metric samples word ≡ sum
  pub bounded : sum ≤ bound
  pub least : (other : List Bool) → P other → IsAtLeastAsGood samples word other

-- the set has no word, and the sum is out of the reach of any word's
pub record IsFar (P : List Bool → Type 0) (bound sum : ℕ) : Type 0 where
  pub far : 2 ^ 62 ≤ sum
  pub near : sum ≤ 2 ^ 62 + bound
  pub empty : (other : List Bool) → P other → ⊥

-- what is kept of a set of words: its best word with that word's sum, or that there is none
abbrev pub Kept : List ℤ → (List Bool → Type 0) → ℕ → ℕ → List Bool → Type 0
Kept samples P bound sum word = IsBest samples P bound sum word ⊎ IsFar P bound sum

-- the words of n levels that lead to a state
pub record Leads (n : ℕ) (state : State) (word : List Bool) : Type 0 where
  pub long : length word ≡ n
  pub leads : state_of word ≡ Some state

pub Kept-small : (samples : List ℤ) (P : List Bool → Type 0) (bound sum : ℕ) (word : List Bool) → Kept samples P bound sum word → sum ≤ 2 ^ 62 + bound
Kept-small samples P bound sum word (inl best) = omega (arith, best.bounded)
Kept-small samples P bound sum word (inr far) = far.near

-- the same set under another description
pub Kept-renamed : (samples : List ℤ) (P Q : List Bool → Type 0) (bound sum : ℕ) (word : List Bool) → ((w : List Bool) → P w → Q w) → ((w : List Bool) → Q w → P w) → Kept samples P bound sum word → Kept samples Q bound sum word
Kept-renamed samples P Q bound sum word to from (inl best) = inl record {
  member = to word best.member;
  sum_is = best.sum_is;
  bounded = best.bounded;
  least = λ other q. best.least other (from other q);
}
Kept-renamed samples P Q bound sum word to from (inr far) = inr record {
  far = far.far;
  near = far.near;
  empty = λ other q. far.empty other (from other q);
}

-- a better word bears its order over to a third
pub better-then : (samples : List ℤ) (a b c : List Bool) → metric samples a < metric samples b → IsAtLeastAsGood samples b c → IsAtLeastAsGood samples a c
better-then samples a b c h (inl less) = inl (omega arith)
better-then samples a b c h (inr same) = inl (omega (arith, same.0))

pub as_good-then : (samples : List ℤ) (a b c : List Bool) → metric samples a ≤ metric samples b → IsAtLeastAsGood samples b c → Precedes a c → IsAtLeastAsGood samples a c
as_good-then samples a b c h (inl less) first = inl (omega arith)
as_good-then samples a b c h (inr same) first = elim (eq-or-lt_of_le h) [ inl equal ↦ inr (equal ∙ same.0, first) | inr less ↦ inl (omega (arith, same.0)) ]

-- a level put at the end of both keeps their order
Precedes-same : (level : Bool) (word other : List Bool) → Precedes word other → Precedes (level ∷ word) (level ∷ other)
Precedes-same false word other h = h
Precedes-same true word other h = h

-- the better of two sets, the first taken where their sums are equal, since its words come first
pub Kept-either : (samples : List ℤ) (P Q : List Bool → Type 0) (bound a b : ℕ) (word other : List Bool) → bound < 2 ^ 62
    → ((w v : List Bool) → P w → Q v → Precedes w v)
    → Kept samples P bound a word → Kept samples Q bound b other
    → Kept samples (λ w. P w ⊎ Q w) bound (cond (ltb b a) b a) (cond (ltb b a) other word)
Kept-either samples P Q bound a b word other low first (inl p) (inl q) =
    elim (cases_lt b a) [
      | inl less ↦ rw (cond-true (ltb b a) b a (lt-ltb b a less), cond-true (ltb b a) other word (lt-ltb b a less)) (inl record {
        member = inr q.member;
        sum_is = q.sum_is;
        bounded = q.bounded;
        least = λ w. λ h. elim h [
          | inl x ↦ better-then samples other word w (omega (arith, p.sum_is, q.sum_is)) (p.least w x)
          | inr x ↦ q.least w x
        ];
      })
      | inr more ↦ rw (cond-false (ltb b a) b a (le-ltb b a more), cond-false (ltb b a) other word (le-ltb b a more)) (inl record {
        member = inl p.member;
        sum_is = p.sum_is;
        bounded = p.bounded;
        least = λ w. λ h. elim h [
          | inl x ↦ p.least w x
          | inr x ↦ as_good-then samples word other w (omega (arith, p.sum_is, q.sum_is)) (q.least w x) (first word w p.member x)
        ];
      })
    ]
Kept-either samples P Q bound a b word other low first (inl p) (inr q) =
    let more : a ≤ b = omega (arith, p.bounded, q.far) in
    rw (cond-false (ltb b a) b a (le-ltb b a more), cond-false (ltb b a) other word (le-ltb b a more)) (inl record {
      member = inl p.member;
      sum_is = p.sum_is;
      bounded = p.bounded;
      least = λ w. λ h. elim h [ inl x ↦ p.least w x | inr x ↦ absurd (q.empty w x) ];
    })
Kept-either samples P Q bound a b word other low first (inr p) (inl q) =
    let less : b < a = omega (arith, q.bounded, p.far) in
    rw (cond-true (ltb b a) b a (lt-ltb b a less), cond-true (ltb b a) other word (lt-ltb b a less)) (inl record {
      member = inr q.member;
      sum_is = q.sum_is;
      bounded = q.bounded;
      least = λ w. λ h. elim h [ inl x ↦ absurd (p.empty w x) | inr x ↦ q.least w x ];
    })
Kept-either samples P Q bound a b word other low first (inr p) (inr q) =
    inr record {
      far = cond_both (ltb b a) b a (λ n. 2 ^ 62 ≤ n) (λ _. q.far) (λ _. p.far);
      near = cond_both (ltb b a) b a (λ n. n ≤ 2 ^ 62 + bound) (λ _. q.near) (λ _. p.near);
      empty = λ w. λ h. elim h [ inl x ↦ p.empty w x | inr x ↦ q.empty w x ];
    }

-- one level more, the same for all: where the words of a set are those of n levels and, with this
-- level, are those that lead to a state
pub Kept-longer : (samples : List ℤ) (P : List Bool → Type 0) (n bound sum cost more : ℕ) (level : Bool) (state : State) (word : List Bool)
    → branch state (get_or samples n (pos 0)) ≡ cost → cost ≤ more
    → ((w : List Bool) → P w → (length w ≡ n) × (state_of (level ∷ w) ≡ Some state))
    → ((b : Bool) (w : List Bool) → Leads (suc n) state (b ∷ w) → (b ≡ level) × P w)
    → Kept samples P bound sum word → Kept samples (Leads (suc n) state) (bound + more) (sum + cost) (level ∷ word)
Kept-longer samples P n bound sum cost more level state word costs small into from (inl best) =
    inl record {
      member = record { long = ap suc (into word best.member).0; leads = (into word best.member).1 };
      sum_is = longer word best.member ∙ ap (λ x. x + cost) best.sum_is;
      bounded = omega (arith, best.bounded);
      least = against;
    }
  where
    longer : (w : List Bool) → P w → metric samples (level ∷ w) ≡ metric samples w + cost
    longer w h =
        let e : branch_at (state_of (level ∷ w)) (get_or samples (length w) (pos 0)) ≡ cost = rw ((into w h).1, (into w h).0) costs in
        ap (λ x. metric samples w + x) e

    on_top : (w : List Bool) → P w → IsAtLeastAsGood samples word w → IsAtLeastAsGood samples (level ∷ word) (level ∷ w)
    on_top w h (inl less) = inl (omega (arith, longer word best.member, longer w h))
    on_top w h (inr same) = inr (longer word best.member ∙ ap (λ x. x + cost) same.0 ∙ sym (longer w h), Precedes-same level word w same.1)

    against : (w : List Bool) → Leads (suc n) state w → IsAtLeastAsGood samples (level ∷ word) w
    against [] h = absurd (omega (arith, h.long))
    against (b ∷ w) h =
        let f = from b w h in
        subst (λ x. IsAtLeastAsGood samples (level ∷ word) (x ∷ w)) (sym f.0) (on_top w f.1 (best.least w f.1))
Kept-longer samples P n bound sum cost more level state word costs small into from (inr far) =
    inr record {
      far = omega (arith, far.far);
      near = omega (arith, far.near);
      empty = none;
    }
  where
    none : (w : List Bool) → Leads (suc n) state w → ⊥
    none [] h = absurd (omega (arith, h.long))
    none (b ∷ w) h = far.empty w (from b w h).1
