-- The state in which the search ends: the least sum, and so the least word.
use Rattle.std.proofs.Common.{◌≡◌, ◌⊎◌, ℕ, zero, suc, ◌*◌, ◌^◌, ◌<◌, ◌≤◌, Bool, true, cond, ltb, List, length, Some, ℤ, replicate, refl, sym, ap, ◌∙◌, subst, inl, inr, arith, lit<, lit≤}
use Rattle.std.proofs.lemmas.List.{length-replicate}
use Rattle.std.proofs.lemmas.Bool.{cases_lt, cond_both, ltb-true, ltb-false}
use Rattle.std.specs.Option.{option_and_then}
use Rattle.prml_viterbi.specs.Trellis.{State, low_three, low_two, low_one, high_one, high_two, high_three, after, state_of, code, IsAtLeastAsGood, IsLeast, path, EndsLeast}
use Rattle.prml_viterbi.specs.Sums.{sum_at, IsEnd}
use Rattle.prml_viterbi.specs.declared.trellis.Sums.{Sums}
use Rattle.prml_viterbi.specs.declared.trellis.End.{End}
use Rattle.prml_viterbi.proofs.Words.{rank, Precedes-by_rank}
use Rattle.prml_viterbi.proofs.Best.{Kept, IsBest, Leads, better-then, as_good-then}
use Rattle.prml_viterbi.proofs.Steps.{AllKept}

unrank : ℕ → State
unrank zero = low_three
unrank (suc zero) = low_two
unrank (suc (suc zero)) = low_one
unrank (suc (suc (suc zero))) = high_one
unrank (suc (suc (suc (suc zero)))) = high_two
unrank (suc (suc (suc (suc (suc n))))) = high_three

unrank-rank : (s : State) → unrank (rank s) ≡ s
unfolding unrank
unrank-rank low_three = refl
unrank-rank low_two = refl
unrank-rank low_one = refl
unrank-rank high_one = refl
unrank-rank high_two = refl
unrank-rank high_three = refl

same_rank : (s t : State) → rank s ≡ rank t → s ≡ t
same_rank s t e = sym (unrank-rank s) ∙ ap unrank e ∙ unrank-rank t

code-rank : (s : State) → code s ≡ 5 * rank s
code-rank low_three = refl
code-rank low_two = refl
code-rank low_one = refl
code-rank high_one = refl
code-rank high_two = refl
code-rank high_three = refl

-- states with one code are one
pub same_code : (s t : State) → code s ≡ code t → s ≡ t
same_code s t e = same_rank s t (omega (arith, code-rank s, code-rank t))

rank_below : (s : State) → rank s < 6
rank_below low_three = lit< tt
rank_below low_two = lit< tt
rank_below low_one = lit< tt
rank_below high_one = lit< tt
rank_below high_two = lit< tt
rank_below high_three = lit< tt

-- the least of the states whose rank is below r
pub record LeastBelow (sums : Sums) (r : ℕ) (end : End) : Type 0 where
  pub state : State
  pub coded : code state ≡ end.state
  pub sum_is : sum_at sums state ≡ end.sum
  pub low : rank state < r
  pub least : (other : State) → rank other < r → (sum_at sums state < sum_at sums other) ⊎ ((sum_at sums state ≡ sum_at sums other) × (code state ≤ code other))

LeastBelow-first : (sums : Sums) → LeastBelow sums 1 (record { state = 0; sum = sums.low_three })
LeastBelow-first sums = record {
  state = low_three;
  coded = refl;
  sum_is = refl;
  low = lit< tt;
  least = λ other h. let e : rank other ≡ rank low_three = omega arith in subst (λ s. (sums.low_three < sum_at sums s) ⊎ ((sums.low_three ≡ sum_at sums s) × (0 ≤ code s))) (sym (same_rank other low_three e)) (inr (refl, lit≤ tt));
}

LeastBelow-more : (sums : Sums) (end : End) (s : State) → LeastBelow sums (rank s) end → LeastBelow sums (suc (rank s)) (cond (ltb (sum_at sums s) end.sum) (record { state = code s; sum = sum_at sums s }) end)
LeastBelow-more sums end s before =
    cond_both (ltb (sum_at sums s) end.sum) (record { state = code s; sum = sum_at sums s }) end (λ e. LeastBelow sums (suc (rank s)) e)
    (λ less. record { state = s; coded = refl; sum_is = refl; low = omega arith; least = λ other h. newer (ltb-true _ _ less) other h (cases_lt (rank other) (rank s)) })
    (λ more. record { state = before.state; coded = before.coded; sum_is = before.sum_is; low = omega (arith, before.low); least = λ other h. older (ltb-false _ _ more) other h (cases_lt (rank other) (rank s)) })
  where
    newer : sum_at sums s < end.sum → (other : State) → rank other < suc (rank s) → (rank other < rank s) ⊎ (rank s ≤ rank other) → (sum_at sums s < sum_at sums other) ⊎ ((sum_at sums s ≡ sum_at sums other) × (code s ≤ code other))
    newer less other h (inl b) =
        elim (before.least other b) [
          | inl x ↦ inl (omega (arith, before.sum_is))
          | inr x ↦ inl (omega (arith, before.sum_is, x.0))
        ]
    newer less other h (inr b) =
        let e = same_rank s other (omega arith) in
        inr (ap (sum_at sums) e, omega (arith, ap code e))

    older : end.sum ≤ sum_at sums s → (other : State) → rank other < suc (rank s) → (rank other < rank s) ⊎ (rank s ≤ rank other) → (sum_at sums before.state < sum_at sums other) ⊎ ((sum_at sums before.state ≡ sum_at sums other) × (code before.state ≤ code other))
    older more other h (inl b) = before.least other b
    older more other h (inr b) =
        let e = same_rank s other (omega arith) in
        elim (cases_lt (sum_at sums before.state) (sum_at sums other)) [
          | inl x ↦ inl x
          | inr x ↦ inr (omega (arith, before.sum_is, ap (sum_at sums) e), omega (arith, before.low, code-rank before.state, code-rank other))
        ]

-- the least of all six, taken in their order
pub IsEnd-from_all : (sums : Sums) (a b c d e : End)
    → a ≡ cond (ltb sums.low_two sums.low_three) (record { state = 5; sum = sums.low_two }) (record { state = 0; sum = sums.low_three })
    → b ≡ cond (ltb sums.low_one a.sum) (record { state = 10; sum = sums.low_one }) a
    → c ≡ cond (ltb sums.high_one b.sum) (record { state = 15; sum = sums.high_one }) b
    → d ≡ cond (ltb sums.high_two c.sum) (record { state = 20; sum = sums.high_two }) c
    → e ≡ cond (ltb sums.high_three d.sum) (record { state = 25; sum = sums.high_three }) d
    → IsEnd sums e.state
IsEnd-from_all sums a b c d e ea eb ec ed ee =
    let la = subst (LeastBelow sums 2) (sym ea) (LeastBelow-more sums _ low_two (LeastBelow-first sums)) in
    let lb = subst (LeastBelow sums 3) (sym eb) (LeastBelow-more sums a low_one la) in
    let lc = subst (LeastBelow sums 4) (sym ec) (LeastBelow-more sums b high_one lb) in
    let ld = subst (LeastBelow sums 5) (sym ed) (LeastBelow-more sums c high_two lc) in
    let le = subst (LeastBelow sums 6) (sym ee) (LeastBelow-more sums d high_three ld) in
    record { state = le.state; coded = le.coded; least = λ other. le.least other (rank_below other) }

-- the word of high levels alone
high_word : (n : ℕ) → state_of (replicate n true) ≡ Some high_three
high_word zero = refl
high_word (suc n) = ap (option_and_then (after true)) (high_word n)

-- where each state has its best word, the state of the least sum has the best of all
pub EndsLeast-from_all : (samples : List ℤ) (sums : Sums) (survivors : List ℕ) (end : ℕ)
    → 272 * length samples < 2 ^ 62 → AllKept samples (length samples) sums survivors → IsEnd sums end → EndsLeast samples survivors end
EndsLeast-from_all samples sums survivors end low all ends =
    record { state = ends.state; coded = ends.coded; least = found (all ends.state) (all high_three) }
  where
    found : Kept samples (Leads (length samples) ends.state) (272 * length samples) (sum_at sums ends.state) (path survivors (length samples) ends.state)
        → Kept samples (Leads (length samples) high_three) (272 * length samples) (sum_at sums high_three) (path survivors (length samples) high_three)
        → IsLeast samples (length samples) (path survivors (length samples) ends.state)
    found (inl best) high = record {
      state = ends.state;
      leads = best.member.leads;
      long = best.member.long;
      least = λ other t long leads. against best other t (record { long = long; leads = leads }) (all t) (ends.least t);
    }
      where
        against : IsBest samples (Leads (length samples) ends.state) (272 * length samples) (sum_at sums ends.state) (path survivors (length samples) ends.state)
            → (other : List Bool) (t : State) → Leads (length samples) t other
            → Kept samples (Leads (length samples) t) (272 * length samples) (sum_at sums t) (path survivors (length samples) t)
            → (sum_at sums ends.state < sum_at sums t) ⊎ ((sum_at sums ends.state ≡ sum_at sums t) × (code ends.state ≤ code t))
            → IsAtLeastAsGood samples (path survivors (length samples) ends.state) other
        against b other t h (inr far) order = absurd (far.empty other h)
        against b other t h (inl its) (inl less) =
            better-then samples _ _ other (omega (arith, b.sum_is, its.sum_is)) (its.least other h)
        against b other t h (inl its) (inr same) =
            elim (cases_lt (rank ends.state) (rank t)) [
              | inl first ↦ as_good-then samples _ _ other (omega (arith, b.sum_is, its.sum_is, same.0)) (its.least other h) (Precedes-by_rank _ other ends.state t (b.member.long ∙ sym h.long) b.member.leads h.leads first)
              | inr later ↦
                  let e = same_rank t ends.state (omega (arith, same.1, code-rank t, code-rank ends.state)) in
                  b.least other (subst (λ s. Leads (length samples) s other) e h)
            ]
    found (inr far) (inl best) = absurd (elim (ends.least high_three) [ inl x ↦ omega (arith, far.far, best.bounded) | inr x ↦ omega (arith, far.far, best.bounded, x.0) ])
    found (inr far) (inr none) = absurd (none.empty (replicate (length samples) true) (record { long = length-replicate (length samples) true; leads = high_word (length samples) }))
