-- A list that ends before the place is all before it.
use Rattle.std.proofs.Common.{◌≡◌, ℕ, List, length, take, drop, min, sym, ap, ◌∙◌, refl, inl, inr, arith}
use Rattle.std.proofs.Math.Seq.{drop-length}
use Rattle.std.proofs.lemmas.Bool.{cases_lt}
use Rattle.std.proofs.lemmas.List.{take_min, drop_all}
use Rattle.map_generations.proofs.record.first_and_later.Goals as goal

-- the same behind the place
drop_min : {X : Type 0} → (n : ℕ) (xs : List X) → drop (min n (length xs)) xs ≡ drop n xs
drop_min n xs =
    elim (cases_lt n (length xs)) [
      | inl h ↦ let e : min n (length xs) ≡ n = omega arith in rw e refl
      | inr h ↦ let e : min n (length xs) ≡ length xs = omega arith in rw e (drop-length xs ∙ sym (drop_all n xs h))
    ]

pub returns-clause-first : goal.returns-clause-first
returns-clause-first c =
    c.split_at.ensures.front
    ∙ ap (λ (n : ℕ). take n c.args.pairs.now) c.min.ensures
    ∙ take_min 64 c.args.pairs.now

pub returns-clause-later : goal.returns-clause-later
returns-clause-later c =
    c.split_at.ensures.back
    ∙ ap (λ (n : ℕ). drop n c.args.pairs.now) c.min.ensures
    ∙ drop_min 64 c.args.pairs.now
