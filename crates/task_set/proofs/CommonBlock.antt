-- Two commands collide exactly where there is a block that both touch, and one of them writes.
use Rattle.std.proofs.Common.{◌≡◌, ℕ, ◌+◌, ◌<◌, ◌≤◌, max, true, ◌||◌, nat_lt, inl, inr, ⊎_elim, refl, arith}
use Rattle.std.proofs.lemmas.Bool.{false≢true, ltb-true, lt-ltb, and_parts, and_from, or_cases, or_left, or_right}
use Rattle.task_set.specs.declared.task.Touch.TheVariants.{Nothing, Range, All}
use Rattle.task_set.specs.Touch.{ranges_meet, CollideAtABlock}

-- the later first block is in both ranges
meets : (a m b n : ℕ) → ranges_meet a m b n ≡ true → (max a b < a + m) × (max a b < b + n)
meets a m b n h =
    let both = and_parts (nat_lt (max a b) (a + m)) (nat_lt (max a b) (b + n)) h in
    (ltb-true _ _ both.0, ltb-true _ _ both.1)

-- a block in both ranges shows that they meet
meet-at : (a m b n k : ℕ) → a ≤ k → k < a + m → b ≤ k → k < b + n → ranges_meet a m b n ≡ true
meet-at a m b n k from_a to_a from_b to_b =
    and_from (nat_lt (max a b) (a + m)) (nat_lt (max a b) (b + n)) (lt-ltb (max a b) (a + m) (omega arith)) (lt-ltb (max a b) (b + n) (omega arith))

pub collide_at_a_block : CollideAtABlock
collide_at_a_block Nothing b = (λ h. absurd (false≢true h), λ w. absurd w.1)
collide_at_a_block All Nothing = (λ h. absurd (false≢true h), λ w. absurd w.2)
collide_at_a_block (Range a m w) Nothing = (λ h. absurd (false≢true h), λ w. absurd w.2)
collide_at_a_block All All = (λ h. (0, tt, tt, inl tt), λ w. refl)
collide_at_a_block All (Range b n v) = (
  λ h. let some : 0 < n = ltb-true 0 n h in (b, tt, (omega arith, omega arith), inl tt),
  λ w. lt-ltb 0 n (omega (arith, w.2.0, w.2.1)),
)
collide_at_a_block (Range a m w) All = (
  λ h. let some : 0 < m = ltb-true 0 m h in (a, (omega arith, omega arith), tt, inr tt),
  λ w. lt-ltb 0 m (omega (arith, w.1.0, w.1.1)),
)
collide_at_a_block (Range a m w) (Range b n v) = (
  λ h. let parts = and_parts (w || v) (ranges_meet a m b n) h in
      let inside : (max a b < a + m) × (max a b < b + n) = meets a m b n parts.1 in
      (max a b, (omega arith, inside.0), (omega arith, inside.1), or_cases w v parts.0),
  λ k. and_from (w || v) (ranges_meet a m b n) (⊎_elim (λ x. or_left w v x) (λ x. or_right w v x) k.3)
      (meet-at a m b n k.0 k.1.0 k.1.1 k.2.0 k.2.1),
)
