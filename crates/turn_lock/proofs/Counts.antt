-- How often numbers stand in lists.
use Rattle.std.proofs.Common.{◌≡◌, ◌⊎◌, inl, inr, ℕ, zero, suc, ◌+◌, ◌-◌, ◌*◌, ◌<◌, ◌≤◌, Bool, true, false, cond, eqb, List, [], ◌∷◌, ◌++◌, length, set, sum_by, bit_or, refl, ap, sym, subst, ⊎_elim, arith, Some}
use native.Mathlib.Decide.{ℕ_discrete, dec_le}
use mathlib.Core.Option.{some, some-injective, some-ne-none}
use lib.ListN.{get_elem?}
use Rattle.std.proofs.lemmas.List.Sums.{sum_by-cons, sum_by-append}
use Rattle.std.proofs.lemmas.Bool.Decides.{nat_tests}
use Rattle.std.proofs.lemmas.Nat.{and_mask}
use Rattle.std.specs.Int.Bits.{or_add_and}
use Rattle.turn_lock.specs.Lists.{times, once, gained, Follows}
use Rattle.turn_lock.proofs.Beginnings.{follows_length}

pub total_set : {V : Type 0} (f : V → ℕ) (vs : List V) (i : ℕ) (v w : V) → get_elem? vs i ≡ some v → sum_by f (set vs i w) + f v ≡ sum_by f vs + f w
total_set f [] i v w e = absurd (some-ne-none v (sym e))
total_set f (x ∷ xs) zero v w e = let h = some-injective x v e in omega (arith, sum_by-cons f w xs, sum_by-cons f x xs, ap f h)
total_set f (x ∷ xs) (suc i) v w e = omega (arith, sum_by-cons f x (set xs i w), sum_by-cons f x xs, total_set f xs i v w e)

pub total_at : {V : Type 0} (f : V → ℕ) (vs : List V) (i : ℕ) (v : V) → get_elem? vs i ≡ some v → f v ≤ sum_by f vs
total_at f [] i v e = absurd (some-ne-none v (sym e))
total_at f (x ∷ xs) zero v e = let h = some-injective x v e in omega (arith, sum_by-cons f x xs, ap f h)
total_at f (x ∷ xs) (suc i) v e = omega (arith, sum_by-cons f x xs, total_at f xs i v e)

pub times-append : (x : ℕ) (xs ys : List ℕ) → times x (xs ++ ys) ≡ times x xs + times x ys
times-append x xs ys = sum_by-append (λ y. cond (eqb y x) 1 0) xs ys

pub once_none : (n x : ℕ) → once n n x ≡ 0
once_none n x = grind (arith, nat_tests)

pub once_most : (first n x : ℕ) → once first n x ≤ 1
once_most first n x = grind (arith, nat_tests)

pub once_more : (first n x : ℕ) → first ≤ n → once first (n + 1) x ≡ once first n x + cond (eqb (n + 1) x) 1 0
once_more first n x le = grind (arith, nat_tests)

pub or_one : (n : ℕ) (b : Bool) → bit_or (2 * n + cond b 1 0) 1 ≡ 2 * n + 1
or_one n true = omega (arith, or_add_and (2 * n + 1) 1, and_mask (2 * n + 1) 1)
or_one n false = omega (arith, or_add_and (2 * n + 0) 1, and_mask (2 * n + 0) 1)

pub gained_counts : {U : Type 0} (first : ℕ) (before log : List U) (x : ℕ) → first ≤ length before → Follows before log → once first (length log) x ≡ once first (length before) x + times x (gained (Some before) log)
gained_counts first before log x le f = ⊎_elim
    (λ (e : length log ≡ length before). grind (arith, nat_tests))
    (λ (e : length log ≡ length before + 1). grind (arith, nat_tests))
    (follows_length before log f)

pub gained_length : {U : Type 0} (before log : List U) → Follows before log → length (gained (Some before) log) + length before ≡ length log
gained_length before log f = ⊎_elim
    (λ (e : length log ≡ length before). grind (arith, nat_tests))
    (λ (e : length log ≡ length before + 1). grind (arith, nat_tests))
    (follows_length before log f)

-- how many of the k numbers above first stand in the list, each as often as it stands there
abbrev counts : ℕ → ℕ → List ℕ → ℕ
counts first zero xs = 0
counts first (suc k) xs = counts first k xs + times (first + suc k) xs

counts-nil : (first k : ℕ) → counts first k [] ≡ 0
counts-nil first zero = refl
counts-nil first (suc k) = omega (arith, counts-nil first k)

pub times-cons : (x y : ℕ) (ys : List ℕ) → times x (y ∷ ys) ≡ cond (eqb y x) 1 0 + times x ys
times-cons x y ys = sum_by-cons (λ z. cond (eqb z x) 1 0) y ys

once_next : (first k y : ℕ) → once first (first + suc k) y ≡ once first (first + k) y + cond (eqb y (first + suc k)) 1 0
once_next first k y = grind (arith, nat_tests)

counts-cons : (first k y : ℕ) (ys : List ℕ) → counts first k (y ∷ ys) ≡ counts first k ys + once first (first + k) y
counts-cons first zero y ys = let o : once first (first + 0) y ≡ 0 = grind (arith, nat_tests) in omega (arith, o)
counts-cons first (suc k) y ys = omega (arith, counts-cons first k y ys, times-cons (first + suc k) y ys, once_next first k y)

pub here_once : (y : ℕ) → ◌≡◌ {A = ℕ} (cond (eqb y y) 1 0) 1
here_once y = grind (arith, nat_tests)

all_counted : (first k : ℕ) (xs : List ℕ) → ((x : ℕ) → times x xs ≤ once first (first + k) x) → length xs ≡ counts first k xs
all_counted first k [] few = sym (counts-nil first k)
all_counted first k (y ∷ ys) few =
    let one : once first (first + k) y ≡ 1 = omega (arith, few y, times-cons y y ys, here_once y, once_most first (first + k) y) in
    let rec = all_counted first k ys (λ x. omega (arith, few x, times-cons x y ys)) in
    omega (arith, counts-cons first k y ys, one, rec)

counts_most : (first k : ℕ) (xs : List ℕ) → ((x : ℕ) → times x xs ≤ 1) → counts first k xs ≤ k
counts_most first zero xs few = omega arith
counts_most first (suc k) xs few = omega (arith, counts_most first k xs few, few (first + suc k))

last_by : (i k : ℕ) → i < suc k → Dec (i ≡ k) → (i ≡ k) ⊎ (i < k)
last_by i k lt (yes e) = inl e
last_by i k lt (no n) = inr (omega arith)

last_or : (i k : ℕ) → i < suc k → (i ≡ k) ⊎ (i < k)
last_or i k lt = last_by i k lt (ℕ_discrete i k)

each_once : (first k : ℕ) (xs : List ℕ) → ((x : ℕ) → times x xs ≤ 1) → counts first k xs ≡ k → (i : ℕ) → i < k → times (first + suc i) xs ≡ 1
each_once first zero xs few all i lt = absurd (omega arith)
each_once first (suc k) xs few all i lt =
    let most = counts_most first k xs few in
    let last = few (first + suc k) in
    let before : counts first k xs ≡ k = omega arith in
    let here : times (first + suc k) xs ≡ 1 = omega arith in
    ⊎_elim
    (λ (e : i ≡ k). subst (λ (j : ℕ). times (first + suc j) xs ≡ 1) (sym e) here)
    (λ (l : i < k). each_once first k xs few before i l)
    (last_or i k lt)

pub below_none : (first n x : ℕ) → x ≤ first → once first n x ≡ 0
below_none first n x le = grind (arith, nat_tests)

pub above_none : (first n x : ℕ) → n < x → once first n x ≡ 0
above_none first n x lt = grind (arith, nat_tests)

in_or_out_by : (first n x : ℕ) → Dec (first + 1 ≤ x) → Dec (x ≤ n) → ((i : ℕ) × (x ≡ first + suc i) × (first + suc i ≤ n)) ⊎ (once first n x ≡ 0)
in_or_out_by first n x (yes a) (yes b) = inl (x - (first + 1), omega arith, omega arith)
in_or_out_by first n x (yes a) (no b) = inr (above_none first n x (omega arith))
in_or_out_by first n x (no a) d = inr (below_none first n x (omega arith))

in_or_out : (first n x : ℕ) → ((i : ℕ) × (x ≡ first + suc i) × (first + suc i ≤ n)) ⊎ (once first n x ≡ 0)
in_or_out first n x = in_or_out_by first n x (dec_le (first + 1) x) (dec_le x n)

-- As many numbers as there are turns, each in range and none twice, are all of them
pub all_numbers : (first n : ℕ) (xs : List ℕ) → ((x : ℕ) → times x xs ≤ once first n x) → length xs + first ≡ n → (x : ℕ) → times x xs ≡ once first n x
all_numbers first n xs few count x =
    let k = length xs in
    let is : n ≡ first + k = omega arith in
    let few' : (y : ℕ) → times y xs ≤ once first (first + k) y = λ y. subst (λ (m : ℕ). times y xs ≤ once first m y) is (few y) in
    let all = all_counted first k xs few' in
    let ones = each_once first k xs (λ y. omega (arith, few y, once_most first n y)) (sym all) in
    ⊎_elim
    (λ (h : (i : ℕ) × (x ≡ first + suc i) × (first + suc i ≤ n)).
    let one : times x xs ≡ 1 = subst (λ (y : ℕ). times y xs ≡ 1) (sym h.1) (ones h.0 (omega (arith, h.2, is))) in
    omega (arith, one, few x, once_most first n x))
    (λ (o : once first n x ≡ 0). omega (arith, o, few x))
    (in_or_out first n x)
