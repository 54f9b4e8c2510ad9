-- There is one way to order numbers: a sort of them gives it.
use Rattle.std.proofs.Common.{◌≡◌, ℕ, ◌+◌, ◌<◌, ◌≤◌, suc, List, [], ◌∷◌, length, get_or, refl, sym, ◌∙◌, ap, subst, inl, inr, arith}
use Rattle.std.specs.Prelude.{◌==◌, if◌then◌else◌, count_by}
use Rattle.std.specs.List.Sorted.{IsPermutation, IsNonDecreasing}
use Rattle.std.proofs.lemmas.List.Recursion.{is_count_by}
use Rattle.std.proofs.lemmas.List.Sorted.{sum_by-IsPermutation}
use Rattle.std.proofs.lemmas.Bool.Decides.{leb_tells, eqb_tells}
use Rattle.defect_lists.specs.DefectData.{insert_before, ascending}

suc-same : {m n : ℕ} → 1 + m ≡ 1 + n → m ≡ n
suc-same {m} {n} e = omega arith

-- how often a number stands in a list
abbrev pub times : ℕ → List ℕ → ℕ
times v [] = 0
times v (x ∷ xs) = if x == v then 1 + times v xs else times v xs

-- numbers from `low` on that do not fall
abbrev pub Climbs : ℕ → List ℕ → Type 0
Climbs low [] = Unit {0}
Climbs low (x ∷ xs) = (low ≤ x) × Climbs x xs

-- a lower bound may be given up for a lower one
Climbs-from : (low more : ℕ) (xs : List ℕ) → low ≤ more → Climbs more xs → Climbs low xs
Climbs-from low more [] less up = tt
Climbs-from low more (x ∷ xs) less up = (omega arith, up.1)

-- an insertion keeps the order
Climbs-insert_before : (low x : ℕ) (xs : List ℕ) → low ≤ x → Climbs low xs → Climbs low (insert_before x xs)
Climbs-insert_before low x [] from up = (from, tt)
Climbs-insert_before low x (y ∷ ys) from up =
    elim (leb_tells x y) [ inl w ↦ rw w.0 (from, (w.1, up.1)) | inr w ↦ rw w.0 (up.0, Climbs-insert_before y x ys (omega arith) up.1) ]

Climbs-ascending : (xs : List ℕ) → Climbs 0 (ascending xs)
Climbs-ascending [] = tt
Climbs-ascending (x ∷ xs) = Climbs-insert_before 0 x (ascending xs) (omega arith) (Climbs-ascending xs)

-- and adds the number once
times-insert_before : (v x : ℕ) (xs : List ℕ) → times v (insert_before x xs) ≡ times v (x ∷ xs)
times-insert_before v x [] = refl
times-insert_before v x (y ∷ ys) =
    elim (leb_tells x y) [
      | inl w ↦ rw w.0 refl
      | inr w ↦ (
          let rest : times v (insert_before x ys) ≡ times v (x ∷ ys) = times-insert_before v x ys in
          elim (eqb_tells x v) [
            | inl a ↦ elim (eqb_tells y v) [ inl b ↦ absurd (omega arith) | inr b ↦ rw (w.0, a.0, b.0) (rest ∙ rw a.0 refl) ]
            | inr a ↦ elim (eqb_tells y v) [ inl b ↦ rw (w.0, a.0, b.0) (ap (λ (n : ℕ). 1 + n) (rest ∙ rw a.0 refl)) | inr b ↦ rw (w.0, a.0, b.0) (rest ∙ rw a.0 refl) ]
          ])
    ]

times-ascending : (v : ℕ) (xs : List ℕ) → times v (ascending xs) ≡ times v xs
times-ascending v [] = refl
times-ascending v (x ∷ xs) =
    let rest : times v (ascending xs) ≡ times v xs = times-ascending v xs in
    times-insert_before v x (ascending xs) ∙ elim (eqb_tells x v) [ inl w ↦ rw w.0 (ap (λ (n : ℕ). 1 + n) rest) | inr w ↦ rw w.0 rest ]

-- a number below all of them stands nowhere
times-below : (v low : ℕ) (xs : List ℕ) → Climbs low xs → v < low → times v xs ≡ 0
times-below v low [] up less = refl
times-below v low (x ∷ xs) up less =
    elim (eqb_tells x v) [ inl w ↦ absurd (omega arith) | inr w ↦ rw w.0 (times-below v x xs up.1 (omega arith)) ]

times-head : (x : ℕ) (xs : List ℕ) → times x (x ∷ xs) ≡ 1 + times x xs
times-head x xs = elim (eqb_tells x x) [ inl w ↦ rw w.0 refl | inr w ↦ absurd (w.1 refl) ]

-- two lists in order with each number as often are one
pub same-climbs : (xs ys : List ℕ) (a b : ℕ) → Climbs a xs → Climbs b ys → ((v : ℕ) → times v xs ≡ times v ys) → xs ≡ ys
same-climbs [] [] a b up vp same = refl
same-climbs [] (y ∷ ys) a b up vp same = absurd (omega (arith, same y, times-head y ys))
same-climbs (x ∷ xs) [] a b up vp same = absurd (omega (arith, same x, times-head x xs))
same-climbs (x ∷ xs) (y ∷ ys) a b up vp same =
    elim (leb_tells (suc x) y) [
      | inl w ↦ absurd (let none : times x (y ∷ ys) ≡ 0 = times-below x y (y ∷ ys) (omega arith, vp.1) w.1 in omega (arith, same x, times-head x xs))
      | inr w ↦ elim (leb_tells (suc y) x) [
        | inl v ↦ absurd (let none : times y (x ∷ xs) ≡ 0 = times-below y x (x ∷ xs) (omega arith, up.1) v.1 in omega (arith, same y, times-head y ys))
        | inr v ↦ (
            let e : x ≡ y = omega arith in
            let P : ℕ → Type 0 = λ z. Climbs z ys in
            let rest : xs ≡ ys = same-climbs xs ys x x up.1 (subst P (sym e) vp.1)
            (λ u. let both : times u (x ∷ xs) ≡ times u (x ∷ ys) = same u ∙ ap (λ (z : ℕ). times u (z ∷ ys)) (sym e) in
            elim (eqb_tells x u) [ inl t ↦ suc-same (rw t.0 at both) | inr t ↦ rw t.0 at both ]) in
            ap (λ (z : ℕ). z ∷ xs) e ∙ ap (λ (l : List ℕ). y ∷ l) rest)
      ]
    ]

-- from the words of std's sort
Climbs-from_clause : (low : ℕ) (xs : List ℕ) → (0 < length xs → low ≤ get_or xs 0 0) → IsNonDecreasing xs → Climbs low xs
Climbs-from_clause low [] first up = tt
Climbs-from_clause low (x ∷ xs) first up = (
  first (omega arith),
  Climbs-from_clause x xs (λ some. up 0 1 0 (omega arith) (omega arith)) (λ i j d before within. up (suc i) (suc j) d (omega arith) (omega arith)),
)

times-count_by : (v : ℕ) (xs : List ℕ) → times v xs ≡ count_by (λ x. x == v) xs
times-count_by v xs = is_count_by (times v) (λ x. x == v) refl (λ _ _. refl) xs

pub ascending-from_sort : (xs ys : List ℕ) → IsPermutation xs ys → IsNonDecreasing ys → ys ≡ ascending xs
ascending-from_sort xs ys moved up =
    same-climbs ys (ascending xs) 0 0 (Climbs-from_clause 0 ys (λ some. omega arith) up) (Climbs-ascending xs)
    (λ v. times-count_by v ys ∙ sum_by-IsPermutation (λ x. if x == v then 1 else 0) xs ys moved ∙ sym (times-count_by v xs) ∙ sym (times-ascending v xs))

-- an ordered list is as long
length-insert_before : (x : ℕ) (xs : List ℕ) → length (insert_before x xs) ≡ suc (length xs)
length-insert_before x [] = refl
length-insert_before x (y ∷ ys) =
    elim (leb_tells x y) [ inl w ↦ rw w.0 refl | inr w ↦ rw w.0 (ap suc (length-insert_before x ys)) ]

pub length-ascending : (xs : List ℕ) → length (ascending xs) ≡ length xs
length-ascending [] = refl
length-ascending (x ∷ xs) = length-insert_before x (ascending xs) ∙ ap suc (length-ascending xs)
