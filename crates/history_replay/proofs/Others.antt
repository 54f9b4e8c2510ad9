-- Counting addresses other than one.
use Rattle.std.proofs.Common.{◌≡◌, ◌∙◌, ap, sym, ℕ, suc, ◌+◌, ◌<◌, ◌≤◌, Bool, true, false, cond, not, List, ◌∷◌, length, get_or, drop, arith}
use Rattle.std.specs.Prelude.{◌==◌}
use Rattle.std.proofs.lemmas.List.{drop_more, drop_all}
use Rattle.block_machine.specs.Blocks.{without_address}

-- so many others stand before the k-th
abbrev pub Counts : ℕ → List ℕ → ℕ → ℕ → Type 0
Counts b xs k n = (n + length (without_address b (drop k xs)) ≡ length (without_address b xs)) × (n ≤ k)

pub others_begin : (b : ℕ) (xs : List ℕ) → Counts b xs 0 0
others_begin b xs = (let e : 0 + length (without_address b xs) ≡ length (without_address b xs) = omega arith in e, omega arith)

next-other : (b : ℕ) (xs : List ℕ) (k a : ℕ) (t : Bool) → k < length xs → a ≡ get_or xs k a → not (a == b) ≡ t
    → length (without_address b (drop k xs)) ≡ length (cond t (a ∷ without_address b (drop (k + 1) xs)) (without_address b (drop (k + 1) xs)))
next-other b xs k a t less is other =
    let rest = drop (k + 1) xs in
    ap (λ (l : List ℕ). length (without_address b l)) (drop_more xs k a less ∙ ap (λ (x : ℕ). x ∷ rest) (sym is))
    ∙ ap (λ (v : Bool). length (cond v (a ∷ without_address b rest) (without_address b rest))) other

pub others_more : (b : ℕ) (xs : List ℕ) (k n a : ℕ) → k < length xs → a ≡ get_or xs k a → not (a == b) ≡ true → Counts b xs k n → Counts b xs (k + 1) (n + 1)
others_more b xs k n a less is other to =
    let e : length (without_address b (drop k xs)) ≡ suc (length (without_address b (drop (k + 1) xs))) = next-other b xs k a true less is other in
    let so = to.0 in
    let low = to.1 in
    (omega arith, omega arith)

pub others_same : (b : ℕ) (xs : List ℕ) (k n a : ℕ) → k < length xs → a ≡ get_or xs k a → not (a == b) ≡ false → Counts b xs k n → Counts b xs (k + 1) n
others_same b xs k n a less is same to =
    let e : length (without_address b (drop k xs)) ≡ length (without_address b (drop (k + 1) xs)) = next-other b xs k a false less is same in
    let so = to.0 in
    let low = to.1 in
    (omega arith, omega arith)

pub others_end : (b : ℕ) (xs : List ℕ) (k n : ℕ) → length xs ≤ k → Counts b xs k n → n ≡ length (without_address b xs)
others_end b xs k n all to =
    let e : length (without_address b (drop k xs)) ≡ 0 = ap (λ (l : List ℕ). length (without_address b l)) (drop_all k xs all) in
    let so = to.0 in
    omega arith
