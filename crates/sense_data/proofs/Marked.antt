-- Raising an attention for one marked initiator after another.
use Rattle.std.proofs.Common.{◌≡◌, ◌∙◌, sym, subst, ℕ, zero, suc, ◌+◌, ◌-◌, ◌≤◌, Bool, true, false, List, [], ◌∷◌, length, take, get_or, set, refl, ap, cond, arith}
use Rattle.sense_data.specs.declared.attention.Attention.{Attention}
use Rattle.sense_data.specs.Attentions.{Waiting, raised, raised_where, waiting_for, with_attention}

-- what waits behind the marks stays
behind-stays : (marks : List Bool) (a : Attention) (waiting : Waiting) (k : ℕ)
    → get_or (raised_where (take k marks) a waiting) k [] ≡ get_or waiting k []
behind-stays [] a waiting zero = refl
behind-stays [] a waiting (suc k) = refl
behind-stays (m ∷ marks) a [] zero = refl
behind-stays (m ∷ marks) a [] (suc k) = refl
behind-stays (m ∷ marks) a (q ∷ waiting) zero = refl
behind-stays (m ∷ marks) a (q ∷ waiting) (suc k) = behind-stays marks a waiting k

-- one more mark that is set
one-marked : (marks : List Bool) (a : Attention) (waiting : Waiting) (k : ℕ) → get_or marks k false ≡ true
    → raised_where (take (suc k) marks) a waiting ≡ set (raised_where (take k marks) a waiting) k (with_attention a (get_or waiting k []))
one-marked [] a waiting k is = absurd (cc)
one-marked (m ∷ marks) a [] zero is = refl
one-marked (m ∷ marks) a [] (suc k) is = refl
one-marked (m ∷ marks) a (q ∷ waiting) zero is = ap (λ b. cond b (with_attention a q) q ∷ waiting) is
one-marked (m ∷ marks) a (q ∷ waiting) (suc k) is = ap (λ (w : Waiting). cond m (with_attention a q) q ∷ w) (one-marked marks a waiting k is)

-- one more that isn't
one-unmarked : (marks : List Bool) (a : Attention) (waiting : Waiting) (k : ℕ) → get_or marks k false ≡ false
    → raised_where (take (suc k) marks) a waiting ≡ raised_where (take k marks) a waiting
one-unmarked [] a waiting zero is = refl
one-unmarked [] a waiting (suc k) is = refl
one-unmarked (m ∷ marks) a [] zero is = refl
one-unmarked (m ∷ marks) a [] (suc k) is = refl
one-unmarked (m ∷ marks) a (q ∷ waiting) zero is = ap (λ b. cond b (with_attention a q) q ∷ waiting) is
one-unmarked (m ∷ marks) a (q ∷ waiting) (suc k) is = ap (λ (w : Waiting). cond m (with_attention a q) q ∷ w) (one-unmarked marks a waiting k is)

-- there is room for the next
pub room-left : (marks : List Bool) (a : Attention) (before now : Waiting) (k i : ℕ) → i ≡ k + 1 → now ≡ raised_where (take k marks) a before
    → ((j : ℕ) → length (with_attention a (waiting_for before j)) ≤ 8) → length (with_attention a (waiting_for now i)) ≤ 8
room-left marks a before now k i at is room =
    let place : i - 1 ≡ k = omega arith in
    let stays : waiting_for now i ≡ waiting_for before i =
    ap (λ (w : Waiting). waiting_for w i) is ∙ ap (λ n. get_or (raised_where (take k marks) a before) n []) place
    ∙ behind-stays marks a before k ∙ ap (λ n. get_or before n []) (sym place) in
    subst (λ l. length (with_attention a l) ≤ 8) (sym stays) (room i)

-- the next initiator is told
pub next-marked : (marks : List Bool) (a : Attention) (before now after : Waiting) (k i : ℕ) → i ≡ k + 1 → get_or marks k false ≡ true
    → now ≡ raised_where (take k marks) a before → after ≡ raised now i a → after ≡ raised_where (take (k + 1) marks) a before
next-marked marks a before now after k i at mark is told =
    let place : i - 1 ≡ k = omega arith in
    let up : suc k ≡ k + 1 = omega arith in
    let here : Waiting = raised_where (take k marks) a before in
    told ∙ ap (λ (w : Waiting). raised w i a) is ∙ ap (λ n. set here n (with_attention a (get_or here n []))) place
    ∙ ap (λ q. set here k (with_attention a q)) (behind-stays marks a before k) ∙ sym (one-marked marks a before k mark)
    ∙ ap (λ n. raised_where (take n marks) a before) up

-- the next isn't
pub next-unmarked : (marks : List Bool) (a : Attention) (before now after : Waiting) (k : ℕ) → get_or marks k false ≡ false
    → now ≡ raised_where (take k marks) a before → after ≡ now → after ≡ raised_where (take (k + 1) marks) a before
next-unmarked marks a before now after k mark is stays =
    let up : suc k ≡ k + 1 = omega arith in
    stays ∙ is ∙ sym (one-unmarked marks a before k mark) ∙ ap (λ n. raised_where (take n marks) a before) up
