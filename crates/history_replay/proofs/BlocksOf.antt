-- Lists of blocks' states as the blocks of a history.
use mathlib.Core.Path.{fun_ext}
use Rattle.std.proofs.Common.{◌≡◌, ◌∙◌, ap, sym, subst, ℕ, suc, ◌+◌, ◌-◌, ◌<◌, ◌≤◌, inl, inr, Bool, true, cond, not, List, [], ◌∷◌, ◌++◌, length, get_or, set, map, replicate, arith, get_or-set_same, get_or-set_other}
use Rattle.std.specs.Prelude.{◌&&◌, ◌==◌}
use Rattle.std.specs.List.{list_all, range_with_len}
use Rattle.std.proofs.lemmas.List.{get_or_past, get_or-map, get_or-replicate, length-map, length-replicate, replicate-append-replicate}
use Rattle.std.proofs.lemmas.Bool.{cases_eq, cases_lt, eq-eqb, ne_eqb}
use Rattle.disk_base.specs.At.{put_at}
use Rattle.block_machine.specs.declared.array.BlockState.{BlockState}
use Rattle.block_machine.specs.Blocks.{Blocks, blocks_at_start, hardened_with, zeros, is_dirty, none_dirty, after_cut}
use Rattle.history_replay.specs.Array.{blocks_of}

set-at : (xs : List BlockState) (b n : ℕ) (v : BlockState) → b < length xs
    → get_or (set xs b v) n (blocks_at_start n) ≡ cond (n == b) v (get_or xs n (blocks_at_start n))
set-at xs b n v h =
    elim (cases_eq n b) [
      | inl e ↦ ap (λ k. get_or (set xs b v) k (blocks_at_start k)) e ∙ get_or-set_same xs b v (blocks_at_start b) h
          ∙ ap (λ (t : Bool). cond t v (get_or xs n (blocks_at_start n))) (sym (eq-eqb n b e))
      | inr ne ↦ get_or-set_other xs b n v (blocks_at_start n) ne
          ∙ ap (λ (t : Bool). cond t v (get_or xs n (blocks_at_start n))) (sym (ne_eqb n b ne))
    ]

-- one block is changed
pub blocks_of_set : (xs : List BlockState) (b : ℕ) (v : BlockState) → b < length xs → blocks_of (set xs b v) ≡ put_at b v (blocks_of xs)
blocks_of_set xs b v h = fun_ext (λ n. set-at xs b n v h)

cut-at : (xs : List BlockState) (n : ℕ) → get_or (map after_cut xs) n (blocks_at_start n) ≡ after_cut (get_or xs n (blocks_at_start n))
cut-at xs n =
    elim (cases_lt n (length xs)) [
      | inl lt ↦ get_or-map after_cut xs n (blocks_at_start n) (blocks_at_start n) lt
      | inr ge ↦ get_or_past (map after_cut xs) n (blocks_at_start n) (subst (λ k. k ≤ n) (sym (length-map xs after_cut)) ge)
          ∙ ap after_cut (sym (get_or_past xs n (blocks_at_start n) ge))
    ]

-- the power goes off
pub blocks_of_cut : (xs : List BlockState) → blocks_of (map after_cut xs) ≡ (λ b. after_cut (blocks_of xs b))
blocks_of_cut xs = fun_ext (λ n. cut-at xs n)

start-at : (k n : ℕ) → get_or (replicate k (hardened_with zeros)) n (blocks_at_start n) ≡ blocks_at_start n
start-at k n =
    elim (cases_lt n k) [
      | inl lt ↦ get_or-replicate k n (hardened_with zeros) (blocks_at_start n) lt
      | inr ge ↦ get_or_past (replicate k (hardened_with zeros)) n (blocks_at_start n)
          (subst (λ m. m ≤ n) (sym (length-replicate k (hardened_with zeros))) ge)
    ]

-- hardened zeros
pub blocks_of_start : (k : ℕ) → blocks_of (replicate k (hardened_with zeros)) ≡ blocks_at_start
blocks_of_start k = fun_ext (λ n. start-at k n)

-- of a range that isn't empty, the first block and the others
pub none_dirty_more : (blocks : Blocks) (b to : ℕ) → b < to → none_dirty blocks b to ≡ (not (is_dirty (blocks b)) && none_dirty blocks (b + 1) to)
none_dirty_more blocks b to h =
    let e : to - b ≡ suc (to - (b + 1)) = omega arith in
    ap (λ n. list_all (λ k. not (is_dirty (blocks k))) (range_with_len b n)) e

-- an empty range
pub none_dirty_end : (blocks : Blocks) (b to : ℕ) → to ≤ b → none_dirty blocks b to ≡ true
none_dirty_end blocks b to h =
    let e : to - b ≡ 0 = omega arith in
    ap (λ n. list_all (λ k. not (is_dirty (blocks k))) (range_with_len b n)) e

-- one more block at the end
pub replicate_more : (k : ℕ) (v : BlockState) → replicate (k + 1) v ≡ replicate k v ++ v ∷ []
replicate_more k v = sym (replicate-append-replicate k 1 v)
