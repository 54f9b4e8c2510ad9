-- What a legal history says of a single block.
use Rattle.std.proofs.Common.{◌≡◌, ◌∙◌, ap, sym, refl, ℕ, Bool, true, false, not, cond, nat_eq, List, [], ◌∷◌}
use Rattle.std.specs.Prelude.{◌==◌, if◌then◌else◌, fold}
use Rattle.std.specs.List.{list_all}
use Rattle.std.proofs.lemmas.Bool.{eqb-true}
use Rattle.disk_base.specs.Along.{all_along}
use Rattle.disk_base.specs.declared.block.Value.TheVariants.{Data, Lost}
use Rattle.block_machine.specs.declared.array.BlockState.{BlockState}
use Rattle.block_machine.specs.declared.entry.Entry.{Entry}
use Rattle.block_machine.specs.declared.entry.Entry.TheVariants.{Get, Put, Harden, GiveUp, Cut}
use Rattle.block_machine.specs.Blocks.{Blocks, blocks_after, block_lawful, may_get, is_dirty, after_get, after_put, after_harden, after_cut}
use Rattle.block_machine.specs.Turns.{blocks_lawful}
use Rattle.block_machine.proofs.Booleans.{and_both, both}

-- the state of one block after an entry
abbrev pub block_after : ℕ → BlockState → Entry → BlockState
block_after b s (Get c a v) = if b == a.0 then after_get s v else s
block_after b s (Put c a v) = if b == a.0 then after_put s (Data v) else s
block_after b s (GiveUp a) = if b == a.0 then after_put s Lost else s
block_after b s (Harden who a) = if b == a.0 then after_harden s else s
block_after b s Cut = after_cut s
block_after b s other = s

-- whether one block allows an entry
abbrev pub block_allows : ℕ → BlockState → Entry → Bool
block_allows b s (Get c a v) = if b == a.0 then may_get s v else true
block_allows b s (GiveUp a) = if b == a.0 then not (is_dirty s) else true
block_allows b s (Harden who a) = if b == a.0 then is_dirty s else true
block_allows b s other = true

-- a change of one block, seen at another or the same
changed_at : (b a : ℕ) (f : BlockState → BlockState) (blocks : Blocks) (t : Bool) → nat_eq b a ≡ t
    → cond t (f (blocks a)) (blocks b) ≡ cond t (f (blocks b)) (blocks b)
changed_at b a f blocks true e = ap (λ n. f (blocks n)) (sym (eqb-true b a e))
changed_at b a f blocks false e = refl

pub one_after : (b : ℕ) (blocks : Blocks) (e : Entry) → blocks_after blocks e b ≡ block_after b (blocks b) e
one_after b blocks (Get c a v) = changed_at b a.0 (λ s. after_get s v) blocks (nat_eq b a.0) refl
one_after b blocks (Put c a v) = changed_at b a.0 (λ s. after_put s (Data v)) blocks (nat_eq b a.0) refl
one_after b blocks (GiveUp a) = changed_at b a.0 (λ s. after_put s Lost) blocks (nat_eq b a.0) refl
one_after b blocks (Harden who a) = changed_at b a.0 after_harden blocks (nat_eq b a.0) refl
one_after b blocks Cut = refl
one_after b blocks other = refl

-- a test of one block, seen at another or the same
tested_at : (b a : ℕ) (p : BlockState → Bool) (blocks : Blocks) (t : Bool) → nat_eq b a ≡ t → p (blocks a) ≡ true → cond t (p (blocks b)) true ≡ true
tested_at b a p blocks true e h = ap (λ n. p (blocks n)) (eqb-true b a e) ∙ h
tested_at b a p blocks false e h = refl

pub one_allows : (capacity b : ℕ) (blocks : Blocks) (e : Entry) → block_lawful capacity blocks e ≡ true → block_allows b (blocks b) e ≡ true
one_allows capacity b blocks (Get c a v) h = tested_at b a.0 (λ s. may_get s v) blocks (nat_eq b a.0) refl (both _ _ h).1
one_allows capacity b blocks (GiveUp a) h = tested_at b a.0 (λ s. not (is_dirty s)) blocks (nat_eq b a.0) refl (both _ _ h).1
one_allows capacity b blocks (Harden who a) h = tested_at b a.0 is_dirty blocks (nat_eq b a.0) refl (both _ _ h).1
one_allows capacity b blocks other h = refl

-- along entries that the blocks allow, one block allows them
pub one_along : (capacity b : ℕ) (blocks : Blocks) (entries : List Entry) → blocks_lawful capacity blocks entries ≡ true
    → all_along (block_after b) (block_allows b) (blocks b) entries ≡ true
one_along capacity b blocks [] h = refl
one_along capacity b blocks (e ∷ entries) h =
    let now = both (block_lawful capacity blocks e) _ h in
    let later = one_along capacity b (blocks_after blocks e) entries now.1 in
    and_both (block_allows b (blocks b) e) _ (one_allows capacity b blocks e now.0)
    (ap (λ (s : BlockState). all_along (block_after b) (block_allows b) s entries) (sym (one_after b blocks e)) ∙ later)

-- a fact that each allowed entry keeps, beside something that is counted along
module _ {S T G : Type 0} (step : S → T → S) (p : S → T → Bool) (count : G → T → G) (q : T → Bool) (I : S → G → Type 0)
    (keeps : (s : S) (g : G) (x : T) → p s x ≡ true → q x ≡ true → I s g → I (step s x) (count g x)) where
  pub kept_along : (s : S) (g : G) (xs : List T) → all_along step p s xs ≡ true → list_all q xs ≡ true → I s g → I (fold step s xs) (fold count g xs)
  kept_along s g [] h k i = i
  kept_along s g (x ∷ xs) h k i =
      let now = both (p s x) _ h in
      let here = both (q x) _ k in
      kept_along (step s x) (count g x) xs now.1 here.1 (keeps s g x now.0 here.0 i)
