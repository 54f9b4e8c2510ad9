-- What the commit of each kind of move comes to for blocks, done or cut off.
use Rattle.std.proofs.Common.{◌≡◌, ◌≢◌, ◌∙◌, ap, sym, refl, subst, ℕ, ◌<◌, true, not, [], ◌∷◌, Option, Some, None}
use Rattle.std.specs.Prelude.{fold, nat_lt}
use Rattle.std.specs.List.{list_any}
use Rattle.std.proofs.lemmas.Bool.{lt-ltb}
use Rattle.disk_base.specs.At.{put_at}
use Rattle.disk_base.specs.declared.address.Lba.{Lba}
use Rattle.disk_base.specs.declared.block.Value.{Value}
use Rattle.disk_base.specs.declared.block.Value.TheVariants.{Data, Lost}
use Rattle.disk_base.specs.declared.stage.MoveWhy.{MoveWhy}
use Rattle.disk_base.specs.declared.stage.MoveWhy.TheVariants as why
use Rattle.block_machine.specs.declared.array.BlockState.{BlockState}
use Rattle.block_machine.specs.Blocks.{Blocks, is_dirty, newest, allowed, same_value, after_put, after_harden, after_cut, blocks_after}
use Rattle.block_machine.specs.Turns.{blocks_lawful}
use Rattle.block_machine.proofs.Booleans.{and_both}
use Rattle.drive_scene.specs.GoodTurn.{IsAllowed}
use Rattle.drive_scene.specs.Carried.{IsCarried, HasOwner, commit_entries, cut_entries}
use Rattle.drive_scene.proofs.Tables.{put_at-own, put_at-other}
use Rattle.drive_scene.proofs.HardenTurns.{dirty-newest}
use Rattle.drive_scene.proofs.MayHave.{May, newest-put, dirty-put, may-hardened, may-newest, may-cut, may-put}

-- done, the block may have the value that is moved, and no other block changes; cut off, it may have that value or the one that was
-- stored, and others may have what they might. What is told may come
pub record BlocksAfter (capacity : ℕ) (blocks : Blocks) (why : MoveWhy) (owner : Option ℕ) (b : Lba) (v stored : Value) : Type 0 where
  pub lawful : blocks_lawful capacity blocks (commit_entries why owner b v) ≡ true
  pub done : IsAllowed (fold blocks_after blocks (commit_entries why owner b v)) b v
  pub others : (q : ℕ) → q ≢ b.0 → fold blocks_after blocks (commit_entries why owner b v) q ≡ blocks q
  pub cut_lawful : blocks_lawful capacity blocks (cut_entries why owner b v) ≡ true
  pub cut_new : IsAllowed (fold blocks_after blocks (cut_entries why owner b v)) b v
  pub cut_old : IsAllowed (fold blocks_after blocks (cut_entries why owner b v)) b stored
  pub cut_others : (q : Lba) (u : Value) → q.0 ≢ b.0 → IsAllowed blocks q u → IsAllowed (fold blocks_after blocks (cut_entries why owner b v)) q u

module _ (capacity : ℕ) (blocks : Blocks) (b : Lba) (below : nat_lt b.0 capacity ≡ true) where
  -- a block that was put, and hardened then
  put_of : Value → Blocks
  put_of v = put_at b.0 (after_put (blocks b.0) v) blocks

  hard_of : Value → Blocks
  hard_of v = put_at b.0 (after_harden (put_of v b.0)) (put_of v)

  hard_put : (v : Value) → May (hard_of v b.0) v
  unfolding hard_of put_of
  hard_put v =
      ap (λ (st : BlockState). list_any (same_value v) (allowed st))
      (put_at-own b.0 (after_harden (put_of v b.0)) (put_of v) ∙ ap after_harden (put_at-own b.0 (after_put (blocks b.0) v) blocks))
      ∙ may-hardened (after_put (blocks b.0) v) v (newest-put (blocks b.0) v)

  hard_others : (v : Value) (q : ℕ) → q ≢ b.0 → hard_of v q ≡ blocks q
  unfolding hard_of put_of
  hard_others v q other = put_at-other b.0 q (after_harden (put_of v b.0)) (put_of v) other ∙ put_at-other b.0 q (after_put (blocks b.0) v) blocks other

  -- what is hardened then is dirty
  put_dirty : (v : Value) → is_dirty (put_of v b.0) ≡ true
  unfolding put_of
  put_dirty v = ap is_dirty (put_at-own b.0 (after_put (blocks b.0) v) blocks) ∙ dirty-put (blocks b.0) v

  -- a block that was put as the power went has what it might have, and what was put
  cut_put : (v u : Value) → May (after_put (blocks b.0) v) u → May (after_cut (put_of v b.0)) u
  unfolding put_of
  cut_put v u is =
      ap (λ (st : BlockState). list_any (same_value u) (allowed (after_cut st))) (put_at-own b.0 (after_put (blocks b.0) v) blocks)
      ∙ may-cut (after_put (blocks b.0) v) u is

  cut_others_put : (v : Value) (q : Lba) (u : Value) → q.0 ≢ b.0 → May (blocks q.0) u → May (after_cut (put_of v q.0)) u
  unfolding put_of
  cut_others_put v q u other is =
      ap (λ (st : BlockState). list_any (same_value u) (allowed (after_cut st))) (put_at-other b.0 q.0 (after_put (blocks b.0) v) blocks other)
      ∙ may-cut (blocks q.0) u is

  new_put : (v : Value) → May (after_put (blocks b.0) v) v
  new_put v = may-newest (after_put (blocks b.0) v) v (newest-put (blocks b.0) v)

  hard : (v : Value) → newest (blocks b.0) ≡ Some v → May (put_at b.0 (after_harden (blocks b.0)) blocks b.0) v
  hard v is =
      ap (λ (st : BlockState). list_any (same_value v) (allowed st)) (put_at-own b.0 (after_harden (blocks b.0)) blocks) ∙ may-hardened (blocks b.0) v is

  -- a value that was found
  found : (why : MoveWhy) (owner : Option ℕ) (v stored : Value) → commit_entries why owner b v ≡ [] → v ≡ stored → IsAllowed blocks b stored
      → cut_entries why owner b v ≡ Rattle.block_machine.specs.declared.entry.Entry.TheVariants.Cut ∷ []
      → BlocksAfter capacity blocks why owner b v stored
  found why owner v stored none same may cut =
      let own : IsAllowed blocks b v = subst (λ (x : Value). IsAllowed blocks b x) (sym same) may in
      record {
        lawful = ap (blocks_lawful capacity blocks) none;
        done = subst (λ es. IsAllowed (fold blocks_after blocks es) b v) (sym none) own;
        others = λ q other. ap (λ es. fold blocks_after blocks es q) none;
        cut_lawful = ap (blocks_lawful capacity blocks) cut;
        cut_new = subst (λ es. IsAllowed (fold blocks_after blocks es) b v) (sym cut) (may-cut (blocks b.0) v own);
        cut_old = subst (λ es. IsAllowed (fold blocks_after blocks es) b stored) (sym cut) (may-cut (blocks b.0) stored may);
        cut_others = λ q u other is. subst (λ es. IsAllowed (fold blocks_after blocks es) q u) (sym cut) (may-cut (blocks q.0) u is);
      }

  table : (why : MoveWhy) (owner : Option ℕ) (v stored : Value) → IsAllowed blocks b stored → IsCarried blocks why b v stored → HasOwner why owner
      → BlocksAfter capacity blocks why owner b v stored
  unfolding hard_of put_of
  table why.Heavy owner v stored may carried has = found why.Heavy owner v stored refl carried.1 may refl
  table why.Reassign owner v stored may carried has = found why.Reassign owner v stored refl carried.1 may refl
  table why.Dirty owner v stored may carried has = record {
    lawful = and_both _ _ (and_both _ _ below (dirty-newest (blocks b.0) v carried.0)) refl;
    done = hard v carried.0;
    others = λ q other. put_at-other b.0 q (after_harden (blocks b.0)) blocks other;
    cut_lawful = refl;
    cut_new = may-cut (blocks b.0) v (may-newest (blocks b.0) v carried.0);
    cut_old = may-cut (blocks b.0) stored may;
    cut_others = λ q u other is. may-cut (blocks q.0) u is;
  }
  table why.GivenUp owner v stored may carried has = record {
    lawful = and_both _ _ (and_both _ _ below (ap not carried.0.0)) (and_both _ _ (and_both _ _ below (put_dirty Lost)) refl);
    done = subst (λ (x : Value). May (hard_of Lost b.0) x) (sym carried.0.1) (hard_put Lost);
    others = hard_others Lost;
    cut_lawful = and_both _ _ (and_both _ _ below (ap not carried.0.0)) refl;
    cut_new = subst (λ (x : Value). May (after_cut (put_of Lost b.0)) x) (sym carried.0.1) (cut_put Lost Lost (new_put Lost));
    cut_old = cut_put Lost stored (may-put (blocks b.0) Lost stored may);
    cut_others = cut_others_put Lost;
  }
  table why.Write (Some c) (Data bytes) stored may carried has = record {
    lawful = and_both _ _ below (and_both _ _ (and_both _ _ below (put_dirty (Data bytes))) refl);
    done = hard_put (Data bytes);
    others = hard_others (Data bytes);
    cut_lawful = and_both _ _ below refl;
    cut_new = cut_put (Data bytes) (Data bytes) (new_put (Data bytes));
    cut_old = cut_put (Data bytes) stored (may-put (blocks b.0) (Data bytes) stored may);
    cut_others = cut_others_put (Data bytes);
  }
  table why.Write (Some c) Lost stored may carried has = absurd (let never : Lost ≡ Data carried.0.0 = carried.0.1 in cc)
  table why.Write None v stored may carried has = absurd (cc)

-- commits of each kind
pub commit_table : (capacity : ℕ) (blocks : Blocks) (why : MoveWhy) (owner : Option ℕ) (b : Lba) (v stored : Value) → b.0 < capacity
    → IsAllowed blocks b stored → IsCarried blocks why b v stored → HasOwner why owner → BlocksAfter capacity blocks why owner b v stored
commit_table capacity blocks why owner b v stored below may carried has = table capacity blocks b (lt-ltb b.0 capacity below) why owner v stored may carried has
