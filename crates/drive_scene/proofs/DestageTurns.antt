-- A turn in which the drive destages a block: it is good, leaves commands as they were, and no turn leaves a block stuck.
use Rattle.std.proofs.Common.{◌≡◌, ◌≢◌, ℕ, Bool, true, false, cond, eqb, List, [], ◌∷◌, ◌++◌, Option, Some, None, refl, sym, ap, ◌∙◌, subst}
use Rattle.std.specs.Prelude.{◌&&◌, ◌||◌, ◌==◌, not, find, fold}
use Rattle.std.specs.Option.{option_and_then, option_map, option_map_or, is_none}
use Rattle.std.proofs.lemmas.Bool.{eq-eqb, eqb-true, lt-ltb}
use Rattle.std.proofs.lemmas.List.Elements.{All-from_recursion}
use Rattle.disk_base.specs.declared.address.Lba.{Lba}
use Rattle.disk_base.specs.declared.block.Value.TheVariants.{Data}
use Rattle.platter_model.specs.declared.op.Op.TheVariants.{Wrote}
use Rattle.sector_store.specs.State.{placed}
use Rattle.task_set.specs.declared.member.Member.{Member}
use Rattle.task_set.specs.Members.{member_of}
use Rattle.block_machine.specs.declared.entry.Entry.{Entry}
use Rattle.block_machine.specs.declared.entry.Entry.TheVariants.{Harden, Put}
use Rattle.block_machine.specs.declared.entry.Who.TheVariants.{Drive}
use Rattle.block_machine.specs.declared.turn.Label.{Label}
use Rattle.block_machine.specs.declared.turn.Label.TheVariants.{Destage}
use Rattle.block_machine.specs.Blocks.{is_dirty}
use Rattle.block_machine.proofs.Booleans.{and_both}
use Rattle.drive_scene.specs.Background.{stuck_by}
use Rattle.drive_scene.specs.Scene.{Scene, Beat, capacity}
use Rattle.drive_scene.specs.After.{back_by_move, scene_after}
use Rattle.drive_scene.specs.Holds.{held_block, held_by_plan, holder_besides, holds, destaged}
use Rattle.drive_scene.specs.GoodTurn.{WritesBlockData, IsStep, IsDestageTurn}
use Rattle.drive_scene.specs.Kinds.{hardened_blocks, destage_of, IsAfterDestage}
use Rattle.drive_scene.specs.Laws.{DestagesAreGood, DestagesLeaveCommands}
use Rattle.drive_scene.proofs.Tables.{put_at-own, put_at-other, within_map}
use Rattle.drive_scene.proofs.Holders.{no_command}
use Rattle.drive_scene.proofs.Uncommitted.{stuck_by_move}
use Rattle.drive_scene.proofs.HardenTurns.{dirty-newest, hardened-newest, unstrayed, stood_written, written_about, writes_newest}

-- who holds a block, where no command does
found_any : (set : List Member) (q : ℕ) (test : ℕ → Bool) (m : Member) → find (λ x. x.task.c == q) set ≡ Some m → test q ≡ true
    → find (λ x. test x.task.c) set ≡ None → ⊥
found_any [] q test m there holds none = cc
found_any (x ∷ xs) q test m there holds none =
    by (λ found free. found_any xs q test m found holds free) (eqb x.task.c q) refl there (test x.task.c) refl none
  where
    by : (find (λ y. eqb y.task.c q) xs ≡ Some m → find (λ y. test y.task.c) xs ≡ None → ⊥) → (t : Bool) → eqb x.task.c q ≡ t
        → cond t (Some x) (find (λ y. eqb y.task.c q) xs) ≡ Some m → (u : Bool) → test x.task.c ≡ u → cond u (Some x) (find (λ y. test y.task.c) xs) ≡ None → ⊥
    by rest t e found true is free = cc
    by rest true e found false is free =
        let passes : test x.task.c ≡ true = ap test (eqb-true x.task.c q e) ∙ holds in
        cc
    by rest false e found false is free = rest found free

nobody : (o : Option Member) → option_map (λ (m : Member). m.task.c) o ≡ None → o ≡ None
nobody None is = refl
nobody (Some m) is = absurd (cc)

-- the block that a command holds is another one
pub not_destaged : (s : Scene) (q b n : ℕ) → holder_besides s Destage b ≡ None → held_block s q ≡ Some n → n ≢ b
not_destaged s q b n free held same = by (member_of s.hist.set q) refl held
  where
    by : (o : Option Member) → member_of s.hist.set q ≡ o
        → option_and_then (held_by_plan (s.windows q)) (option_and_then (λ m. (s.hist.duties q).owes) o) ≡ Some n → ⊥
    by None is never = cc
    by (Some m) is some =
        let holds_it : holds s b q ≡ true = ap (λ (o : Option ℕ). option_map_or (λ h. eqb h b) o false) held ∙ eq-eqb n b same in
        found_any s.hist.set q (holds s b) m is holds_it (nobody _ (no_command s Destage b free))

-- what was found passes the test
found_passes : (p : ℕ → Bool) (xs : List ℕ) (x : ℕ) → find p xs ≡ Some x → p x ≡ true
found_passes p [] x is = absurd (cc)
found_passes p (y ∷ ys) x is = by (found_passes p ys x) (p y) refl is
  where
    by : (find p ys ≡ Some x → p x ≡ true) → (t : Bool) → p y ≡ t → cond t (Some y) (find p ys) ≡ Some x → p x ≡ true
    by rest true passes there = let same : y ≡ x = cc in ap p (sym same) ∙ passes
    by rest false passes there = rest there

free_by : (stuck : Bool) {X : Type 0} (o : Option X) → (not stuck && is_none o) ≡ true → o ≡ None
free_by true o is = absurd (cc)
free_by false None is = refl
free_by false (Some x) is = absurd (cc)

-- nobody holds the block that is destaged
pub destaged_free : (s : Scene) (b : ℕ) → destaged s ≡ Some b → holder_besides s Destage b ≡ None
destaged_free s b is =
    free_by (s.back.stuck b) (holder_besides s Destage b)
    (found_passes (λ n. not (s.back.stuck n) && is_none (holder_besides s Destage n)) s.hist.dirty b is)

after_destage : (s : Scene) (b : Lba) (bytes : List ℕ) → IsAfterDestage s (scene_after s (destage_of s b bytes)) b
after_destage s b bytes = record { size = refl; map = refl; hist = refl; windows = refl; settings = refl; recovered = refl; stuck = refl }

pub good_destage : DestagesAreGood
good_destage s b bytes may =
    let free : holder_besides s Destage b.0 ≡ None = destaged_free s b.0 may.is_next in
    let dirty : is_dirty (s.hist.blocks b.0) ≡ true = dirty-newest (s.hist.blocks b.0) (Data bytes) may.newest in (
      record {
        tasks = refl;
        blocks = λ none. and_both _ _ (and_both _ _ (lt-ltb b.0 (capacity s) may.below) dirty) refl;
        shown = ((λ v found. writes_newest s b bytes v may.newest found), tt);
        powered = may.standing.powered;
        step = record { b = b; bytes = bytes; is_next = may.is_next; newest = may.newest; told = refl; wrote = refl };
        tries = tt;
        one_block = (b, and_both _ _ (eq-eqb b.0 b.0 refl) refl);
        written = All-from_recursion (WritesBlockData s.map (Harden Drive b ∷ [])) (Wrote (placed s.map b bytes) ∷ [])
            (((b, bytes, within_map s b may.size may.below, refl), ap (λ (t : Bool). t || false) (eq-eqb b.0 b.0 refl)), tt);
        own = tt;
        order = refl;
        waits = refl;
        window = may.windows;
        held = λ q below about. let same = written_about s b q bytes may.own_sector below about in ap (λ (n : ℕ). holder_besides s Destage n) same ∙ free;
        stands = stood_written s.map s.ops (s.ops ++ Wrote (placed s.map b bytes) ∷ []) b bytes s.hist.blocks (hardened_blocks s b) (unstrayed s.ops _)
            may.standing.stands may.standing.present.may_be may.stores may.keeps
            (put_at-own b.0 _ s.hist.blocks ∙ hardened-newest (s.hist.blocks b.0) (Data bytes) may.newest) (λ q other. put_at-other b.0 q _ s.hist.blocks other);
        mapped = λ on readable. (may.present.there.present, may.present.may_be);
      },
      after_destage s b bytes,
    )

pub leaves_commands : DestagesLeaveCommands
leaves_commands s t is good =
    let step : IsDestageTurn s t.entries t.ops = subst (λ (l : Label). IsStep s l t.entries t.ops) is good.step in
    let same : destage_of s step.b step.bytes ≡ t = sym (λ i. record { label = is i; entries = step.told i; ops = step.wrote i }) in
    (step.b, subst (λ (u : Beat). IsAfterDestage s (scene_after s u) step.b) same (after_destage s step.b step.bytes))

-- only a destage that failed leaves a block stuck, and none does yet
unstuck_by : (stuck : ℕ → Bool) (e : Entry) → ((n : ℕ) → stuck n ≡ false) → (n : ℕ) → stuck_by stuck e n ≡ false
unstuck_by stuck (Put c b v) none n = by (eqb n b.0)
  where
    by : (t : Bool) → cond t false (stuck n) ≡ false
    by true = refl
    by false = none n
unstuck_by stuck e none n = none n

unstuck : (stuck : ℕ → Bool) (entries : List Entry) → ((n : ℕ) → stuck n ≡ false) → (n : ℕ) → fold stuck_by stuck entries n ≡ false
unstuck stuck [] none n = none n
unstuck stuck (e ∷ es) none n = unstuck (stuck_by stuck e) es (unstuck_by stuck e none) n

pub quiet_back : (s : Scene) (t : Beat) → ((n : ℕ) → s.back.stuck n ≡ false) → (n : ℕ) → (scene_after s t).back.stuck n ≡ false
quiet_back s t none n =
    unstuck (back_by_move s t.label t.ops).stuck t.entries (λ k. ap (λ (stuck : ℕ → Bool). stuck k) (stuck_by_move s t.ops t.label) ∙ none k) n
