-- What a commit tells: it is shown, on one block and in its order, and blocks are after it as they are said to be.
use Rattle.std.proofs.Common.{◌≡◌, ◌∙◌, ap, sym, refl, ℕ, Bool, true, false, List, [], ◌∷◌, ◌++◌, Option, Some, None}
use Rattle.std.specs.Prelude.{◌&&◌, ◌||◌, ◌==◌, fold}
use Rattle.std.specs.List.{list_any}
use Rattle.std.specs.Option.{option_map_or}
use Rattle.std.proofs.lemmas.Bool.{eq-eqb, eqb-true}
use Rattle.disk_base.specs.Along.{Along, all_along}
use Rattle.disk_base.specs.At.{put_at}
use Rattle.disk_base.specs.declared.address.Lba.{Lba}
use Rattle.disk_base.specs.declared.block.Value.{Value}
use Rattle.disk_base.specs.declared.block.Value.TheVariants.{Data, Lost}
use Rattle.disk_base.specs.declared.stage.MoveWhy.{MoveWhy}
use Rattle.disk_base.specs.declared.stage.MoveWhy.TheVariants as why
use Rattle.platter_model.specs.declared.op.Op.{Op}
use Rattle.move_jobs.specs.declared.step.JobStep.TheVariants.{Committing}
use Rattle.block_machine.specs.declared.entry.Entry.{Entry}
use Rattle.block_machine.specs.declared.turn.Label.TheVariants.{Job}
use Rattle.block_machine.specs.Blocks.{Blocks, newest, after_put, blocks_after}
use Rattle.block_machine.specs.State.{State}
use Rattle.block_machine.specs.Steps.{entry_after, entries_after}
use Rattle.block_machine.proofs.Booleans.{both, and_both}
use Rattle.move_table.specs.declared.flight.Flight.{Flight}
use Rattle.drive_scene.specs.Scene.{Scene, capacity}
use Rattle.drive_scene.specs.Evidence.{IsGivenUpBy, Shows}
use Rattle.drive_scene.specs.Carried.{IsValueOf, HasOwner, commit_entries}
use Rattle.move_table.specs.Table.{job_in}
use Rattle.drive_scene.specs.Flights.{IsOwners}
use Rattle.drive_scene.specs.MoveLaws.{turn_of_move}
use Rattle.drive_scene.specs.GoodTurn.{is_on, are_on, block_of, rank, may_follow}
use Rattle.drive_scene.proofs.Tables.{put_at-own}
use Rattle.drive_scene.proofs.MayHave.{newest-put}

-- entries that are all on one block are on no other
pub on_same : (b q : Lba) (entries : List Entry) → are_on b entries ≡ true → list_any (is_on q) entries ≡ true → q.0 ≡ b.0
on_same b q [] on is = absurd (cc)
on_same b q (e ∷ es) on is = by (on_same b q es) (block_of e) on is
  where
    at : (list_any (is_on q) es ≡ true → q.0 ≡ b.0) → (x : Lba) → (x.0 == b.0) ≡ true → (t : Bool) → (x.0 == q.0) ≡ t → (t || list_any (is_on q) es) ≡ true → q.0 ≡ b.0
    at later x here true same is_on_it = sym (eqb-true x.0 q.0 same) ∙ eqb-true x.0 b.0 here
    at later x here false same is_later = later is_later

    by : (are_on b es ≡ true → list_any (is_on q) es ≡ true → q.0 ≡ b.0) → (o : Option Lba)
        → (option_map_or (λ x. x.0 == b.0) o true && are_on b es) ≡ true → (option_map_or (λ x. x.0 == q.0) o false || list_any (is_on q) es) ≡ true → q.0 ≡ b.0
    by later None all some = later all some
    by later (Some x) all some = let parts = both (x.0 == b.0) (are_on b es) all in at (later parts.1) x parts.0 (x.0 == q.0) refl some

-- the entries of a commit, and what follows them
module _ (b : Lba) (rest : List Entry) where
  -- all are on its block
  pub on_block : are_on b rest ≡ true → (why : MoveWhy) (owner : Option ℕ) (v : Value) → are_on b (commit_entries why owner b v ++ rest) ≡ true
  on_block then why.Heavy owner v = then
  on_block then why.Reassign owner v = then
  on_block then why.Dirty owner v = and_both _ _ (eq-eqb b.0 b.0 refl) then
  on_block then why.GivenUp owner v = and_both _ _ (eq-eqb b.0 b.0 refl) (and_both _ _ (eq-eqb b.0 b.0 refl) then)
  on_block then why.Write None v = and_both _ _ (eq-eqb b.0 b.0 refl) then
  on_block then why.Write (Some c) Lost = and_both _ _ (eq-eqb b.0 b.0 refl) then
  on_block then why.Write (Some c) (Data bytes) = and_both _ _ (eq-eqb b.0 b.0 refl) (and_both _ _ (eq-eqb b.0 b.0 refl) then)

  -- they are in their order, where the rest may stand alone and behind a harden
  pub in_order : all_along (λ before e. rank e) may_follow 0 rest ≡ true → all_along (λ before e. rank e) may_follow 6 rest ≡ true
      → (why : MoveWhy) (owner : Option ℕ) (v : Value) → all_along (λ before e. rank e) may_follow 0 (commit_entries why owner b v ++ rest) ≡ true
  in_order alone behind why.Heavy owner v = alone
  in_order alone behind why.Reassign owner v = alone
  in_order alone behind why.Dirty owner v = behind
  in_order alone behind why.GivenUp owner v = behind
  in_order alone behind why.Write None v = behind
  in_order alone behind why.Write (Some c) Lost = behind
  in_order alone behind why.Write (Some c) (Data bytes) = behind

  -- blocks after them
  pub same_blocks : (bound j : ℕ) (h : State) → ((g : State) → (entries_after bound (Job j) g rest).blocks ≡ g.blocks) → (why : MoveWhy) (owner : Option ℕ) (v : Value)
      → (entries_after bound (Job j) h (commit_entries why owner b v ++ rest)).blocks ≡ fold blocks_after h.blocks (commit_entries why owner b v)
  same_blocks bound j h keeps why.Heavy owner v = keeps _
  same_blocks bound j h keeps why.Reassign owner v = keeps _
  same_blocks bound j h keeps why.Dirty owner v = keeps _
  same_blocks bound j h keeps why.GivenUp owner v = keeps _
  same_blocks bound j h keeps why.Write None v = keeps _
  same_blocks bound j h keeps why.Write (Some c) Lost = keeps _
  same_blocks bound j h keeps why.Write (Some c) (Data bytes) = keeps _

-- what was put is the newest of its block
put_newest : (blocks : Blocks) (b : Lba) (v : Value) → newest (put_at b.0 (after_put (blocks b.0) v) blocks b.0) ≡ Some v
put_newest blocks b v = ap newest (put_at-own b.0 (after_put (blocks b.0) v) blocks) ∙ newest-put (blocks b.0) v

-- a block is given up by the command that opened the move
gave_up : (s : Scene) (b : Lba) (v : Value) (opener : Option ℕ) → IsOwners s why.GivenUp b v opener → (c : ℕ) × (opener ≡ Some c) × IsGivenUpBy s b c
gave_up s b v None is = absurd is
gave_up s b v (Some c) is = (c, refl, is)

-- and each is shown, while the move needs its commit
module _ (s : Scene) (f : Flight) (ops : List Op) (all rest : List Entry) (is_in : job_in s.back.flights f.j ≡ Some f.job) (committing : f.job.step ≡ Committing)
    (shows : (h : State) → Along (entry_after (capacity s) (Job f.j)) (Shows s (turn_of_move f all ops)) h rest) where
  pub shown : (why : MoveWhy) (owner : Option ℕ) (v : Value) → IsValueOf s.hist.blocks why f.job.b v → HasOwner why owner → IsOwners s why f.job.b v f.job.owner
      → f.job.value ≡ v → Along (entry_after (capacity s) (Job f.j)) (Shows s (turn_of_move f all ops)) s.hist (commit_entries why owner f.job.b v ++ rest)
  shown why.Heavy owner v is has owned same = shows _
  shown why.Reassign owner v is has owned same = shows _
  shown why.Dirty owner v is has owned same = ((f.job, is_in, committing, refl, is ∙ ap Some (sym same)), shows _)
  shown why.GivenUp owner v is has owned same =
      let given = gave_up s f.job.b v f.job.owner owned in
      ((f.job, given.0, is_in, refl, given.1, given.2), ((f.job, is_in, committing, refl, put_newest s.hist.blocks f.job.b Lost ∙ ap Some (sym (same ∙ is.1))), shows _))
  shown why.Write None v is has owned same = absurd (cc)
  shown why.Write (Some c) Lost is has owned same = absurd (let never : Lost ≡ Data is.0 = is.1 in cc)
  shown why.Write (Some c) (Data bytes) is has owned same =
      (tt, ((f.job, is_in, committing, refl, put_newest s.hist.blocks f.job.b (Data bytes) ∙ ap Some (sym same)), shows _))
