-- The entries of a commit may come as far as commands go.
use Rattle.std.proofs.Common.{◌≡◌, ◌∙◌, ap, refl, ℕ, cond, Bool, true, false, not, List, [], ◌∷◌, ◌++◌, length, Option, Some, None}
use Rattle.std.specs.Prelude.{◌||◌, ◌==◌, nat_lt, IsSome}
use Rattle.std.specs.List.{list_any}
use Rattle.std.specs.Option.{is_some, is_none, option_and_then}
use Rattle.std.proofs.lemmas.Bool.{lt-ltb}
use Rattle.disk_base.specs.Along.{all_along}
use Rattle.disk_base.specs.At.{put_at}
use Rattle.disk_base.specs.declared.address.Lba.{Lba}
use Rattle.disk_base.specs.declared.block.Value.{Value}
use Rattle.disk_base.specs.declared.block.Value.TheVariants.{Data, Lost}
use Rattle.disk_base.specs.declared.stage.MoveWhy.{MoveWhy}
use Rattle.disk_base.specs.declared.stage.MoveWhy.TheVariants as why
use Rattle.cdb_reader.specs.declared.plan.Plan.{Plan}
use Rattle.cdb_reader.specs.declared.plan.Deed.TheVariants as deed
use Rattle.cdb_reader.specs.Plan.{next, plan_after}
use Rattle.block_machine.specs.declared.entry.Entry.{Entry}
use Rattle.block_machine.specs.declared.entry.Entry.TheVariants.{Put, GiveUp, Harden}
use Rattle.block_machine.specs.declared.entry.Who.TheVariants.{Command}
use Rattle.block_machine.specs.declared.turn.Label.TheVariants.{Job}
use Rattle.block_machine.specs.Blocks.{is_dirty, after_put}
use Rattle.block_machine.specs.Deeds.{is_crowded}
use Rattle.block_machine.specs.State.{State, owed_by}
use Rattle.block_machine.specs.Steps.{entry_after}
use Rattle.block_machine.specs.Entries.{entry_lawful}
use Rattle.block_machine.specs.Turns.{work_lawful, is_start, is_end, starts_alone}
use Rattle.block_machine.proofs.Booleans.{and_both}
use Rattle.geometry_map.specs.Size.{capacity_of}
use Rattle.drive_scene.specs.Carried.{IsValueOf, HasOwner, commit_entries, cut_entries}
use Rattle.drive_scene.specs.MoveTurn.{present_owner, logged_moved}
use Rattle.drive_scene.specs.CommitTasks.{TakesCommit, CommitsMayBeTold}
use Rattle.drive_scene.proofs.Tables.{put_at-own}
use Rattle.drive_scene.proofs.HardenTurns.{dirty-newest}
use Rattle.drive_scene.proofs.Doing.{still_owed, owed_then}
use Rattle.drive_scene.proofs.MayHave.{dirty-put}
use Rattle.drive_scene.proofs.Flights.{owner_is_in}

-- a plan that a last deed leaves
last_deed : (o : Option Plan) → IsSome (plan_after o []) → is_some o ≡ true
last_deed None is = is
last_deed (Some p) is = refl

-- entries without a start stand in a turn together
alone : (entries : List Entry) → list_any is_start entries ≡ false → starts_alone entries ≡ true
alone entries none = ap (λ (t : Bool). (not t || (length entries == 1)) || list_any is_end entries) none

module _ (capacity j : ℕ) (h : State) (b : Lba) (below : nat_lt b.0 capacity ≡ true) (rest : List Entry) (none : list_any is_start rest ≡ false)
    (may : (g : State) → all_along (entry_after capacity (Job j)) (entry_lawful capacity (Job j)) g rest ≡ true) where
  abbrev Each : State → List Entry → Type 0
  Each g entries = all_along (entry_after capacity (Job j)) (entry_lawful capacity (Job j)) g entries ≡ true

  -- a dirty block is hardened for a command whose plan takes that, and the rest follows
  harden_for : (g : State) (c : ℕ) (plan : Plan) → owed_by g c ≡ Some plan → IsSome (plan_after (next plan (deed.Hardened b)) []) → is_dirty (g.blocks b.0) ≡ true
      → Each g (Harden (Command c) b ∷ rest)
  harden_for g c plan owes takes dirty =
      let owed : is_some (option_and_then (λ (p : Plan). next p (deed.Hardened b)) (owed_by g c)) ≡ true =
      ap (λ (o : Option Plan). is_some (option_and_then (λ (p : Plan). next p (deed.Hardened b)) o)) owes ∙ last_deed (next plan (deed.Hardened b)) takes in
      and_both _ _ (and_both _ _ owed dirty) (may (entry_after capacity (Job j) g (Harden (Command c) b)))

  dirty_then : (v : Value) → is_dirty (put_at b.0 (after_put (h.blocks b.0) v) h.blocks b.0) ≡ true
  dirty_then v = ap is_dirty (put_at-own b.0 (after_put (h.blocks b.0) v) h.blocks) ∙ dirty-put (h.blocks b.0) v

  put_then : (c : ℕ) (bytes : List ℕ) (plan : Plan) (o : Option Plan) → owed_by h c ≡ Some plan → next plan (deed.Put b bytes (is_crowded h c b.0)) ≡ o
      → IsSome (plan_after o (deed.Hardened b ∷ [])) → Each h (Put c b bytes ∷ Harden (Command c) b ∷ rest)
  put_then c bytes plan None owes is takes = absurd (cc)
  put_then c bytes plan (Some then_plan) owes is takes =
      and_both _ _ (ap is_some (still_owed h c (deed.Put b bytes (is_crowded h c b.0)) plan then_plan owes is))
      (harden_for (entry_after capacity (Job j) h (Put c b bytes)) c then_plan (owed_then h c (deed.Put b bytes (is_crowded h c b.0)) plan then_plan owes is) takes
      (dirty_then (Data bytes)))

  each : (why : MoveWhy) (owner : Option ℕ) (v : Value) → IsValueOf h.blocks why b v → HasOwner why owner → TakesCommit h why b v owner
      → Each h (commit_entries why owner b v ++ rest)
  each why.Heavy owner v is has takes = may h
  each why.Reassign owner v is has takes = may h
  each why.Dirty None v is has takes = may _
  each why.Dirty (Some c) v is has takes = harden_for h c takes.0 takes.1 takes.2 (dirty-newest (h.blocks b.0) v is)
  each why.GivenUp None v is has takes = and_both _ _ below (may _)
  each why.GivenUp (Some c) v is has takes =
      and_both _ _ below (harden_for (entry_after capacity (Job j) h (GiveUp b)) c takes.0 takes.1 takes.2 (dirty_then Lost))
  each why.Write None v is has takes = absurd (cc)
  each why.Write (Some c) Lost is has takes = absurd (let never : Lost ≡ Data is.0 = is.1 in cc)
  each why.Write (Some c) (Data bytes) is has takes = put_then c bytes takes.0 _ takes.1 refl takes.2

  no_start : (why : MoveWhy) (owner : Option ℕ) (v : Value) → list_any is_start (commit_entries why owner b v ++ rest) ≡ false
  no_start why.Heavy owner v = none
  no_start why.Reassign owner v = none
  no_start why.Dirty owner v = none
  no_start why.GivenUp owner v = none
  no_start why.Write None v = none
  no_start why.Write (Some c) Lost = none
  no_start why.Write (Some c) (Data bytes) = none

  done : (why : MoveWhy) (owner : Option ℕ) (v : Value) → IsValueOf h.blocks why b v → HasOwner why owner → TakesCommit h why b v owner
      → work_lawful capacity (Job j) h (commit_entries why owner b v ++ rest) ≡ true
  done why owner v is has takes =
      and_both _ _ (and_both _ _ (alone (commit_entries why owner b v ++ rest) (no_start why owner v)) (each why owner v is has takes)) refl

cut : (capacity j : ℕ) (h : State) (b : Lba) → nat_lt b.0 capacity ≡ true → (why : MoveWhy) (owner : Option ℕ) (v : Value) → IsValueOf h.blocks why b v
    → HasOwner why owner → TakesCommit h why b v owner → work_lawful capacity (Job j) h (cut_entries why owner b v) ≡ true
cut capacity j h b below why.Heavy owner v is has takes = refl
cut capacity j h b below why.Reassign owner v is has takes = refl
cut capacity j h b below why.Dirty owner v is has takes = refl
cut capacity j h b below why.GivenUp owner v is has takes = and_both _ _ (and_both _ _ below refl) refl
cut capacity j h b below why.Write None v is has takes = absurd (cc)
cut capacity j h b below why.Write (Some c) Lost is has takes = absurd (let never : Lost ≡ Data is.0 = is.1 in cc)
cut capacity j h b below why.Write (Some c) (Data bytes) is has takes =
    and_both _ _ (and_both _ _ (by (next takes.0 (deed.Put b bytes (is_crowded h c b.0))) refl takes.2) refl) refl
  where
    by : (o : Option Plan) → next takes.0 (deed.Put b bytes (is_crowded h c b.0)) ≡ o → IsSome (plan_after o (deed.Hardened b ∷ []))
        → entry_lawful capacity (Job j) h (Put c b bytes) ≡ true
    by None is never = absurd (cc)
    by (Some p) is some = ap is_some (still_owed h c (deed.Put b bytes (is_crowded h c b.0)) takes.0 p takes.1 is)

pub commits_may_be_told : CommitsMayBeTold
commits_may_be_told s f is takes =
    let below : nat_lt f.job.b.0 (capacity_of s.size) ≡ true = lt-ltb _ _ is.below in
    let has : HasOwner f.job.why (present_owner s f.job) = owner_is_in s f f.job.why f.job.owner is.owned in
    record {
      done = of_scan (is_none f.job.owner);
      cut_off = cut (capacity_of s.size) f.j s.hist f.job.b below f.job.why (present_owner s f.job) f.job.value is.value has takes;
    }
  where
    of_scan : (t : Bool) → work_lawful (capacity_of s.size) (Job f.j) s.hist
        (commit_entries f.job.why (present_owner s f.job) f.job.b f.job.value ++ cond t (logged_moved s f.job.b ∷ []) []) ≡ true
    of_scan true = done (capacity_of s.size) f.j s.hist f.job.b (lt-ltb _ _ is.below) (logged_moved s f.job.b ∷ []) refl (λ g. refl)
        f.job.why (present_owner s f.job) f.job.value is.value (owner_is_in s f f.job.why f.job.owner is.owned) takes
    of_scan false = done (capacity_of s.size) f.j s.hist f.job.b (lt-ltb _ _ is.below) [] refl (λ g. refl)
        f.job.why (present_owner s f.job) f.job.value is.value (owner_is_in s f f.job.why f.job.owner is.owned) takes
