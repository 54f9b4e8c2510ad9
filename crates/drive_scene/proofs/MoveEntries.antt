-- What the entries of a move's turn leave: other blocks than the move's, other commands than its owner, and mode values.
use Rattle.std.proofs.Common.{◌≡◌, ◌≢◌, ◌∙◌, ap, sym, refl, ℕ, Bool, true, false, cond, List, [], ◌∷◌, ◌++◌, Option, Some, None, eq-eqb, eqb-true}
use Rattle.std.specs.Prelude.{◌==◌, ◌&&◌, fold}
use Rattle.std.specs.List.{list_all, list_any}
use Rattle.std.specs.Option.{is_none}
use Rattle.std.proofs.lemmas.Bool.{ne_eqb}
use Rattle.std.proofs.lemmas.List.Folds.{list_all-append}
use Rattle.disk_base.specs.declared.address.Lba.{Lba}
use Rattle.disk_base.specs.declared.block.Value.{Value}
use Rattle.disk_base.specs.declared.block.Value.TheVariants.{Data, Lost}
use Rattle.disk_base.specs.declared.stage.MoveWhy.{MoveWhy}
use Rattle.disk_base.specs.declared.stage.MoveWhy.TheVariants as why
use Rattle.mode_pages.specs.declared.settings.Settings.{Settings}
use Rattle.platter_model.specs.declared.op.Op.{Op}
use Rattle.move_jobs.specs.declared.step.JobResult.TheVariants.{Moved, NoSpare}
use Rattle.move_jobs.specs.declared.step.JobStep.{JobStep}
use Rattle.move_jobs.specs.declared.step.JobStep.TheVariants.{Writing, Checking, Committing, Over}
use Rattle.move_jobs.specs.Job.{Job}
use Rattle.block_machine.specs.declared.entry.Entry.{Entry}
use Rattle.block_machine.specs.declared.entry.Entry.TheVariants.{Put, GiveUp, Harden, Logged, Cut, Started}
use Rattle.block_machine.specs.declared.entry.Who.TheVariants.{Command, Drive}
use Rattle.block_machine.specs.declared.turn.Label.TheVariants as label
use Rattle.block_machine.specs.State.{State}
use Rattle.block_machine.specs.Steps.{entry_after, entries_after}
use Rattle.block_machine.proofs.Booleans.{both, and_both, neither}
use Rattle.move_table.specs.Table.{is_owned_by}
use Rattle.drive_scene.specs.Scene.{Scene}
use Rattle.drive_scene.specs.After.{settings_by}
use Rattle.drive_scene.specs.Carried.{commit_entries, cut_entries}
use Rattle.drive_scene.specs.MoveTurn.{present_owner, is_cut_off, job_after, end_entries, if_scans, logged_moved, logged_unmoved, move_entries}
use Rattle.drive_scene.specs.GoodTurn.{is_on}
use Rattle.drive_scene.proofs.Tables.{put_at-other}
use Rattle.drive_scene.proofs.OtherEntries.{IsUntouched, untouched_then, is_cut}

-- an entry is on a move's block, and of its owner where it is a command's; or it logs something
abbrev pub is_of_move_on : Option ℕ → Lba → Entry → Bool
is_of_move_on owner b (Put c q v) = q.0 == b.0 && is_owned_by c owner
is_of_move_on owner b (GiveUp q) = q.0 == b.0
is_of_move_on owner b (Harden (Command c) q) = q.0 == b.0 && is_owned_by c owner
is_of_move_on owner b (Harden Drive q) = q.0 == b.0
is_of_move_on owner b (Logged finding) = true
is_of_move_on owner b other = false

-- so are those of a commit
commits_are : (why : MoveWhy) (owner : Option ℕ) (b : Lba) (v : Value) → list_all (is_of_move_on owner b) (commit_entries why owner b v) ≡ true
commits_are why.Heavy owner b v = refl
commits_are why.Reassign owner b v = refl
commits_are why.Dirty None b v = and_both _ _ (eq-eqb b.0 b.0 refl) refl
commits_are why.Dirty (Some c) b v = and_both _ _ (and_both _ _ (eq-eqb b.0 b.0 refl) (eq-eqb c c refl)) refl
commits_are why.GivenUp None b v = and_both _ _ (eq-eqb b.0 b.0 refl) (and_both _ _ (eq-eqb b.0 b.0 refl) refl)
commits_are why.GivenUp (Some c) b v = and_both _ _ (eq-eqb b.0 b.0 refl) (and_both _ _ (and_both _ _ (eq-eqb b.0 b.0 refl) (eq-eqb c c refl)) refl)
commits_are why.Write None b v = and_both _ _ (eq-eqb b.0 b.0 refl) refl
commits_are why.Write (Some c) b (Data bytes) =
    and_both _ _ (and_both _ _ (eq-eqb b.0 b.0 refl) (eq-eqb c c refl)) (and_both _ _ (and_both _ _ (eq-eqb b.0 b.0 refl) (eq-eqb c c refl)) refl)
commits_are why.Write (Some c) b Lost = and_both _ _ (and_both _ _ (eq-eqb b.0 b.0 refl) (eq-eqb c c refl)) refl

module _ (s : Scene) (job : Job) where
  scans_are : (e : Entry) → is_of_move_on (present_owner s job) job.b e ≡ true → list_all (is_of_move_on (present_owner s job) job.b) (if_scans job e) ≡ true
  scans_are e is = by (is_none job.owner)
    where
      by : (t : Bool) → list_all (is_of_move_on (present_owner s job) job.b) (cond t (e ∷ []) []) ≡ true
      by true = and_both _ _ is refl
      by false = refl

  ends_are : (step : JobStep) → list_all (is_of_move_on (present_owner s job) job.b) (end_entries s job step) ≡ true
  ends_are (Over NoSpare) = scans_are (logged_unmoved s job.b) refl
  ends_are (Over Moved) = refl
  ends_are Writing = refl
  ends_are Checking = refl
  ends_are Committing = refl

  -- those of a move's turn in which the power stays on
  abbrev AreOfMove : List Entry → Type 0
  AreOfMove entries = list_all (is_of_move_on (present_owner s job) job.b) entries ≡ true

  uncommitted_are : (ops : List Op) → is_cut_off ops ≡ false → (ends : List Entry) → AreOfMove ends → AreOfMove (cond (is_cut_off ops) (Cut ∷ []) ends)
  uncommitted_are ops on ends are = ap (λ (t : Bool). list_all (is_of_move_on (present_owner s job) job.b) (cond t (Cut ∷ []) ends)) on ∙ are

  pub moves_are : (step : JobStep) (ops : List Op) → is_cut_off ops ≡ false → AreOfMove (move_entries s job step ops)
  moves_are Writing ops on = uncommitted_are ops on (end_entries s job (job_after s job ops).step) (ends_are (job_after s job ops).step)
  moves_are Checking ops on = uncommitted_are ops on (end_entries s job (job_after s job ops).step) (ends_are (job_after s job ops).step)
  moves_are (Over end) ops on = uncommitted_are ops on (end_entries s job (job_after s job ops).step) (ends_are (job_after s job ops).step)
  moves_are Committing ops on =
      let committed : List Entry = commit_entries job.why (present_owner s job) job.b job.value in
      let scanned : List Entry = if_scans job (logged_moved s job.b) in
      ap (λ (t : Bool). list_all (is_of_move_on (present_owner s job) job.b)
      (cond t (cut_entries job.why (present_owner s job) job.b job.value) (committed ++ scanned))) on
      ∙ (list_all-append (is_of_move_on (present_owner s job) job.b) committed scanned
      ∙ and_both _ _ (commits_are job.why (present_owner s job) job.b job.value) (scans_are (logged_moved s job.b) refl))

-- who owns, where a command does
owner_is : (c : ℕ) (owner : Option ℕ) → is_owned_by c owner ≡ true → owner ≡ Some c
owner_is c None is = absurd (cc)
owner_is c (Some d) is = ap Some (eqb-true d c is)

module _ (owner : Option ℕ) (b : Lba) where
  -- they leave other blocks
  off_one : (q : Lba) → q.0 ≢ b.0 → (e : Entry) → is_of_move_on owner b e ≡ true → is_on q e ≡ false
  off_one q other (Put c p v) is = ne_eqb p.0 q.0 (λ same. other (sym same ∙ eqb-true p.0 b.0 (both (p.0 == b.0) (is_owned_by c owner) is).0))
  off_one q other (GiveUp p) is = ne_eqb p.0 q.0 (λ same. other (sym same ∙ eqb-true p.0 b.0 is))
  off_one q other (Harden (Command c) p) is = ne_eqb p.0 q.0 (λ same. other (sym same ∙ eqb-true p.0 b.0 (both (p.0 == b.0) (is_owned_by c owner) is).0))
  off_one q other (Harden Drive p) is = ne_eqb p.0 q.0 (λ same. other (sym same ∙ eqb-true p.0 b.0 is))
  off_one q other (Logged finding) is = refl
  off_one q other e is = absurd (cc)

  uncut_one : (e : Entry) → is_of_move_on owner b e ≡ true → is_cut e ≡ false
  uncut_one Cut is = absurd (cc)
  uncut_one e is = refl

  pub moves_off : (q : Lba) → q.0 ≢ b.0 → (entries : List Entry) → list_all (is_of_move_on owner b) entries ≡ true → list_any (is_on q) entries ≡ false
  moves_off q other [] are = refl
  moves_off q other (e ∷ entries) are =
      let two = both (is_of_move_on owner b e) (list_all (is_of_move_on owner b) entries) are in
      neither (is_on q e) (list_any (is_on q) entries) (off_one q other e two.0) (moves_off q other entries two.1)

  pub moves_uncut : (entries : List Entry) → list_all (is_of_move_on owner b) entries ≡ true → list_any is_cut entries ≡ false
  moves_uncut [] are = refl
  moves_uncut (e ∷ entries) are =
      let two = both (is_of_move_on owner b e) (list_all (is_of_move_on owner b) entries) are in
      neither (is_cut e) (list_any is_cut entries) (uncut_one e two.0) (moves_uncut entries two.1)

  -- start no command
  unstarted_one : (now : Settings) (each : ℕ → Settings) (e : Entry) → is_of_move_on owner b e ≡ true → settings_by now each e ≡ each
  unstarted_one now each (Started c) is = absurd (cc)
  unstarted_one now each e is = refl

  pub moves_settings : (now : Settings) (each : ℕ → Settings) (entries : List Entry) → list_all (is_of_move_on owner b) entries ≡ true
      → fold (settings_by now) each entries ≡ each
  moves_settings now each [] are = refl
  moves_settings now each (e ∷ entries) are =
      let two = both (is_of_move_on owner b e) (list_all (is_of_move_on owner b) entries) are in
      ap (λ (x : ℕ → Settings). fold (settings_by now) x entries) (unstarted_one now each e two.0) ∙ moves_settings now each entries two.1

  -- and leave what other commands owe
  module _ (q : ℕ) (other : (c : ℕ) → owner ≡ Some c → q ≢ c) (capacity j : ℕ) where
    left_one : (h : State) (e : Entry) → is_of_move_on owner b e ≡ true → IsUntouched h (entry_after capacity (label.Job j) h e) q
    left_one h (Put c p v) is =
        record { member = refl; duty = put_at-other c q _ h.duties (other c (owner_is c owner (both (p.0 == b.0) (is_owned_by c owner) is).1)) }
    left_one h (GiveUp p) is = record { member = refl; duty = refl }
    left_one h (Harden (Command c) p) is =
        record { member = refl; duty = put_at-other c q _ h.duties (other c (owner_is c owner (both (p.0 == b.0) (is_owned_by c owner) is).1)) }
    left_one h (Harden Drive p) is = record { member = refl; duty = refl }
    left_one h (Logged finding) is = record { member = refl; duty = refl }
    left_one h e is = absurd (cc)

    pub moves_untouched : (h : State) (entries : List Entry) → list_all (is_of_move_on owner b) entries ≡ true
        → IsUntouched h (entries_after capacity (label.Job j) h entries) q
    moves_untouched h [] are = record { member = refl; duty = refl }
    moves_untouched h (e ∷ entries) are =
        let two = both (is_of_move_on owner b e) (list_all (is_of_move_on owner b) entries) are in
        let next : State = entry_after capacity (label.Job j) h e in
        untouched_then h next (entries_after capacity (label.Job j) next entries) q (left_one h e two.0) (moves_untouched next entries two.1)
