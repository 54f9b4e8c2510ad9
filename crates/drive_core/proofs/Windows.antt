-- How long the windows of the commands in a drive are.
use Rattle.std.proofs.Common.{◌≡◌, ℕ, zero, suc, ◌+◌, ◌*◌, ◌<◌, ◌≤◌, true, true≢false, eqb, length, Option, Some, None, refl, sym, ap, ◌∙◌, subst, arith, ⊎_elim, ◌≢◌}
use Rattle.std.specs.Prelude.{slice_get}
use Rattle.std.specs.Option.{is_some}
use Rattle.std.proofs.lemmas.Bool.{cases_lt, ne_eqb, cases_eq}
use Rattle.disk_base.specs.declared.stage.Stage.{Stage}
use Rattle.mode_pages.specs.declared.settings.Settings.{Settings}
use Rattle.read_recovery.specs.Stages.{Progress, stages_of, next_stage}
use Rattle.read_recovery.proofs.Table.{past_table, plain_stage, ahead_stage, behind_stage, full_stage, erased_stage}
use Rattle.cdb_reader.specs.declared.plan.Plan.{Plan}
use Rattle.command_engine.specs.declared.step.Step.{Step}
use Rattle.command_engine.specs.Course.{Course}
use Rattle.task_set.specs.declared.member.Member.{Member}
use Rattle.drive_core.specs.declared.accepted.Accepted.{Accepted}
use Rattle.drive_scene.specs.Scene.{Scene}
use Rattle.drive_scene.specs.View.{View, view}
use Rattle.drive_core.specs.Commands.{IsAtBlock, IsUnderWay, IsStaged}
use Rattle.drive_core.proofs.AtBlock.{at_block}
use Rattle.drive_scene.proofs.Tries.{next_stage-at}
use Rattle.drive_core.specs.declared.server.Server.{Server}
use Rattle.drive_core.specs.Accepting.{accepted_of}
use Rattle.drive_core.specs.Fits.{Fits}
use Rattle.drive_scene.specs.Half.{IsReady}
use Rattle.drive_core.proofs.Flightless.{waits_alone}

-- a window is empty where no stage failed
pub empty_tried : (n k : ℕ) → n ≡ 2 * k → eqb n 0 ≡ eqb k 0
empty_tried n zero is = ap (λ (m : ℕ). eqb m 0) is
empty_tried n (suc k) is = ne_eqb n 0 (λ none. absurd (omega arith)) ∙ sym (ne_eqb (suc k) 0 (λ none. absurd (omega arith)))

-- the number of a stage is its place
pub numbered : (r k : ℕ) (s : Stage) → slice_get (stages_of r) k ≡ Some s → s.number ≡ k
numbered r k s at = ⊎_elim
    (λ (plain : k < r + 1). one _ (plain_stage r k (omega arith)))
    (λ (past : r + 1 ≤ k). ⊎_elim
    (λ (is : k ≡ r + 1). one _ (ahead_stage r k is))
    (λ (first : k ≢ r + 1). ⊎_elim
    (λ (is : k ≡ r + 2). one _ (behind_stage r k is))
    (λ (second : k ≢ r + 2). ⊎_elim
    (λ (is : k ≡ r + 3). one _ (full_stage r k is))
    (λ (third : k ≢ r + 3). one _ (erased_stage r k (let inside : k < r + 5 = within in omega arith)))
    (cases_eq k (r + 3)))
    (cases_eq k (r + 2)))
    (cases_eq k (r + 1)))
    (cases_lt k (r + 1))
  where
    one : (t : Stage) → slice_get (stages_of r) k ≡ Some t → s.number ≡ t.number
    one t there = let same : s ≡ t = cc in ap (λ (x : Stage). x.number) same

    within : k < r + 5
    within = ⊎_elim (λ inside. inside) (λ past. let none : slice_get (stages_of r) k ≡ None = past_table r k past in absurd (cc)) (cases_lt k (r + 5))

-- a stage is left, so fewer than all failed
failed_few : (p : Progress) → is_some (next_stage p) ≡ true → p.retry ≤ 20 → p.failed ≤ 24
failed_few p some few = by (next_stage p) refl some
  where
    by : (o : Option Stage) → next_stage p ≡ o → is_some o ≡ true → p.failed ≤ 24
    by None is there = absurd (cc)
    by (Some stage) is there =
        let at : slice_get (stages_of p.retry) p.failed ≡ Some stage = (next_stage-at p stage is).1 in
        let within : p.failed < p.retry + 5 = ⊎_elim (λ inside. inside)
        (λ past. let none : slice_get (stages_of p.retry) p.failed ≡ None = past_table p.retry p.failed past in absurd (cc)) (cases_lt p.failed (p.retry + 5)) in
        omega arith

-- a command at a block has the tries of the stages that failed in its window
window_at : (v : View) (plan : Plan) (step : Step) → IsAtBlock v plan step → v.settings.retry ≤ 20 → length v.window ≤ 48
window_at v plan step at few =
    at_block v (λ plan step. length v.window ≤ 48)
    (λ r p trying. let failed : p.failed ≤ 24 = failed_few p trying.next (subst (λ (n : ℕ). n ≤ 20) (sym trying.retry) few) in
    omega (arith, trying.tried))
    (λ w p empty. omega (arith, ap length empty.0)) (λ y p empty. omega (arith, ap length empty.0)) plan step at

window_under_way : (v : View) (m : Member) (a : Accepted) (o : Option Course) → IsUnderWay v m a o → length v.window ≤ 48
window_under_way v m a None waiting = omega (arith, ap length waiting.window)
window_under_way v m a (Some w) working =
    window_at v w.plan w.step working.at_block (subst (λ (x : Settings). x.retry ≤ 20) (sym working.settings) working.retry)

-- the window of a command that is in
pub window_in : (v : View) (o : Option Accepted) → IsStaged v o → is_some v.member ≡ true → length v.window ≤ 48
window_in v None none is = absurd (true≢false (sym is ∙ ap is_some none))
window_in v (Some a) command is = window_under_way v command.member a a.work command.under_way

-- each has room for one turn more
pub room_of : (s : Scene) (c : ℕ) (d : Server) → Fits s d → IsReady s c
room_of s c d fits = record {
  powered = fits.store.powered;
  own = window_in (view s c) (accepted_of d.commands.items c) (fits.staged c);
  all = fits.windows;
  waits = waits_alone s c fits.flightless;
}
