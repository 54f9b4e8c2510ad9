-- A turn that commits no move leaves the map and the windows, and moves that are in flight come from moves alone.
use Rattle.std.proofs.Common.{◌≡◌, ◌≢◌, ◌∙◌, ap, sym, refl, ℕ, ◌≤◌, Bool, true, false, true≢false, cond, List, [], ◌∷◌, ◌++◌, take, Option, Some, None, inl, inr, arith}
use Rattle.std.specs.Prelude.{◌||◌, fold, map}
use Rattle.std.specs.Option.{option_map_or, option_and_then}
use Rattle.disk_base.specs.declared.payload.Payload.{Payload}
use Rattle.platter_model.specs.declared.damage.Tear.{Tear}
use Rattle.platter_model.specs.declared.op.Op.{Op}
use Rattle.platter_model.specs.declared.op.Op.TheVariants.{Wrote, Torn}
use Rattle.platter_model.specs.declared.op.Op.TheVariants as op
use Rattle.move_jobs.specs.declared.step.JobResult.TheVariants.{Moved, NoSpare}
use Rattle.move_jobs.specs.declared.step.JobStep.{JobStep}
use Rattle.move_jobs.specs.declared.step.JobStep.TheVariants.{Writing, Checking, Committing, Over}
use Rattle.move_jobs.specs.Job as move_job
use Rattle.sector_store.specs.Maps.{next_map, records_of}
use Rattle.sector_store.specs.Shapes.{IsCommit}
use Rattle.block_machine.specs.declared.entry.Entry.{Entry}
use Rattle.block_machine.specs.declared.entry.Entry.TheVariants.{Aborted, Cut}
use Rattle.block_machine.specs.declared.turn.Label.{Label}
use Rattle.block_machine.specs.declared.turn.Label.TheVariants.{Job}
use Rattle.move_table.specs.declared.flight.Flight.{Flight}
use Rattle.drive_scene.specs.Background.{Background, flights_by}
use Rattle.drive_scene.specs.Scene.{Scene, Beat, beat}
use Rattle.drive_scene.specs.After.{if_committing, committed_by, map_committed, windows_committed, back_by_move, scene_after}
use Rattle.move_table.specs.Table.{job_in}
use Rattle.drive_scene.specs.MoveTurn.{IsMoveWork, is_cut_off, is_power_cut, back_by_step, back_after_job}
use Rattle.drive_scene.specs.GoodTurn.{IsStep}

-- a power cut behind a torn write
pub ends_cut : (ops : List Op) (payload : Payload) (tear : Tear) → is_cut_off (ops ++ Torn payload tear ∷ op.Cut ∷ []) ≡ true
ends_cut [] payload tear = refl
ends_cut (o ∷ ops) payload tear = either_right (is_power_cut o) _ (ends_cut ops payload tear)
  where
    either_right : (a b : Bool) → b ≡ true → (a || b) ≡ true
    either_right true b is = refl
    either_right false b is = is

-- a choice between nothing and nothing
neither : {X : Type 0} (t : Bool) (o : Option X) → o ≡ None → cond t None o ≡ None
neither true o none = refl
neither false o none = none

not_committing : (job : move_job.Job) (step : JobStep) → step ≢ Committing → if_committing job step ≡ None
not_committing job Writing other = refl
not_committing job Checking other = refl
not_committing job Committing other = absurd (other refl)
not_committing job (Over end) other = refl

-- a move that doesn't need its commit next isn't committed
pub uncommitted : (s : Scene) (j : ℕ) (job : move_job.Job) (ops : List Op) → job_in s.back.flights j ≡ Some job → job.step ≢ Committing
    → committed_by s (Job j) ops ≡ None
uncommitted s j job ops is other =
    neither (is_cut_off ops) _ (ap (λ (o : Option move_job.Job). option_and_then (λ x. if_committing x x.step) o) is ∙ not_committing job job.step other)

-- one that does is, while the power stays on
pub committed : (s : Scene) (j : ℕ) (job : move_job.Job) (ops : List Op) → job_in s.back.flights j ≡ Some job → job.step ≡ Committing
    → is_cut_off ops ≡ false → committed_by s (Job j) ops ≡ Some job
committed s j job ops is committing on =
    ap (λ (t : Bool). cond t None (option_and_then (λ x. if_committing x x.step) (job_in s.back.flights j))) on
    ∙ (ap (λ (o : Option move_job.Job). option_and_then (λ x. if_committing x x.step) o) is ∙ ap (if_committing job) committing)

-- a move that is in flight as before, or over
opened_by_step : (j : ℕ) (job : move_job.Job) (step : JobStep) (back : Background) → (back_by_step j job step back).opened ≡ back.opened
opened_by_step j job Writing back = refl
opened_by_step j job Checking back = refl
opened_by_step j job Committing back = refl
opened_by_step j job (Over Moved) back = refl
opened_by_step j job (Over NoSpare) back = refl

stuck_by_step : (j : ℕ) (job : move_job.Job) (step : JobStep) (back : Background) → (back_by_step j job step back).stuck ≡ back.stuck
stuck_by_step j job Writing back = refl
stuck_by_step j job Checking back = refl
stuck_by_step j job Committing back = refl
stuck_by_step j job (Over Moved) back = refl
stuck_by_step j job (Over NoSpare) back = refl

-- a turn opens no move and leaves no block stuck as it answers its own
module _ (s : Scene) (ops : List Op) where
  opened_of : (j : ℕ) (o : Option move_job.Job) → (option_map_or (λ job. back_after_job s j job ops) o s.back).opened ≡ s.back.opened
  opened_of j None = refl
  opened_of j (Some job) = opened_by_step j _ _ s.back

  stuck_of : (j : ℕ) (o : Option move_job.Job) → (option_map_or (λ job. back_after_job s j job ops) o s.back).stuck ≡ s.back.stuck
  stuck_of j None = refl
  stuck_of j (Some job) = stuck_by_step j _ _ s.back

  pub opened_by_move : (label : Label) → (back_by_move s label ops).opened ≡ s.back.opened
  opened_by_move (Job j) = opened_of j (job_in s.back.flights j)
  opened_by_move label = refl

  pub stuck_by_move : (label : Label) → (back_by_move s label ops).stuck ≡ s.back.stuck
  stuck_by_move (Job j) = stuck_of j (job_in s.back.flights j)
  stuck_by_move label = refl

-- what a turn leaves in which no move is committed
pub record LeavesMap (s : Scene) (t : Beat) : Type 0 where
  pub map : (scene_after s t).map ≡ s.map
  pub windows : (j : ℕ) → t.label ≡ Job j → (scene_after s t).windows ≡ s.windows
  pub opened : s.back.opened ≤ (scene_after s t).back.opened

pub leaves_map : (s : Scene) (j : ℕ) (entries : List Entry) (ops : List Op) → committed_by s (Job j) ops ≡ None → LeavesMap s (beat (Job j) entries ops)
leaves_map s j entries ops none = record {
  map = ap (λ (o : Option move_job.Job). map_committed o s.map) none;
  windows = λ k same. ap (λ (o : Option move_job.Job). windows_committed o s.windows) none;
  opened = omega (arith, opened_by_move s ops (Job j));
}

-- a commit has operations
commits_by_ops : (s : Scene) (job : move_job.Job) → IsCommit s.map job.chain [] → ⊥
unfolding records_of
commits_by_ops s job (inl none) = cc
commits_by_ops s job (inr torn) =
    true≢false (sym (ends_cut (map Wrote (take torn.0 (records_of (next_map s.map job.chain)))) torn.1 torn.2) ∙ sym (ap is_cut_off torn.4))

-- so a turn without operations commits no move
pub still_uncommitted : (s : Scene) (label : Label) (entries : List Entry) → IsStep s label entries [] → committed_by s label [] ≡ None
still_uncommitted s (Job j) entries (turn, on) = by turn.job.step refl turn.work
  where
    by : (step : JobStep) → turn.job.step ≡ step → IsMoveWork s turn.job step [] → committed_by s (Job j) [] ≡ None
    by Writing is work = uncommitted s j turn.job [] turn.in_flight (λ same. let never : Writing ≡ Committing = sym is ∙ same in cc)
    by Checking is work = uncommitted s j turn.job [] turn.in_flight (λ same. let never : Checking ≡ Committing = sym is ∙ same in cc)
    by Committing is work = absurd (commits_by_ops s turn.job work)
    by (Over end) is work = absurd work
still_uncommitted s label entries step = refl

-- entries bring no move in flight
none_by : (e : Entry) → flights_by [] e ≡ []
none_by (Aborted c) = refl
none_by Cut = refl
none_by e = refl

none_after : (flights : List Flight) (entries : List Entry) → flights ≡ [] → fold flights_by flights entries ≡ []
none_after flights [] none = none
none_after flights (e ∷ entries) none = none_after (flights_by flights e) entries (ap (λ (fs : List Flight). flights_by fs e) none ∙ none_by e)

none_by_move : (s : Scene) (label : Label) (ops : List Op) → s.back.flights ≡ [] → (back_by_move s label ops).flights ≡ []
none_by_move s (Job j) ops none = ap (λ (fs : List Flight). (option_map_or (λ job. back_after_job s j job ops) (job_in fs j) s.back).flights) none ∙ none
none_by_move s label ops none = none

-- where no move is in flight, a turn leaves none
pub stays_flightless : (s : Scene) (t : Beat) → s.back.flights ≡ [] → (scene_after s t).back.flights ≡ []
stays_flightless s t none = none_after (back_by_move s t.label t.ops).flights t.entries (none_by_move s t.label t.ops none)

-- and commits none
pub flightless_uncommitted : (s : Scene) (label : Label) (ops : List Op) → s.back.flights ≡ [] → committed_by s label ops ≡ None
flightless_uncommitted s (Job j) ops none =
    neither (is_cut_off ops) _ (ap (λ (fs : List Flight). option_and_then (λ x. if_committing x x.step) (job_in fs j)) none)
flightless_uncommitted s label ops none = refl
