-- No move is in flight in a run, since nothing opens one yet: no turn is one of a move, and turns leave the map.
use Rattle.std.proofs.Common.{◌≡◌, ℕ, List, [], ◌∷◌, Option, None, refl, ap}
use Rattle.std.specs.Prelude.{fold, All}
use Rattle.move_jobs.specs.Job.{Job as Move}
use Rattle.platter_model.specs.declared.op.Op.{Op}
use Rattle.block_machine.specs.declared.entry.Entry.{Entry}
use Rattle.block_machine.specs.declared.turn.Label.{Label}
use Rattle.block_machine.specs.declared.turn.Label.TheVariants.{Job}
use Rattle.move_table.specs.declared.flight.Flight.{Flight}
use Rattle.drive_scene.specs.Scene.{Scene, Beat, scene_at_start}
use Rattle.drive_scene.specs.After.{map_committed, windows_committed, windows_by, scene_after}
use Rattle.move_table.specs.Table.{job_in}
use Rattle.drive_scene.specs.MoveTurn.{IsMoveTurn}
use Rattle.drive_scene.specs.GoodTurn.{GoodTurn, IsStep, WritesBlocks, WritesBlockData}
use Rattle.drive_scene.specs.Run.{Run, beats_of, scene_of}
use Rattle.drive_scene.proofs.Uncommitted.{stays_flightless, flightless_uncommitted}

pub flightless_along : (s : Scene) (turns : List Beat) → s.back.flights ≡ [] → (fold scene_after s turns).back.flights ≡ []
flightless_along s [] none = none
flightless_along s (t ∷ turns) none = flightless_along (scene_after s t) turns (stays_flightless s t none)

pub flightless : (r : Run) → (scene_of r).back.flights ≡ []
flightless r = flightless_along (scene_at_start r.made) (beats_of r) refl

pub same_map : (s : Scene) (t : Beat) → s.back.flights ≡ [] → (scene_after s t).map ≡ s.map
same_map s t none = ap (λ (o : Option Move). map_committed o s.map) (flightless_uncommitted s t.label t.ops none)

-- the windows are those of the turn's own command
pub windows_then : (s : Scene) (t : Beat) → s.back.flights ≡ [] → (scene_after s t).windows ≡ windows_by t.label s.windows t
windows_then s t none = ap (λ (o : Option Move). windows_committed o (windows_by t.label s.windows t)) (flightless_uncommitted s t.label t.ops none)

no_move : (s : Scene) (j : ℕ) (entries : List Entry) (ops : List Op) → s.back.flights ≡ [] → IsMoveTurn s j entries ops → ⊥
no_move s j entries ops none turn =
    let gone : job_in s.back.flights j ≡ None = ap (λ (fs : List Flight). job_in fs j) none in
    let there = turn.in_flight in
    cc

-- so a turn writes blocks' data alone
blocks_by : (s : Scene) (label : Label) (entries : List Entry) (ops : List Op) → s.back.flights ≡ [] → IsStep s label entries ops
    → WritesBlocks s.map label entries ops → All (WritesBlockData s.map entries) ops
blocks_by s (Job j) entries ops none step written = absurd (no_move s j entries ops none step.0)
blocks_by s label entries ops none step written = written

pub writes_blocks : (s : Scene) (t : Beat) → s.back.flights ≡ [] → GoodTurn s t → All (WritesBlockData s.map t.entries) t.ops
writes_blocks s t none good = blocks_by s t.label t.entries t.ops none good.step good.written
