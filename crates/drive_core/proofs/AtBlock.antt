-- Where a command at the block that comes next stands.
use Rattle.std.proofs.Common.{◌≡◌, ◌<◌, false, [], length, sym, ap, arith}
use Rattle.std.specs.Option.{is_some}
use Rattle.mode_pages.specs.declared.settings.Settings.{Settings}
use Rattle.read_recovery.specs.Stages.{Progress, begun}
use Rattle.read_recovery.proofs.Table.{plain_stage}
use Rattle.cdb_reader.specs.declared.plan.Reading as reading
use Rattle.cdb_reader.specs.declared.plan.Writing as writing
use Rattle.cdb_reader.specs.declared.plan.Syncing as syncing
use Rattle.cdb_reader.specs.declared.plan.Plan.{Plan}
use Rattle.cdb_reader.specs.declared.plan.Plan.TheVariants.{Reading, Writing, Syncing}
use Rattle.command_engine.specs.declared.step.Step.{Step}
use Rattle.command_engine.specs.declared.step.Step.TheVariants.{Trying}
use Rattle.drive_scene.specs.After.{last_found}
use Rattle.drive_scene.specs.View.{View}
use Rattle.drive_core.specs.Commands.{IsAtBlock, IsTrying}

-- it reads, writes or syncs: what holds of these three holds of it
pub at_block : (v : View) (P : Plan → Step → Type 0) → ((r : reading.Reading) (p : Progress) → IsTrying v r p → P (Reading r) (Trying p))
    → ((w : writing.Writing) (p : Progress) → (v.window ≡ []) × (w.at < w.end) × (w.owes_harden ≡ false) → P (Writing w) (Trying p))
    → ((y : syncing.Syncing) (p : Progress) → (v.window ≡ []) × (y.at < y.end) → P (Syncing y) (Trying p))
    → (plan : Plan) (step : Step) → IsAtBlock v plan step → P plan step
at_block v P reads writes syncs (Reading r) (Trying p) at = reads r p at
at_block v P reads writes syncs (Writing w) (Trying p) at = writes w p at
at_block v P reads writes syncs (Syncing y) (Trying p) at = syncs y p at
at_block v P reads writes syncs plan step at = absurd at

-- a read before the tries of a block
pub first_read : (v : View) (r : reading.Reading) (settings : Settings) → r.at < r.end → v.window ≡ [] → v.settings ≡ settings → v.holds_dirty ≡ false
    → IsTrying v r (begun settings.retry)
first_read v r settings left window same clean = record {
  left = left;
  next = ap is_some (plain_stage settings.retry 0 (omega arith));
  retry = sym (ap (λ (x : Settings). x.retry) same);
  failed = window;
  unfound = ap last_found window;
  tried = ap length window;
  clean = clean;
}
