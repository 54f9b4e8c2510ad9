-- a fresh drive of the script's measures
use Rattle.std.proofs.Common.{◌∙◌, ap, List}
use Rattle.disk_base.specs.declared.address.Psn.{Psn}
use Rattle.drive_scene.specs.Run.{run_at_start}
use Rattle.script_runner.proofs.carrying.made.Goals as goal

pub returns-in-Ok : goal.returns-in-Ok
returns-in-Ok c = record {
  size = c.size_of-size.result;
  measures = c.size_of-size.ensures;
  is = c.in-Ok.ensures.0 ∙ ap (λ (xs : List Psn). run_at_start (record { size = c.size_of-size.result; primary = xs })) c.as_slice.ensures.value;
}
