-- The initiators before this one of which something arrives.
use Rattle.std.proofs.Common.{◌≡◌, ◌-◌, ◌<◌, ◌≤◌, length, filter, take}
use Rattle.block_machine.specs.Attentions.{initiators}
use Rattle.drive_scene.specs.Able.{arrives}
use Rattle.drive_core.proofs.able.arriving.Given as goal

abbrev pub invariant-loop-number : goal.invariant-loop-number
invariant-loop-number l = record {
  low : 1 ≤ l.number;
  found : l.arriving.items ≡ filter (arrives l.waiting) (take (l.number - 1) initiators);
  few : length l.arriving.items < l.number;
}
