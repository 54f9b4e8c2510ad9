-- the operations behind those that are left settle nothing there
use Rattle.std.proofs.Common.{◌≡◌, ◌≤◌, length, take}
use Rattle.platter_model.specs.Sector.{meant}
use Rattle.report_text.proofs.strays.meant.Given as goal

abbrev pub invariant-loop-left : goal.invariant-loop-left
invariant-loop-left l = record {
  within : l.left ≤ length l.ops;
  same : meant l.p (take l.left l.ops) ≡ meant l.p l.ops;
}

abbrev pub decreases-loop-left : goal.decreases-loop-left
decreases-loop-left l = l.left
