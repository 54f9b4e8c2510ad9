-- the strays among the operations so far, and the ends of the last writes among them
use Rattle.std.proofs.Common.{◌≡◌, ◌≤◌, take}
use Rattle.platter_model.specs.TrueLog.{strays}
use Rattle.report_text.specs.Ends.{AreEnds}
use Rattle.report_text.proofs.strays.strays.Given as goal

abbrev pub invariant-loop-place : goal.invariant-loop-place
invariant-loop-place l = record {
  counted : l.count ≡ strays (take l.place l.ops);
  few : l.count ≤ l.place;
  kept : AreEnds (take l.place l.ops) l.ends;
}
