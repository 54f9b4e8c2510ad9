use Rattle.std.proofs.Common.{drop}
use Rattle.script_runner.specs.Wanted.{wanted_of}
use Rattle.script_runner.proofs.Underway.{InScript}
use Rattle.script_runner.proofs.carrying.carry_out.Given as goal

abbrev pub invariant-loop-line : goal.invariant-loop-line
invariant-loop-line l = InScript l.initial.drive l.fn.order.x l.lines (drop l.line-index l.lines) l.drive l.so_far.x (wanted_of l.queued)
