-- The lines before the place wait.
use Rattle.std.proofs.Common.{◌≡◌, ◌++◌, List, drop}
use Rattle.std.specs.Prelude.{slice_range}
use Rattle.script_text.specs.declared.script.Line.{Line}
use Rattle.history_checker.specs.Parts.{parts_behind}
use Rattle.history_checker.proofs.walk.stop_from.Given as goal

abbrev pub invariant-loop-place : goal.invariant-loop-place
invariant-loop-place l = (waiting : List Line)
    → parts_behind waiting (drop l.from l.lines) ≡ parts_behind (waiting ++ slice_range l.lines l.from l.place) (drop l.place l.lines)
