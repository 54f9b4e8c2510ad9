-- What is kept stands for a walk, from which one goes past the same phases as from the one at first.
use Rattle.std.proofs.Common.{◌≡◌}
use Rattle.history_checker.specs.Standing.{Keeps, lines_left}
use Rattle.history_checker.specs.Walk.{Walk, settled}
use Rattle.history_checker.proofs.walk.Walk.settle.Given as goal

abbrev pub invariant-phases : goal.invariant-phases
invariant-phases l =
    ((w : Walk) × Keeps l.lines l.self w)
    × ((w : Walk) → Keeps l.lines l.initial.self w → (v : Walk) × Keeps l.lines l.self v × (settled l.idle v ≡ settled l.idle w))

abbrev pub decreases-phases : goal.decreases-phases
decreases-phases l = lines_left l.lines l.self
