use Rattle.std.proofs.Common.{◌≡◌, length}
use Rattle.mode_pages.specs.ModeSelect.{pages_taken}
use Rattle.mode_pages.proofs.selecting.with_pages.Given as goal

-- the pages taken so far and those still to come give what all give
abbrev pub invariant-loop-list : goal.invariant-loop-list
invariant-loop-list l = pages_taken 0 l.fn.settings l.fn.list ≡ pages_taken 0 l.taken l.list

abbrev pub decreases-loop-list : goal.decreases-loop-list
decreases-loop-list l = length l.list
