use Rattle.std.proofs.Common.{◌≡◌, ◌≤◌, length, filter, take}
use Rattle.task_set.specs.Members.{numbers, is_named}
use Rattle.task_set.proofs.set.numbers_of.Given as goal

-- the numbers of the named ones of those looked at so far
abbrev pub invariant-loop-member : goal.invariant-loop-member
invariant-loop-member l =
    (l.gone.items ≡ numbers (filter (is_named l.named) (take l.member-index l.members))) × (length l.gone.items ≤ l.member-index)
