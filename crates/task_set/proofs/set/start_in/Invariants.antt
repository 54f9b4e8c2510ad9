use Rattle.std.proofs.Common.{◌≡◌, ◌++◌, map, take, drop}
use Rattle.task_set.specs.Members.{started_at}
use Rattle.task_set.proofs.set.start_in.Given as goal

-- those looked at so far are marked where they have the number, the others are as they were
abbrev pub invariant-loop-member : goal.invariant-loop-member
invariant-loop-member l = l.members ≡ map (started_at l.c) (take l.member-index l.initial.members) ++ drop l.member-index l.initial.members
