-- Which commands of a task set may start (SAM-4, task attributes).
use Rattle.std.specs.Prelude.{◌==◌, Bool, false, ◌&&◌, not, nat_lt}
use Rattle.disk_base.specs.declared.command.Attribute.{Attribute}
use Rattle.disk_base.specs.declared.command.Attribute.TheVariants.{Simple, Ordered, Head}
use Rattle.task_set.specs.declared.task.Task.{Task}
use Rattle.task_set.specs.Touch.{collide}

-- whether one command came before another; later ones have greater numbers
abbrev pub is_older : Task → Task → Bool
is_older other task = nat_lt other.c task.c

-- whether another command in the set, of the second attribute, forbids the start of a task of the first
abbrev pub forbids_by : Attribute → Attribute → Task → Task → Bool
-- a HEAD OF QUEUE command may always start
forbids_by Head any other task = false
-- any other may not while a different HEAD OF QUEUE command is in
forbids_by any Head other task = not (other.c == task.c)
-- an ORDERED one may not while an older command is in
forbids_by Ordered any other task = is_older other task
-- a SIMPLE one may not while an older ORDERED one is in
forbids_by any Ordered other task = is_older other task
-- nor while an older SIMPLE one of the same initiator is in that it collides with
forbids_by Simple Simple other task = is_older other task && (other.initiator == task.initiator) && collide other.touch task.touch

-- whether another command in the set forbids the start of a task
abbrev pub forbids : Task → Task → Bool
forbids other task = forbids_by task.attribute other.attribute other task
