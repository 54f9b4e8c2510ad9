-- The commands of a set by age.
use Rattle.std.specs.Prelude.{ℕ, ◌<◌, ◌≤◌, List, [], ◌∷◌}
use Rattle.task_set.specs.declared.member.Member.{Member}

-- their numbers ascend, from above one number to another
abbrev pub Between : ℕ → List Member → ℕ → Type 0
Between low [] high = low ≤ high
Between low (m ∷ ms) high = (low < m.task.c) × Between m.task.c ms high
