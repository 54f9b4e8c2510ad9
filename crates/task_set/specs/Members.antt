-- What is in a task set, by age.
use Rattle.std.specs.Prelude.{ℕ, ◌<◌, ◌==◌, Bool, true, false, ◌&&◌, not, if◌then◌else◌, List, [], ◌∷◌, ◌++◌, map, filter, find, Option, None, IsSome, AllPairs, length, ◌≡◌}
use Rattle.std.specs.Option.{option_map, option_and_then}
use Rattle.disk_base.specs.declared.address.Tag.{Tag}
use Rattle.task_set.specs.declared.member.Member.{Member}
use Rattle.task_set.specs.declared.named.Named.{Named}
use Rattle.task_set.specs.declared.named.Named.TheVariants.{Tagged, Of, Everyone}
use Rattle.task_set.specs.declared.task.Task.{Task}
use Rattle.task_set.specs.MayStart.{forbids}

-- the command of a number, where it is in
abbrev pub member_of : List Member → ℕ → Option Member
member_of set c = find (λ m. m.task.c == c) set

-- the command of this number is in
abbrev pub IsIn : List Member → ℕ → Type 0
IsIn set c = IsSome (member_of set c)

-- the oldest command in the set that forbids the start of a task
abbrev pub first_forbidding : List Member → Task → Option ℕ
first_forbidding set task = option_map (λ m. m.task.c) (find (λ m. forbids m.task task) set)

-- the oldest command that keeps another from running; none where that one was started, or is free to start
abbrev pub blocker_of : List Member → ℕ → Option ℕ
blocker_of set c = option_and_then (λ m. if m.started then None else first_forbidding set m.task) (member_of set c)

-- the set with a new command in it
abbrev pub with_arrived : List Member → Task → List Member
with_arrived set task = set ++ record { task = task; started = false } ∷ []

-- a command of the set, started where it is the one of this number
abbrev pub started_at : ℕ → Member → Member
started_at c m = if m.task.c == c then record m { started = true } else m

-- the set after a command was started
abbrev pub with_started : List Member → ℕ → List Member
with_started set c = map (started_at c) set

-- the set without a command
abbrev pub without : List Member → ℕ → List Member
without set c = filter (λ m. not (m.task.c == c)) set

-- numbers of commands, by age
abbrev pub numbers : List Member → List ℕ
numbers set = map (λ m. m.task.c) set

-- whether a command is this initiator's (SAM-4, ABORT TASK SET)
abbrev pub is_of : ℕ → Member → Bool
is_of i m = m.task.initiator == i

-- whether a command is this initiator's and has this tag (SAM-4, ABORT TASK)
abbrev pub is_tagged : ℕ → Tag → Member → Bool
is_tagged i tag m = is_of i m && (m.task.tag.0 == tag.0)

-- each command is older than those behind it
abbrev pub IsByAge : List Member → Type 0
IsByAge set = AllPairs (λ a b. a.task.c < b.task.c) set

-- the commands that a task management function names: one initiator's of one tag, one initiator's, or all
abbrev pub is_named : Named → Member → Bool
is_named (Tagged i tag) m = is_tagged i tag m
is_named (Of i) m = is_of i m
is_named Everyone m = true

-- a law: of the commands of a set that isn't empty, one was started or is free to start
abbrev pub SomeCommandMayRun : Type 0
SomeCommandMayRun = (set : List Member) → IsByAge set → 0 < length set → (c : ℕ) × IsIn set c × (blocker_of set c ≡ None)
