-- Whom an attention is raised for.
use Rattle.std.specs.Prelude.{ℕ, ◌≤◌, ◌==◌, ◌&&◌, Bool, not, List, [], ◌∷◌, length, IsTrue}
use Rattle.std.specs.List.{list_any}
use Rattle.sense_data.specs.declared.attention.Attention.{Attention}
use Rattle.sense_data.specs.Attentions.{Waiting, all_among, attention, none_twice, waiting_for, with_attention}
use Rattle.task_set.specs.Members.{IsIn, is_of}
use Rattle.task_set.specs.declared.member.Member.{Member}
use Rattle.block_machine.specs.declared.entry.Entry.{Entry}
use Rattle.block_machine.specs.declared.entry.Entry.TheVariants.{Started, Mode}
use Rattle.block_machine.specs.declared.turn.Label.{Label}
use Rattle.block_machine.specs.declared.turn.Label.TheVariants.{Work}
use Rattle.block_machine.specs.State.{State, Duty, state_at_start}

-- with one more attention, no more than eight wait for each initiator
abbrev pub HasRoom : Attention → Waiting → Type 0
HasRoom a waiting = (i : ℕ) → length (with_attention a (waiting_for waiting i)) ≤ 8

-- another than this one
abbrev pub is_another : ℕ → ℕ → Bool
is_another i j = not (j == i)

-- another than this one that has a command among these
abbrev pub is_cleared : ℕ → List Member → ℕ → Bool
is_cleared i set j = not (j == i) && list_any (is_of j) set

-- the attentions that are ever raised: power on, reset, changed mode values, cleared commands
abbrev pub known_attentions : List Attention
known_attentions = attention 0x29 0x01 ∷ attention 0x29 0x03 ∷ attention 0x2A 0x01 ∷ attention 0x2F 0x00 ∷ []

-- a list of some of them, none twice
abbrev pub AreKnown : List Attention → Type 0
AreKnown attentions = IsTrue (none_twice attentions) × IsTrue (all_among known_attentions attentions)

-- no others wait, for anyone
abbrev pub KnownWait : Waiting → Type 0
KnownWait waiting = (i : ℕ) → AreKnown (waiting_for waiting i)

-- a state in which these attentions wait and these commands are in, each with this duty
abbrev pub waiting_state : Waiting → List Member → Duty → State
waiting_state waiting set duty = record (state_at_start waiting) { set = set; duties = λ c. duty }

-- the command that an entry starts, or whose mode values change, is in
abbrev pub NamesOneThatIsIn : Label → List Member → Entry → Type 0
NamesOneThatIsIn label set (Started c) = IsIn set c
NamesOneThatIsIn (Work c) set (Mode settings) = IsIn set c
NamesOneThatIsIn label set other = Unit {0}
