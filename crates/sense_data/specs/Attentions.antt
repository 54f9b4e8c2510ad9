-- Unit attention conditions that wait for initiators (SAM-4, unit attention condition).
use Rattle.std.specs.Prelude.{ℕ, ◌-◌, ◌≤◌, length, IsTrue, ◌==◌, ◌&&◌, Bool, true, not, if◌then◌else◌, List, [], ◌∷◌, ◌++◌, drop, replicate, slice_get, slice_index_or, slice_set, Option}
use Rattle.std.specs.Option.{option_map}
use Rattle.std.specs.List.{list_any, list_all}
use Rattle.sense_data.specs.declared.attention.Attention.{Attention}
use Rattle.sense_data.specs.declared.sense.Sense.{Sense}
use Rattle.sense_data.specs.Sense.{sense_of}

-- what waits for each of the eight initiators, first come first; the first list is that of initiator 1
abbrev pub Waiting : Type 0
Waiting = List (List Attention)

-- what waits for one initiator
abbrev pub waiting_for : Waiting → ℕ → List Attention
waiting_for waiting i = slice_index_or waiting (i - 1) []

-- the same lists, but this one for one initiator
abbrev pub with_waiting : Waiting → ℕ → List Attention → Waiting
with_waiting waiting i attentions = slice_set waiting (i - 1) attentions

abbrev pub attention : ℕ → ℕ → Attention
attention asc ascq = record { asc = asc; ascq = ascq }

-- whether two attentions are one
abbrev pub same_attention : Attention → Attention → Bool
same_attention a b = (a.asc == b.asc) && (a.ascq == b.ascq)

-- whether this attention waits in a list
abbrev pub waits_in : Attention → List Attention → Bool
waits_in a attentions = list_any (λ b. same_attention b a) attentions

-- whether no attention waits twice in a list
abbrev pub none_twice : List Attention → Bool
none_twice [] = true
none_twice (a ∷ rest) = not (waits_in a rest) && none_twice rest

-- whether each attention of a list is among these
abbrev pub all_among : List Attention → List Attention → Bool
all_among known attentions = list_all (λ a. waits_in a known) attentions

-- none of these attentions waits twice, and each is among some
abbrev pub AreAmong : List Attention → List Attention → Type 0
AreAmong known attentions = IsTrue (none_twice attentions) × IsTrue (all_among known attentions)

-- a law: where none waits twice and each is among some, no more wait than these
abbrev pub WaitNoMoreThanKnown : Type 0
WaitNoMoreThanKnown = (known attentions : List Attention) → IsTrue (none_twice attentions) → IsTrue (all_among known attentions)
    → length attentions ≤ length known

-- a list with this attention at its end, or as it is where the attention waits already
abbrev pub with_attention : Attention → List Attention → List Attention
with_attention a attentions = if waits_in a attentions then attentions else attentions ++ a ∷ []

-- a law: where none waits twice and each is among some, so it is with one of these raised, and after the first was told
abbrev pub KnownStayKnown : Type 0
KnownStayKnown = (known attentions : List Attention) (a : Attention) → IsTrue (waits_in a known) → AreAmong known attentions
    → AreAmong known (with_attention a attentions) × AreAmong known (drop 1 attentions)

-- after an attention was raised for one initiator
abbrev pub raised : Waiting → ℕ → Attention → Waiting
raised waiting i a = with_waiting waiting i (with_attention a (waiting_for waiting i))

-- after an attention was raised for each initiator whose mark is set; the first mark is that of initiator 1
abbrev pub raised_where : List Bool → Attention → Waiting → Waiting
raised_where [] a waiting = waiting
raised_where (told ∷ marks) a [] = []
raised_where (told ∷ marks) a (attentions ∷ waiting) =
    (if told then with_attention a attentions else attentions) ∷ raised_where marks a waiting

-- after one initiator was told its first attention
abbrev pub first_taken : Waiting → ℕ → Waiting
first_taken waiting i = with_waiting waiting i (drop 1 (waiting_for waiting i))

-- the attention as sense data: UNIT ATTENTION, with its codes
abbrev pub attention_sense : Attention → Sense
attention_sense a = sense_of 6 a.asc a.ascq

-- the sense data of the first attention for one initiator, where any waits
abbrev pub first_of : Waiting → ℕ → Option Sense
first_of waiting i = option_map attention_sense (slice_get (waiting_for waiting i) 0)

-- nothing waits
abbrev pub none_waiting : Waiting
none_waiting = replicate 8 []

-- after power on: that alone, for each initiator
abbrev pub power_on_waiting : Waiting
power_on_waiting = replicate 8 (attention 0x29 0x01 ∷ [])
