-- What may start, by examples: each rule once where it forbids and once where it doesn't.
use Rattle.std.proofs.Common.{◌≡◌, ℕ, Bool, true, false, List, [], ◌∷◌, Some, None, refl}
use Rattle.disk_base.specs.declared.command.Attribute.{Attribute}
use Rattle.disk_base.specs.declared.command.Attribute.TheVariants.{Simple, Ordered, Head}
use Rattle.task_set.specs.declared.member.Member.{Member}
use Rattle.task_set.specs.declared.task.Touch.{Touch}
use Rattle.task_set.specs.declared.task.Touch.TheVariants.{Nothing, Range, All}
use Rattle.task_set.specs.Members.{blocker_of, with_started, without}

-- a waiting command: its number, initiator, attribute and touch; the tag is the number
abbrev waiting : ℕ → ℕ → Attribute → Touch → Member
waiting c i a touch = record { task = record { c = c; initiator = i; tag = record { 0 = c }; attribute = a; touch = touch }; started = false }

abbrev reading : ℕ → ℕ → Touch
reading from count = Range from count false

abbrev writing : ℕ → ℕ → Touch
writing from count = Range from count true

-- an ORDERED command in front of a SIMPLE and a HEAD OF QUEUE one
abbrev ordered_in_front : List Member
ordered_in_front = waiting 1 1 Ordered Nothing ∷ waiting 2 2 Simple Nothing ∷ []

simple-behind_ordered : blocker_of ordered_in_front 2 ≡ Some 1
simple-behind_ordered = refl

ordered-in_front : blocker_of ordered_in_front 1 ≡ None
ordered-in_front = refl

simple-after_ordered : blocker_of (without ordered_in_front 1) 2 ≡ None
simple-after_ordered = refl

ordered-behind_simple : blocker_of (waiting 1 1 Simple Nothing ∷ waiting 2 2 Ordered Nothing ∷ []) 2 ≡ Some 1
ordered-behind_simple = refl

simple-in_front_of_ordered : blocker_of (waiting 1 1 Simple Nothing ∷ waiting 2 2 Ordered Nothing ∷ []) 1 ≡ None
simple-in_front_of_ordered = refl

-- a HEAD OF QUEUE command waits for none, not for another one, and keeps every other
abbrev head_behind : List Member
head_behind = waiting 1 1 Ordered Nothing ∷ waiting 2 2 Head All ∷ waiting 3 1 Head All ∷ []

head-behind_ordered : blocker_of head_behind 2 ≡ None
head-behind_ordered = refl

head-behind_head : blocker_of head_behind 3 ≡ None
head-behind_head = refl

ordered-in_front_of_head : blocker_of head_behind 1 ≡ Some 2
ordered-in_front_of_head = refl

simple-in_front_of_head : blocker_of (waiting 1 1 Simple Nothing ∷ waiting 2 2 Head Nothing ∷ []) 1 ≡ Some 2
simple-in_front_of_head = refl

-- a command that was started isn't stopped by a later arrival
started-in_front_of_head : blocker_of (with_started head_behind 1) 1 ≡ None
started-in_front_of_head = refl

-- what keeps the second of two SIMPLE commands, by their initiators and touches
abbrev second_of : ℕ → Touch → ℕ → Touch → Bool
second_of i a j b = elim (blocker_of (waiting 1 i Simple a ∷ waiting 2 j Simple b ∷ []) 2) [ None ↦ false | Some _ ↦ true ]

two_reads : second_of 1 (reading 0 8) 1 (reading 4 8) ≡ false
two_reads = refl

write_before_read : second_of 1 (writing 0 8) 1 (reading 7 8) ≡ true
write_before_read = refl

read_before_write : second_of 1 (reading 7 8) 1 (writing 0 8) ≡ true
read_before_write = refl

neighbours : second_of 1 (writing 0 8) 1 (writing 8 8) ≡ false
neighbours = refl

other_initiator : second_of 1 (writing 0 8) 2 (writing 0 8) ≡ false
other_initiator = refl

no_blocks : second_of 1 (writing 0 8) 1 (reading 4 0) ≡ false
no_blocks = refl

every_block : second_of 1 All 1 (reading 900 1) ≡ true
every_block = refl

every_block_and_none : second_of 1 All 1 (reading 900 0) ≡ false
every_block_and_none = refl

every_block_and_nothing : second_of 1 All 1 Nothing ≡ false
every_block_and_nothing = refl

past_the_greatest_address : second_of 1 (writing 0xFFFF_FFFF_FFFF_FFFF 2) 1 (reading 0 1) ≡ false
past_the_greatest_address = refl
