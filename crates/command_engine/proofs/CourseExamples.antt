-- Commands on their way: answers that fit, answers that don't, and how each command ends.
use Rattle.std.proofs.Common.{◌≡◌, ℕ, Bool, true, false, List, [], ◌∷◌, Some, None, refl}
use Rattle.std.specs.Prelude.{Option, replicate, pos}
use Rattle.disk_base.specs.declared.block.Value.TheVariants.{Data, Lost}
use Rattle.disk_base.specs.declared.command.DataOut.TheVariants.{Fill}
use Rattle.disk_base.specs.declared.stage.How.TheVariants.{Light}
use Rattle.disk_base.specs.declared.stage.MoveWhy.TheVariants.{Dirty, Reassign, GivenUp}
use Rattle.disk_base.specs.Along.{all_along}
use Rattle.sense_data.specs.declared.reply.Reply.{Reply}
use Rattle.sense_data.specs.Sense.{sense_of}
use Rattle.read_recovery.specs.Stages.{stage}
use Rattle.mode_pages.specs.declared.settings.Settings.{Settings}
use Rattle.cdb_reader.specs.Replies.{good, check_condition, medium_error, unrecovered_read, no_spare}
use Rattle.cdb_reader.specs.Request.{Request, ReassignBlocks, Read, Write, WriteAndVerify, Verify, SynchronizeCache, Inquiry, ReadDefectData}
use Rattle.cdb_reader.specs.declared.plan.Deed.{Deed}
use Rattle.cdb_reader.specs.declared.plan.Deed.TheVariants as deed
use Rattle.cdb_reader.specs.declared.plan.Plan.TheVariants as plan
use Rattle.command_engine.specs.declared.answer.Answer.{Answer}
use Rattle.command_engine.specs.declared.answer.Answer.TheVariants.{Got, Missed, Put, Hardened, WriteFault, NextDirty, Moved, NoSpare, Paged}
use Rattle.command_engine.specs.declared.need.Need.TheVariants as need
use Rattle.command_engine.specs.Course.{Course, course_of}
use Rattle.command_engine.specs.Need.{lba, need_of}
use Rattle.command_engine.specs.Ending.{ending_of}
use Rattle.command_engine.specs.Answers.{fits, after, deeds_of}

-- two retries, recovered errors reported, no reallocation; and the same with it
abbrev plain : Settings
plain = record { awre = false; arre = false; per = true; retry = 2; wce = true; rcd = false; bms = true }

abbrev reallocating : Settings
reallocating = record { awre = true; arre = false; per = true; retry = 2; wce = true; rcd = false; bms = true }

abbrev of_sevens : Request → Settings → Course
of_sevens request settings = course_of request (Fill 7) settings

-- all answers fit, one after another
abbrev fit : Request → Settings → List Answer → Bool
fit request settings answers = all_along after fits (of_sevens request settings) answers

-- where a command stands after some answers
abbrev then : Course → List Answer → Course
then c [] = c
then c (a ∷ answers) = then (after c a) answers

-- how a command ends after some answers
abbrev ends : Request → List Answer → Option Reply
ends request answers = ending_of (then (of_sevens request plain) answers)

abbrev got : Answer
got = Got (Data (replicate 512 7))

abbrev dirty_at : ℕ → Answer
dirty_at b = NextDirty (Some (lba b))

-- a read: found at once, by the first retry, by no stage, lost
read_fits : fit (Read 7 1 false) plain (Missed ∷ Missed ∷ got ∷ []) ≡ true
read_fits = refl

read_is_good : ends (Read 7 1 false) (got ∷ []) ≡ Some good
read_is_good = refl

read_is_recovered : ends (Read 7 2 false) (Missed ∷ got ∷ got ∷ []) ≡ Some (check_condition (record (sense_of 1 0x17 0x01) { information = Some 7 }))
read_is_recovered = refl

read_goes_on : ends (Read 7 1 false) (Missed ∷ Missed ∷ Missed ∷ Missed ∷ Missed ∷ Missed ∷ []) ≡ None
read_goes_on = refl

read_fails : ends (Read 7 1 false) (Missed ∷ Missed ∷ Missed ∷ Missed ∷ Missed ∷ Missed ∷ Missed ∷ []) ≡ Some (unrecovered_read 7)
read_fails = refl

read_is_lost : ends (Read 7 2 false) (got ∷ Got Lost ∷ []) ≡ Some (unrecovered_read 8)
read_is_lost = refl

-- no answer after the end; no eighth stage; a plain read takes a dirty value
no_answer_after_the_end : fit (Read 7 1 false) plain (got ∷ got ∷ []) ≡ false
no_answer_after_the_end = refl

no_eighth_stage : fit (Read 7 1 false) plain (Missed ∷ Missed ∷ Missed ∷ Missed ∷ Missed ∷ Missed ∷ Missed ∷ Missed ∷ []) ≡ false
no_eighth_stage = refl

dirty_value_is_read : fit (Read 7 1 false) plain (dirty_at 7 ∷ []) ≡ false
dirty_value_is_read = refl

-- a verification: a dirty block is hardened once, and then read
verification_hardens : fit (Verify 7 1) plain (dirty_at 7 ∷ Hardened ∷ got ∷ []) ≡ true
verification_hardens = refl

verification_is_good : ends (Verify 7 1) (dirty_at 7 ∷ Hardened ∷ got ∷ []) ≡ Some good
verification_is_good = refl

not_another_block : fit (Verify 7 1) plain (dirty_at 8 ∷ []) ≡ false
not_another_block = refl

not_dirty_twice : fit (Verify 7 1) plain (dirty_at 7 ∷ Hardened ∷ dirty_at 7 ∷ []) ≡ false
not_dirty_twice = refl

-- a write: into the cache, or to its place where the cache is full; with FUA to its place alone
write_fits : fit (Write 7 2 false) plain (Put ∷ Hardened ∷ []) ≡ true
write_fits = refl

write_through_is_not_put : fit (Write 7 1 true) plain (Put ∷ []) ≡ false
write_through_is_not_put = refl

write_is_not_over : ends (Write 7 2 false) (Put ∷ []) ≡ None
write_is_not_over = refl

write_faults : ends (Write 7 2 true) (Hardened ∷ WriteFault ∷ []) ≡ Some (medium_error 0x0C 0x00 8)
write_faults = refl

no_fault_with_reallocation : fit (Write 7 1 true) reallocating (WriteFault ∷ []) ≡ false
no_fault_with_reallocation = refl

-- a write that is verified isn't over when all is written
write_is_verified : need_of (then (of_sevens (WriteAndVerify 7 1) plain) (Hardened ∷ []))
    ≡ need.Take (lba 7) true (stage 0 0 (pos 0) Light)
write_is_verified = refl

-- a sync: block by block up to the end
sync_fits : fit (SynchronizeCache 3 9) plain (dirty_at 5 ∷ Hardened ∷ dirty_at 6 ∷ Hardened ∷ NextDirty None ∷ []) ≡ true
sync_fits = refl

sync_is_good : ends (SynchronizeCache 3 9) (dirty_at 11 ∷ Hardened ∷ []) ≡ Some good
sync_is_good = refl

sync_is_not_over : ends (SynchronizeCache 3 9) (dirty_at 5 ∷ Hardened ∷ []) ≡ None
sync_is_not_over = refl

not_before_the_range : fit (SynchronizeCache 3 9) plain (dirty_at 2 ∷ []) ≡ false
not_before_the_range = refl

not_behind_the_range : fit (SynchronizeCache 3 9) plain (dirty_at 12 ∷ []) ≡ false
not_behind_the_range = refl

-- blocks to be moved: the first is dirty, the second is found by the plain read
abbrev two : Request
two = ReassignBlocks (lba 5 ∷ lba 9 ∷ [])

two_fit : fit two plain (dirty_at 5 ∷ Moved ∷ got ∷ Moved ∷ []) ≡ true
two_fit = refl

dirty_is_moved : need_of (then (of_sevens two plain) (dirty_at 5 ∷ [])) ≡ need.Move (lba 5) Dirty
dirty_is_moved = refl

found_is_moved : need_of (then (of_sevens two plain) (dirty_at 5 ∷ Moved ∷ got ∷ [])) ≡ need.Move (lba 9) Reassign
found_is_moved = refl

lost_mark_is_moved : need_of (then (of_sevens two plain) (Got Lost ∷ [])) ≡ need.Move (lba 5) Reassign
lost_mark_is_moved = refl

two_are_good : ends two (dirty_at 5 ∷ Moved ∷ got ∷ Moved ∷ []) ≡ Some good
two_are_good = refl

one_is_not_enough : ends two (dirty_at 5 ∷ Moved ∷ got ∷ []) ≡ None
one_is_not_enough = refl

-- what is read for a move comes from the medium, and no value is moved that isn't known
read_for_a_move : need_of (of_sevens two plain) ≡ need.Take (lba 5) true (stage 0 0 (pos 0) Light)
read_for_a_move = refl

not_moved_unread : fit two plain (Moved ∷ []) ≡ false
not_moved_unread = refl

-- the deeds of a move: that of a dirty block hardens it, that of a found one leaves none
abbrev deeds_then : List Answer → Answer → List Deed
deeds_then answers a = deeds_of (then (of_sevens two plain) answers) a (record { page = []; dirty = true; full = false })

dirty_is_hardened : deeds_then (dirty_at 5 ∷ []) Moved ≡ deed.Hardened (lba 5) ∷ []
dirty_is_hardened = refl

found_is_not_hardened : deeds_then (got ∷ []) Moved ≡ []
found_is_not_hardened = refl

read_for_a_move_is_no_get : deeds_then [] got ≡ []
read_for_a_move_is_no_get = refl

-- a block that every stage fails of is given up: it is lost, and moved as that
abbrev seven : List Answer
seven = Missed ∷ Missed ∷ Missed ∷ Missed ∷ Missed ∷ Missed ∷ Missed ∷ []

given_up_is_moved : need_of (then (of_sevens two plain) seven) ≡ need.Move (lba 5) GivenUp
given_up_is_moved = refl

given_up_is_hardened : deeds_then seven Moved ≡ deed.Hardened (lba 5) ∷ []
given_up_is_hardened = refl

given_up_leaves_no_get : deeds_then (Missed ∷ Missed ∷ Missed ∷ Missed ∷ Missed ∷ Missed ∷ []) Missed ≡ []
given_up_leaves_no_get = refl

-- without a spare a list ends at the first block that isn't reassigned
spareless_at_the_first : ends two (got ∷ NoSpare ∷ []) ≡ Some (no_spare 5)
spareless_at_the_first = refl

spareless_at_the_second : ends two (got ∷ Moved ∷ got ∷ NoSpare ∷ []) ≡ Some (no_spare 9)
spareless_at_the_second = refl

nothing_after_no_spare : fit two plain (got ∷ NoSpare ∷ got ∷ []) ≡ false
nothing_after_no_spare = refl

-- a block that is named twice is moved twice; its hardening counts at its first place among those left
abbrev same_twice : Request
same_twice = ReassignBlocks (lba 5 ∷ lba 5 ∷ [])

moved_twice : ends same_twice (got ∷ Moved ∷ dirty_at 5 ∷ Moved ∷ []) ≡ Some good
moved_twice = refl

not_moved_once : ends same_twice (got ∷ Moved ∷ []) ≡ None
not_moved_once = refl

hardened_at_its_first_place : (then (of_sevens same_twice plain) (got ∷ Moved ∷ dirty_at 5 ∷ Moved ∷ [])).plan
    ≡ plan.Moving (record { blocks = lba 5 ∷ lba 5 ∷ []; hardened = 1 })
hardened_at_its_first_place = refl

-- no blocks
no_blocks_are_good : ends (ReassignBlocks []) [] ≡ Some good
no_blocks_are_good = refl

-- bytes that aren't blocks
page_is_given : ends (Inquiry false 0 36) (Paged ∷ []) ≡ Some good
page_is_given = refl

other_format_is_told : ends (ReadDefectData true true 0 255) (Paged ∷ []) ≡ Some (check_condition (sense_of 1 0x1C 0x00))
other_format_is_told = refl

page_is_asked_for : fit (Inquiry false 0 36) plain (Missed ∷ []) ≡ false
page_is_asked_for = refl
