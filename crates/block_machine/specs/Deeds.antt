-- What an entry is for the command that it belongs to.
use Rattle.std.specs.Prelude.{ℕ, Bool, false, nat_le, if◌then◌else◌, List, take, length, Option, Some, None, Result, Ok}
use Rattle.std.specs.Option.{option_map_or, option_and_then}
use Rattle.sense_data.specs.declared.sense.Sense.{Sense}
use Rattle.sense_data.specs.declared.reply.Reply.{Reply}
use Rattle.cdb_reader.specs.declared.plan.Plan.{Plan}
use Rattle.cdb_reader.specs.declared.plan.Deed.{Deed}
use Rattle.cdb_reader.specs.declared.plan.Deed.TheVariants as deed
use Rattle.cdb_reader.specs.Plan.{next}
use Rattle.cdb_reader.specs.Request.{Request, ReadDefectData}
use Rattle.block_machine.specs.declared.entry.Who.TheVariants.{Command}
use Rattle.block_machine.specs.declared.entry.Entry.{Entry}
use Rattle.block_machine.specs.declared.entry.Entry.TheVariants.{Get, Put, Harden, Passed, Page, Ended, Mode}
use Rattle.block_machine.specs.declared.turn.Label.{Label}
use Rattle.block_machine.specs.declared.turn.Label.TheVariants.{Work}
use Rattle.block_machine.specs.Blocks.{is_dirty, without_address}
use Rattle.block_machine.specs.DriveOnly.{has_defect_length}
use Rattle.block_machine.specs.State.{State, owed_by}

-- a command and what it did
pub record Done : Type 0 where
  pub c : ℕ
  pub what : Deed

-- the command of this number did this
abbrev pub done : ℕ → Deed → Option Done
done c what = Some (record { c = c; what = what })

-- a put is to go on to the medium where so many other blocks are dirty
abbrev pub dirty_at_most : ℕ
dirty_at_most = 64

-- so many blocks besides this one were dirty when the command's last turn of work began
abbrev pub is_crowded : State → ℕ → ℕ → Bool
is_crowded s c b = nat_le dirty_at_most (length (without_address b (s.duties c).dirty_then))

-- the block that a reply's sense data name is dirty
abbrev pub names_dirty : State → Reply → Bool
names_dirty s reply =
    option_map_or (λ b. is_dirty (s.blocks b)) (option_and_then (λ sense. sense.information) reply.sense) false

-- what data are for the plan of their command: themselves; of READ DEFECT DATA their heading, where the rest has its form
abbrev pub page_done : Result Request Sense → ℕ → List ℕ → Option Done
page_done (Ok (ReadDefectData primary grown format allocation)) c bytes =
    if has_defect_length allocation bytes then done c (deed.Page (take 2 bytes)) else None
page_done other c bytes = done c (deed.Page bytes)

-- what an entry of a turn is for its command, where it belongs to one; a change of mode values is that of the command at work
abbrev pub done_by : Label → State → Entry → Option Done
done_by label s (Get c b v) = done c (deed.Got b v (is_dirty (s.blocks b.0)))
done_by label s (Put c b v) = done c (deed.Put b v (is_crowded s c b.0))
done_by label s (Harden (Command c) b) = done c (deed.Hardened b)
done_by label s (Passed c from to) = done c (deed.Passed from to)
done_by label s (Page c bytes) = page_done (s.duties c).asks c bytes
done_by label s (Ended c reply) = done c (deed.Ended reply (names_dirty s reply))
done_by (Work c) s (Mode settings) = done c deed.Mode
done_by label s other = None

-- what the command still owes after that; nothing stands for a deed that its plan doesn't allow
abbrev pub owed_after : State → Done → Option Plan
owed_after s d = option_and_then (λ plan. next plan d.what) (owed_by s d.c)
