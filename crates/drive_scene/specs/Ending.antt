-- The command that ends in a turn, as initiators know it.
use Rattle.std.specs.Prelude.{ℕ, List, [], ◌∷◌, Option, Some, None}
use Rattle.std.specs.Option.{option_map}
use Rattle.disk_base.specs.declared.address.Tag.{Tag}
use Rattle.sense_data.specs.declared.reply.Reply.{Reply}
use Rattle.task_set.specs.declared.member.Member.{Member}
use Rattle.task_set.specs.Members.{member_of}
use Rattle.block_machine.specs.declared.entry.Entry.{Entry}
use Rattle.block_machine.specs.declared.entry.Entry.TheVariants.{Arrived, Ended}
use Rattle.drive_scene.specs.declared.answer.Ended as ended
use Rattle.drive_scene.specs.Scene.{Scene}

-- the command that ends in a turn, as the set has it, or as it just came
abbrev pub ended_by : ℕ → Tag → ℕ → ended.Ended
ended_by i tag status = record { initiator = i; tag = tag; status = status }

abbrev pub ended_of_member : Option Member → Reply → Option ended.Ended
ended_of_member member reply = option_map (λ m. ended_by m.task.initiator m.task.tag reply.status) member

abbrev pub ended_in : Scene → List Entry → Option ended.Ended
ended_in s [] = None
ended_in s (Arrived c i tag a cdb sent ∷ Ended d reply ∷ rest) = Some (ended_by i tag reply.status)
ended_in s (Ended c reply ∷ rest) = ended_of_member (member_of s.hist.set c) reply
ended_in s (other ∷ rest) = ended_in s rest
