-- How a started command ends.
use Rattle.std.specs.Prelude.{ℕ, zero, suc, nat_lt, Bool, true, false, if◌then◌else◌, pos, negsuc, ℤ, Option, Some, None}
use Rattle.disk_base.specs.declared.stage.How.{How}
use Rattle.disk_base.specs.declared.stage.How.TheVariants.{Light}
use Rattle.disk_base.specs.declared.stage.Stage.{Stage}
use Rattle.sense_data.specs.declared.sense.Sense.{Sense}
use Rattle.sense_data.specs.declared.reply.Reply.{Reply}
use Rattle.sense_data.specs.Sense.{sense_of}
use Rattle.cdb_reader.specs.declared.plan.Plan.{Plan}
use Rattle.cdb_reader.specs.declared.plan.Plan.TheVariants.{Ending, Unread, Reading, Writing, Syncing, Moving}
use Rattle.disk_base.specs.declared.address.Lba.{Lba}
use Rattle.cdb_reader.specs.Replies.{good, check_condition, medium_error, unrecovered_read, no_spare}
use Rattle.command_engine.specs.declared.step.Recovery.{Recovery}
use Rattle.command_engine.specs.declared.step.Step.{Step}
use Rattle.command_engine.specs.declared.step.Step.TheVariants.{Faulted, Spareless}
use Rattle.command_engine.specs.Course.{Course}
use Rattle.command_engine.specs.Need.{in_hand}

-- WRITE ERROR at a block
abbrev pub write_error : ℕ → Reply
write_error b = medium_error 0x0C 0x00 b

-- the additional sense code of a block that was found past the plain read: by reading again, with the head beside the track's
-- middle on either side, or by a decoding that corrects more
abbrev pub code_by : How → ℤ → Sense
code_by Light (pos zero) = sense_of 1 0x17 0x01
code_by Light (pos (suc n)) = sense_of 1 0x17 0x02
code_by Light (negsuc n) = sense_of 1 0x17 0x03
code_by how offset = sense_of 1 0x18 0x01

abbrev pub code_of : Stage → Sense
code_of stage = code_by stage.how stage.offset

-- RECOVERED ERROR at a block, by the stage that found it
abbrev pub recovered_error : Recovery → Reply
recovered_error r = check_condition (record (code_of r.stage) { information = Some r.b.0 })

-- the reply to a read whose blocks were all found: the last recovery, where it is to be reported
abbrev pub report_of : Bool → Option Recovery → Reply
report_of true (Some recovery) = recovered_error recovery
report_of reports recovered = good

-- a command ends at a block where a write of it faulted
abbrev pub fault_at : Step → ℕ → Option Reply
fault_at Faulted b = Some (write_error b)
fault_at step b = None

-- a command ends so before its last block, and with a reply behind it
abbrev pub ended : Bool → Step → ℕ → Reply → Option Reply
ended is_left step b reply = if is_left then fault_at step b else Some reply

-- a list of blocks ends with GOOD behind its last one, and for want of a spare at the first one that isn't reassigned
abbrev pub ended_move : Option Lba → Step → Option Reply
ended_move None step = Some good
ended_move (Some b) Spareless = Some (no_spare b.0)
ended_move (Some b) step = None

abbrev pub ending_by : Plan → ℕ → Step → Option Recovery → Option Reply
ending_by (Ending reply) moved step recovered = Some reply
ending_by (Unread b) moved step recovered = Some (unrecovered_read b)
ending_by (Reading r) moved step recovered = ended (nat_lt r.at r.end) step r.at (report_of r.reports recovered)
ending_by (Writing w) moved step recovered = ended (nat_lt w.at w.end) step w.at good
ending_by (Syncing s) moved step recovered = ended (nat_lt s.at s.end) step s.at good
ending_by (Moving m) moved step recovered = ended_move (in_hand m moved) step
ending_by plan moved step recovered = None

-- a command ends at a block that it was to harden, which stays dirty as its write faulted; one that a write was to put isn't
-- changed
abbrev pub stays_dirty : Plan → Step → Bool
stays_dirty (Reading r) Faulted = true
stays_dirty (Syncing s) Faulted = true
stays_dirty plan step = false

-- the reply that a command ends with; none as long as it needs something
abbrev pub ending_of : Course → Option Reply
ending_of c = ending_by c.plan c.moved c.step c.recovered
