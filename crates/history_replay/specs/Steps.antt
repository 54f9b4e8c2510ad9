-- Parts of a plan's next step that have a name of their own.
use Rattle.std.specs.Prelude.{◌+◌, ◌||◌, Bool, true, false, if◌then◌else◌}
use Rattle.disk_base.specs.declared.block.Value.{Value}
use Rattle.disk_base.specs.declared.block.Value.TheVariants.{Data, Lost}
use Rattle.cdb_reader.specs.declared.plan.Reading as reading
use Rattle.cdb_reader.specs.declared.plan.Writing as writing
use Rattle.cdb_reader.specs.declared.plan.Plan.{Plan}
use Rattle.cdb_reader.specs.declared.plan.Plan.TheVariants.{Unread, Reading, Writing}
use Rattle.cdb_reader.specs.Plan.{after_written}

-- a read once it got the block that comes next
abbrev pub plan_got : reading.Reading → Value → Plan
plan_got r (Data d) = Reading (record r { at = r.at + 1; hardened = false })
plan_got r Lost = Unread r.at

-- a write once it put the block that comes next
abbrev pub plan_put : writing.Writing → Bool → Plan
plan_put w full = if w.through || full then Writing (record w { owes_harden = true }) else after_written w
