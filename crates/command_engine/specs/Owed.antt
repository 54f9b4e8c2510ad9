-- What a command owes, as a plan.
use Rattle.std.specs.Prelude.{ℕ, []}
use Rattle.cdb_reader.specs.declared.plan.Plan.{Plan}
use Rattle.cdb_reader.specs.declared.plan.Plan.TheVariants as plan
use Rattle.command_engine.specs.declared.owed.Owed.{Owed}
use Rattle.command_engine.specs.declared.owed.Owed.TheVariants.{Reply, Page, Unread, Reading, Writing, Syncing, Moving}

-- the plan of what is owed; the bytes of a page, which others know, are left out
abbrev pub plan_owed : Owed → Plan
plan_owed (Reply reply) = plan.Ending reply
plan_owed (Page reply) = plan.Answering [] reply
plan_owed (Unread b) = plan.Unread b
plan_owed (Reading r) = plan.Reading r
plan_owed (Writing w) = plan.Writing w
plan_owed (Syncing s) = plan.Syncing s
plan_owed (Moving list) = plan.Moving (record { blocks = list.blocks.items; hardened = list.hardened })

-- how many descriptors of its list were moved to spare sectors
abbrev pub moved_owed : Owed → ℕ
moved_owed (Moving list) = list.moved
moved_owed other = 0
