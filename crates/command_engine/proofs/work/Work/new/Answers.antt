use Rattle.cdb_reader.specs.Request.{request_of}
use Rattle.command_engine.proofs.Beginnings.{starts, first_range}
use Rattle.command_engine.proofs.work.Work.new.Goals as goal

pub invariant_of-result : goal.invariant_of-result
invariant_of-result c = rw (c.gives_data-gives.ensures, c.owed_by.ensures.plan, c.owed_by.ensures.moved, c.new.ensures) (starts _ c.args.sent c.args.settings c.requires.retry c.requires.range c.requires.data_length)

pub returns-clause-range : goal.returns-clause-range
returns-clause-range c = λ capacity range. rw c.owed_by.ensures.plan (first_range (request_of c.args.command) c.args.sent c.args.settings capacity range)
