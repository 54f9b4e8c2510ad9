use Rattle.std.proofs.Common.{sym, ◌∙◌}
use Rattle.map_generations.specs.Recovery.{reads_of, counted}
use Rattle.map_generations.proofs.Rule.{last_is_older}
use Rattle.map_generations.proofs.recovery.last_is_older.Goals as goal

pub returns-then-is_record : goal.returns-then-is_record
returns-then-is_record c =
    last_is_older (counted (reads_of c.args.reads.now)) c.args.slot c.args.number c.in-Some.p.now (sym c.in-Some.ensures)
    (sym c.is_record.ensures ∙ c.if-is_record.true)
