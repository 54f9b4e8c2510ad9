use Rattle.std.proofs.Common.{◌∙◌, Bool, Option, refl, ap, subst}
use Rattle.disk_base.specs.declared.block.Value.{Value}
use Rattle.write_cache.specs.Contents.{IsCache}
use Rattle.drive_core.specs.Taking.{got_entries, value_got}
use Rattle.drive_core.proofs.TakeTurns.{take_moves, undirty}
use Rattle.drive_core.proofs.taking.take.Goals as goal

pub seek-answer-requires-clause-undirty : goal.seek-answer-requires-clause-undirty
seek-answer-requires-clause-undirty c later =
    undirty c.requires.may.0 c.args.server.now c.args.c c.args.sought c.requires.may.1 c.requires.errand c.requires.clean later

pub returns : goal.returns
returns c = record {
  moves = λ s may. take_moves s c.args.server.now
      (record { store = c.seek-answer.new.store; set = c.args.server.now.set; commands = c.answer-reply.new.commands; arrived = c.args.server.now.arrived; known = c.args.server.now.known })
      c.conclude.new.server c.args.c c.args.sought c.seek-answer.result c.answer-reply.result c.note.new.entries.items c.conclude.new.entries.items c.conclude.result
      may c.requires.errand c.seek-answer.ensures c.stands.ensures.there c.stands.ensures.finds c.stands.ensures.may
      (subst IsCache c.cached.ensures c.holds_each_once.ensures) c.two_blocks_are_never_at_one_sector.ensures c.keeping_changes_no_other.ensures (record {
        plan = c.deeds_are_those_of_the_plan.ensures.end;
        halves = c.halves_are_good.ensures;
        tries = c.tries_are_halves.ensures;
        gets = c.gets_are_halves.ensures;
      })
      c.answer-reply.ensures.course c.answer-reply.ensures.reply refl refl refl c.answer-reply.ensures.goes
      (c.note.ensures.entries ∙ ap (λ (o : Option Value). got_entries c.args.c c.args.sought.b o) (c.value_got.ensures ∙ ap (λ (b : Bool). value_got c.seek-answer.result b) c.is_some.ensures))
      (record { goes = c.conclude.ensures.goes; ends = λ x over. c.conclude.ensures.ends x over });
}
