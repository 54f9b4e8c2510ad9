use Rattle.std.proofs.Common.{◌≡◌, List, [], ◌∷◌, ◌++◌, refl, ap, ◌∙◌}
use Rattle.block_machine.specs.declared.entry.Entry.{Entry}
use Rattle.block_machine.specs.declared.entry.Entry.TheVariants.{Put, Harden}
use Rattle.block_machine.specs.declared.entry.Who.TheVariants.{Command}
use Rattle.sector_store.specs.declared.answer.StoreAnswer.TheVariants.{Done}
use Rattle.drive_core.proofs.WriteCloses.{through_moves_by, may_store}
use Rattle.drive_core.proofs.Written.{answered-done}
use Rattle.drive_core.proofs.putting.put_through.Goals as goal

pub write_through-requires-clause-block : goal.write_through-requires-clause-block
write_through-requires-clause-block c =
    (may_store c.requires.may.0 c.args.server.now c.args.c c.args.b c.args.block.now c.requires.may.1 c.requires.through).below

pub carried_out-requires : goal.carried_out-requires
carried_out-requires c =
    answered-done c.args.server.now.store c.args.b c.write_through.result c.write_through.ensures.answer
    (may_store c.requires.may.0 c.args.server.now c.args.c c.args.b c.args.block.now c.requires.may.1 c.requires.through)

pub returns : goal.returns
returns c = record {
  moves = λ s may.
      let ended : c.write_through.result ≡ Done = answered-done c.args.server.now.store c.args.b c.write_through.result c.write_through.ensures.answer
      (may_store s c.args.server.now c.args.c c.args.b c.args.block.now may c.requires.through) in
      through_moves_by s c.args.server.now
      (record c.args.server.now { store = c.write_through.new.self; commands = c.answer-reply.new.commands }) c.conclude.new.server c.args.c c.args.b c.args.block.now
      c.answer-reply.result c.push_reserved-2.new.self.items c.conclude.new.entries.items c.conclude.result c.halves_are_good.ensures c.puts_through_are_halves.ensures may c.requires.through (c.write_through.ensures.done ended)
      c.two_blocks_are_never_at_one_sector.ensures (c.write_through.ensures.stored may.fits.store.ready ended) (c.write_through.ensures.others may.fits.store.ready) c.stands.ensures.there c.stands.ensures.finds
      c.stands.ensures.may refl refl refl c.answer-reply.ensures.reply c.answer-reply.ensures.goes
      (c.push_reserved-2.ensures.items ∙ ap (λ (es : List Entry). es ++ Harden (Command c.args.c) c.args.b ∷ [])
      (c.push_reserved.ensures.items ∙ ap (λ (es : List Entry). es ++ Put c.args.c c.args.b c.args.block.now ∷ []) c.requires.empty))
      (record { goes = c.conclude.ensures.goes; ends = c.conclude.ensures.ends });
}
