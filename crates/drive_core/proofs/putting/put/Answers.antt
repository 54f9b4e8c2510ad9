use Rattle.std.proofs.Common.{◌≡◌, List, [], ◌∷◌, ◌++◌, refl, sym, ap, ◌∙◌, subst}
use Rattle.block_machine.specs.declared.entry.Entry.{Entry}
use Rattle.block_machine.specs.declared.entry.Entry.TheVariants as entry
use Rattle.block_machine.specs.declared.turn.Label.TheVariants.{Work}
use Rattle.write_cache.specs.declared.cache.Put.TheVariants.{Kept, Full}
use Rattle.drive_core.specs.declared.server.Server.{Server}
use Rattle.drive_core.specs.Moves.{Moves, MayWork}
use Rattle.drive_core.proofs.WriteCloses.{kept_moves, same_drive}
use Rattle.drive_core.proofs.putting.put.Goals as goal

pub returns-in-Kept : goal.returns-in-Kept
returns-in-Kept c = record {
  moves = λ s may. kept_moves s c.args.server.now
      (record c.args.server.now { store = c.put.new.self; commands = c.answer-reply.new.commands }) c.conclude.new.server c.args.c c.args.b c.args.block.now
      c.answer-reply.result c.push_reserved.new.self.items c.conclude.new.entries.items c.conclude.result c.halves_are_good.ensures c.puts_are_halves.ensures may c.requires.needs c.put.ensures.each_once
      c.settling_ends_one_block.ensures (λ full. let is : Kept ≡ Full = c.in-Kept.ensures.full.1 full in cc) (c.in-Kept.ensures.kept refl) refl refl refl
      c.answer-reply.ensures.reply c.answer-reply.ensures.goes
      (c.push_reserved.ensures.items ∙ ap (λ (es : List Entry). es ++ entry.Put c.args.c c.args.b c.args.block.now ∷ []) c.requires.empty)
      (record { goes = c.conclude.ensures.goes; ends = c.conclude.ensures.ends });
}

pub put_through-requires-clause-may : goal.put_through-requires-clause-may
put_through-requires-clause-may c =
    (c.requires.may.0, subst (λ (d : Server). MayWork c.requires.may.0 d c.args.c) (sym (same_drive c.args.server.now c.put.new.self (c.in-Full.ensures.refused refl))) c.requires.may.1)

pub returns-in-Full : goal.returns-in-Full
returns-in-Full c = record {
  moves = λ s may.
      let same : record c.args.server.now { store = c.put.new.self } ≡ c.args.server.now = same_drive c.args.server.now c.put.new.self (c.in-Full.ensures.refused refl) in
      let M : Server → Type 0 = λ d. Moves (Work c.args.c) s d c.put_through.new.server c.put_through.new.entries.items c.put_through.result in
      subst M same (c.put_through.ensures.moves s (subst (λ (d : Server). MayWork s d c.args.c) (sym same) may));
}
