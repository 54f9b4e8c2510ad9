use Rattle.std.proofs.Common.{◌≡◌, ◌∙◌, ◌++◌, ◌∷◌, [], refl, ap}
use Rattle.block_machine.specs.declared.entry.Entry.TheVariants.{Ended}
use Rattle.drive_core.specs.declared.server.Server.{Server}
use Rattle.sector_store.specs.declared.answer.StoreAnswer.TheVariants.{Done}
use Rattle.drive_core.proofs.Hardens.{turn_moves, may_harden, meets_dirty}
use Rattle.drive_core.proofs.Written.{answered-done}
use Rattle.drive_core.proofs.hardening.harden.Goals as goal

pub write_dirty-requires-clause-block : goal.write_dirty-requires-clause-block
write_dirty-requires-clause-block c = (may_harden c.requires.may.0 c.args.server.now c.args.c c.args.b c.args.entries.now.items c.requires.may.1).below

pub carried_out-requires : goal.carried_out-requires
carried_out-requires c =
    answered-done c.args.server.now.store c.args.b c.write_dirty.result c.write_dirty.ensures.answer
    (may_harden c.requires.may.0 c.args.server.now c.args.c c.args.b c.args.entries.now.items c.requires.may.1)

pub hardened-reply-requires : goal.hardened-reply-requires
hardened-reply-requires c = meets_dirty c.requires.may.0 c.args.server.now c.args.c c.args.b c.args.entries.now.items c.requires.may.1

pub returns : goal.returns
returns c = record {
  moves = λ s may.
      let mid : Server = record c.args.server.now { store = c.write_dirty.new.self; commands = c.hardened-reply.new.commands } in
      let ended : c.write_dirty.result ≡ Done = answered-done c.args.server.now.store c.args.b c.write_dirty.result c.write_dirty.ensures.answer
      (may_harden s c.args.server.now c.args.c c.args.b c.args.entries.now.items may) in
      turn_moves s c.args.server.now mid c.conclude.new.server c.args.c c.args.b c.args.entries.now.items c.conclude.new.entries.items c.hardened-reply.result c.conclude.result may (record {
        own = c.two_blocks_are_never_at_one_sector.ensures;
        laws = record { halves = c.halves_are_good.ensures; hardens = c.hardens_are_halves.ensures; passes = c.passes_to_harden_are_halves.ensures };
        hardens = λ bytes dirty. c.write_dirty.ensures.done bytes dirty ended;
        stores = λ bytes dirty. c.write_dirty.ensures.stored may.may.fits.store.ready bytes dirty ended;
        keeps = c.write_dirty.ensures.others may.may.fits.store.ready;
        store = c.stands.ensures.there;
        finds = c.stands.ensures.finds;
        may_be = c.stands.ensures.may;
        set = refl;
        arrived = refl;
        known = refl;
        reply_is = c.hardened-reply.ensures.reply;
        replaces = c.hardened-reply.ensures.goes;
        goes = λ none. let g = c.conclude.ensures.goes none in (g.0, g.1 ∙ c.push_reserved.ensures.items, g.2);
        ends = λ x some. let g = c.conclude.ensures.ends x some in (g.0, g.1 ∙ ap (λ es. es ++ Ended c.args.c x ∷ []) c.push_reserved.ensures.items, g.2);
      });
}
