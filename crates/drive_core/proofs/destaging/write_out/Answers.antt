use Rattle.std.proofs.Common.{◌≡◌, ◌∙◌, ◌++◌, ◌∷◌, [], ℕ, List, Option, IsSome, refl, ap, sym, subst}
use Rattle.block_machine.specs.declared.entry.Entry.TheVariants.{Harden}
use Rattle.block_machine.specs.declared.entry.Who.TheVariants.{Drive}
use Rattle.sector_store.specs.declared.answer.StoreAnswer.TheVariants.{Done}
use Rattle.drive_core.specs.declared.server.Server.{Server}
use Rattle.drive_core.proofs.Destaged.{destaged-dirty}
use Rattle.drive_core.proofs.Destages.{may_write_out, destage_moves}
use Rattle.drive_core.proofs.Written.{answered-done}
use Rattle.drive_core.proofs.destaging.write_out.Goals as goal

pub write_dirty-requires-clause-block : goal.write_dirty-requires-clause-block
write_dirty-requires-clause-block c = (may_write_out c.requires.may.0 c.args.server.now c.args.b c.requires.may.1).below

pub write_dirty-requires-clause-dirty : goal.write_dirty-requires-clause-dirty
write_dirty-requires-clause-dirty c =
    let held = destaged-dirty c.requires.may.0 c.args.server.now.store.cache c.args.b c.requires.may.1.fits.cached c.requires.may.1.is_next in
    subst (λ (o : Option (List ℕ)). IsSome o) (sym held.1) refl

pub carried_out-requires : goal.carried_out-requires
carried_out-requires c =
    answered-done c.args.server.now.store c.args.b c.write_dirty.result c.write_dirty.ensures.answer
    (may_write_out c.requires.may.0 c.args.server.now c.args.b c.requires.may.1)

pub returns : goal.returns
returns c = record {
  moves = λ s may.
      let e : Server = record c.args.server.now { store = c.write_dirty.new.self } in
      let ended : c.write_dirty.result ≡ Done =
      answered-done c.args.server.now.store c.args.b c.write_dirty.result c.write_dirty.ensures.answer (may_write_out s c.args.server.now c.args.b may) in
      destage_moves s c.args.server.now e c.args.b c.push_reserved.new.self.items may (record {
        own = c.two_blocks_are_never_at_one_sector.ensures;
        good = c.destages_are_good.ensures;
        hardens = λ bytes dirty. c.write_dirty.ensures.done bytes dirty ended;
        stores = λ bytes dirty. c.write_dirty.ensures.stored may.fits.store.ready bytes dirty ended;
        keeps = c.write_dirty.ensures.others may.fits.store.ready;
        store = c.stands.ensures.there;
        finds = c.stands.ensures.finds;
        may_be = c.stands.ensures.may;
        set = refl;
        commands = refl;
        arrived = refl;
        known = refl;
      }) (c.push_reserved.ensures.items ∙ ap (λ es. es ++ Harden Drive c.args.b ∷ []) c.requires.empty);
}
