use Rattle.drive_core.proofs.Throughs.{may_harden_read}
use Rattle.drive_core.proofs.taking.take_or_harden.Goals as goal

pub harden-requires-clause-may : goal.harden-requires-clause-may
harden-requires-clause-may c =
    let met = c.hardens_first.ensures.hardens c.if-hardens_first.true in
    (c.requires.may.0, may_harden_read c.requires.may.0 c.args.server.now c.args.c c.args.sought c.args.entries.now.items c.requires.may.1 c.requires.errand met.0 met.1 c.requires.empty)

pub returns-then-hardens_first : goal.returns-then-hardens_first
returns-then-hardens_first c = record {
  moves = λ s may.
      let met = c.hardens_first.ensures.hardens c.if-hardens_first.true in
      c.harden.ensures.moves s (may_harden_read s c.args.server.now c.args.c c.args.sought c.args.entries.now.items may c.requires.errand met.0 met.1 c.requires.empty);
}
