-- The samples of a sector without flaws are those that are kept.
use Rattle.platter_model.specs.TrueLog.{attempt_of}
use Rattle.platter_model.proofs.Lined.{flawless_is}
use Rattle.platter_model.proofs.trying.find.Goals as goal

pub returns-in-None-clause-found : goal.returns-in-None-clause-found
returns-in-None-clause-found c = (
  c.index-sector.result.now.unflawed,
  flawless_is c.args.p _ (attempt_of c.args.stage) _ c.index-sector.result.now c.requires.within c.index-sector.ensures c.requires.kept.are_sectors c.in-None.is,
  record { some = c.read_samples.ensures.some; none = c.read_samples.ensures.none },
)
