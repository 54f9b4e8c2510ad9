use Rattle.rs_sector.proofs.Numbering.{four_words}
use Rattle.rs_sector.proofs.sector.deal.Goals as goal

pub returns : goal.returns
returns c = four_words 132 c.args.payload.now _ _ _ _ c.interleave.ensures c.interleave-2.ensures c.interleave-3.ensures c.interleave-4.ensures
