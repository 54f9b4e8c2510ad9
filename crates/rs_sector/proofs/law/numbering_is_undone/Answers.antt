use Rattle.rs_sector.proofs.Numbering.{joins_again, deals_again}
use Rattle.rs_sector.proofs.law.numbering_is_undone.Goals as goal

pub returns-clause-joined : goal.returns-clause-joined
returns-clause-joined c = joins_again

pub returns-clause-dealt : goal.returns-clause-dealt
returns-clause-dealt c = deals_again
