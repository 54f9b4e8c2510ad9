use Rattle.reservations.proofs.Quiet.{writes-kept-out, reads-kept-out}
use Rattle.reservations.proofs.laws.others_are_kept_out.Goals as goal

pub returns : goal.returns
returns c = record { writes = writes-kept-out; reads = reads-kept-out }
