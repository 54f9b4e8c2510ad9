-- What is kept is all but this address.
use Rattle.std.proofs.Common.{rules, eqb, not}
use Rattle.history_replay.proofs.Retained.{filter-from_filtered}
use Rattle.history_replay.proofs.address.take_out.Goals as goal

pub returns : goal.returns
returns c = filter-from_filtered _ (λ a. not (eqb a c.args.b)) _ (λ x b g called. search rules) _ _ c.retain.ensures.filtered
