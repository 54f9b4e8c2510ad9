use Rattle.std.proofs.Common.{arith, ◌∙◌}
use Rattle.turn_lock.proofs.Kept.{claims_as, in_hand}
use Rattle.turn_lock.proofs.steps.claim.Goals as goal

pub fetch_or-found-requires : goal.fetch_or-found-requires
fetch_or-found-requires g c = let r = c.requires in (r.table.0, omega arith, claims_as _ _ g.R.Refusal.refuse r.harmless _ _ r.free.0 r.free.1)

pub exchange-requires : goal.exchange-requires
exchange-requires g c = let r = c.requires in let f = c.fetch_or-found.ensures in (f.0 ∙ r.table.0, in_hand _ g.R.Refusal.refuse _ _ _ r.free.0 (c.if-found-eq0.true) f.2)
