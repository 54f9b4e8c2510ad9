use Rattle.write_cache.proofs.Kept.{IsCache-without_clean}
use Rattle.write_cache.proofs.cache.Cache.forget.Goals as goal

pub invariant_of-self : goal.invariant_of-self
invariant_of-self c = rw c.pop.ensures.entries (IsCache-without_clean c.args.b _ c.self.invariant.0, c.self.invariant.1)
