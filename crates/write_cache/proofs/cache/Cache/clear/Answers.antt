use Rattle.write_cache.proofs.Kept.{IsCache-empty}
use Rattle.write_cache.proofs.cache.Cache.clear.Goals as goal

pub invariant_of-self : goal.invariant_of-self
invariant_of-self c = rw (c.clear.ensures, c.clear-2.ensures) (IsCache-empty, c.self.invariant.1)
