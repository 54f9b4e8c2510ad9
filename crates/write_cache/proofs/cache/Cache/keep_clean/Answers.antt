use Rattle.std.proofs.Common.{inl, inr}
use Rattle.write_cache.proofs.Kept.{IsCache-with_clean}
use Rattle.write_cache.proofs.cache.Cache.keep_clean.Goals as goal

pub invariant_of-self : goal.invariant_of-self
invariant_of-self c =
    let not_dirty = rw (← c.self.view_is) at c.requires in
    elim c.keep.ensures.entries [
      | inl kept ↦ rw kept (IsCache-with_clean c.args.b c.args.block.now _ c.self.invariant.0 not_dirty, c.keep.ensures.capacity)
      | inr refused ↦ rw refused.0 (c.self.invariant.0, c.keep.ensures.capacity)
    ]
