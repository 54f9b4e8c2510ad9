use Rattle.std.proofs.Common.{inl, inr}
use Rattle.write_cache.proofs.Kept.{IsCache-with_clean, IsCache-without_dirty, gone-without_dirty}
use Rattle.write_cache.proofs.cache.Cache.settle.Goals as goal

pub invariant_of-self : goal.invariant_of-self
invariant_of-self c =
    let taken = rw c.deref_mut.ensures.value at c.in-Some.ensures.rest in
    let left = IsCache-without_dirty c.args.b _ c.self.invariant.0 in
    let gone = gone-without_dirty c.args.b _ c.self.invariant.0 in
    elim c.keep.ensures.entries [
      | inl kept ↦ rw (taken, kept) (IsCache-with_clean c.args.b c.block.result.now _ left gone, c.keep.ensures.capacity)
      | inr refused ↦ rw (taken, refused.0) (left, c.keep.ensures.capacity)
    ]
