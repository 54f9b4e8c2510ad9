use Rattle.write_cache.specs.declared.cache.Put.TheVariants.{Kept, Full}
use Rattle.std.proofs.Common.{◌≡◌, refl}
use Rattle.write_cache.proofs.Kept.{IsCache-with_newest}
use Rattle.write_cache.proofs.cache.Cache.put.Goals as goal

pub invariant_of-self : goal.invariant_of-self
invariant_of-self c =
    let taken = rw c.deref_mut.ensures.value at (c.in-Kept.ensures.kept refl) in
    let refusal = rw c.deref_mut.ensures.value at c.in-Kept.ensures.full.1 in
    rw (taken, c.pop.ensures.entries) (
      IsCache-with_newest c.args.b c.args.block.now _ c.self.invariant.0 (λ full. let never : Kept ≡ Full = refusal full in cc),
      c.self.invariant.1,
    )
