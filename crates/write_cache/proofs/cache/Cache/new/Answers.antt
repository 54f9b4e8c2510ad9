use Rattle.write_cache.proofs.Kept.{IsCache-empty}
use Rattle.write_cache.proofs.cache.Cache.new.Goals as goal

pub invariant_of-result : goal.invariant_of-result
invariant_of-result c =
    let room = rw c.unwrap-room.ensures at c.new-3.ensures in
    rw (c.in_ok-dirty.ensures.ok, c.new.ensures, c.in_ok-clean.ensures) (IsCache-empty, room)
