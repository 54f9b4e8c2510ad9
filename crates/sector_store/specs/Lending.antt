-- What a store lends.
use Rattle.std.specs.Borrow.{Lends, MutBor, Fml}
use Rattle.write_cache.specs.Contents.{Contents}
use Rattle.write_cache.specs.contracts.cache.Cache.{the_row as cache_row}
use Rattle.sector_store.specs.contracts.store.Store.{the_row}
use Rattle.sector_store.specs.State.{Contained}

-- a store with this in its cache
abbrev pub with_cache : Contained → Contents → Contained
with_cache s contents = record s { cache = contents }

-- the store ends with its cache as it was last left
abbrev pub LendsCache : MutBor Contained → MutBor Contents → Fml
LendsCache s r = Lends the_row cache_row s r (with_cache s.now)
