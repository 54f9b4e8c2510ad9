use Rattle.std.proofs.Common.{◌≡◌, ◌⊎◌, List, ℕ}
use Rattle.write_cache.specs.Contents.{newest, with_clean, without_dirty}
use Rattle.sector_store.proofs.Cached.{settles, if_some}
use Rattle.sector_store.proofs.caching.end_dirty.Goals as goal

pub returns : goal.returns
returns c bytes dirty =
    let Settled : List ℕ → Type 0 = λ v.
    (c.settle.new.self ≡ with_clean c.args.dirty v (without_dirty c.args.dirty c.args.cache.now)) ⊎ (c.settle.new.self ≡ without_dirty c.args.dirty c.args.cache.now) in
    settles c.args.dirty bytes c.args.cache.now c.settle.new.self c.holds_each_once.ensures c.settling_ends_one_block.ensures c.keeping_changes_no_other.ensures
    (if_some Settled (newest c.args.dirty c.args.cache.now) bytes dirty c.settle.ensures.settled)
