use Rattle.sector_store.proofs.Cached.{left_out}
use Rattle.sector_store.proofs.caching.take_out.Goals as goal

pub returns : goal.returns
returns c =
    left_out c.args.b c.args.cache.now c.settle.new.self c.forget.new.self c.settling_ends_one_block.ensures c.forgetting_ends_one_block.ensures
    c.keeping_changes_no_other.ensures c.holds_each_once.ensures c.holds_each_once-2.ensures c.settle.ensures.not_dirty c.settle.ensures.settled c.forget.ensures
