use Rattle.write_cache.proofs.Front.{kept_or_refused}
use Rattle.write_cache.proofs.clean.keep.Goals as goal

pub returns-clause-entries : goal.returns-clause-entries
returns-clause-entries c =
    kept_or_refused c.put.result c.args.b c.args.block.now c.args.clean.now c.put.new.self c.requires.capacity c.requires.fit
    c.put.ensures.entries c.put.ensures.err c.put.ensures.succeeds
