use Rattle.std.proofs.Common.{arith, add-one, append_assoc}
use Rattle.map_generations.proofs.ReadBack.{pairs_in-more}
use Rattle.map_generations.proofs.reading.read_pairs.Goals as goal

pub loop-i-preserved : goal.loop-i-preserved
loop-i-preserved c =
    let more = pairs_in-more c.loop-i.i c.args.block.now in
    record { read = rw (add-one, more, ← append_assoc) (cc); long = omega arith }
