use Rattle.std.proofs.Common.{arith, add-one}
use Rattle.map_generations.proofs.ReadBack.{sectors_in-more}
use Rattle.map_generations.proofs.reading.sectors_of.Goals as goal

pub loop-i-preserved : goal.loop-i-preserved
loop-i-preserved c =
    let more = sectors_in-more c.loop-i.i c.args.block.now in
    record { read = rw add-one (cc); long = omega arith }
