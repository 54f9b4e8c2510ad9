-- what was taken is what was stored and the last piece
use Rattle.std.proofs.Common.{◌++◌, take, arith, length-append, length-take}
use Rattle.outside.proofs.Known.{Consumes-then}
use Rattle.outside.proofs.reading.read_to_end.Goals as goal

pub returns-in-Got-clause-too_long : goal.returns-in-Got-clause-too_long
returns-in-Got-clause-too_long g c _ =
    let told = c.in-Got.ensures in
    let kept = c.loop-count.invariant in
    let bytes = c.loop-count.bytes in
    let more = take c.in-Got.count c.read.new.into in
    let same = c.read.auto.into in
    (bytes ++ more, Consumes-then _ _ _ bytes more kept.taken told.got, grind (arith, length-append, length-take))

pub returns-then-is_err-clause-no_memory_short : goal.returns-then-is_err-clause-no_memory_short
returns-then-is_err-clause-no_memory_short g c _ =
    let told = c.in-Got.ensures in
    let kept = c.loop-count.invariant in
    let bytes = c.loop-count.bytes in
    let more = take c.in-Got.count c.read.new.into in
    (bytes ++ more, Consumes-then _ _ _ bytes more kept.taken told.got, grind (arith, length-append, length-take))
