use Rattle.channel_path.proofs.Flags.{flags_from}
use Rattle.std.proofs.Common.{arith, ◌≡◌}
use Rattle.channel_path.proofs.reading.interleaved_flags.Goals as goal

pub returns : goal.returns
returns c =
    let all : c.loop-k.k ≡ 148 = omega arith in
    flags_from c.args.flags.now c.args.i c.loop-k.flag-items c.loop-k-test.array_long (λ n l. c.loop-k.invariant n (omega arith))
