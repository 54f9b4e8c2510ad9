-- One level more gives one bit more.
use Rattle.std.proofs.Common.{get_or, pos, refl, arith}
use Rattle.prml_viterbi.specs.Levels.{channel_bits, is_high}
use Rattle.prml_viterbi.proofs.LevelWords.{differs-flip_by, above_zero-is_high, bits_after-more, bits_after-all}
use Rattle.prml_viterbi.proofs.levels.chan_of.Goals as goal

pub loop-k-init : goal.loop-k-init
loop-k-init c = refl

pub loop-k-preserved : goal.loop-k-preserved
loop-k-preserved c =
    let a = get_or c.args.levels.now c.loop-k.k (pos 0) in
    rw (above_zero-is_high a (c.requires.levels c.loop-k.k (pos 0) (omega arith)), differs-flip_by c.loop-k.high (is_high a))
    (bits_after-more c.args.levels.now c.loop-k.out (channel_bits c.args.levels.now) c.loop-k.high c.loop-k.k (omega arith) (omega arith) c.loop-k.invariant)

pub returns : goal.returns
returns c = bits_after-all c.args.levels.now c.loop-k.out (channel_bits c.args.levels.now) c.loop-k.high c.loop-k.k (omega arith) (omega arith) c.loop-k.invariant
