use Rattle.std.proofs.Common.{ℕ, List, arith, slice_index, ap}
use Rattle.hex.proofs.Pairs.{encode_step, encode_done}
use Rattle.hex.specs.Hex.{encode_with, upper_digits}
use Rattle.text_words.proofs.digits.encode.Goals as goal

pub loop-i-preserved : goal.loop-i-preserved
unfolding encode_with
loop-i-preserved c =
    encode_step upper_digits c.args.bytes.now c.loop-i.digits c.loop-i.i _ _ (omega arith) (omega arith)
    (ap (λ (pair : List ℕ). slice_index pair 0) c.pair_of-pair.ensures) (ap (λ (pair : List ℕ). slice_index pair 1) c.pair_of-pair.ensures) c.loop-i.invariant

pub returns : goal.returns
returns c = encode_done upper_digits c.args.bytes.now c.loop-i.digits c.loop-i.i (omega arith) (omega arith) c.loop-i.invariant
