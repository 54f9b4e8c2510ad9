use Rattle.std.proofs.Common.{take, arith, ap, ◌∙◌}
use Rattle.rll_code.specs.Bits.{low_bits}
use Rattle.rll_code.proofs.BitLists.{low_bits_from_reads}
use Rattle.rll_code.proofs.encoder.put_end.Goals as goal

pub returns : goal.returns
returns c =
    low_bits_from_reads 24 c.args.word c.loop-k.places (omega arith) (λ j less. c.loop-k.invariant j (omega arith))
    ∙ ap (λ n. take n (low_bits 24 c.args.word)) c.loop-k.auto.places
