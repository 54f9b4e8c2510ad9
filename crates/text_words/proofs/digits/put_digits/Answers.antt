-- the digits of the next chunk stand behind those before
use Rattle.std.proofs.Common.{arith}
use Rattle.text_words.proofs.Chunks.{none_yet, next_digits}
use Rattle.text_words.proofs.digits.put_digits.Goals as goal

pub loop-at-init : goal.loop-at-init
loop-at-init g c = record {
  within = omega arith;
  written = λ start text before. rw (none_yet text) before;
}

pub loop-at-preserved : goal.loop-at-preserved
loop-at-preserved g c = record {
  within = omega (arith, c.min.ensures);
  written = λ start text before.
      rw (next_digits text c.args.bytes.now c.loop-at.at c.min.result) at (c.put_chunk.ensures start _ (c.loop-at.invariant.written start text before));
}
