use Rattle.std.proofs.Common.{arith, refl, ◌≡◌, ◌+◌, ◌*◌, get_or}
use Rattle.rs_sector.proofs.Numbering.{word_from, written_more}
use Rattle.rs_sector.proofs.sector.interleave.Goals as goal

pub loop-k-preserved : goal.loop-k-preserved
loop-k-preserved g c = written_more (λ j. get_or c.args.bytes.now (4 * j + c.args.i) 0) g.row.N c.loop-k.k _ c.loop-k.byte-items (omega arith) refl c.loop-k.invariant

pub returns : goal.returns
returns g c =
    let all : c.loop-k.k ≡ g.row.N = omega arith in
    word_from g.row.N c.args.bytes.now c.args.i c.loop-k.byte-items c.loop-k.invariant.0 (λ k l. c.loop-k.invariant.1 k (omega arith))
