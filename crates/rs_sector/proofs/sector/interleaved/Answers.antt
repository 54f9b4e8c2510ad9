use Rattle.std.proofs.Common.{arith, refl, ◌≡◌, ◌/◌, ◌%◌, [], get_or, ◌∙◌}
use Rattle.rs_sector.proofs.Numbering.{bytes_from, written_more}
use Rattle.rs_sector.proofs.sector.interleaved.Goals as goal

pub loop-i-preserved : goal.loop-i-preserved
loop-i-preserved g c = written_more (λ j. get_or (get_or c.args.words.now (j % 4) []) (j / 4) 0) g.row.M c.loop-i.i _ c.loop-i.byte-items (omega arith) refl c.loop-i.invariant

pub returns : goal.returns
returns g c =
    let all : c.loop-i.i ≡ g.row.M = omega arith in
    bytes_from g.row.N c.args.words.now c.loop-i.byte-items (c.loop-i.invariant.0 ∙ c.requires) (λ k l. c.loop-i.invariant.1 k (omega arith))
