use Rattle.std.proofs.Common.{Some, ap}
use Rattle.rs_sector.specs.Code.{IsCodeword}
use Rattle.rs_sector.proofs.Codewords.{syndromes_tell}
use Rattle.rs_sector.proofs.Reach.{self_near, alone_near}
use Rattle.rs_sector.proofs.decoders.nearest.Goals as goal

pub returns-then-eq-clause-some : goal.returns-then-eq-clause-some
returns-then-eq-clause-some c =
    self_near c.args.word.now c.args.radius ((syndromes_tell c.args.word.now c.syndromes-sums.result c.eq.result c.told-word c.fits-word c.syndromes-sums.ensures c.eq.ensures).0 c.if-eq.true)

pub returns-then-eq-clause-none : goal.returns-then-eq-clause-none
returns-then-eq-clause-none c codeword near =
    let code : IsCodeword c.args.word.now = (syndromes_tell c.args.word.now c.syndromes-sums.result c.eq.result c.told-word c.fits-word c.syndromes-sums.ensures c.eq.ensures).0 c.if-eq.true in
    ap Some (alone_near c.args.word.now codeword c.args.radius c.requires code near)
