use Rattle.std.proofs.Common.{Some, ap, arith}
use Rattle.rs_sector.specs.Code.{IsCodeword}
use Rattle.rs_sector.proofs.Codewords.{syndromes_tell}
use Rattle.rs_sector.proofs.Reach.{self_near_erased, alone_near_erased}
use Rattle.rs_sector.proofs.decoders.nearest_erased.Goals as goal

pub returns-then-eq-clause-some : goal.returns-then-eq-clause-some
returns-then-eq-clause-some c =
    let code : IsCodeword c.args.word.now = (syndromes_tell c.args.word.now c.syndromes-sums.result c.eq.result c.told-word c.fits-word c.syndromes-sums.ensures c.eq.ensures).0 c.if-eq.true in
    self_near_erased c.args.word.now c.args.erased.now (omega (arith, c.count-erasures.ensures, c.if-erasures-gt16.false)) code

pub returns-then-eq-clause-none : goal.returns-then-eq-clause-none
returns-then-eq-clause-none c codeword near =
    let code : IsCodeword c.args.word.now = (syndromes_tell c.args.word.now c.syndromes-sums.result c.eq.result c.told-word c.fits-word c.syndromes-sums.ensures c.eq.ensures).0 c.if-eq.true in
    ap Some (alone_near_erased c.args.word.now codeword c.args.erased.now code near)
