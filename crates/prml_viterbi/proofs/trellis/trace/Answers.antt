-- Each level written is the last of the word that leads from the state there.
use Rattle.std.proofs.Common.{◌≡◌, suc, ◌-◌, FitsSigned, w8, arith, rules}
use Rattle.std.proofs.lemmas.Int.{to_z-of_z}
use Rattle.prml_viterbi.proofs.Traces.{IsTraced-none, IsTraced-more, IsTraced-all}
use Rattle.prml_viterbi.proofs.trellis.trace.Goals as goal

pub loop-k-init : goal.loop-k-init
loop-k-init c = IsTraced-none c.args.survivors.now c.args.out.now c.args.end c.requires.state

pub before-state-requires : goal.before-state-requires
before-state-requires c = c.loop-k.invariant.coded

pub loop-k-preserved : goal.loop-k-preserved
loop-k-preserved c =
    let one_less : c.loop-k.k ≡ suc (c.loop-k.k - 1) = omega arith in
    let fits : FitsSigned w8 c.level_in.result = search rules in
    rw (to_z-of_z w8 c.level_in.result fits) (IsTraced-more c.args.survivors.now c.loop-k.out c.args.end c.loop-k.state c.before-state.result (c.loop-k.k - 1) c.level_in.result
    (omega arith) c.level_in.ensures c.before-state.ensures (rw one_less at c.loop-k.invariant))

pub returns : goal.returns
returns c =
    let all = IsTraced-all c.args.survivors.now c.loop-k.out c.args.end c.loop-k.state c.loop-k.k (omega arith) c.loop-k.invariant in
    record { levels = all.0; path = all.1 }
