-- One bit more gives one level more.
use Rattle.std.proofs.Common.{get_or, false, FitsSigned, w8, refl, arith, rules, true, subst, sym}
use Rattle.std.proofs.lemmas.Int.{to_z-of_z}
use Rattle.prml_viterbi.specs.Levels.{AreLevels, level_word}
use Rattle.prml_viterbi.proofs.ChannelBits.{AreLevels-levels_after}
use Rattle.prml_viterbi.proofs.LevelWords.{differs-flip, levels_after-more, levels_after-all}
use Rattle.prml_viterbi.proofs.levels.levels_of.Goals as goal

pub loop-k-init : goal.loop-k-init
loop-k-init c = refl

pub loop-k-preserved : goal.loop-k-preserved
loop-k-preserved c =
    let fits : FitsSigned w8 c.level.result = search rules in
    rw (to_z-of_z w8 c.level.result fits, c.level.ensures, differs-flip c.loop-k.high (get_or c.args.chan.now c.loop-k.k false))
    (levels_after-more c.args.chan.now c.loop-k.out (level_word c.args.chan.now) c.loop-k.high c.loop-k.k (omega arith) (omega arith) c.loop-k.invariant)

pub returns : goal.returns
returns c =
    let word = levels_after-all c.args.chan.now c.loop-k.out (level_word c.args.chan.now) c.loop-k.high c.loop-k.k (omega arith) (omega arith) c.loop-k.invariant in
    record { word = word; levels = subst AreLevels (sym word) (AreLevels-levels_after true c.args.chan.now) }
