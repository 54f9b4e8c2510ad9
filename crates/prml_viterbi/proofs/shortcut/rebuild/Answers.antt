-- Part by part; where the last two are no levels, there is no word.
use Rattle.std.proofs.Common.{refl, sym, ◌∙◌, arith}
use Rattle.std.proofs.lemmas.Bool.{false≢true}
use Rattle.prml_viterbi.proofs.Rebuilt.{AreRebuilt-all, no_word}
use Rattle.prml_viterbi.proofs.shortcut.rebuild.Goals as goal

pub loop-from-preserved : goal.loop-from-preserved
loop-from-preserved c = c.rebuild_part-last.ensures c.loop-from.invariant

pub returns-then-not-are_levels : goal.returns-then-not-are_levels
returns-then-not-are_levels c = λ word long clean.
    absurd (no_word c.args.samples.now c.rebuild_part-last.new.out _ _ c.part_end-to.result (c.rebuild_part-last.ensures c.loop-from.invariant)
    (λ two one. false≢true (sym c.if-not-are_levels.true ∙ c.are_levels.ensures.1 (two, one))) word long clean)

pub returns : goal.returns
returns c = λ word long clean.
    (refl, AreRebuilt-all c.args.samples.now c.loop-from.out _ _ c.loop-from.from (omega arith) (omega arith) c.loop-from.invariant word long clean)
