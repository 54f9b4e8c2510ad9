-- A turn more.
use Rattle.std.proofs.Common.{◌≡◌, ◌*◌, ◌+◌, ◌^◌, ◌<◌, length, drop, sym, ap, ◌∙◌, subst, arith}
use Rattle.std.specs.Prelude.{fold}
use Rattle.report_text.specs.declared.tally.Tally.{Tally}
use Rattle.report_text.specs.Summary.{IsWithin, tally_after, tally_behind}
use Rattle.report_text.proofs.TallyLemmas.{fold-more, within_more, within_behind}
use Rattle.report_text.proofs.tally.tally_of.Goals as goal

pub loop-turn-preserved : goal.loop-turn-preserved
loop-turn-preserved c =
    let turns = c.args.turns.now in
    let i = c.loop-turn.turn-index in
    let before = c.loop-turn.tally in
    let turn = c.turn-item.result in
    let same : c.tally_behind-tally.result ≡ tally_behind before turn = c.tally_behind-tally.ensures.tally ∙ ap (fold tally_after before) c.as_slice.ensures in
    let short : length turn.entries < 2 ^ 64 = omega (arith, c.tally_behind-tally.ensures.short, ap length c.as_slice.ensures) in
    record {
      whole = ap (λ t. fold tally_behind t (drop (i + 1) turns)) (same ∙ ap (tally_behind before) c.turn-item.is)
          ∙ (fold-more tally_behind before turns i turn c.loop-turn-test.true ∙ c.loop-turn.invariant.whole);
      within = subst (λ (t : Tally). IsWithin ((i + 1) * 2 ^ 64) t) (sym same)
          (within_more (i * 2 ^ 64 + length turn.entries) ((i + 1) * 2 ^ 64) (tally_behind before turn) (omega arith)
          (within_behind (i * 2 ^ 64) before turn.entries c.loop-turn.invariant.within));
    }
