-- One entry more is written.
use Rattle.std.proofs.Common.{arith}
use Rattle.report_text.specs.Turns.{marked_entry}
use Rattle.report_text.proofs.TextLemmas.{next_words}
use Rattle.report_text.proofs.turn.put_entries.Goals as goal

pub loop-entry-preserved : goal.loop-entry-preserved
loop-entry-preserved g c = λ start text before.
    let put = rw c.entry-item.is at (c.put_marked.ensures start _ (c.loop-entry.invariant start text before)) in
    rw (next_words marked_entry text c.args.entries.now c.loop-entry.entry-index c.entry-item.result (omega arith)) at put
