-- Number, label, operations and entries one after another are the line.
use Rattle.std.proofs.Common.{ℕ, List, map, subst}
use Rattle.std.specs.Prelude.{decimal}
use Rattle.report_text.specs.Operations.{shown_of}
use Rattle.report_text.specs.Turns.{label_words, operation_words, entries_words, part_of}
use Rattle.report_text.proofs.TextLemmas.{turn_in_parts, part_of-map}
use Rattle.report_text.proofs.turn.put_turn.Goals as goal

pub returns : goal.returns
returns g c = λ start text before.
    let turn = c.args.turn.now in
    let ops = c.args.ops.now in
    let label = c.put_label.ensures start _ (c.put_first.ensures start text before) in
    let shown = rw (c.part_of.ensures, part_of-map shown_of ops turn) at (c.put_ops.ensures start _ label) in
    let entries = rw c.as_slice.ensures at (c.put_entries.ensures start _ shown) in
    subst (λ (t : List ℕ). g.O.Out.written start t c.put.new.self)
    (turn_in_parts text (decimal c.args.number) (label_words turn.label) (operation_words (part_of (map shown_of ops) turn)) (entries_words turn.entries))
    (c.put.ensures start _ entries)
