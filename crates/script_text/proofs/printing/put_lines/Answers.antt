-- One line more is written.
use Rattle.std.proofs.Common.{arith}
use Rattle.script_text.specs.Spelling.{line_words}
use Rattle.script_text.proofs.PrintLemmas.{next_line}
use Rattle.script_text.proofs.printing.put_lines.Goals as goal

pub loop-line-preserved : goal.loop-line-preserved
loop-line-preserved g c = λ start text before.
    let put = rw c.line-item.is at (c.put_ended.ensures start _ (c.loop-line.invariant start text before)) in
    rw (next_line line_words text c.args.lines.now c.loop-line.line-index c.line-item.result (omega arith)) at put
