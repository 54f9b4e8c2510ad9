-- Heading and body are the script's lines.
use Rattle.std.proofs.Common.{ℕ, List, subst}
use Rattle.script_text.specs.Meaning.{asked_by}
use Rattle.script_text.proofs.PrintLemmas.{script_in_parts}
use Rattle.script_text.proofs.printing.put_script.Goals as goal

pub returns : goal.returns
returns g c = λ start text before.
    let heading = rw c.as_slice.ensures.value at (c.put_primary_list.ensures start _ (c.put_measures.ensures start text before)) in
    let whole = rw c.as_slice-2.ensures at (c.put_lines.ensures start _ heading) in
    subst (λ (t : List ℕ). g.O.Out.written start t c.put_lines.new.out) (script_in_parts text (asked_by c.args.script.now)) whole
