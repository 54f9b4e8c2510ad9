-- One operation more is written; what is shown of all are the words of all.
use Rattle.std.proofs.Common.{◌≡◌, ℕ, List, take, subst, ap, ◌∙◌, arith}
use Rattle.std.specs.List.{flat_map}
use Rattle.std.proofs.lemmas.List.{take_all}
use Rattle.text_words.specs.Line.{spaced}
use Rattle.report_text.specs.Operations.{shown_of}
use Rattle.report_text.specs.Turns.{marked_operation}
use Rattle.report_text.proofs.StrayLemmas.{no_op}
use Rattle.report_text.proofs.TextLemmas.{next_words, words-map}
use Rattle.report_text.proofs.turn.put_ops.Goals as goal

pub loop-op-preserved : goal.loop-op-preserved
loop-op-preserved g c = λ start text before.
    let put = rw c.of.ensures at (c.put_op.ensures start _ (c.loop-op.invariant start text before)) in
    subst (λ (t : List ℕ). g.O.Out.written start t c.put_op.new.out) (next_words (λ op. marked_operation (shown_of op)) text c.args.ops.now c.loop-op.op-index no_op (omega arith)) put

pub returns : goal.returns
returns g c = λ start text before.
    let ops = c.args.ops.now in
    let all : take c.loop-op.op-index ops ≡ ops = take_all c.loop-op.op-index ops c.loop-op-test.false in
    subst (λ (t : List ℕ). g.O.Out.written start t c.loop-op.out)
    (ap (λ xs. spaced text (flat_map (λ op. marked_operation (shown_of op)) xs)) all ∙ words-map marked_operation shown_of text ops)
    (c.loop-op.invariant start text before)
