-- the first place that either search finds is the first of the byte
use Rattle.std.proofs.Common.{◌+◌, ◌∙◌, Some, sym, ap, subst, arith}
use Rattle.std.specs.Prelude.{option_map}
use Rattle.std.proofs.lemmas.Bool.{eq-eqb}
use Rattle.memchr.specs.Find.{Nowhere, Passes, is_byte}
use Rattle.text_words.proofs.Splitting.{first_place, place_behind}
use Rattle.text_words.proofs.line.place_of.Goals as goal

pub returns-then-text-i : goal.returns-then-text-i
returns-then-text-i c =
    first_place c.args.byte c.args.text.now (Some c.loop-i.i)
    (record { low = omega arith; high = omega arith; before = c.loop-i.invariant }, eq-eqb _ _ c.if-text-i.true)

pub returns-in-Some : goal.returns-in-Some
returns-in-Some c =
    ap (option_map (λ at. c.min-near.result + at)) (sym c.in-Some.is) ∙ place_behind c.args.byte c.args.text.now c.min-near.result c.memchr.result (omega arith)
    (subst (λ n. Nowhere (Passes (is_byte c.args.byte) c.args.text.now) 0 n) (omega arith) c.loop-i.invariant) c.memchr.ensures

pub returns-in-None : goal.returns-in-None
returns-in-None c =
    ap (option_map (λ at. c.min-near.result + at)) (sym c.in-None.is) ∙ place_behind c.args.byte c.args.text.now c.min-near.result c.memchr.result (omega arith)
    (subst (λ n. Nowhere (Passes (is_byte c.args.byte) c.args.text.now) 0 n) (omega arith) c.loop-i.invariant) c.memchr.ensures
