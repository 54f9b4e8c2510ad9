-- One operation more is a stray or none.
use Rattle.std.proofs.Common.{◌≡◌, ◌+◌, take, refl, sym, ap, ◌∙◌, arith}
use Rattle.std.specs.Prelude.{replicate, if◌then◌else◌}
use Rattle.std.proofs.lemmas.List.{get_or-replicate}
use Rattle.platter_model.specs.TrueLog.{strays}
use Rattle.report_text.proofs.StrayLemmas.{no_op, strays-more, ends-none, ends-more}
use Rattle.report_text.proofs.strays.strays.Goals as goal
use Rattle.report_text.proofs.strays.strays.Goals.{then-is_stray, else-is_stray}

pub loop-place-preserved : goal.loop-place-preserved
loop-place-preserved c =
    let more = strays-more c.args.ops.now c.loop-place.place no_op (omega arith) in
    let kept = ends-more c.args.ops.now c.loop-place.place no_op c.loop-place.ends c.note.new.ends (omega arith) c.loop-place.invariant.kept c.note.ensures in
    elim c.if-is_stray.branch [
      | then-is_stray w ↦ let e : strays (take (c.loop-place.place + 1) c.args.ops.now) ≡ strays (take c.loop-place.place c.args.ops.now) + 1 = more ∙ ap (λ b. strays (take c.loop-place.place c.args.ops.now) + (if b then 1 else 0)) (sym c.is_stray.ensures ∙ w.if-is_stray.true) in record { counted = omega (arith, e, c.loop-place.invariant.counted, w.count-is); few = omega (arith, w.count-is, c.loop-place.invariant.few); kept = kept }
      | else-is_stray w ↦ let e : strays (take (c.loop-place.place + 1) c.args.ops.now) ≡ strays (take c.loop-place.place c.args.ops.now) + 0 = more ∙ ap (λ b. strays (take c.loop-place.place c.args.ops.now) + (if b then 1 else 0)) (sym c.is_stray.ensures ∙ w.if-is_stray.false) in record { counted = omega (arith, e, c.loop-place.invariant.counted, w.count-is); few = omega (arith, w.count-is, c.loop-place.invariant.few); kept = kept }
    ]

pub loop-place-init : goal.loop-place-init
loop-place-init c = record { counted = refl; few = omega arith; kept = ends-none (replicate 4096 0) (λ p low. get_or-replicate 4096 p.0 0 0 low) }
