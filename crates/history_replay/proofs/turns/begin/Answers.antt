use Rattle.std.proofs.Common.{◌∙◌, ap, cond, sym, subst}
use Rattle.std.specs.Prelude.{◌==◌, Option, Some}
use Rattle.block_machine.specs.declared.turn.Label.{Label}
use Rattle.block_machine.specs.Steps.{begun}
use Rattle.history_replay.specs.declared.duty.Duty.{Duty}
use Rattle.history_replay.specs.Kept.{Stands}
use Rattle.history_replay.proofs.Standing.{found_kept, none_kept}
use Rattle.history_replay.proofs.turns.begin.Goals as goal

pub returns-in_ok-keep-clause-stands : goal.returns-in_ok-keep-clause-stands
returns-in_ok-keep-clause-stands c = λ s st.
    let kept = c.args.kept.now in
    let capacity = kept.known.capacity in
    let n = c.in-Work.c in
    let P : Label → Type 0 = λ label. Stands capacity (record kept { duties = c.keep.new.duties }) (begun s label) in
    subst P (sym c.in-Work.is)
    (found_kept capacity kept s n c.in-Some.duty c.finding.result c.in_ok-dirty_then.dirty_then.items c.keep.new.duties st c.in-Some.ensures.value
    (c.finding.ensures capacity) (c.in_ok-dirty_then.ensures.items ∙ c.as_slice.ensures.value)
    (λ q. c.in_ok-keep.ensures q ∙ ap (λ (o : Option Duty). cond (q == n) (Some c.finding.result) o) (c.in-Some.ensures.others q)))

pub returns-in_default-take-clause-stands : goal.returns-in_default-take-clause-stands
returns-in_default-take-clause-stands c = λ s st.
    let kept = c.args.kept.now in
    let capacity = kept.known.capacity in
    let P : Label → Type 0 = λ label. Stands capacity (record kept { duties = c.take.new.duties }) (begun s label) in
    subst P (sym c.in-Work.is) (none_kept capacity kept s c.in-Work.c c.take.new.duties st c.in_default-take.ensures.value c.in_default-take.ensures.others)
