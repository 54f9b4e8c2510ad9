use Rattle.std.proofs.Common.{◌∙◌, sym, subst}
use Rattle.history_checker.specs.Standing.{Keeps, past_first}
use Rattle.history_checker.specs.Walk.{Walk}
use Rattle.history_checker.proofs.Ahead.{settled_here, settled_past}
use Rattle.history_checker.proofs.walk.Walk.settle.Goals as goal

pub phases-preserved : goal.phases-preserved
phases-preserved c =
    let old = c.phases.invariant.0 in (
      (past_first old.0, c.leave_phase.ensures.stands old.0 old.1),
      λ w k.
          let v = c.phases.invariant.1 w k in (
            past_first v.0,
            c.leave_phase.ensures.stands v.0 v.1,
            sym (settled_past c.args.idle v.0 (sym (c.is_phase_done.ensures.done v.0 v.1) ∙ c.phases-test.true)) ∙ v.2,
          ),
    )

pub returns : goal.returns
returns c = λ w k.
    let v = c.phases.invariant.1 w k in
    let P : Walk → Type 0 = λ x. Keeps c.args.lines.now c.phases.self x in
    subst P (sym (settled_here c.args.idle v.0 (sym (c.is_phase_done.ensures.done v.0 v.1) ∙ c.phases-test.false)) ∙ v.2) v.1
