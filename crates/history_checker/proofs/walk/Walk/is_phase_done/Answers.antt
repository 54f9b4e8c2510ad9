use Rattle.std.proofs.Common.{◌∙◌, sym}
use Rattle.history_checker.proofs.Keeping.{done_come}
use Rattle.history_checker.proofs.walk.Walk.is_phase_done.Goals as goal

pub returns-clause-done : goal.returns-clause-done
returns-clause-done c = λ w k.
    done_come c.args.lines.now c.args.self.now c.args.idle c.have_all_come.result w (sym c.is_phase_ahead.ensures ∙ c.if-not-is_phase_ahead.false)
    c.if-not-self.false c.if-not-idle.false c.have_all_come.ensures k
