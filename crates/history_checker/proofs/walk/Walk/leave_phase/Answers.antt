use Rattle.std.proofs.Common.{◌+◌, ℕ, subst}
use Rattle.std.specs.Prelude.{slice_index, slice_range}
use Rattle.std.proofs.lemmas.List.{get_or-replicate}
use Rattle.history_checker.specs.Parts.{lines_of}
use Rattle.history_checker.specs.Standing.{StandsFirst}
use Rattle.history_checker.proofs.Keeping.{phase_past}
use Rattle.history_checker.proofs.walk.Walk.leave_phase.Goals as goal

pub returns-clause-stands : goal.returns-clause-stands
returns-clause-stands c = λ w k.
    let lines = c.args.lines.now in
    let old = c.args.self.now in
    let stop = c.stop_from-self.result in
    let next = c.sought-self.result in
    phase_past lines old w stop next k c.requires.phase c.if-self-lines.false c.stop_from-self.ensures.low c.stop_from-self.ensures.high
    c.stop_from-self.ensures.stops c.stop_from-self.ensures.parts c.sought-self.ensures.eight
    (λ j less.
    let P : ℕ → Type 0 = λ n. StandsFirst lines (j + 1) (slice_index next j) stop (lines_of (j + 1) (slice_range lines n stop)) in
    subst P (get_or-replicate 8 j (old.stop + 1) 0 less) (c.sought-self.ensures.each j less))
