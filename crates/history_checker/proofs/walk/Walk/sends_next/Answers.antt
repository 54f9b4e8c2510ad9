use Rattle.std.proofs.Common.{◌≡◌, ◌∙◌, ◌+◌, ap, sym, ◌∷◌, drop, arith}
use Rattle.std.specs.Prelude.{slice_index}
use Rattle.std.proofs.lemmas.List.{drop_more}
use Rattle.history_checker.specs.Walk.{next_lines, tells_first}
use Rattle.history_checker.proofs.Keeping.{sent_next}
use Rattle.history_checker.proofs.walk.Walk.sends_next.Goals as goal

pub returns-then-at-self : goal.returns-then-at-self
returns-then-at-self c = λ w k.
    let lines = c.args.lines.now in
    let walk = c.args.self.now in
    let bound = k.bound in
    let line = c.index-lines-at.result in
    let e = c.args.entry.now in
    let at = slice_index walk.next c.place_of.result in
    let rest = drop (at + 1) lines in
    let left : drop at lines ≡ line ∷ rest =
    drop_more lines at line (omega (arith, bound, c.if-at-self.true)) ∙ ap (λ x. x ∷ rest) (sym c.index-lines-at.is) in
    c.tells.ensures
    ∙ sym (sent_next lines walk w e c.place_of.result line k (sym c.is_phase_ahead.ensures ∙ c.if-not-is_phase_ahead.false) c.place_of.ensures.within
    c.if-at-self.true rest left)
    ∙ ap (λ n. tells_first e (next_lines w.place.came w.place.ahead n)) (c.place_of.ensures.value ∙ c.requires.sender)
