use Rattle.std.proofs.Common.{◌∙◌, ◌+◌, ℕ, sym, subst}
use Rattle.std.specs.Prelude.{IsTrue, slice_index, slice_range, slice_set}
use Rattle.disk_base.specs.At.{put_at}
use Rattle.history_checker.specs.Parts.{lines_of}
use Rattle.history_checker.specs.Standing.{Keeps, StandsFirst, has_next}
use Rattle.history_checker.proofs.Keeping.{sender_past}
use Rattle.history_checker.proofs.walk.Walk.take_line.Goals as goal

pub returns-then-at-self : goal.returns-then-at-self
returns-then-at-self c = λ w k some.
    let lines = c.args.lines.now in
    let old = c.args.self.now in
    let place = c.place_of-place.result in
    let value = c.place_of-place.ensures.value in
    let S : ℕ → Type 0 = λ n. IsTrue (has_next w.place n) in
    let F : ℕ → Type 0 = λ n. StandsFirst lines n c.seek.result old.stop (lines_of n (slice_range lines (slice_index old.next place + 1) old.stop)) in
    let K : ℕ → Type 0 = λ n. Keeps lines (record old { next = slice_set old.next place c.seek.result })
    (record w { place = record w.place { came = put_at n (w.place.came n + 1) w.place.came } }) in
    subst K value
    (sender_past lines old w place c.seek.result k (subst S (sym value) some) c.place_of-place.ensures.within c.if-at-self.true
    (subst F (c.number.ensures.value ∙ sym value) c.seek.ensures))
