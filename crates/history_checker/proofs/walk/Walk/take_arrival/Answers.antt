use Rattle.std.proofs.Common.{◌≡◌, ◌∙◌, ◌+◌, ℕ, ap, sym, subst, Option, Some}
use Rattle.std.specs.Prelude.{IsTrue, true}
use Rattle.disk_base.specs.At.{put_at}
use Rattle.block_machine.specs.declared.entry.Entry.{Entry}
use Rattle.history_checker.specs.Standing.{Keeps, has_next}
use Rattle.history_checker.specs.Walk.{came_after, comes_next, next_lines, sender_of}
use Rattle.history_checker.proofs.Keeping.{tells_some}
use Rattle.history_checker.proofs.walk.Walk.take_arrival.Goals as goal

pub returns-in-Some : goal.returns-in-Some
returns-in-Some c = λ w k comes.
    let lines = c.args.lines.now in
    let told = c.in-Some.ensures in
    let e = told.0 in
    let here : comes_next w.place (Some e) ≡ true = ap (comes_next w.place) (sym told.1) ∙ comes in
    let S : ℕ → Type 0 = λ n. IsTrue (has_next w.place n) in
    let some = subst S (sym told.2) (tells_some e (next_lines w.place.came w.place.ahead (sender_of e)) here) in
    let after = c.take_line.ensures w k some in
    let K : ℕ → Type 0 = λ n. Keeps lines c.take_line.new.self (record w { place = record w.place { came = put_at n (w.place.came n + 1) w.place.came } }) in
    let O : Option Entry → Type 0 = λ o. Keeps lines c.take_line.new.self (record w { place = record w.place { came = came_after w.place.came o } }) in
    subst O (sym told.1) (subst K told.2 after)
