use Rattle.std.proofs.Common.{rules, ◌<◌, ◌∙◌, sym, ap, length, List, ℕ}
use Rattle.mode_pages.specs.ModeSelect.{pages_taken}
use Rattle.mode_pages.proofs.FrontPage.{pages_taken-step}
use Rattle.mode_pages.proofs.selecting.with_pages.Goals as goal

pub loop-list-preserved : goal.loop-list-preserved
loop-list-preserved c =
    let list : List ℕ = c.loop-list.list.now in
    let some : 0 < length list = search rules in
    let step = pages_taken-step c.loop-list.taken c.in_ok-taken.taken list _ some c.in_ok-page.ensures.page c.in_ok-taken.ensures.taken in
    c.loop-list.invariant ∙ step ∙ ap (pages_taken 0 c.in_ok-taken.taken) (sym c.in_ok-page.ensures.rest)
