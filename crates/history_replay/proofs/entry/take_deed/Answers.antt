use Rattle.std.proofs.Common.{◌∙◌, sym, true, false, rules}
use Rattle.task_set.specs.Members.{IsIn}
use Rattle.block_machine.specs.Steps.{duties_after}
use Rattle.history_replay.specs.Kept.{IsLater}
use Rattle.history_replay.proofs.Owing.{doer_later}
use Rattle.history_replay.proofs.Standing.{deed_kept, deed_may, kept_later, settled}
use Rattle.history_replay.proofs.entry.take_deed.Goals as goal

pub returns-then-not-branch : goal.returns-then-not-branch
returns-then-not-branch c = λ s st.
    let kept = c.args.kept.now in
    let inside : IsIn kept.set c.args.c = search rules in
    let told = sym c.if-not-branch.true ∙ c.in_ok-work.ensures.may in (
      deed_may kept.known.capacity kept c.as_slice-dirty.result.now c.args.label.now s c.args.entry.now c.args.c false st
          c.as_slice-dirty.ensures.value c.requires.doer inside told,
      λ may. absurd (cc),
    )

pub returns : goal.returns
returns c = λ s st.
    let kept = c.args.kept.now in
    let capacity = kept.known.capacity in
    let label = c.args.label.now in
    let e = c.args.entry.now in
    let slice = c.as_slice-dirty.result.now in
    let is = c.as_slice-dirty.ensures.value in
    let inside : IsIn kept.set c.args.c = search rules in
    let told = sym c.if-not-branch.false ∙ c.in_ok-work.ensures.may in
    let later : IsLater e = doer_later label e c.args.c c.requires.doer in
    let between = deed_kept capacity kept c.work.new.duties slice label s e c.args.c st is c.requires.doer inside told
    (c.in_ok-work.ensures.after c.if-not-branch.false) in
    let h = c.in_ok-settle.ensures in (
      deed_may capacity kept slice label s e c.args.c true st is c.requires.doer inside told,
      λ may. settled capacity label kept c.settle.new.kept s e st later
          (kept_later capacity c.work.new.duties c.settle.new.kept.duties s (duties_after capacity label s e) e later between h.duties)
          h.arrived h.capacity h.set h.settings h.waiting h.warned h.corrupt h.scan h.counted h.dirty,
    )
