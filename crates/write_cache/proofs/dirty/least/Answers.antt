use Rattle.std.proofs.Common.{sym, ap, ◌∙◌, List, ℕ}
use Rattle.disk_base.specs.declared.address.Lba.{Lba}
use Rattle.write_cache.specs.Contents.{is_within}
use Rattle.write_cache.proofs.Least.{least-passing, least-not_passing}
use Rattle.write_cache.proofs.dirty.least.Goals as goal
use Rattle.write_cache.proofs.dirty.least.Goals.{then-is_within, else-is_within}

pub loop-held-preserved : goal.loop-held-preserved
loop-held-preserved c =
    let items = c.args.list.now.items in
    let is = rw c.as_slice-held-items.ensures.value at c.held-item.is in
    let inside = rw c.as_slice-held-items.ensures.value at c.loop-held-test.true in
    let named = c.address-b.ensures ∙ ap (λ (e : Lba × List ℕ). e.0) is in
    elim c.if-is_within.branch [
      | then-is_within w ↦ rw w.least-is (least-passing (is_within c.args.from c.args.to) items c.loop-held.held-index c.held-item.result c.address-b.result c.loop-held.least w.lesser.result inside named c.loop-held.invariant (sym w.if-is_within.ensures) w.lesser.ensures)
      | else-is_within w ↦ rw w.least-is (least-not_passing (is_within c.args.from c.args.to) items c.loop-held.held-index c.held-item.result c.address-b.result c.loop-held.least inside named c.loop-held.invariant (sym w.if-is_within.ensures))
    ]
