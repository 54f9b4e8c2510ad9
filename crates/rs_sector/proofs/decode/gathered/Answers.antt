use Rattle.std.proofs.Common.{◌<◌, ◌+◌, sym, subst, arith}
use Rattle.rs_sector.specs.Places.{ListsMarked}
use Rattle.rs_sector.proofs.Repairing.{lists_none, lists_room, lists_marked, lists_unmarked}
use Rattle.rs_sector.proofs.decode.gathered.Goals as goal
use Rattle.rs_sector.proofs.decode.gathered.Goals.{then-marked, else-marked}

pub loop-k-init : goal.loop-k-init
loop-k-init c = lists_none c.args.marks.now

pub bounds-list-count : goal.bounds-list-count
bounds-list-count c = lists_room c.args.marks.now c.loop-k.k c.loop-k.list c.loop-k.count (omega (arith, c.told-marks)) c.requires c.if-marked.true c.loop-k.invariant

pub loop-k-preserved : goal.loop-k-preserved
loop-k-preserved c =
    let within : c.loop-k.k < 148 = omega (arith, c.told-marks) in
    elim c.if-marked.branch [
      | then-marked w ↦
          subst (λ l. ListsMarked c.args.marks.now (c.loop-k.k + 1) l c.if-marked.count) (sym w.list-is)
          (subst (ListsMarked c.args.marks.now (c.loop-k.k + 1) _) (sym w.count-is) (lists_marked c.args.marks.now c.loop-k.k c.loop-k.list c.loop-k.count within c.requires w.if-marked.true c.loop-k.invariant))
      | else-marked w ↦
          subst (λ l. ListsMarked c.args.marks.now (c.loop-k.k + 1) l c.if-marked.count) (sym w.list-is)
          (subst (ListsMarked c.args.marks.now (c.loop-k.k + 1) c.loop-k.list) (sym w.count-is) (lists_unmarked c.args.marks.now c.loop-k.k c.loop-k.list c.loop-k.count w.if-marked.false c.loop-k.invariant))
    ]
