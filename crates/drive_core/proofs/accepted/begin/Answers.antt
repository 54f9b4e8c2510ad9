use Rattle.std.proofs.Common.{Some, None}
use Rattle.drive_core.proofs.Placing.{placed, begins, absent}
use Rattle.drive_core.proofs.accepted.begin.Goals as goal

pub returns-in-Some : goal.returns-in-Some
returns-in-Some c a is_in =
    begins c.args.commands.now.items c.args.c c.in-Some.i c.index_mut.result.now a (Some c.args.work)
    (placed c.args.commands.now.items c.as_slice.result.now c.args.c c.place.result (Some c.in-Some.i) c.as_slice.ensures.value c.place.ensures c.in-Some.is)
    c.index_mut.ensures.value is_in

pub returns-in-None : goal.returns-in-None
returns-in-None c a is_in =
    absent c.args.commands.now.items c.args.c a
    (placed c.args.commands.now.items c.as_slice.result.now c.args.c c.place.result None c.as_slice.ensures.value c.place.ensures c.in-None.is) is_in
