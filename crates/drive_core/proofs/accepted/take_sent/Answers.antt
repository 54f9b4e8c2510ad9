use Rattle.std.proofs.Common.{◌∙◌, ap, Some, None}
use Rattle.disk_base.specs.declared.command.DataOut.TheVariants.{Nothing}
use Rattle.drive_core.specs.declared.accepted.Accepted.{Accepted}
use Rattle.drive_core.proofs.Placing.{placed, gives_up_data, absent, same_there}
use Rattle.drive_core.proofs.accepted.take_sent.Goals as goal

pub returns-in-Some-clause-left : goal.returns-in-Some-clause-left
returns-in-Some-clause-left c a is_in =
    gives_up_data c.args.commands.now.items c.args.c c.in-Some.i c.index_mut.result.now a c.replace.new.dest Nothing
    (placed c.args.commands.now.items c.as_slice.result.now c.args.c c.place.result (Some c.in-Some.i) c.as_slice.ensures.value c.place.ensures c.in-Some.is)
    c.index_mut.ensures.value is_in c.replace.ensures.after

pub returns-in-Some-clause-sent : goal.returns-in-Some-clause-sent
returns-in-Some-clause-sent c a is_in =
    c.replace.ensures.value ∙ ap (λ (x : Accepted). x.sent) (same_there c.args.commands.now.items c.args.c c.in-Some.i c.index_mut.result.now a
    (placed c.args.commands.now.items c.as_slice.result.now c.args.c c.place.result (Some c.in-Some.i) c.as_slice.ensures.value c.place.ensures c.in-Some.is)
    c.index_mut.ensures.value is_in)

pub returns-in-None-clause-sent : goal.returns-in-None-clause-sent
returns-in-None-clause-sent c a is_in =
    absent c.args.commands.now.items c.args.c a
    (placed c.args.commands.now.items c.as_slice.result.now c.args.c c.place.result None c.as_slice.ensures.value c.place.ensures c.in-None.is) is_in

pub returns-in-None-clause-left : goal.returns-in-None-clause-left
returns-in-None-clause-left c a is_in =
    absent c.args.commands.now.items c.args.c a
    (placed c.args.commands.now.items c.as_slice.result.now c.args.c c.place.result None c.as_slice.ensures.value c.place.ensures c.in-None.is) is_in
