use Rattle.std.proofs.Common.{◌∙◌, sym}
use Rattle.drive_core.proofs.ToPut.{next_there, next_waiting, next_nowhere, put_next}
use Rattle.drive_core.proofs.putting.block_to_put.Goals as goal

pub next_block-requires : goal.next_block-requires
next_block-requires c =
    next_there c.args.commands.now c.args.c c.in-Some.i c.index-commands-i.result c.in-Some-work.work (sym c.place.ensures ∙ c.in-Some.is) c.index-commands-i.is c.in-Some-work.is c.requires

pub unreachable-requires : goal.unreachable-requires
unreachable-requires c =
    next_waiting c.args.commands.now c.args.c c.in-Some.i c.index-commands-i.result (sym c.place.ensures ∙ c.in-Some.is) c.index-commands-i.is c.in-None-work.is c.requires

pub unreachable-requires-in-None : goal.unreachable-requires-in-None
unreachable-requires-in-None c = next_nowhere c.args.commands.now c.args.c (sym c.place.ensures ∙ c.in-None.is) c.requires

pub returns : goal.returns
returns c needed needs =
    put_next c.args.commands.now c.args.c c.in-Some.i c.index-commands-i.result c.in-Some-work.work c.next_block.result needed (sym c.place.ensures ∙ c.in-Some.is) c.index-commands-i.is
    c.in-Some-work.is c.stands_by_its_plan.ensures c.next_block.ensures needs
