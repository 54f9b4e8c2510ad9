use Rattle.std.proofs.Common.{inl}
use Rattle.command_engine.specs.declared.need.Need.TheVariants as need
use Rattle.drive_core.proofs.ToPut.{put_asked}
use Rattle.drive_core.proofs.turning.go_on.Goals as goal

pub put-requires-clause-needs : goal.put-requires-clause-needs
put-requires-clause-needs c =
    put_asked c.args.server.now.commands.items c.as_slice.result.now c.args.c c.args.errand (need.Put c.in-Put.b) c.block_to_put-block.result
    c.as_slice.ensures.value c.requires.errand c.in-Put.is c.block_to_put-block.ensures

pub put_through-requires-clause-through : goal.put_through-requires-clause-through
put_through-requires-clause-through c =
    inl (put_asked c.args.server.now.commands.items c.as_slice-in-PutThrough.result.now c.args.c c.args.errand (need.PutThrough c.in-PutThrough.b)
    c.block_to_put-block-in-PutThrough.result c.as_slice-in-PutThrough.ensures.value c.requires.errand c.in-PutThrough.is c.block_to_put-block-in-PutThrough.ensures)
