use Rattle.block_machine.specs.Blocks.{blocks_at_start}
use Rattle.history_replay.specs.Array.{blocks_of}
use Rattle.history_replay.proofs.Turn.{turns_begin}
use Rattle.history_replay.proofs.block_turns.replay_blocks.Goals as goal

pub loop-index-init : goal.loop-index-init
loop-index-init c = (
  turns_begin c.args.capacity blocks_at_start (blocks_of c.in_ok-blocks.blocks.items) c.args.turns.now c.in_ok-blocks.ensures.zeros,
  c.in_ok-blocks.ensures.length,
)
