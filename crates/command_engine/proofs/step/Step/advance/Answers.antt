-- a read that no stage has found yet has a next one
use Rattle.command_engine.proofs.Stages.{stage_is_left}
use Rattle.command_engine.proofs.step.Step.advance.Goals as goal

pub answer-requires : goal.answer-requires
answer-requires c = stage_is_left c.args.retry c.in-Trying.trying (rw c.in-Trying.is at c.requires.tried)
