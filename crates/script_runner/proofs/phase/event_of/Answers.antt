-- an arrival is taken where something waits, and a destage where one is asked for
use Rattle.std.proofs.Common.{arith}
use Rattle.script_runner.proofs.Fetching.{no_background, fetched, destage_fetched}
use Rattle.script_runner.proofs.phase.event_of.Goals as goal

pub unreachable-requires : goal.unreachable-requires
unreachable-requires c = let h = rw c.in-Arrive.is at c.requires.at_hand in h c.in-None.ensures

pub unreachable-requires-in-Job : goal.unreachable-requires-in-Job
unreachable-requires-in-Job c = no_background _ c.args.pick c.requires.at_hand c.in-Job.is

pub returns-in-Some : goal.returns-in-Some
returns-in-Some c = rw c.in-Arrive.is (fetched c.args.queued.now c.take.new.self c.in-Arrive.initiator c.in-Some.arrival c.requires.served c.in-Some.ensures)

pub returns-in-Destage : goal.returns-in-Destage
returns-in-Destage c = let some = rw c.in-Destage.is at c.requires.at_hand in rw c.in-Destage.is (destage_fetched c.args.queued.now _ (omega arith))
