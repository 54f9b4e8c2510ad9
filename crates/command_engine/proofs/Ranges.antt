-- No answer widens the range of a command.
use Rattle.std.proofs.Common.{◌≡◌, ℕ, ◌+◌, ◌≤◌, Bool, true, false, ◌&&◌, ◌==◌, Some, None, sym, subst, arith, IsTrue}
use Rattle.std.specs.Prelude.{is_none, if◌then◌else◌}
use Rattle.disk_base.specs.declared.address.Lba.{Lba}
use Rattle.read_recovery.specs.Stages.{next_stage, answered}
use Rattle.cdb_reader.specs.declared.plan.Moving as moving
use Rattle.cdb_reader.specs.declared.plan.Plan.{Plan}
use Rattle.command_engine.specs.declared.answer.Answer.{Answer}
use Rattle.command_engine.specs.declared.step.Step.{Step}
use Rattle.command_engine.specs.Course.{Course}
use Rattle.command_engine.specs.Need.{end_of, end_of_list, in_hand}
use Rattle.command_engine.specs.Standing.{IsCourse, IsUnderWay}
use Rattle.command_engine.specs.Answers.{fits, after, gives_up, settles, settled, past, owed_after}
use Rattle.command_engine.proofs.Lists.{past_is}
use Rattle.command_engine.proofs.Fit.{Fit, fit_of, read_found, read_lost, read_missed, read_dirty, read_hardened, read_faulted, write_put, write_hardened, write_faulted, sync_clean, sync_dirty, sync_hardened, sync_faulted, paged, list_found, list_missed, list_dirty, list_moved, list_spareless}

one_of : (end : ℕ) (choice : Bool) (p q : Plan) → end_of p ≤ end → end_of q ≤ end → end_of (if choice then p else q) ≤ end
one_of end true p q hp hq = hp
one_of end false p q hp hq = hq

same_list : (moved : ℕ) (m : moving.Moving) (b : Lba) (hardens : Bool) → in_hand m moved ≡ Some b → m.hardened ≤ moved
    → end_of (past m (if hardens then Some b else None)) ≤ end_of_list m.blocks
same_list moved m b hardens hand low =
    let after = past_is m moved b hardens hand low in subst (λ plan. end_of plan ≤ end_of_list m.blocks) (sym after.1.0) (omega arith)

narrows : (retry moved : ℕ) (plan : Plan) (step : Step) (a : Answer) → Fit moved plan step a → IsUnderWay retry plan moved step
    → end_of (owed_after plan (gives_up step a) (settled plan moved step) a) ≤ end_of plan
narrows retry moved _ _ _ (read_found r p stage d left is) way = omega arith
narrows retry moved _ _ _ (read_lost r p stage left is) way = omega arith
narrows retry moved _ _ _ (read_missed r p stage left is) way = one_of r.end (is_none (next_stage (answered p false))) _ _ (omega arith) (omega arith)
narrows retry moved _ _ _ (read_dirty r p stage b left is through unhardened) way = omega arith
narrows retry moved _ _ _ (read_hardened r left) way = omega arith
narrows retry moved _ _ _ (read_faulted r left) way = omega arith
narrows retry moved _ _ _ (write_put w p left through) way = one_of w.end (w.verifies && w.at + 1 == w.end) _ _ (omega arith) (omega arith)
narrows retry moved _ _ _ (write_hardened w p left) way = one_of w.end (w.verifies && w.at + 1 == w.end) _ _ (omega arith) (omega arith)
narrows retry moved _ _ _ (write_faulted w p left) way = omega arith
narrows retry moved _ _ _ (sync_clean s p left) way = omega arith
narrows retry moved _ _ _ (sync_dirty s p b left low high) way = omega arith
narrows retry moved _ _ _ (sync_hardened s left) way = omega arith
narrows retry moved _ _ _ (sync_faulted s left) way = omega arith
narrows retry moved _ _ _ (paged bytes reply step) way = omega arith
narrows retry moved _ _ _ (list_found m p stage b value hand is) way = omega arith
narrows retry moved _ _ _ (list_missed m p stage b hand is) way = omega arith
narrows retry moved _ _ _ (list_dirty m p stage b dirty hand is) way = omega arith
narrows retry moved _ _ _ (list_moved m why b hand) way = rw hand (same_list moved m b (settles why) hand way.hardened)
narrows retry moved _ _ _ (list_spareless m why b hand) way = omega arith

-- an answer doesn't widen the command's range
pub narrower : (c : Course) (a : Answer) → IsCourse c → IsTrue (fits c a) → end_of (after c a).plan ≤ end_of c.plan
narrower c a is fit = narrows c.settings.retry c.moved c.plan c.step a (fit_of c.settings.awre c.moved c.plan c.step a fit) is.under_way
