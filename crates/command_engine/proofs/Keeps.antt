-- What holds of a command wherever it stands holds after each answer that fits.
use Rattle.std.proofs.Common.{◌≡◌, ℕ, ◌+◌, ◌^◌, ◌<◌, ◌≤◌, Bool, true, false, ◌&&◌, ◌==◌, length, Some, None, refl, sym, subst, arith, IsTrue}
use Rattle.std.specs.Prelude.{Option, is_none, if◌then◌else◌}
use Rattle.std.proofs.lemmas.Bool.{ltb-true}
use Rattle.std.proofs.lemmas.Option.{slice_get_within}
use Rattle.std.proofs.lemmas.Bool.Decides.{nat_tests}
use Rattle.disk_base.specs.declared.address.Lba.{Lba}
use Rattle.disk_base.specs.declared.stage.MoveWhy.TheVariants.{GivenUp}
use Rattle.disk_base.specs.declared.stage.Stage.{Stage}
use Rattle.read_recovery.specs.Stages.{Progress, begun, next_stage, answered}
use Rattle.cdb_reader.specs.declared.plan.Reading as reading
use Rattle.cdb_reader.specs.declared.plan.Writing as writing
use Rattle.cdb_reader.specs.declared.plan.Moving as moving
use Rattle.cdb_reader.specs.declared.plan.Plan.{Plan}
use Rattle.cdb_reader.specs.declared.plan.Plan.TheVariants.{Reading, Writing, Moving, Unread}
use Rattle.cdb_reader.specs.Plan.{reading_from}
use Rattle.cdb_reader.specs.Reassign.{descriptors_at_most}
use Rattle.command_engine.specs.declared.answer.Answer.{Answer}
use Rattle.command_engine.specs.declared.answer.Answer.TheVariants.{Paged}
use Rattle.command_engine.specs.declared.step.Recovery.{Recovery}
use Rattle.command_engine.specs.declared.step.Step.{Step}
use Rattle.command_engine.specs.declared.step.Step.TheVariants as step
use Rattle.command_engine.specs.declared.step.Step.TheVariants.{Trying, Hardening, Faulted}
use Rattle.command_engine.specs.Course.{Course}
use Rattle.command_engine.specs.Need.{in_hand, end_of_list}
use Rattle.command_engine.specs.Standing.{IsCourse, IsUnderWay, IsWriting, IsReading, IsMoving, IsNamed, IsTriedBy}
use Rattle.command_engine.specs.Answers.{fits, after, gives_up, is_moving, settles, settled, past, owed_after, moved_after, step_after, found_by, recovered_after}
use Rattle.command_engine.proofs.Stages.{begun_is_tried, answered_is_tried}
use Rattle.command_engine.proofs.Lists.{past_is}
use Rattle.command_engine.proofs.Fit.{Fit, fit_of, read_found, read_lost, read_missed, read_dirty, read_hardened, read_faulted, write_put, write_hardened, write_faulted, sync_clean, sync_dirty, sync_hardened, sync_faulted, paged, list_found, list_missed, list_dirty, list_moved, list_spareless}

-- a read after a stage failed
missed : (retry moved : ℕ) (r : reading.Reading) (p : Progress) (lost : Bool) → is_none (next_stage (answered p false)) ≡ lost → r.at < r.end → IsReading retry (Trying p) r
    → IsUnderWay retry (if lost then Unread r.at else Reading r) moved (if lost then Trying (begun retry) else Trying (answered p false))
missed retry moved r p true is left way = (begun_is_tried retry, omega arith)
missed retry moved r p false is left way =
    record { tried = answered_is_tried retry p way.tried is; left = way.left; addresses = way.addresses; through = tt }

-- where the block written isn't the last of a write that is verified, another is left
not_last : (verifies : Bool) (at end : ℕ) → (verifies && at + 1 == end) ≡ false → at < end → verifies ≡ true → at + 1 < end
not_last true at end is left h = grind (arith, nat_tests)
not_last false at end is left h = absurd (cc)

-- a write after a block was written
written : (retry moved : ℕ) (w : writing.Writing) (p : Progress) (last : Bool) → (w.verifies && w.at + 1 == w.end) ≡ last → w.at < w.end → IsWriting retry (Trying p) w
    → IsUnderWay retry (if last then reading_from w.from w.end true w.reports else Writing (record w { at = w.at + 1; owes_harden = false })) moved (Trying (begun retry))
written retry moved w p true is left way = record { tried = begun_is_tried retry; left = omega (arith, way.reached); addresses = way.addresses; through = tt }
written retry moved w p false is left way = record {
  tried = begun_is_tried retry;
  reached = omega (arith, way.reached);
  left = omega arith;
  addresses = way.addresses;
  hardened = refl;
  unhardened = tt;
  verified = λ verifies. not_last w.verifies w.at w.end is left verifies;
  data_length = way.data_length;
}

fresh_at_page : (retry : ℕ) (step : Step) → IsTriedBy retry (step_after retry false step Paged)
fresh_at_page retry (Trying p) = begun_is_tried retry
fresh_at_page retry other = begun_is_tried retry

-- a block of a list whose stages fail
list_misses : (retry moved : ℕ) (m : moving.Moving) (p : Progress) (lost : Bool) → is_none (next_stage (answered p false)) ≡ lost → moved < length m.blocks
    → IsMoving retry moved (Trying p) m → IsUnderWay retry (Moving m) moved (if lost then step.Moving GivenUp else Trying (answered p false))
list_misses retry moved m p true is left way = record { tried = tt; hardened = way.hardened; left = left; count = way.count; addresses = way.addresses }
list_misses retry moved m p false is left way =
    record { tried = answered_is_tried retry p way.tried is; hardened = way.hardened; left = way.left; count = way.count; addresses = way.addresses }

-- a list of one block more that is moved
list_moves : (retry moved : ℕ) (m : moving.Moving) (b : Lba) (hardens : Bool) → in_hand m moved ≡ Some b → m.hardened ≤ moved → moved < length m.blocks
    → length m.blocks ≤ descriptors_at_most → end_of_list m.blocks ≤ 2 ^ 32 → IsUnderWay retry (past m (if hardens then Some b else None)) (moved + 1) (Trying (begun retry))
list_moves retry moved m b hardens hand low left count addresses =
    let after = past_is m moved b hardens hand low in
    subst (λ plan. IsUnderWay retry plan (moved + 1) (Trying (begun retry))) (sym after.1.0)
    (record { tried = begun_is_tried retry; hardened = after.1.1; left = omega (arith, left); count = count; addresses = addresses })

kept : (retry moved : ℕ) (plan : Plan) (step : Step) (a : Answer) → Fit moved plan step a → IsUnderWay retry plan moved step
    → IsUnderWay retry (owed_after plan (gives_up step a) (settled plan moved step) a) (moved_after (is_moving plan) moved a) (step_after retry (is_moving plan) step a)
kept retry moved _ _ _ (read_found r p stage d left is) way = record { tried = begun_is_tried retry; left = omega (arith, ltb-true r.at r.end left); addresses = way.addresses; through = tt }
kept retry moved _ _ _ (read_lost r p stage left is) way = (begun_is_tried retry, omega (arith, ltb-true r.at r.end left, way.addresses))
kept retry moved _ _ _ (read_missed r p stage left is) way = missed retry moved r p (is_none (next_stage (answered p false))) refl (ltb-true r.at r.end left) way
kept retry moved _ _ _ (read_dirty r p stage b left is through unhardened) way =
    record { tried = tt; left = ltb-true r.at r.end left; addresses = way.addresses; through = (through, unhardened) }
kept retry moved _ _ _ (read_hardened r left) way = record { tried = begun_is_tried retry; left = omega (arith, ltb-true r.at r.end left); addresses = way.addresses; through = tt }
kept retry moved _ _ _ (read_faulted r left) way = record { tried = tt; left = ltb-true r.at r.end left; addresses = way.addresses; through = way.through.0 }
kept retry moved _ _ _ (write_put w p left through) way = written retry moved w p (w.verifies && w.at + 1 == w.end) refl (ltb-true w.at w.end left) way
kept retry moved _ _ _ (write_hardened w p left) way = written retry moved w p (w.verifies && w.at + 1 == w.end) refl (ltb-true w.at w.end left) way
kept retry moved _ _ _ (write_faulted w p left) way = record {
  tried = tt;
  reached = way.reached;
  left = ltb-true w.at w.end left;
  addresses = way.addresses;
  hardened = way.hardened;
  unhardened = tt;
  verified = way.verified;
  data_length = way.data_length;
}
kept retry moved _ _ _ (sync_clean s p left) way = record { tried = begun_is_tried retry; left = omega arith; addresses = way.addresses }
kept retry moved _ _ _ (sync_dirty s p b left low high) way = record { tried = tt; left = high; addresses = way.addresses }
kept retry moved _ _ _ (sync_hardened s left) way = record { tried = begun_is_tried retry; left = omega (arith, ltb-true s.at s.end left); addresses = way.addresses }
kept retry moved _ _ _ (sync_faulted s left) way = record { tried = tt; left = ltb-true s.at s.end left; addresses = way.addresses }
kept retry moved _ _ _ (paged bytes reply step) way = fresh_at_page retry step
kept retry moved _ _ _ (list_found m p stage b value hand is) way =
    record { tried = tt; hardened = way.hardened; left = slice_get_within m.blocks moved b hand; count = way.count; addresses = way.addresses }
kept retry moved _ _ _ (list_missed m p stage b hand is) way =
    list_misses retry moved m p (is_none (next_stage (answered p false))) refl (slice_get_within m.blocks moved b hand) way
kept retry moved _ _ _ (list_dirty m p stage b dirty hand is) way =
    record { tried = tt; hardened = way.hardened; left = slice_get_within m.blocks moved b hand; count = way.count; addresses = way.addresses }
kept retry moved _ _ _ (list_moved m why b hand) way =
    rw hand (list_moves retry moved m b (settles why) hand way.hardened way.left way.count way.addresses)
kept retry moved _ _ _ (list_spareless m why b hand) way =
    record { tried = tt; hardened = way.hardened; left = way.left; count = way.count; addresses = way.addresses }

-- the address of the last block that was found past the plain read fits sense data
named_past : (b : ℕ) (stage : Stage) (plain : Bool) (recovered : Option Recovery) → b < 2 ^ 32 → IsNamed recovered
    → IsNamed (if plain then recovered else Some (record { b = record { 0 = b }; stage = stage }))
named_past b stage true recovered h named = named
named_past b stage false recovered h named = h

named_by : (b : ℕ) (o : Option Stage) (recovered : Option Recovery) → b < 2 ^ 32 → IsNamed recovered → IsNamed (found_by b o recovered)
named_by b None recovered h named = named
named_by b (Some stage) recovered h named = named_past b stage (stage.number == 0) recovered h named

named : (moved : ℕ) (plan : Plan) (step : Step) (a : Answer) (retry : ℕ) (recovered : Option Recovery) → Fit moved plan step a → IsUnderWay retry plan moved step → IsNamed recovered
    → IsNamed (recovered_after plan step a recovered)
named moved _ _ _ retry recovered (read_found r p stage d left found) way is = named_by r.at (next_stage p) recovered (omega (arith, ltb-true r.at r.end left, way.addresses)) is
named moved _ _ _ retry recovered (read_lost r p stage left found) way is = is
named moved _ _ _ retry recovered (read_missed r p stage left found) way is = is
named moved _ _ _ retry recovered (read_dirty r p stage b left found through unhardened) way is = is
named moved _ _ _ retry recovered (read_hardened r left) way is = is
named moved _ _ _ retry recovered (read_faulted r left) way is = is
named moved _ _ _ retry recovered (write_put w p left through) way is = is
named moved _ _ _ retry recovered (write_hardened w p left) way is = is
named moved _ _ _ retry recovered (write_faulted w p left) way is = is
named moved _ _ _ retry recovered (sync_clean s p left) way is = is
named moved _ _ _ retry recovered (sync_dirty s p b left low high) way is = is
named moved _ _ _ retry recovered (sync_hardened s left) way is = is
named moved _ _ _ retry recovered (sync_faulted s left) way is = is
named moved _ _ _ retry recovered (paged bytes reply step) way is = is
named moved _ _ _ retry recovered (list_found m p stage b value hand found) way is = is
named moved _ _ _ retry recovered (list_missed m p stage b hand found) way is = is
named moved _ _ _ retry recovered (list_dirty m p stage b dirty hand found) way is = is
named moved _ _ _ retry recovered (list_moved m why b hand) way is = is
named moved _ _ _ retry recovered (list_spareless m why b hand) way is = is

-- what holds of a command holds after an answer
pub still : (c : Course) (a : Answer) → IsCourse c → IsTrue (fits c a) → IsCourse (after c a)
still c a is fit =
    let fits_so = fit_of c.settings.awre c.moved c.plan c.step a fit in
    record {
      retry = is.retry;
      under_way = kept c.settings.retry c.moved c.plan c.step a fits_so is.under_way;
      recovered = named c.moved c.plan c.step a c.settings.retry c.recovered fits_so is.under_way is.recovered;
    }
