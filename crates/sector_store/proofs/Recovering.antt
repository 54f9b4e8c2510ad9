-- What a recovery comes to.
use Rattle.std.proofs.Common.{◌≡◌, ℕ, ◌+◌, ◌-◌, ◌<◌, ◌≤◌, Bool, true, false, List, [], ◌∷◌, ◌++◌, length, Option, Some, None, refl, sym, ◌∙◌, ap, subst, arith, ◌⊎◌, inl, inr}
use Rattle.std.specs.Prelude.{if◌then◌else◌}
use Rattle.disk_base.specs.declared.address.Psn.{Psn}
use Rattle.disk_base.specs.declared.payload.Payload.{Payload}
use Rattle.disk_base.specs.declared.stage.Stage.{Stage}
use Rattle.platter_model.specs.declared.op.Op.{Op}
use Rattle.platter_model.specs.declared.op.Op.TheVariants.{Power}
use Rattle.platter_model.specs.Sector.{meant, is_faulty}
use Rattle.platter_model.specs.State.{State, with_op}
use Rattle.platter_model.specs.TrueLog.{is_off, strays}
use Rattle.geometry_map.specs.DefectMap.{DefectMap, sector}
use Rattle.read_recovery.specs.Stages.{stages_of}
use Rattle.map_generations.specs.Recovery.{Reads, counted, IsTaken, IsCorrupt}
use Rattle.map_generations.specs.SafeMaps.{SafeMaps, AreReadFrom, NumbersUpTo}
use Rattle.sector_store.specs.declared.answer.RecoverAnswer.{RecoverAnswer}
use Rattle.sector_store.specs.declared.answer.RecoverAnswer.TheVariants.{Ready, Corrupt, Off}
use Rattle.sector_store.specs.Maps.{meant_on}
use Rattle.sector_store.specs.Writing.{IsDueWithin}
use Rattle.sector_store.specs.Committing.{KeepsReserved, AreSafe}
use Rattle.sector_store.specs.State.{Contained, IsStore}
use Rattle.sector_store.specs.Laws.{IsQuietBelow}
use Rattle.sector_store.specs.Recovering.{with_ops, AreReadBy, IsReadAnew, IsReadTruly, IsFound, Rewrites, RaisesNumbers, IsToldBy, Recovers}
use Rattle.sector_store.proofs.Meant.{meant-push}
use Rattle.sector_store.proofs.Strays.{strays-push}
use Rattle.sector_store.proofs.WritesInOrder.{off-push, faulty-push}
use Rattle.sector_store.proofs.TriesInOrder.{Quiet, quiet_reads, reads_true, reads_length}

-- what the power and the reads leave as it is
pub record Silent (before after : List Op) : Type 0 where
  pub means : (q : Psn) → meant q after ≡ meant q before
  pub faults : (q : Psn) → is_faulty q after ≡ is_faulty q before
  pub on : is_off after ≡ false
  pub strays_grow : strays before ≤ strays after

grown : (a b c d : ℕ) → a ≡ b + c → a ≤ d → b ≤ d
grown a b c d is le = omega (arith, is, le)

pub silent : (before after : State) (count : ℕ) (stages : List Stage) (reads : Reads) → AreReadBy (with_op before Power) count stages reads after
    → Silent before.ops after.ops
silent before after count stages reads read =
    let quiet : Quiet (before.ops ++ Power ∷ []) (before.ops ++ Power ∷ [] ++ read.more) =
    quiet_reads (before.ops ++ Power ∷ []) (length (before.ops ++ Power ∷ [])) 0 count stages reads read.more read.tries in
    subst (λ (x : State). Silent before.ops x.ops) (sym read.is) (record {
      means = λ q. quiet.means q ∙ meant-push q before.ops Power;
      faults = λ q. quiet.faults q ∙ faulty-push q before.ops Power;
      on = quiet.power ∙ off-push before.ops Power;
      strays_grow = grown _ _ _ _ (strays-push before.ops Power) quiet.strays_grow;
    })

pub below_read : (before after : State) (count : ℕ) (stages : List Stage) (reads : Reads) → AreReadBy (with_op before Power) count stages reads after
    → IsQuietBelow before after
below_read before after count stages reads read =
    let is = silent before after count stages reads read in
    record {
      sectors = ap (λ (x : State). x.sectors) read.is;
      same = λ p low. is.means (sector p);
      faults = λ p low. is.faults p;
      strays_grow = is.strays_grow;
    }

pub read_truly : (before after : State) (stages : List Stage) (reads : Reads) → AreReadBy (with_op before Power) 16 stages reads after
    → strays after.ops ≡ 0 → AreReadFrom (meant_on after.ops) reads
read_truly before after stages reads read none p low =
    by (reads_true (before.ops ++ Power ∷ []) (length (before.ops ++ Power ∷ [])) 0 16 stages reads read.more refl read.tries
    (ap (λ (x : State). strays x.ops) (sym read.is) ∙ none) p (omega arith) low)
  where
    quiet : Quiet (before.ops ++ Power ∷ []) (before.ops ++ Power ∷ [] ++ read.more)
    quiet = quiet_reads (before.ops ++ Power ∷ []) (length (before.ops ++ Power ∷ [])) 0 16 stages reads read.more read.tries

    by : (reads p ≡ meant_on (before.ops ++ Power ∷ []) p) ⊎ (reads p ≡ None) → (reads p ≡ meant_on after.ops p) ⊎ (reads p ≡ None)
    by (inl same) = inl (same ∙ (sym (quiet.means (sector p)) ∙ ap (λ (x : State). meant_on x.ops p) (sym read.is)))
    by (inr nothing) = inr nothing

-- the room that is left
pub room_left : (before after : State) (reads : Reads) → AreReadBy (with_op before Power) 16 (stages_of 5) reads after → 340 ≤ before.room → 18 ≤ after.room
room_left before after reads read room =
    let long : length read.more ≤ 320 = reads_length (length (before.ops ++ Power ∷ [])) 0 16 (stages_of 5) reads read.more read.tries in
    let left : after.room ≡ before.room - 1 - length read.more = ap (λ (x : State). x.room) read.is in
    omega (arith, long, left, room)

-- what stays of the numbers
numbers_same : (f g : Reads) (n : ℕ) → ((p : ℕ) → g p ≡ f p) → NumbersUpTo f n → NumbersUpTo g n
numbers_same f g n same before slot copy index p has =
    before slot copy index p (record {
      a_slot = has.a_slot;
      a_copy = has.a_copy;
      an_index = has.an_index;
      there = sym (same _) ∙ has.there;
      kind = has.kind;
      own_index = has.own_index;
    })

more_numbers : (meant_there : Reads) (n : ℕ) → NumbersUpTo meant_there n → NumbersUpTo meant_there (n + 4)
more_numbers meant_there n before slot copy index p has = let low = before slot copy index p has in omega (arith, low)

-- a recovery that takes a map
pub recovers_take : (s middle after : Contained) (reads : Reads) (m : DefectMap) (answer : RecoverAnswer) → IsReadAnew s reads middle
    → IsTaken middle.map.size (counted reads) m → Rewrites middle m answer after → Recovers s answer after
recovers_take s middle after reads m answer read taken writes = record { reads = reads; middle = middle; read = read; told = told answer refl }
  where
    never_due : (n : ℕ) → answer ≡ Ready n → answer ≡ Off → ⊥
    never_due n is off = let e : Ready n ≡ Off = sym is ∙ off in cc

    told : (a : RecoverAnswer) → answer ≡ a → IsToldBy a middle reads after
    told (Ready n) is = (m, taken, writes.ready n is, (λ due. never_due n is (writes.due.1 due)))
    told (Corrupt slot) is = absurd (writes.found slot is)
    told Off is = (m, taken, writes.off is, writes.due.0 is)

pub recovers_corrupt : (s middle after : Contained) (reads : Reads) (slot : ℕ) → IsReadAnew s reads middle → IsCorrupt middle.map.size (counted reads) slot
    → after ≡ record middle { ready = false } → Recovers s (Corrupt slot) after
recovers_corrupt s middle after reads slot read corrupt after_is = record { reads = reads; middle = middle; read = read; told = (corrupt, after_is) }

pub reserved_take : (s middle after : Contained) (reads : Reads) → IsReadAnew s reads middle → KeepsReserved middle after → KeepsReserved s after
reserved_take s middle after reads read kept p past =
    kept p past ∙ (silent s.platter middle.platter 16 (stages_of 5) reads read.read).means p

pub numbers_take : (s middle after : Contained) (reads : Reads) → IsReadAnew s reads middle → RaisesNumbers middle after → RaisesNumbers s after
numbers_take s middle after reads read raised n none before =
    raised n none (numbers_same (meant_on s.platter.ops) (meant_on middle.platter.ops) n
    (λ p. (silent s.platter middle.platter 16 (stages_of 5) reads read.read).means (sector p)) before)

pub numbers_stay : (s : Contained) → RaisesNumbers s s
numbers_stay s n none before = more_numbers (meant_on s.platter.ops) n before

pub power_on : (s x : State) → is_off s.ops ≡ true → x ≡ (if is_off s.ops then with_op s Power else s) → x ≡ with_op s Power
power_on s x off is = is ∙ ap (λ (b : Bool). if b then with_op s Power else s) off
