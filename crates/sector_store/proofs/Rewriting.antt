-- What the writes of a recovery come to.
use Rattle.std.proofs.Common.{◌≡◌, ℕ, ◌+◌, ◌-◌, ◌<◌, ◌≤◌, Bool, true, false, List, [], ◌∷◌, ◌++◌, length, map, Option, Some, None, refl, sym, ◌∙◌, ap, subst, arith, append_assoc}
use Rattle.std.specs.Prelude.{◌↔◌, All}
use Rattle.std.proofs.lemmas.List.Sums.{fold-append}
use Rattle.std.proofs.lemmas.List.Elements.{All-append}
use Rattle.disk_base.specs.declared.address.Psn.{Psn}
use Rattle.disk_base.specs.declared.payload.Payload.{Payload}
use Rattle.platter_model.specs.declared.op.Op.{Op}
use Rattle.platter_model.specs.declared.op.Op.TheVariants.{Wrote}
use Rattle.platter_model.specs.Sector.{meant}
use Rattle.platter_model.specs.State.{State}
use Rattle.platter_model.specs.TrueLog.{is_off, strays}
use Rattle.geometry_map.specs.Size.{total_of}
use Rattle.geometry_map.specs.DefectMap.{DefectMap, IsValidMap}
use Rattle.map_generations.specs.Recovery.{Reads}
use Rattle.map_generations.specs.SafeMaps.{SafeMaps, IsPresent, NumbersUpTo, MayBeTaken, written_to}
use Rattle.map_generations.specs.SafetyLaws.{WrittenMapsArePresent, SafetyIsByPlace, TakenNumbersAreMeant}
use Rattle.sector_store.specs.declared.answer.RecoverAnswer.{RecoverAnswer}
use Rattle.sector_store.specs.declared.answer.RecoverAnswer.TheVariants.{Ready, Corrupt, Off}
use Rattle.sector_store.specs.Maps.{meant_on, records_of}
use Rattle.sector_store.specs.Shapes.{recovery_records}
use Rattle.sector_store.specs.Stored.{IsThere}
use Rattle.sector_store.specs.Writing.{after_own_write, after_writes, IsDueWithin, AddsWrites}
use Rattle.sector_store.specs.Commits.{RecoveryOpsStaySafe, RecoversSafely, RewrittenMapsArePresent}
use Rattle.sector_store.specs.State.{Contained, KeepsMaps, IsStore, IsReady, kept_of}
use Rattle.sector_store.specs.Laws.{PresentMapsAreThere}
use Rattle.sector_store.specs.Recovering.{recovered, broken_off, IsFound, IsRecovered, IsRecoveryCut, Rewrites, RaisesNumbers}
use Rattle.sector_store.proofs.Made.{records_within}
use Rattle.sector_store.proofs.RecordOps.{all_written, same_written, map_both}
use Rattle.sector_store.proofs.WritesInOrder.{keeps-writes, writes-apart, adds_writes}
use Rattle.sector_store.proofs.Committing.{keeps_numbers}

-- the two maps that a recovery writes
abbrev pub other_of : DefectMap → DefectMap
other_of m = record m { number = m.number + 2; slot = 1 - m.slot }

abbrev pub own_of : DefectMap → DefectMap
own_of m = record m { number = m.number + 4 }

pub records_low : (m : DefectMap) → m.slot < 2 → All (λ payload. payload.psn.0 < 16) (recovery_records m)
records_low m slot =
    All-append (λ (payload : Payload). payload.psn.0 < 16) (records_of (other_of m)) (records_of (own_of m))
    (records_within 16 (other_of m) (omega arith) (omega arith)) (records_within 16 (own_of m) slot (omega arith))

sixteen_records : (m : DefectMap) → length (recovery_records m) ≡ 16
unfolding records_of
sixteen_records m = refl

pub rewritten_maps_are_present : WrittenMapsArePresent → SafetyIsByPlace → RewrittenMapsArePresent
rewritten_maps_are_present written by_place m ops slot =
    (by_place (written_to (own_of m) 8 (written_to (other_of m) 8 (meant_on ops))) (meant_on (ops ++ map Wrote (recovery_records m))) same).2 (own_of m)
    (written (meant_on ops) (own_of m) (other_of m) slot refl (omega arith))
  where
    middle : List Op
    middle = ops ++ map Wrote (records_of (other_of m))

    joined : middle ++ map Wrote (records_of (own_of m)) ≡ ops ++ map Wrote (recovery_records m)
    joined =
        append_assoc ops (map Wrote (records_of (other_of m))) (map Wrote (records_of (own_of m)))
        ∙ ap (λ (os : List Op). ops ++ os) (sym (map_both (records_of (other_of m)) (records_of (own_of m))))

    same : (p : ℕ) → p < 16 → written_to (own_of m) 8 (written_to (other_of m) 8 (meant_on ops)) p ≡ meant_on (ops ++ map Wrote (recovery_records m)) p
    same p low =
        same_written (own_of m) 8 (written_to (other_of m) 8 (meant_on ops)) (meant_on middle) (all_written (other_of m) ops) p
        ∙ (all_written (own_of m) middle p ∙ ap (λ (os : List Op). meant_on os p) joined)

-- the writes of both
pub written_both : (platter x after : State) (m first second : DefectMap) → after ≡ after_writes platter (records_of first ++ records_of second)
    → first ≡ other_of m → second ≡ own_of m → platter ≡ x → after ≡ after_writes x (recovery_records m)
written_both platter x after m first second is first_is second_is platter_is =
    is ∙ (ap (λ (n : DefectMap). after_writes platter (records_of n ++ records_of second)) first_is
    ∙ (ap (λ (n : DefectMap). after_writes platter (records_of (other_of m) ++ records_of n)) second_is
    ∙ ap (λ (y : State). after_writes y (recovery_records m)) platter_is))

-- a map that was found may be taken, unless a try was a stray
may_be : (s : Contained) (m : DefectMap) → IsFound s m → strays s.platter.ops ≡ 0 → MayBeTaken s.map.size (meant_on s.platter.ops) m
may_be s m found none = record { reads = found.reads; read = found.truly none; taken = found.taken }

valid_own : (m : DefectMap) → IsValidMap m → IsValidMap (own_of m)
valid_own m valid = record { primary = valid.primary; grown = valid.grown }

adds_both : (s : Contained) (m : DefectMap) → IsStore s → is_off s.platter.ops ≡ false → IsFound s m
    → AddsWrites s.platter (recovery_records m) (after_writes s.platter (recovery_records m))
adds_both s m store on found = adds_writes s.platter (recovery_records m) on store.sound (records_low m found.taken.slot)

-- what the store keeps where its writes were cut off
pub kept_broken : RecoveryOpsStaySafe → (s : Contained) (m : DefectMap) → IsStore s → is_off s.platter.ops ≡ false → IsFound s m
    → KeepsMaps s.map s.next false (after_writes s.platter (recovery_records m))
kept_broken law s m store on found =
    let adds = adds_both s m store on found in
    let kept = keeps-writes s.platter (recovery_records m) in
    record {
      sectors = kept.sectors ∙ store.sectors;
      sound = λ p low. kept.faults p ∙ store.sound p low;
      valid = store.valid;
      follows = store.follows;
      there = λ ready. let never : ⊥ = cc in absurd never;
      alone_ready = λ ready. let never : ⊥ = cc in absurd never;
      safe = λ none.
          let before : strays s.platter.ops ≡ 0 = sym kept.strays_same ∙ none in
          subst (λ (ops : List Op). SafeMaps (meant_on ops) (kept_of s)) (sym adds.added)
          (law s.map.size (kept_of s) m s.platter.ops adds.more (store.safe before) (may_be s m found before) adds.writes).safe;
    }

-- and where they were done
there_own : RewrittenMapsArePresent → PresentMapsAreThere → (s : Contained) (m : DefectMap) → IsStore s → is_off s.platter.ops ≡ false → IsFound s m
    → is_off (after_writes s.platter (recovery_records m)).ops ≡ false → IsThere (own_of m) (after_writes s.platter (recovery_records m)).ops
there_own present_law present_there s m store on found still =
    let adds = adds_both s m store on found in
    let whole : (after_writes s.platter (recovery_records m)).ops ≡ s.platter.ops ++ map Wrote (recovery_records m) =
    adds.added ∙ ap (λ (ops : List Op). s.platter.ops ++ ops) (adds.whole still) in
    present_there (own_of m) (after_writes s.platter (recovery_records m)).ops (valid_own m found.taken.latest.complete.valid) found.taken.latest.complete.in_use
    (subst (λ (ops : List Op). IsPresent (meant_on ops) (own_of m)) (sym whole) (present_law m s.platter.ops found.taken.slot))

pub kept_own : RewrittenMapsArePresent → PresentMapsAreThere → (s : Contained) (m : DefectMap) → IsStore s → is_off s.platter.ops ≡ false → IsFound s m
    → is_off (after_writes s.platter (recovery_records m)).ops ≡ false → KeepsMaps (own_of m) None true (after_writes s.platter (recovery_records m))
kept_own present_law present_there s m store on found still =
    let there = there_own present_law present_there s m store on found still in
    let kept = keeps-writes s.platter (recovery_records m) in
    record {
      sectors = kept.sectors ∙ (store.sectors ∙ sym (ap total_of found.taken.latest.complete.of_drive));
      sound = λ p low. kept.faults p ∙ store.sound p low;
      valid = valid_own m found.taken.latest.complete.valid;
      follows = tt;
      there = λ ready. there;
      alone_ready = λ ready. refl;
      safe = λ none. there.safe;
    }

-- when the cut comes
due_both : (s : Contained) (m : DefectMap) → IsStore s → is_off s.platter.ops ≡ false → IsFound s m
    → (is_off (after_writes s.platter (recovery_records m)).ops ≡ true) ↔ IsDueWithin 16 s.platter.armed
due_both s m store on found =
    subst (λ (n : ℕ). (is_off (after_writes s.platter (recovery_records m)).ops ≡ true) ↔ IsDueWithin n s.platter.armed) (sixteen_records m)
    (adds_both s m store on found).due

-- the numbers
more_numbers : (meant_there : Reads) (n : ℕ) → NumbersUpTo meant_there n → NumbersUpTo meant_there (n + 4)
more_numbers meant_there n before slot copy index p has = let low = before slot copy index p has in omega (arith, low)

numbers_both : TakenNumbersAreMeant → (s : Contained) (m : DefectMap) → IsFound s m → (n : ℕ) → strays s.platter.ops ≡ 0
    → NumbersUpTo (meant_on s.platter.ops) n → NumbersUpTo (meant_on (after_writes s.platter (recovery_records m)).ops) (n + 4)
numbers_both law s m found n none before =
    let low : m.number ≤ n = law s.map.size (meant_on s.platter.ops) m n (may_be s m found none) before in
    let first : State = after_writes s.platter (records_of (other_of m)) in
    let one : NumbersUpTo (meant_on (after_writes s.platter (records_of (other_of m))).ops) (n + 4) =
    keeps_numbers s.platter (other_of m) (n + 4) (omega (arith, low)) (more_numbers (meant_on s.platter.ops) n before) in
    let two : NumbersUpTo (meant_on (after_writes (after_writes s.platter (records_of (other_of m))) (records_of (own_of m))).ops) (n + 4) =
    keeps_numbers (after_writes s.platter (records_of (other_of m))) (own_of m) (n + 4) (omega (arith, low)) one in
    subst (λ (x : State). NumbersUpTo (meant_on x.ops) (n + 4)) (sym (fold-append after_own_write s.platter (records_of (other_of m)) (records_of (own_of m)))) two

raises : TakenNumbersAreMeant → (s after : Contained) (m : DefectMap) → IsFound s m → after.platter ≡ after_writes s.platter (recovery_records m) → RaisesNumbers s after
raises law s after m found platter_is n none before =
    let begun : strays s.platter.ops ≡ 0 =
    sym (keeps-writes s.platter (recovery_records m)).strays_same ∙ (ap (λ (x : State). strays x.ops) (sym platter_is) ∙ none) in
    subst (λ (x : State). NumbersUpTo (meant_on x.ops) (n + 4)) (sym platter_is) (numbers_both law s m found n begun before)

reserved_both : (s after : Contained) (m : DefectMap) → IsFound s m → after.platter ≡ after_writes s.platter (recovery_records m)
    → (p : Psn) → 16 ≤ p.0 → meant p after.platter.ops ≡ meant p s.platter.ops
reserved_both s after m found platter_is p past =
    ap (λ (x : State). meant p x.ops) platter_is ∙ writes-apart s.platter (recovery_records m) p past (records_low m found.taken.slot)

never_both : (b : Bool) → b ≡ true → b ≡ false → ⊥
never_both b is not_so = let e : true ≡ false = sym is ∙ not_so in cc

number_of : (a b : ℕ) → Ready a ≡ Ready b → b ≡ a
number_of a b is = cc

-- all of it
pub rewrites_done : RewrittenMapsArePresent → PresentMapsAreThere → TakenNumbersAreMeant → (s after : Contained) (m : DefectMap) (number : ℕ) → IsStore s
    → is_off s.platter.ops ≡ false → IsFound s m → number ≡ m.number + 4 → after ≡ recovered s m
    → is_off (after_writes s.platter (recovery_records m)).ops ≡ false → Rewrites s m (Ready number) after
rewrites_done present_law present_there numbers s after m number store on found number_is after_is still =
    subst (λ (x : Contained). Rewrites s m (Ready number) x) (sym after_is) (record {
      ready = λ n is. record {
        numbered = number_of number n is ∙ number_is;
        is = refl;
        written = adds.added ∙ ap (λ (ops : List Op). s.platter.ops ++ ops) (adds.whole still);
        ready = record { ready = refl; none = refl; there = end.there refl };
      };
      found = λ slot is. cc;
      off = λ is. let never : ⊥ = cc in absurd never;
      due = ((λ is. let never : ⊥ = cc in absurd never), (λ due. absurd (never_both _ ((due_both s m store on found).1 due) still)));
      reserved = reserved_both s (recovered s m) m found refl;
      safe = end.safe;
      numbers = raises numbers s (recovered s m) m found refl;
    })
  where
    adds : AddsWrites s.platter (recovery_records m) (after_writes s.platter (recovery_records m))
    adds = adds_both s m store on found

    end : KeepsMaps (record m { number = m.number + 4 }) None true (after_writes s.platter (recovery_records m))
    end = kept_own present_law present_there s m store on found still

pub rewrites_cut : RecoveryOpsStaySafe → TakenNumbersAreMeant → (s after : Contained) (m : DefectMap) → IsStore s → is_off s.platter.ops ≡ false → IsFound s m
    → after ≡ broken_off s m → is_off (after_writes s.platter (recovery_records m)).ops ≡ true → Rewrites s m Off after
rewrites_cut law numbers s after m store on found after_is gone =
    subst (λ (x : Contained). Rewrites s m Off x) (sym after_is) (record {
      ready = λ n is. let never : ⊥ = cc in absurd never;
      found = λ slot is. cc;
      off = λ is. record { is = refl; more = adds.more; written = adds.added; writes = adds.writes; off = gone };
      due = ((λ is. (due_both s m store on found).0 gone), (λ due. refl));
      reserved = reserved_both s (broken_off s m) m found refl;
      safe = end.safe;
      numbers = raises numbers s (broken_off s m) m found refl;
    })
  where
    adds : AddsWrites s.platter (recovery_records m) (after_writes s.platter (recovery_records m))
    adds = adds_both s m store on found

    end : KeepsMaps s.map s.next false (after_writes s.platter (recovery_records m))
    end = kept_broken law s m store on found
