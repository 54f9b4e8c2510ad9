-- The writes of commits and of recoveries keep the maps safe.
use Rattle.std.proofs.Common.{◌≡◌, ◌∙◌, ap, sym, refl, subst, ℕ, ◌+◌, ◌-◌, ◌<◌, ◌≤◌, List, [], ◌∷◌, ◌++◌, take, append_assoc, ◌⊎◌, inl, inr, arith}
use Rattle.std.specs.Prelude.{map}
use Rattle.disk_base.specs.declared.payload.Payload.{Payload}
use Rattle.platter_model.specs.declared.op.Op.{Op}
use Rattle.platter_model.specs.declared.op.Op.TheVariants.{Wrote, Torn, Cut}
use Rattle.geometry_map.specs.DefectMap.{DefectMap}
use Rattle.map_generations.specs.SafeMaps.{KeptPair, SafeMaps, IsPresent, MayBeWritten, with_map, alone, written_to}
use Rattle.map_generations.specs.SafetyLaws.{CommitsStaySafe, RecoveriesStaySafe, TornWritesKeepMapsSafe, SafetyIsByPlace}
use Rattle.sector_store.specs.Maps.{meant_on, records_of}
use Rattle.sector_store.specs.Shapes.{AreWrites, recovery_records}
use Rattle.sector_store.specs.Commits.{CommitsSafely, CommitOpsStaySafe, RecoversSafely, RecoveryOpsStaySafe}
use Rattle.sector_store.proofs.RecordOps.{IsCutIn, IsSplit, split, cut_safe, all_written, same_written, no_torn}

pub commit_ops_stay_safe : CommitsStaySafe → TornWritesKeepMapsSafe → SafetyIsByPlace → CommitOpsStaySafe
commit_ops_stay_safe stay torn_law by_place m next ops more present valid follows shape = by shape
  where
    whole : ((count : ℕ) → count ≤ 8 → MayBeWritten (written_to next count (meant_on ops)) (with_map (alone m) next) next)
        × IsPresent (written_to next 8 (meant_on ops)) next
    whole = stay (meant_on ops) m next present valid follows.valid follows.number follows.slot

    by : AreWrites (records_of next) more → CommitsSafely m next ops more
    by (inl is) =
        let moves = by_place (written_to next 8 (meant_on ops)) (meant_on (ops ++ map Wrote (records_of next))) (λ p less. all_written next ops p) in
        let done : IsPresent (meant_on (ops ++ map Wrote (records_of next))) next = moves.2 next whole.1 in
        let safe : SafeMaps (meant_on (ops ++ map Wrote (records_of next))) (with_map (alone m) next) =
        moves.0 (with_map (alone m) next) (whole.0 8 (omega arith)).safe in
        record {
          safe = subst (λ (os : List Op). SafeMaps (meant_on (ops ++ os)) (with_map (alone m) next)) (sym is) safe;
          done = λ e. subst (λ (os : List Op). IsPresent (meant_on (ops ++ os)) next) (sym is) done;
        }
    by (inr cut) = record {
      safe = cut_safe torn_law by_place next (with_map (alone m) next) ops more whole.0 cut;
      done = λ e. absurd (no_torn (records_of next) (map Wrote (take cut.0 (records_of next))) cut.1 cut.2 (sym cut.4 ∙ e));
    }

pub recovery_ops_stay_safe : RecoveriesStaySafe → TornWritesKeepMapsSafe → SafetyIsByPlace → RecoveryOpsStaySafe
recovery_ops_stay_safe stay torn_law by_place size pair m ops more safe may shape = by (split (records_of first) (records_of second) more shape)
  where
    first : DefectMap
    first = record m { number = m.number + 2; slot = 1 - m.slot }

    second : DefectMap
    second = record m { number = m.number + 4 }

    stays : ((count : ℕ) → count ≤ 8 → MayBeWritten (written_to (record m { number = m.number + 2; slot = 1 - m.slot }) count (meant_on ops)) pair (record m { number = m.number + 2; slot = 1 - m.slot }))
        × ((count : ℕ) → count ≤ 8 → MayBeWritten (written_to (record m { number = m.number + 4 }) count (written_to (record m { number = m.number + 2; slot = 1 - m.slot }) 8 (meant_on ops))) pair (record m { number = m.number + 4 }))
        × IsPresent (written_to (record m { number = m.number + 4 }) 8 (written_to (record m { number = m.number + 2; slot = 1 - m.slot }) 8 (meant_on ops))) (record m { number = m.number + 4 })
    stays = stay size (meant_on ops) pair m (record m { number = m.number + 2; slot = 1 - m.slot }) (record m { number = m.number + 4 }) safe may
        (record { alike = record { measures = record { cylinders = refl; heads = refl; sectors = refl; reserved = refl }; primary = refl; grown = refl }; state = refl }) refl refl
        (record { alike = record { measures = record { cylinders = refl; heads = refl; sectors = refl; reserved = refl }; primary = refl; grown = refl }; state = refl }) (omega arith) (omega (arith, may.taken.slot))

    middle : List Op
    middle = ops ++ map Wrote (records_of (record m { number = m.number + 2; slot = 1 - m.slot }))

    again : (count : ℕ) → count ≤ 8 → MayBeWritten (written_to (record m { number = m.number + 4 }) count (meant_on middle)) pair (record m { number = m.number + 4 })
    again count le =
        (by_place (written_to second count (written_to first 8 (meant_on ops))) (written_to second count (meant_on middle))
        (λ p less. same_written second count (written_to first 8 (meant_on ops)) (meant_on middle) (all_written first ops) p)).1 pair second (stays.1 count le)

    by : IsSplit (records_of (record m { number = m.number + 2; slot = 1 - m.slot })) (records_of (record m { number = m.number + 4 })) more → RecoversSafely pair m ops more
    by (inl cut) = record {
      safe = cut_safe torn_law by_place first pair ops more stays.0 cut;
      done = λ e. absurd (no_torn (recovery_records m) (map Wrote (take cut.0 (records_of first))) cut.1 cut.2 (sym cut.4 ∙ e));
    }
    by (inr r) = rest r.2
      where
        joined : middle ++ r.0 ≡ ops ++ more
        joined = append_assoc ops (map Wrote (records_of first)) r.0 ∙ ap (λ (os : List Op). ops ++ os) (sym r.1)

        rest : AreWrites (records_of (record m { number = m.number + 4 })) r.0 → RecoversSafely pair m ops more
        rest (inl is) =
            let here = by_place (written_to second 8 (meant_on middle)) (meant_on (middle ++ map Wrote (records_of second))) (λ p less. all_written second middle p) in
            let is_here = by_place (written_to second 8 (written_to first 8 (meant_on ops))) (written_to second 8 (meant_on middle))
            (λ p less. same_written second 8 (written_to first 8 (meant_on ops)) (meant_on middle) (all_written first ops) p) in
            let done : IsPresent (meant_on (middle ++ map Wrote (records_of second))) second = here.2 second (is_here.2 second stays.2) in
            let kept : SafeMaps (meant_on (middle ++ map Wrote (records_of second))) pair = here.0 pair (again 8 (omega arith)).safe in
            let whole : middle ++ map Wrote (records_of second) ≡ ops ++ more = ap (λ (os : List Op). middle ++ os) (sym is) ∙ joined in
            record {
              safe = subst (λ (os : List Op). SafeMaps (meant_on os) pair) whole kept;
              done = λ e. subst (λ (os : List Op). IsPresent (meant_on os) second) whole done;
            }
        rest (inr cut) = record {
          safe = subst (λ (os : List Op). SafeMaps (meant_on os) pair) joined (cut_safe torn_law by_place second pair middle r.0 again cut);
          done = λ e. absurd (no_torn (recovery_records m) (map Wrote (records_of first) ++ map Wrote (take cut.0 (records_of second))) cut.1 cut.2
              (append_assoc (map Wrote (records_of first)) (map Wrote (take cut.0 (records_of second))) (Torn cut.1 cut.2 ∷ Cut ∷ [])
              ∙ ap (λ (os : List Op). map Wrote (records_of first) ++ os) (sym cut.4) ∙ sym r.1 ∙ e));
        }
