-- A write to a sector, by its answer.
use Rattle.std.proofs.Common.{◌≡◌, ◌⊎◌, Bool, true, false, cond, eqb, Option, Some, None, refl, sym, ap, ◌∙◌, subst, inl, inr, ℕ, List}
use Rattle.std.specs.Prelude.{◌-◌}
use Rattle.std.proofs.lemmas.Bool.{eqb-true}
use Rattle.disk_base.specs.declared.address.Lba.{Lba}
use Rattle.disk_base.specs.declared.address.Psn.{Psn}
use Rattle.disk_base.specs.declared.block.Value.TheVariants.{Data}
use Rattle.disk_base.specs.declared.payload.Payload.{Payload}
use Rattle.platter_model.specs.declared.answer.WriteAnswer.{WriteAnswer}
use Rattle.platter_model.specs.declared.answer.WriteAnswer.TheVariants.{Written, Fault, Off}
use Rattle.platter_model.specs.declared.damage.Arming.{Arming}
use Rattle.platter_model.specs.declared.op.Op.TheVariants.{Wrote, WriteFailed}
use Rattle.platter_model.specs.Sector.{is_faulty}
use Rattle.platter_model.specs.State.{State, with_op, torn, after_good_write, after_write, good_answer, write_answer}
use Rattle.platter_model.specs.TrueLog.{is_off}
use Rattle.geometry_map.specs.DefectMap.{place_of}
use Rattle.sector_store.specs.declared.answer.StoreAnswer.{StoreAnswer}
use Rattle.sector_store.specs.declared.answer.StoreAnswer.TheVariants as store_answer
use Rattle.write_cache.specs.Contents.{newest}
use Rattle.sector_store.specs.Stored.{stored, StoresAt, MayStoreAt, KeepsOthers}
use Rattle.sector_store.specs.State.{Contained, placed, after_write_of, answer_by}
use Rattle.sector_store.specs.Caching.{counted, written, HasFailed, IsCutOff}
use Rattle.sector_store.proofs.Calls.{by_done, by_fault, by_off}

-- what a write leaves where it was done
done : (s : State) (p : Psn) (payload : Payload) → write_answer s p ≡ Written → after_write s p payload ≡ written s payload
done s p payload is = by (is_off s.ops) (is_faulty p s.ops) s.armed refl is
  where
    counts : (t : Bool) (arming : Arming) → s.armed ≡ Some arming → cond t Off Written ≡ Written
        → cond t (torn s payload arming.tear) (record (with_op s (Wrote payload)) { armed = Some (record arming { k = arming.k - 1 }) }) ≡ written s payload
    counts true arming same is = let never : ⊥ = cc in absurd never
    counts false arming same is = ap (λ (o : Option Arming). record (with_op s (Wrote payload)) { armed = o }) (sym (ap counted same))

    by : (off faulty : Bool) (armed : Option Arming) → s.armed ≡ armed → cond off Off (cond faulty Fault (good_answer armed)) ≡ Written
        → cond off s (cond faulty (with_op s (WriteFailed p)) (after_good_write armed s payload)) ≡ written s payload
    by true faulty armed same is = let never : ⊥ = cc in absurd never
    by false true armed same is = let never : ⊥ = cc in absurd never
    by false false None same is = ap (λ (o : Option Arming). record (with_op s (Wrote payload)) { armed = o }) (same ∙ sym (ap counted same))
    by false false (Some arming) same is = counts (eqb arming.k 1) arming same is

-- where the sector has a fault
failed : (s : State) (p : Psn) (payload : Payload) → write_answer s p ≡ Fault → after_write s p payload ≡ with_op s (WriteFailed p)
failed s p payload is = by (is_off s.ops) (is_faulty p s.ops) s.armed is
  where
    good : (t : Bool) → cond t Off Written ≡ Fault → ⊥
    good true is = cc
    good false is = cc

    by : (off faulty : Bool) (armed : Option Arming) → cond off Off (cond faulty Fault (good_answer armed)) ≡ Fault
        → cond off s (cond faulty (with_op s (WriteFailed p)) (after_good_write armed s payload)) ≡ with_op s (WriteFailed p)
    by true faulty armed is = let never : ⊥ = cc in absurd never
    by false true armed is = refl
    by false false None is = let never : ⊥ = cc in absurd never
    by false false (Some arming) is = absurd (good (eqb arming.k 1) is)

-- and where the power was off, or went off
cut : (s : State) (p : Psn) (payload : Payload) → write_answer s p ≡ Off
    → ((is_off s.ops ≡ true) × (after_write s p payload ≡ s))
    ⊎ ((arming : Arming) × (s.armed ≡ Some arming) × (arming.k ≡ 1) × (after_write s p payload ≡ torn s payload arming.tear))
cut s p payload is = by (is_off s.ops) (is_faulty p s.ops) s.armed refl refl is
  where
    tears : (t : Bool) (arming : Arming) → eqb arming.k 1 ≡ t → s.armed ≡ Some arming → cond t Off Written ≡ Off
        → (arming.k ≡ 1) × (cond t (torn s payload arming.tear) (record (with_op s (Wrote payload)) { armed = Some (record arming { k = arming.k - 1 }) }) ≡ torn s payload arming.tear)
    tears true arming one same is = (eqb-true arming.k 1 one, refl)
    tears false arming one same is = let never : ⊥ = cc in absurd never

    by : (off faulty : Bool) (armed : Option Arming) → is_off s.ops ≡ off → s.armed ≡ armed → cond off Off (cond faulty Fault (good_answer armed)) ≡ Off
        → ((is_off s.ops ≡ true) × (cond off s (cond faulty (with_op s (WriteFailed p)) (after_good_write armed s payload)) ≡ s))
        ⊎ ((arming : Arming) × (s.armed ≡ Some arming) × (arming.k ≡ 1)
        × (cond off s (cond faulty (with_op s (WriteFailed p)) (after_good_write armed s payload)) ≡ torn s payload arming.tear))
    by true faulty armed off same is = inl (off, refl)
    by false true armed off same is = let never : ⊥ = cc in absurd never
    by false false None off same is = let never : ⊥ = cc in absurd never
    by false false (Some arming) off same is =
        let torn_so = tears (eqb arming.k 1) arming refl same is in
        inr (arming, same, torn_so.0, torn_so.1)

-- the same of a store
pub after_done : (s : Contained) (b : Lba) (bytes : List ℕ) (answer : StoreAnswer) → answer ≡ answer_by (write_answer s.platter (place_of s.map b)) → answer ≡ store_answer.Done
    → (after_write_of s b bytes).platter ≡ written s.platter (placed s.map b bytes)
after_done s b bytes answer is ended =
    done s.platter (place_of s.map b) (placed s.map b bytes) (by_done (write_answer s.platter (place_of s.map b)) (sym is ∙ ended))

pub after_fault : (s mid : Contained) (b : Lba) (bytes : List ℕ) (answer : StoreAnswer) → answer ≡ answer_by (write_answer s.platter (place_of s.map b))
    → mid ≡ after_write_of s b bytes → answer ≡ store_answer.Fault → HasFailed b s mid
after_fault s mid b bytes answer is after ended =
    after ∙ ap (λ (x : State). record s { platter = x })
    (failed s.platter (place_of s.map b) (placed s.map b bytes) (by_fault (write_answer s.platter (place_of s.map b)) (sym is ∙ ended)))

pub after_cut : (s mid : Contained) (b : Lba) (bytes : List ℕ) (answer : StoreAnswer) → answer ≡ answer_by (write_answer s.platter (place_of s.map b))
    → mid ≡ after_write_of s b bytes → answer ≡ store_answer.Off → IsCutOff b bytes s mid
after_cut s mid b bytes answer is after ended =
    by (cut s.platter (place_of s.map b) (placed s.map b bytes) (by_off (write_answer s.platter (place_of s.map b)) (sym is ∙ ended)))
  where
    put : State → Contained
    put x = record s { platter = x }

    by : ((is_off s.platter.ops ≡ true) × ((after_write_of s b bytes).platter ≡ s.platter))
        ⊎ ((arming : Arming) × (s.platter.armed ≡ Some arming) × (arming.k ≡ 1) × ((after_write_of s b bytes).platter ≡ torn s.platter (placed s.map b bytes) arming.tear))
        → IsCutOff b bytes s mid
    by (inl off) = inl (off.0, after ∙ ap put off.1)
    by (inr tears) = inr (tears.0, tears.1, tears.2, after ∙ ap put tears.3)

-- a block's data were written to its place: all that the write promises
pub record IsWritten (s after : Contained) (b : Lba) (bytes : List ℕ) (answer : StoreAnswer) : Type 0 where
  pub answered : answer ≡ answer_by (write_answer s.platter (place_of s.map b))
  pub after_is : after ≡ after_write_of s b bytes
  pub done : s.ready ≡ true → answer ≡ store_answer.Done → StoresAt s.map after.platter.ops b (Data bytes)
  pub fault : s.ready ≡ true → answer ≡ store_answer.Fault → StoresAt s.map after.platter.ops b (stored s.map s.platter.ops b)
  pub off : s.ready ≡ true → answer ≡ store_answer.Off → MayStoreAt s.map after.platter.ops b (stored s.map s.platter.ops b) (Data bytes)
  pub others : s.ready ≡ true → KeepsOthers s.map s.platter.ops after.platter.ops b

-- the newest data of a dirty block were looked up and written
pub newest_written : (s read after : Contained) (b : Lba) (block : List ℕ) (answer : StoreAnswer) → newest b s.cache ≡ Some block → read ≡ s
    → IsWritten read after b block answer → (bytes : List ℕ) → newest b s.cache ≡ Some bytes → IsWritten s after b bytes answer
newest_written s read after b block answer held same is bytes dirty =
    let both : Some block ≡ Some bytes = sym held ∙ dirty in
    let one : block ≡ bytes = cc in
    subst (λ (ys : List ℕ). IsWritten s after b ys answer) one (subst (λ (x : Contained). IsWritten x after b block answer) same is)
