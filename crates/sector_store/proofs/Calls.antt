-- What the calls of a store do, over the parts of it that they change.
use Rattle.std.proofs.Common.{◌≡◌, ◌<◌, ◌≤◌, arith, Bool, true, false, List, [], ◌∷◌, ◌++◌, length, ℕ, Option, Some, None, refl, sym, ◌∙◌, ap, subst}
use Rattle.std.specs.Prelude.{if◌then◌else◌, ◌==◌, ◌-◌, MatchOption, ◌||◌}
use Rattle.disk_base.specs.declared.address.Lba.{Lba}
use Rattle.disk_base.specs.declared.address.Psn.{Psn}
use Rattle.disk_base.specs.declared.block.Value.{Value}
use Rattle.disk_base.specs.declared.block.Value.TheVariants.{Data}
use Rattle.disk_base.specs.declared.payload.Payload.{Payload}
use Rattle.disk_base.specs.declared.stage.Stage.{Stage}
use Rattle.disk_base.specs.Payload.{user_payload, value_for}
use Rattle.platter_model.specs.declared.answer.WriteAnswer.{WriteAnswer}
use Rattle.platter_model.specs.declared.answer.WriteAnswer.TheVariants.{Written, Fault, Off}
use Rattle.platter_model.specs.declared.damage.Arming.{Arming}
use Rattle.platter_model.specs.declared.op.Op.{Op}
use Rattle.platter_model.specs.declared.op.Op.TheVariants as op
use Rattle.platter_model.specs.declared.world.World.{World}
use Rattle.platter_model.specs.declared.world.World.TheVariants as world
use Rattle.platter_model.specs.Sector.{meant, meant_after, is_faulty, faulty_after, is_sector}
use Rattle.platter_model.specs.State.{State, tried, with_op, torn, after_good_write, after_write, write_answer}
use Rattle.platter_model.specs.TrueLog.{attempt_of, is_off, strays}
use Rattle.geometry_map.specs.Size.{total_of, capacity_of}
use Rattle.geometry_map.specs.declared.placer.Placer.{Placer}
use Rattle.geometry_map.specs.DefectMap.{DefectMap, sector, place_of}
use Rattle.geometry_map.specs.Laws.{BlocksLieOnUserSectors}
use Rattle.geometry_map.specs.Placer.{IsPlacerOf}
use Rattle.sector_store.specs.declared.answer.TryAnswer.{TryAnswer}
use Rattle.sector_store.specs.declared.answer.TryAnswer.TheVariants as try_answer
use Rattle.sector_store.specs.declared.answer.StoreAnswer.{StoreAnswer}
use Rattle.sector_store.specs.declared.answer.StoreAnswer.TheVariants as store_answer
use Rattle.sector_store.specs.Maps.{meant_on}
use Rattle.sector_store.specs.Stored.{stored, KeepsBlocks, KeepsOthers, StoresAt, MayStoreAt}
use Rattle.sector_store.specs.State.{Contained, IsStore, answer_for, placed, answer_by}
use Rattle.sector_store.specs.Happening.{MayHappen, after_world}
use Rattle.sector_store.specs.Laws.{QuietOpsKeepBlocks, WritesStoreOneBlock, TriesFindWhatIsStored, IsBlockWrite, IsQuietBelow}
use Rattle.sector_store.proofs.Meant.{meant-push, is_sector-apart, write-apart}
use Rattle.sector_store.proofs.Strays.{strays-push}
use Rattle.sector_store.proofs.WritesInOrder.{faulty-push, keeps-write}

-- where a placer finds a block
pub placed_by : (s : Contained) (m : DefectMap) (placer : Placer) (b : Lba) (p : Psn) → m ≡ s.map → IsPlacerOf placer m → b.0 < capacity_of s.map.size
    → ((n : DefectMap) → IsPlacerOf placer n → b.0 < capacity_of n.size → p ≡ place_of n b) → p ≡ place_of s.map b
placed_by s m placer b p map_is of below places =
    let P : DefectMap → Type 0 = λ n. IsPlacerOf placer n in
    places s.map (subst P map_is of) below

pub within_platter : (s : Contained) (m : DefectMap) (placer : Placer) (platter : State) (b : Lba) (p : Psn) → BlocksLieOnUserSectors → IsStore s
    → m ≡ s.map → platter ≡ s.platter → IsPlacerOf placer m → b.0 < capacity_of s.map.size
    → ((n : DefectMap) → IsPlacerOf placer n → b.0 < capacity_of n.size → p ≡ place_of n b) → p.0 < platter.sectors
within_platter s m placer platter b p on_user store map_is platter_is of below places =
    let within : (place_of s.map b).0 < total_of s.map.size = (on_user s.map store.valid b below).1 in
    let at : p.0 ≡ (place_of s.map b).0 = ap (λ (q : Psn). q.0) (placed_by s m placer b p map_is of below places) in
    let sectors : platter.sectors ≡ total_of s.map.size = ap (λ (x : State). x.sectors) platter_is ∙ store.sectors in
    let P : ℕ → Type 0 = λ n. n < platter.sectors in
    let Q : ℕ → Type 0 = λ n. (place_of s.map b).0 < n in
    subst P (sym at) (subst Q (sym sectors) within)

-- a change that changes nothing of what is meant keeps the blocks of a ready store
pub quiet_keeps : (s : Contained) (after next : State) → QuietOpsKeepBlocks → IsStore s → after ≡ next → ((q : Psn) → meant q next.ops ≡ meant q s.platter.ops)
    → s.ready ≡ true → KeepsBlocks s.map s.platter.ops after.ops
quiet_keeps s after next law store after_is same ready =
    let P : State → Type 0 = λ x. KeepsBlocks s.map s.platter.ops x.ops in
    subst P (sym after_is) (law s.map s.platter.ops next.ops (store.there ready) same).1

-- what changes nothing on the sectors of the maps
below_same : (s : State) → IsQuietBelow s s
below_same s = record { sectors = refl; same = λ p low. refl; faults = λ p low. refl; strays_grow = omega arith }

below_after : (before middle after : State) → IsQuietBelow before middle → IsQuietBelow middle after → IsQuietBelow before after
below_after before middle after first second = record {
  sectors = second.sectors ∙ first.sectors;
  same = λ p low. second.same p low ∙ first.same p low;
  faults = λ p low. second.faults p low ∙ first.faults p low;
  strays_grow = omega (arith, first.strays_grow, second.strays_grow);
}

below_op : (s : State) (o : Op) → ((p : ℕ) → p < 16 → meant_after (sector p) (meant_on s.ops p) o ≡ meant_on s.ops p)
    → ((p : Psn) → p.0 < 16 → faulty_after p (is_faulty p s.ops) o ≡ is_faulty p s.ops) → IsQuietBelow s (with_op s o)
below_op s o same faults = record {
  sectors = refl;
  same = λ p low. meant-push (sector p) s.ops o ∙ same p low;
  faults = λ p low. faulty-push p s.ops o ∙ faults p low;
  strays_grow = (let grown = strays-push s.ops o in omega (arith, grown));
}

-- tries
meant-tried : (s : State) (p q : Psn) (stage : Stage) (found : Option Payload) → meant q (tried s p stage found).ops ≡ meant q s.ops
meant-tried s p q stage found =
    meant-push q (s.ops ++ op.Fetched p (attempt_of stage) ∷ []) (op.Tried (length s.ops) p stage found)
    ∙ meant-push q s.ops (op.Fetched p (attempt_of stage))

-- what a try of a sector came to
abbrev pub HasTried : State → State → Psn → Stage → Option (Option Payload) → Type 0
HasTried before after p stage seen =
    MatchOption seen ((is_off before.ops ≡ true) × (after ≡ before)) (λ found. (is_off before.ops ≡ false) × (after ≡ tried before p stage found))

tried_at : (before x after : State) (p q : Psn) (stage : Stage) (found : Option Payload) → before ≡ x → p ≡ q → after ≡ tried before p stage found
    → after ≡ tried x q stage found
tried_at before x after p q stage found before_is p_is after_is =
    after_is ∙ (ap (λ (y : State). tried y p stage found) before_is ∙ ap (λ (r : Psn). tried x r stage found) p_is)

below-tried : (s : State) (p : Psn) (stage : Stage) (found : Option Payload) → IsQuietBelow s (tried s p stage found)
below-tried s p stage found =
    let fetched : State = with_op s (op.Fetched p (attempt_of stage)) in
    below_after s (with_op s (op.Fetched p (attempt_of stage))) (tried s p stage found)
    (below_op s (op.Fetched p (attempt_of stage)) (λ q low. refl) (λ q low. refl))
    (below_op (with_op s (op.Fetched p (attempt_of stage))) (op.Tried (length s.ops) p stage found) (λ q low. refl) (λ q low. refl))

pub below_try : (before after : State) (p : Psn) (stage : Stage) (seen : Option (Option Payload)) → HasTried before after p stage seen → IsQuietBelow before after
below_try before after p stage None has = subst (IsQuietBelow before) (sym has.1) (below_same before)
below_try before after p stage (Some found) has = subst (IsQuietBelow before) (sym has.1) (below-tried before p stage found)

pub keeps_try : (s : Contained) (before after : State) (b : Lba) (p : Psn) (stage : Stage) (seen : Option (Option Payload))
    → QuietOpsKeepBlocks → IsStore s → before ≡ s.platter → p ≡ place_of s.map b → HasTried before after p stage seen
    → s.ready ≡ true → KeepsBlocks s.map s.platter.ops after.ops
keeps_try s before after b p stage None law store before_is p_is has = quiet_keeps s after s.platter law store (has.1 ∙ before_is) (λ q. refl)
keeps_try s before after b p stage (Some found) law store before_is p_is has =
    quiet_keeps s after (tried s.platter (place_of s.map b) stage found) law store
    (tried_at before s.platter after p (place_of s.map b) stage found before_is p_is has.1)
    (λ q. meant-tried s.platter (place_of s.map b) q stage found)

pub found_stored : (s : Contained) (before after : State) (b : Lba) (p : Psn) (stage : Stage) (seen : Option (Option Payload)) (answer : TryAnswer)
    → TriesFindWhatIsStored → before ≡ s.platter → p ≡ place_of s.map b → HasTried before after p stage seen → answer ≡ answer_for b seen
    → (v : Value) → answer ≡ try_answer.Found v → strays after.ops ≡ strays s.platter.ops → v ≡ stored s.map s.platter.ops b
found_stored s before after b p stage None answer law before_is p_is has is v found same = let never : ⊥ = cc in absurd never
found_stored s before after b p stage (Some None) answer law before_is p_is has is v found same = let never : ⊥ = cc in absurd never
found_stored s before after b p stage (Some (Some payload)) answer law before_is p_is has is v found same =
    let value : v ≡ value_for b payload = cc in
    let after_is : after ≡ tried s.platter (place_of s.map b) stage (Some payload) =
    tried_at before s.platter after p (place_of s.map b) stage (Some payload) before_is p_is has.1 in
    value ∙ law s.map s.platter b stage payload (ap (λ (x : State). strays x.ops) (sym after_is) ∙ same)

-- what happens from outside
or-false : (b : Bool) → (b || false) ≡ b
or-false true = refl
or-false false = refl

meant-world : (s : State) (w : World) (q : Psn) → meant q (after_world s w).ops ≡ meant q s.ops
meant-world s (world.Damage d) q = meant-push q s.ops (op.Damaged d)
meant-world s (world.Fault p) q = meant-push q s.ops (op.Faulty p)
meant-world s world.Cut q = by_power (is_off s.ops)
  where
    by_power : (b : Bool) → meant q (if b then s else with_op (record s { armed = None }) op.Cut).ops ≡ meant q s.ops
    by_power true = refl
    by_power false = meant-push q s.ops op.Cut
meant-world s (world.Arm k tear) q = refl
meant-world s world.Power q = refl
meant-world s (world.Minutes count) q = refl

below_world : (s : State) (w : World) → MayHappen s w → IsQuietBelow s (after_world s w)
below_world s (world.Damage d) may = below_op s (op.Damaged d) (λ p low. refl) (λ p low. refl)
below_world s (world.Fault p) may =
    below_op s (op.Faulty p) (λ q low. refl) (λ q low. ap (λ (b : Bool). is_faulty q s.ops || b) (is_sector-apart p q (λ same. omega (arith, may.0, low, same))) ∙ or-false (is_faulty q s.ops))
below_world s world.Cut may = by_power (is_off s.ops)
  where
    by_power : (b : Bool) → IsQuietBelow s (if b then s else with_op (record s { armed = None }) op.Cut)
    by_power true = below_same s
    by_power false =
        let cut = below_op s op.Cut (λ p low. refl) (λ p low. refl) in
        record { sectors = refl; same = cut.same; faults = cut.faults; strays_grow = cut.strays_grow }
below_world s (world.Arm k tear) may = record { sectors = refl; same = λ p low. refl; faults = λ p low. refl; strays_grow = omega arith }
below_world s world.Power may = below_same s
below_world s (world.Minutes count) may = below_same s

pub quiet_world : (before after : State) (w : World) → MayHappen before w → after ≡ after_world before w → IsQuietBelow before after
quiet_world before after w may after_is = subst (IsQuietBelow before) (sym after_is) (below_world before w may)

pub keeps_world : (s : Contained) (before after : State) (w : World) → QuietOpsKeepBlocks → IsStore s → before ≡ s.platter → after ≡ after_world before w
    → s.ready ≡ true → KeepsBlocks s.map s.platter.ops after.ops
keeps_world s before after w law store before_is after_is =
    quiet_keeps s after (after_world s.platter w) law store (after_is ∙ ap (λ (x : State). after_world x w) before_is) (meant-world s.platter w)

-- writes
pub below_write : (before after : State) (p q : Psn) (payload : Payload) → p ≡ q → 16 ≤ q.0 → payload.psn ≡ p → after ≡ after_write before p payload
    → IsQuietBelow before after
below_write before after p q payload p_is user own after_is =
    let kept = keeps-write before p payload in
    let apart : (r : ℕ) → r < 16 → is_sector (sector r) payload.psn ≡ false =
    λ r low. is_sector-apart payload.psn (sector r) (λ same. let at : payload.psn.0 ≡ q.0 = ap (λ (x : Psn). x.0) (own ∙ p_is) in omega (arith, at, same, low, user)) in
    subst (IsQuietBelow before) (sym after_is) (record {
      sectors = kept.sectors;
      same = λ r low. write-apart before p (sector r) payload (apart r low);
      faults = λ r low. kept.faults r;
      strays_grow = (let same = kept.strays_same in omega (arith, same));
    })

-- the platter's answer, by the store's
pub by_done : (a : WriteAnswer) → answer_by a ≡ store_answer.Done → a ≡ Written
by_done Written is = refl
by_done Fault is = let never : ⊥ = cc in absurd never
by_done Off is = let never : ⊥ = cc in absurd never

pub by_fault : (a : WriteAnswer) → answer_by a ≡ store_answer.Fault → a ≡ Fault
by_fault Written is = let never : ⊥ = cc in absurd never
by_fault Fault is = refl
by_fault Off is = let never : ⊥ = cc in absurd never

pub by_off : (a : WriteAnswer) → answer_by a ≡ store_answer.Off → a ≡ Off
by_off Written is = let never : ⊥ = cc in absurd never
by_off Fault is = let never : ⊥ = cc in absurd never
by_off Off is = refl

-- a write of a block's data to a ready store, by the answer
pub record Writes (s : Contained) (after : State) (b : Lba) (bytes : List ℕ) (answer : StoreAnswer) : Type 0 where
  pub done : answer ≡ store_answer.Done → StoresAt s.map after.ops b (Data bytes)
  pub fault : answer ≡ store_answer.Fault → StoresAt s.map after.ops b (stored s.map s.platter.ops b)
  pub cut : answer ≡ store_answer.Off → MayStoreAt s.map after.ops b (stored s.map s.platter.ops b) (Data bytes)
  pub others : KeepsOthers s.map s.platter.ops after.ops b

pub writes : (s : Contained) (before after : State) (b : Lba) (p : Psn) (payload : Payload) (bytes : List ℕ) (given : WriteAnswer) (answer : StoreAnswer)
    → WritesStoreOneBlock → IsStore s → b.0 < capacity_of s.map.size → before ≡ s.platter → p ≡ place_of s.map b
    → payload ≡ user_payload p b bytes → after ≡ after_write before p payload → given ≡ write_answer before p → answer ≡ answer_by given
    → s.ready ≡ true → Writes s after b bytes answer
writes s before after b p payload bytes given answer law store below before_is p_is payload_is after_is given_is answer_is ready =
    let next : State = after_write s.platter (place_of s.map b) (placed s.map b bytes) in
    let next_is : after ≡ after_write s.platter (place_of s.map b) (placed s.map b bytes) =
    after_is ∙ (ap (λ (x : State). after_write x p payload) before_is ∙ (ap (λ (x : Payload). after_write s.platter p x) payload_is
    ∙ ap (λ (q : Psn). after_write s.platter q (user_payload q b bytes)) p_is)) in
    let answered : given ≡ write_answer s.platter (place_of s.map b) =
    given_is ∙ (ap (λ (x : State). write_answer x p) before_is ∙ ap (λ (q : Psn). write_answer s.platter q) p_is) in
    let block : IsBlockWrite s.map s.platter b bytes = law s.map s.platter b bytes (store.there ready) below in
    let StoresOld : State → Type 0 = λ x. StoresAt s.map x.ops b (stored s.map s.platter.ops b) in
    let StoresNew : State → Type 0 = λ x. StoresAt s.map x.ops b (Data bytes) in
    let StoresEither : State → Type 0 = λ x. MayStoreAt s.map x.ops b (stored s.map s.platter.ops b) (Data bytes) in
    let Keeps : State → Type 0 = λ x. KeepsOthers s.map s.platter.ops x.ops b in
    record {
      done = λ is. subst StoresNew (sym next_is) (block.done (sym answered ∙ by_done given (sym answer_is ∙ is)));
      fault = λ is. subst StoresOld (sym next_is) (block.fault (sym answered ∙ by_fault given (sym answer_is ∙ is)));
      cut = λ is. subst StoresEither (sym next_is) (block.off (sym answered ∙ by_off given (sym answer_is ∙ is)));
      others = subst Keeps (sym next_is) block.others;
    }
