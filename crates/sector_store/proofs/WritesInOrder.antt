-- What writes one after another add, and what they leave.
use Rattle.std.proofs.Common.{◌≡◌, ◌≢◌, ℕ, zero, suc, ◌+◌, ◌-◌, ◌<◌, ◌≤◌, Bool, true, false, List, [], ◌∷◌, ◌++◌, length, take, drop, get_or, map, Option, Some, None, refl, sym, ◌∙◌, ap, subst, arith, append_assoc, append-nil, ◌⊎◌, inl, inr}
use Rattle.std.specs.Prelude.{if◌then◌else◌, ◌==◌, ◌↔◌, ◌||◌, All, fold, not}
use Rattle.std.proofs.lemmas.Bool.{eqb-true, eqb-false}
use Rattle.std.proofs.lemmas.List.Sums.{fold_push, fold-append}
use Rattle.std.proofs.lemmas.List.Elements.{All-head, All-tail, All-get_or}
use Rattle.disk_base.specs.declared.address.Psn.{Psn}
use Rattle.disk_base.specs.declared.payload.Payload.{Payload}
use Rattle.platter_model.specs.declared.damage.Arming.{Arming}
use Rattle.platter_model.specs.declared.damage.Tear.{Tear}
use Rattle.platter_model.specs.declared.op.Op.{Op}
use Rattle.platter_model.specs.declared.op.Op.TheVariants.{Wrote, Torn, WriteFailed, Cut}
use Rattle.platter_model.specs.Sector.{is_sector, meant, is_faulty, faulty_after}
use Rattle.platter_model.specs.State.{State, with_op, torn, after_good_write, after_write}
use Rattle.platter_model.specs.TrueLog.{powered, supply_after, supply, is_unpowered, is_off, strays}
use Rattle.geometry_map.specs.DefectMap.{DefectMap}
use Rattle.sector_store.specs.Maps.{records_of}
use Rattle.sector_store.specs.Shapes.{AreWrites}
use Rattle.sector_store.specs.Writing.{after_own_write, after_writes, IsDueWithin, AddsWrites}
use Rattle.sector_store.proofs.Meant.{is_sector-apart, write-apart}
use Rattle.sector_store.proofs.Strays.{strays-push}

-- the power after one operation more
pub off-push : (ops : List Op) (op : Op) → is_off (ops ++ op ∷ []) ≡ is_unpowered (supply_after (supply ops) op)
off-push ops op = ap is_unpowered (fold_push supply_after powered ops op)

pub torn-off : (ops : List Op) (payload : Payload) (tear : Tear) → is_off (ops ++ Torn payload tear ∷ [] ++ Cut ∷ []) ≡ true
torn-off ops payload tear = off-push (ops ++ Torn payload tear ∷ []) Cut

-- the faults after one operation more
pub faulty-push : (p : Psn) (ops : List Op) (op : Op) → is_faulty p (ops ++ op ∷ []) ≡ faulty_after p (is_faulty p ops) op
faulty-push p ops op = fold_push (faulty_after p) false ops op

-- what one write leaves as it is: how many sectors there are, the faults, the strays
pub record KeepsParts (before after : State) : Type 0 where
  pub sectors : after.sectors ≡ before.sectors
  pub faults : (p : Psn) → is_faulty p after.ops ≡ is_faulty p before.ops
  pub strays_same : strays after.ops ≡ strays before.ops

no_more : (n : ℕ) → n + 0 ≡ n
no_more n = omega arith

quiet_op : (s : State) (op : Op) → ((p : Psn) → faulty_after p (is_faulty p s.ops) op ≡ is_faulty p s.ops) → strays (s.ops ++ op ∷ []) ≡ strays s.ops + 0
    → KeepsParts s (with_op s op)
quiet_op s op faults none = record {
  sectors = refl;
  faults = λ p. faulty-push p s.ops op ∙ faults p;
  strays_same = none ∙ no_more (strays s.ops);
}

keeps-torn : (s : State) (payload : Payload) (tear : Tear) → KeepsParts s (torn s payload tear)
keeps-torn s payload tear = record {
  sectors = refl;
  faults = λ p. faulty-push p (s.ops ++ Torn payload tear ∷ []) Cut ∙ faulty-push p s.ops (Torn payload tear);
  strays_same = strays-push (s.ops ++ Torn payload tear ∷ []) Cut ∙ no_more (strays (s.ops ++ Torn payload tear ∷ []))
      ∙ strays-push s.ops (Torn payload tear) ∙ no_more (strays s.ops);
}

keeps-wrote : (s : State) (payload : Payload) → KeepsParts s (with_op s (Wrote payload))
keeps-wrote s payload = quiet_op s (Wrote payload) (λ p. refl) (strays-push s.ops (Wrote payload))

keeps-good : (armed : Option Arming) (s : State) (payload : Payload) → KeepsParts s (after_good_write armed s payload)
keeps-good None s payload = keeps-wrote s payload
keeps-good (Some arming) s payload = by_count (arming.k == 1)
  where
    by_count : (b : Bool) → KeepsParts s (if b then torn s payload arming.tear else record (with_op s (Wrote payload)) { armed = Some (record arming { k = arming.k - 1 }) })
    by_count true = keeps-torn s payload arming.tear
    by_count false = record {
      sectors = refl;
      faults = (keeps-wrote s payload).faults;
      strays_same = (keeps-wrote s payload).strays_same;
    }

pub keeps-write : (s : State) (p : Psn) (payload : Payload) → KeepsParts s (after_write s p payload)
keeps-write s p payload = by_power (is_off s.ops)
  where
    by_fault : (b : Bool) → KeepsParts s (if b then with_op s (WriteFailed p) else after_good_write s.armed s payload)
    by_fault true = quiet_op s (WriteFailed p) (λ q. refl) (strays-push s.ops (WriteFailed p))
    by_fault false = keeps-good s.armed s payload

    by_power : (b : Bool) → KeepsParts s (if b then s else if is_faulty p s.ops then with_op s (WriteFailed p) else after_good_write s.armed s payload)
    by_power true = record { sectors = refl; faults = λ q. refl; strays_same = refl }
    by_power false = by_fault (is_faulty p s.ops)

pub keeps-writes : (s : State) (payloads : List Payload) → KeepsParts s (after_writes s payloads)
keeps-writes s [] = record { sectors = refl; faults = λ q. refl; strays_same = refl }
keeps-writes s (payload ∷ payloads) =
    let one = keeps-write s payload.psn payload in
    let rest = keeps-writes (after_own_write s payload) payloads in
    record {
      sectors = rest.sectors ∙ one.sectors;
      faults = λ p. rest.faults p ∙ one.faults p;
      strays_same = rest.strays_same ∙ one.strays_same;
    }

-- what is meant elsewhere
pub writes-apart : (s : State) (payloads : List Payload) (p : Psn) → 16 ≤ p.0 → All (λ payload. payload.psn.0 < 16) payloads
    → meant p (after_writes s payloads).ops ≡ meant p s.ops
writes-apart s [] p past low = refl
writes-apart s (payload ∷ payloads) p past low =
    let below : payload.psn.0 < 16 = All-head (λ (q : Payload). q.psn.0 < 16) payload payloads low in
    writes-apart (after_own_write s payload) payloads p past (All-tail (λ (q : Payload). q.psn.0 < 16) payload payloads low)
    ∙ write-apart s payload.psn p payload (is_sector-apart payload.psn p (λ same. omega arith))

-- with the power off nothing is written
write-off : (s : State) (p : Psn) (payload : Payload) → is_off s.ops ≡ true → after_write s p payload ≡ s
write-off s p payload off =
    ap (λ (b : Bool). if b then s else if is_faulty p s.ops then with_op s (WriteFailed p) else after_good_write s.armed s payload) off

pub writes-off : (s : State) (payloads : List Payload) → is_off s.ops ≡ true → after_writes s payloads ≡ s
writes-off s [] off = refl
writes-off s (payload ∷ payloads) off = ap (λ (x : State). after_writes x payloads) (write-off s payload.psn payload off) ∙ writes-off s payloads off

-- where the power is off after some of them, the rest change nothing
take_rest : (i : ℕ) (payloads : List Payload) → take i payloads ++ drop i payloads ≡ payloads
take_rest zero payloads = refl
take_rest (suc i) [] = refl
take_rest (suc i) (payload ∷ payloads) = ap (λ (xs : List Payload). payload ∷ xs) (take_rest i payloads)

pub cut_short : (s now : State) (payloads : List Payload) (i : ℕ) → now ≡ after_writes s (take i payloads) → is_off now.ops ≡ true
    → now ≡ after_writes s payloads
cut_short s now payloads i is off =
    is ∙ (sym (writes-off (after_writes s (take i payloads)) (drop i payloads) (ap (λ (x : State). is_off x.ops) (sym is) ∙ off))
    ∙ (sym (fold-append after_own_write s (take i payloads) (drop i payloads)) ∙ ap (λ (xs : List Payload). after_writes s xs) (take_rest i payloads)))

-- a record that is written lies on a sector of the platter
pub item_within : (s now : State) (payloads : List Payload) (i : ℕ) (nothing : Payload) → now ≡ after_writes s (take i payloads) → i < length payloads
    → All (λ payload. payload.psn.0 < 16) payloads → 16 ≤ s.sectors → (get_or payloads i nothing).psn.0 < now.sectors
item_within s now payloads i nothing is less low sectors =
    let low_one : (get_or payloads i nothing).psn.0 < 16 = All-get_or (λ (q : Payload). q.psn.0 < 16) payloads i nothing less low in
    let same : now.sectors ≡ s.sectors = ap (λ (x : State). x.sectors) is ∙ (keeps-writes s (take i payloads)).sectors in
    omega (arith, low_one, same, sectors)

-- a write that is carried out or torn
write-good : (s : State) (p : Psn) (payload : Payload) → is_off s.ops ≡ false → is_faulty p s.ops ≡ false
    → after_write s p payload ≡ after_good_write s.armed s payload
write-good s p payload on sound =
    ap (λ (b : Bool). if b then s else if is_faulty p s.ops then with_op s (WriteFailed p) else after_good_write s.armed s payload) on
    ∙ ap (λ (b : Bool). if b then with_op s (WriteFailed p) else after_good_write s.armed s payload) sound

-- the room that a write takes
pub write-room : (s : State) (p : Psn) (payload : Payload) → is_off (after_write s p payload).ops ≡ false → s.room ≤ (after_write s p payload).room + 1
write-room s p payload on = by_power (is_off s.ops) on
  where
    by_count : (arming : Arming) (b : Bool)
        → is_off (if b then torn s payload arming.tear else record (with_op s (Wrote payload)) { armed = Some (record arming { k = arming.k - 1 }) }).ops ≡ false
        → s.room ≤ (if b then torn s payload arming.tear else record (with_op s (Wrote payload)) { armed = Some (record arming { k = arming.k - 1 }) }).room + 1
    by_count arming true still = let never : ⊥ = (let e : true ≡ false = sym (torn-off s.ops payload arming.tear) ∙ still in cc) in absurd never
    by_count arming false still = omega arith

    good : (armed : Option Arming) → is_off (after_good_write armed s payload).ops ≡ false → s.room ≤ (after_good_write armed s payload).room + 1
    good None still = omega arith
    good (Some arming) still = by_count arming (arming.k == 1) still

    by_fault : (b : Bool) → is_off (if b then with_op s (WriteFailed p) else after_good_write s.armed s payload).ops ≡ false
        → s.room ≤ (if b then with_op s (WriteFailed p) else after_good_write s.armed s payload).room + 1
    by_fault true still = omega arith
    by_fault false still = good s.armed still

    by_power : (b : Bool) → is_off (if b then s else if is_faulty p s.ops then with_op s (WriteFailed p) else after_good_write s.armed s payload).ops ≡ false
        → s.room ≤ (if b then s else if is_faulty p s.ops then with_op s (WriteFailed p) else after_good_write s.armed s payload).room + 1
    by_power true still = omega arith
    by_power false still = by_fault (is_faulty p s.ops) still

never_both : (b : Bool) → b ≡ true → b ≡ false → ⊥
never_both b is not_so = let e : true ≡ false = sym is ∙ not_so in cc

-- the room that several take
pub writes_room : (s : State) (payloads : List Payload) → is_off (after_writes s payloads).ops ≡ false
    → s.room ≤ (after_writes s payloads).room + length payloads
writes_room s [] on = omega arith
writes_room s (payload ∷ payloads) on = by (is_off (after_own_write s payload).ops) refl (writes_room (after_own_write s payload) payloads on)
  where
    by : (off : Bool) → is_off (after_own_write s payload).ops ≡ off
        → (after_own_write s payload).room ≤ (after_writes (after_own_write s payload) payloads).room + length payloads
        → s.room ≤ (after_writes (after_own_write s payload) payloads).room + suc (length payloads)
    by true off rest =
        absurd (never_both _ (ap (λ (x : State). is_off x.ops) (writes-off (after_own_write s payload) payloads off) ∙ off) on)
    by false still rest =
        let one = write-room s payload.psn payload still in
        omega (arith, one, rest)

-- writes of two lists, where the first were cut off, and where they were done
pub both_cut : (s now : State) (first second : List Payload) → now ≡ after_writes s first → is_off now.ops ≡ true → now ≡ after_writes s (first ++ second)
both_cut s now first second is off =
    is ∙ (sym (writes-off (after_writes s first) second (ap (λ (x : State). is_off x.ops) (sym is) ∙ off)) ∙ sym (fold-append after_own_write s first second))

pub both_done : (s middle now : State) (first second : List Payload) → middle ≡ after_writes s first → now ≡ after_writes middle second
    → now ≡ after_writes s (first ++ second)
both_done s middle now first second is then_is =
    then_is ∙ (ap (λ (x : State). after_writes x second) is ∙ sym (fold-append after_own_write s first second))

pub sectors_then : (s middle : State) (first : List Payload) → middle ≡ after_writes s first → 16 ≤ s.sectors → 16 ≤ middle.sectors
sectors_then s middle first is sectors =
    let same : middle.sectors ≡ s.sectors = ap (λ (x : State). x.sectors) is ∙ (keeps-writes s first).sectors in
    omega (arith, same, sectors)

pub room_then : (s middle : State) (first : List Payload) → middle ≡ after_writes s first → length first ≡ 8 → is_off middle.ops ≡ false → 17 ≤ s.room
    → 9 ≤ middle.room
room_then s middle first is eight on room =
    let same : middle.room ≡ (after_writes s first).room = ap (λ (x : State). x.room) is in
    let left = writes_room s first (ap (λ (x : State). is_off x.ops) (sym is) ∙ on) in
    omega (arith, same, left, eight, room)

-- one write more in front
more_writes : (payload : Payload) (payloads : List Payload) (more : List Op) → AreWrites payloads more → AreWrites (payload ∷ payloads) (Wrote payload ∷ more)
more_writes payload payloads more (inl is) = inl (ap (λ (ops : List Op). Wrote payload ∷ ops) is)
more_writes payload payloads more (inr cut) = inr (suc cut.0, cut.1, cut.2, cut.3, ap (λ (ops : List Op). Wrote payload ∷ ops) cut.4)

-- the cut is due among the rest
due-next : (n : ℕ) (arming : Arming) → arming.k ≢ 1
    → IsDueWithin n (Some (record arming { k = arming.k - 1 })) ↔ IsDueWithin (suc n) (Some arming)
due-next n arming not_now =
    ((λ due. (counted_low arming.k n not_now due.0, counted_high arming.k n not_now due.1)), (λ due. (left_low arming.k n not_now due.0, left_high arming.k n not_now due.1)))
  where
    counted_low : (k n : ℕ) → k ≢ 1 → 1 ≤ k - 1 → 1 ≤ k
    counted_low k n apart low = omega arith

    counted_high : (k n : ℕ) → k ≢ 1 → k - 1 ≤ n → k ≤ suc n
    counted_high k n apart high = omega arith

    left_low : (k n : ℕ) → k ≢ 1 → 1 ≤ k → 1 ≤ k - 1
    left_low k n apart low = omega arith

    left_high : (k n : ℕ) → k ≢ 1 → k ≤ suc n → k - 1 ≤ n
    left_high k n apart high = omega arith

one_is_due : (n : ℕ) (arming : Arming) → arming.k ≡ 1 → IsDueWithin (suc n) (Some arming)
one_is_due n arming first = (omega (arith, first), omega (arith, first))

-- writes behind one that was carried out
behind : (s : State) (payload : Payload) (payloads : List Payload) (next : State) → next.ops ≡ s.ops ++ Wrote payload ∷ []
    → IsDueWithin (length payloads) next.armed ↔ IsDueWithin (suc (length payloads)) s.armed
    → AddsWrites next payloads (after_writes next payloads) → AddsWrites s (payload ∷ payloads) (after_writes next payloads)
behind s payload payloads next ops_is due rest = record {
  more = Wrote payload ∷ rest.more;
  added = rest.added ∙ (ap (λ (ops : List Op). ops ++ rest.more) ops_is ∙ append_assoc s.ops (Wrote payload ∷ []) rest.more);
  writes = more_writes payload payloads rest.more rest.writes;
  whole = λ on. ap (λ (ops : List Op). Wrote payload ∷ ops) (rest.whole on);
  due = ((λ off. due.0 (rest.due.0 off)), (λ is. rest.due.1 (due.1 is)));
}

none_due : (armed : Option Arming) → IsDueWithin 0 armed → ⊥
none_due None due = due
none_due (Some arming) due = omega (arith, due.0, due.1)

-- writes that begin with one, where the rest add what they should
first_write : (s : State) (payload : Payload) (payloads : List Payload) → is_off s.ops ≡ false → ((p : Psn) → p.0 < 16 → is_faulty p s.ops ≡ false)
    → ((next : State) → is_off next.ops ≡ false → ((p : Psn) → p.0 < 16 → is_faulty p next.ops ≡ false) → AddsWrites next payloads (after_writes next payloads))
    → (armed : Option Arming) → s.armed ≡ armed → AddsWrites s (payload ∷ payloads) (after_writes (after_good_write armed s payload) payloads)
first_write s payload payloads on sound rest None is =
    behind s payload payloads (with_op s (Wrote payload)) refl
    (subst (λ (a : Option Arming). IsDueWithin (length payloads) a ↔ IsDueWithin (suc (length payloads)) a) (sym is) ((λ due. due), (λ due. due)))
    (rest (with_op s (Wrote payload)) (off-push s.ops (Wrote payload) ∙ on) (λ p low. faulty-push p s.ops (Wrote payload) ∙ sound p low))
first_write s payload payloads on sound rest (Some arming) is = by_count (arming.k == 1) refl
  where
    by_count : (b : Bool) → (arming.k == 1) ≡ b → AddsWrites s (payload ∷ payloads) (after_writes (if b then torn s payload arming.tear else
        record (with_op s (Wrote payload)) { armed = Some (record arming { k = arming.k - 1 }) }) payloads)
    by_count true now =
        let first : arming.k ≡ 1 = eqb-true arming.k 1 now in
        let end : after_writes (torn s payload arming.tear) payloads ≡ torn s payload arming.tear =
        writes-off (torn s payload arming.tear) payloads (torn-off s.ops payload arming.tear) in
        subst (λ (x : State). AddsWrites s (payload ∷ payloads) x) (sym end) (record {
          more = Torn payload arming.tear ∷ Cut ∷ [];
          added = append_assoc s.ops (Torn payload arming.tear ∷ []) (Cut ∷ []);
          writes = inr (0, payload, arming.tear, refl, refl);
          whole = λ still. absurd (never_both _ (torn-off s.ops payload arming.tear) still);
          due = (
            (λ off. subst (λ (a : Option Arming). IsDueWithin (suc (length payloads)) a) (sym is) (one_is_due (length payloads) arming first)),
            (λ due. torn-off s.ops payload arming.tear),
          );
        })
    by_count false later =
        behind s payload payloads (record (with_op s (Wrote payload)) { armed = Some (record arming { k = arming.k - 1 }) }) refl
        (subst (λ (a : Option Arming). IsDueWithin (length payloads) (Some (record arming { k = arming.k - 1 })) ↔ IsDueWithin (suc (length payloads)) a) (sym is)
        (due-next (length payloads) arming (eqb-false arming.k 1 later)))
        (rest (record (with_op s (Wrote payload)) { armed = Some (record arming { k = arming.k - 1 }) }) (off-push s.ops (Wrote payload) ∙ on)
        (λ p low. faulty-push p s.ops (Wrote payload) ∙ sound p low))

pub adds_writes : (s : State) (payloads : List Payload) → is_off s.ops ≡ false → ((p : Psn) → p.0 < 16 → is_faulty p s.ops ≡ false)
    → All (λ payload. payload.psn.0 < 16) payloads → AddsWrites s payloads (after_writes s payloads)
adds_writes s [] on sound low = record {
  more = [];
  added = sym (append-nil s.ops);
  writes = inl refl;
  whole = λ still. refl;
  due = ((λ off. absurd (never_both (is_off s.ops) off on)), (λ due. absurd (none_due s.armed due)));
}
adds_writes s (payload ∷ payloads) on sound low =
    let here : payload.psn.0 < 16 = All-head (λ (q : Payload). q.psn.0 < 16) payload payloads low in
    let rest_low : All (λ (q : Payload). q.psn.0 < 16) payloads = All-tail (λ (q : Payload). q.psn.0 < 16) payload payloads low in
    subst (λ (x : State). AddsWrites s (payload ∷ payloads) (after_writes x payloads)) (sym (write-good s payload.psn payload on (sound payload.psn here)))
    (first_write s payload payloads on sound (λ next next_on next_sound. adds_writes next payloads next_on next_sound rest_low) s.armed refl)

pub eight_records : (m : DefectMap) → length (records_of m) ≡ 8
unfolding records_of
eight_records m = refl

pub not_true : (b r : Bool) → r ≡ true → r ≡ not b → b ≡ false
not_true true r is whole = let e : true ≡ false = sym is ∙ whole in (let never : ⊥ = cc in absurd never)
not_true false r is whole = refl

pub not_false : (b r : Bool) → r ≡ false → r ≡ not b → b ≡ true
not_false true r is whole = refl
not_false false r is whole = let e : false ≡ true = sym is ∙ whole in (let never : ⊥ = cc in absurd never)
