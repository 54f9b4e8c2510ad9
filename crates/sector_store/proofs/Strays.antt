-- A try that is no stray found what was meant.
use Rattle.std.proofs.Common.{◌≡◌, ℕ, ◌+◌, Bool, true, false, ◌&&◌, List, [], ◌∷◌, ◌++◌, length, Option, Some, None, refl, sym, ap, subst, arith, append_assoc, append-nil}
use Rattle.std.specs.Prelude.{if◌then◌else◌, ◌==◌}
use Rattle.std.specs.Str.{bytes_eq}
use Rattle.std.proofs.Math.Seq.{take-append_seam}
use Rattle.std.proofs.lemmas.Bool.{eqb-true, not-false}
use Rattle.std.proofs.lemmas.Slice.Eq.{bytes_eq-Decides}
use Rattle.disk_base.specs.declared.address.Psn.{Psn}
use Rattle.disk_base.specs.declared.payload.Payload.{Payload}
use Rattle.disk_base.specs.declared.stage.Stage.{Stage}
use Rattle.platter_model.specs.declared.op.Op.{Op}
use Rattle.platter_model.specs.declared.op.Op.TheVariants.{Fetched, Tried}
use Rattle.platter_model.specs.Sector.{meant}
use Rattle.platter_model.specs.TrueLog.{attempt_of, is_same, is_other, is_stray, strays_from, strays}
use Rattle.geometry_map.specs.DefectMap.{sector, place_of}
use Rattle.sector_store.specs.Stored.{value_in}
use Rattle.sector_store.specs.Laws.{TriesFindWhatIsStored}

-- strays of one operation more
strays_from-push : (before ops : List Op) (op : Op)
    → strays_from before (ops ++ op ∷ []) ≡ strays_from before ops + (if is_stray (before ++ ops) op then 1 else 0)
strays_from-push before [] op = rw (append-nil before) (omega arith)
strays_from-push before (o ∷ ops) op =
    rw (strays_from-push (before ++ o ∷ []) ops op, append_assoc before (o ∷ []) ops) (omega arith)

pub strays-push : (ops : List Op) (op : Op) → strays (ops ++ op ∷ []) ≡ strays ops + (if is_stray ops op then 1 else 0)
strays-push ops op = strays_from-push [] ops op

-- both of two tests
both : (a b : Bool) → (a && b) ≡ true → (a ≡ true) × (b ≡ true)
both true b is = (refl, is)
both false b is = let never : ⊥ = cc in absurd never

-- two payloads of the same parts
of_parts : (k l i j s t v w a b : ℕ) (p q : Psn) (x y : List ℕ) → k ≡ l → i ≡ j → s ≡ t → v ≡ w → p ≡ q → a ≡ b → x ≡ y
    → (let one : Payload = record { kind = k; index = i; state = s; version = v; psn = p; address = a; block = x } in one)
    ≡ (let other : Payload = record { kind = l; index = j; state = t; version = w; psn = q; address = b; block = y } in other)
of_parts k l i j s t v w a b p q x y kl ij st vw pq ab xy = rw (kl, ij, st, vw, pq, ab, xy) refl

same-is : (a b : Payload) → is_same a b ≡ true → a ≡ b
same-is a b is =
    let kind = a.kind == b.kind in
    let index = a.index == b.index in
    let state = a.state == b.state in
    let version = a.version == b.version in
    let psn = a.psn.0 == b.psn.0 in
    let address = a.address == b.address in
    let block = bytes_eq a.block b.block in
    let six = both (kind && index && state && version && psn && address) block is in
    let five = both (kind && index && state && version && psn) address six.0 in
    let four = both (kind && index && state && version) psn five.0 in
    let three = both (kind && index && state) version four.0 in
    let two = both (kind && index) state three.0 in
    let one = both kind index two.0 in
    of_parts a.kind b.kind a.index b.index a.state b.state a.version b.version a.address b.address a.psn b.psn a.block b.block
    (eqb-true a.kind b.kind one.0) (eqb-true a.index b.index one.1) (eqb-true a.state b.state two.1) (eqb-true a.version b.version three.1)
    (ap sector (eqb-true a.psn.0 b.psn.0 four.1)) (eqb-true a.address b.address five.1) ((bytes_eq-Decides a.block b.block).0 six.1)

-- what was found is what is meant where it is no other
pub no_other-is : (meant_there : Option Payload) (found : Payload) → is_other meant_there (Some found) ≡ false → meant_there ≡ Some found
no_other-is None found is = let never : ⊥ = cc in absurd never
no_other-is (Some payload) found is = ap Some (same-is payload found (not-false (is_same payload found) is))

none-more : (stray : Bool) (a b c : ℕ) → a ≡ b + (if stray then 1 else 0) → b ≡ c + 0 → a ≡ c → stray ≡ false
none-more true a b c one none same = absurd (omega arith)
none-more false a b c one none same = refl

pub found_is_meant : (ops : List Op) (p : Psn) (stage : Stage) (payload : Payload)
    → strays (ops ++ Fetched p (attempt_of stage) ∷ [] ++ Tried (length ops) p stage (Some payload) ∷ []) ≡ strays ops → meant p ops ≡ Some payload
found_is_meant ops p stage payload same =
    let fetch : Op = Fetched p (attempt_of stage) in
    let note : Op = Tried (length ops) p stage (Some payload) in
    let P : List Op → Type 0 = λ os. is_other (meant p os) (Some payload) ≡ false in
    let quiet : is_stray (ops ++ fetch ∷ []) note ≡ false =
    none-more (is_stray (ops ++ fetch ∷ []) note) (strays (ops ++ fetch ∷ [] ++ note ∷ [])) (strays (ops ++ fetch ∷ [])) (strays ops)
    (strays-push (ops ++ fetch ∷ []) note) (strays-push ops fetch) same in
    no_other-is (meant p ops) payload (subst P (take-append_seam ops (fetch ∷ [])) quiet)

pub tries_find_what_is_stored : TriesFindWhatIsStored
tries_find_what_is_stored m s b stage payload same = sym (ap (value_in b) (found_is_meant s.ops (place_of m b) stage payload same))
