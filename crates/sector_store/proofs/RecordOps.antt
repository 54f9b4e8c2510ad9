-- What is meant on the maps' sectors after writes of records.
use Rattle.std.proofs.Common.{◌≡◌, ◌≢◌, ◌∙◌, ap, sym, refl, subst, ℕ, zero, suc, ◌+◌, ◌-◌, ◌/◌, ◌%◌, ◌<◌, ◌≤◌, Bool, true, false, cond, List, [], ◌∷◌, ◌++◌, take, drop, length, append_assoc, ◌⊎◌, inl, inr, arith, Option, Some, None}
use Rattle.std.specs.Prelude.{map, fold, slice_get, ◌==◌, if◌then◌else◌}
use Rattle.std.proofs.lemmas.Bool.{eqb-true, eqb-false, eq-eqb, ne_eqb}
use Rattle.std.proofs.lemmas.List.{append-nil}
use Rattle.std.proofs.lemmas.List.Sums.{fold-append}
use Rattle.disk_base.specs.At.{put_at}
use Rattle.disk_base.specs.declared.payload.Payload.{Payload}
use Rattle.platter_model.specs.declared.damage.Left.{Left}
use Rattle.platter_model.specs.declared.damage.Left.TheVariants.{Old, New, Nothing}
use Rattle.platter_model.specs.declared.damage.Tear.{Tear}
use Rattle.platter_model.specs.declared.op.Op.{Op}
use Rattle.platter_model.specs.declared.op.Op.TheVariants.{Wrote, Torn, Cut}
use Rattle.platter_model.specs.Sector.{meant, meant_after, left_of}
use Rattle.geometry_map.specs.DefectMap.{DefectMap, IsValidMap, sector}
use Rattle.map_generations.specs.MapRecord.{map_record, record_sector}
use Rattle.map_generations.specs.Recovery.{Reads}
use Rattle.map_generations.specs.SafeMaps.{KeptPair, SafeMaps, IsPresent, MayBeWritten, with_map, alone, written, written_to, IsLeftTorn}
use Rattle.map_generations.specs.SafetyLaws.{CommitsStaySafe, TornWritesKeepMapsSafe, SafetyIsByPlace}
use Rattle.sector_store.specs.Maps.{meant_on, records_of}
use Rattle.sector_store.specs.Shapes.{AreWrites}

-- a comparison, turned round
turned : (a b : ℕ) → (a == b) ≡ (b == a)
turned a b = by (b == a) refl
  where
    by : (t : Bool) → (b == a) ≡ t → (a == b) ≡ (b == a)
    by true e = eq-eqb a b (sym (eqb-true b a e)) ∙ sym e
    by false e = ne_eqb a b (λ same. eqb-false b a e (sym same)) ∙ sym e

-- one operation more
pub push : (p : ℕ) (ops : List Op) (op : Op) → meant_on (ops ++ op ∷ []) p ≡ meant_after (sector p) (meant_on ops p) op
push p ops op = fold-append (meant_after (sector p)) None ops (op ∷ [])

-- the write of a record
pub one : (n : DefectMap) (copy index : ℕ) (ops : List Op) (p : ℕ)
    → meant_on (ops ++ Wrote (map_record n copy index) ∷ []) p ≡ written n copy index (meant_on ops) p
one n copy index ops p =
    push p ops (Wrote (map_record n copy index))
    ∙ ap (λ (t : Bool). cond t (Some (map_record n copy index)) (meant_on ops p)) (turned (record_sector n.slot copy index).0 p)

-- a torn one, and the cut behind it
pub torn : (n : DefectMap) (copy index : ℕ) (tear : Tear) (ops : List Op) (p : ℕ)
    → meant_on (ops ++ Torn (map_record n copy index) tear ∷ Cut ∷ []) p
    ≡ put_at (record_sector n.slot copy index).0 (left_of tear.left (map_record n copy index) (meant_on ops (record_sector n.slot copy index).0)) (meant_on ops) p
torn n copy index tear ops p =
    fold-append (meant_after (sector p)) None ops (Torn (map_record n copy index) tear ∷ Cut ∷ [])
    ∙ by (p == (record_sector n.slot copy index).0) refl
  where
    by : (t : Bool) → (p == (record_sector n.slot copy index).0) ≡ t
        → (if (record_sector n.slot copy index).0 == p then left_of tear.left (map_record n copy index) (meant_on ops p) else meant_on ops p)
        ≡ cond (p == (record_sector n.slot copy index).0) (left_of tear.left (map_record n copy index) (meant_on ops (record_sector n.slot copy index).0)) (meant_on ops p)
    by true is =
        ap (λ (t : Bool). cond t (left_of tear.left (map_record n copy index) (meant_on ops p)) (meant_on ops p)) (turned (record_sector n.slot copy index).0 p ∙ is)
        ∙ (ap (λ (k : ℕ). left_of tear.left (map_record n copy index) (meant_on ops k)) (eqb-true p (record_sector n.slot copy index).0 is)
        ∙ sym (ap (λ (t : Bool). cond t (left_of tear.left (map_record n copy index) (meant_on ops (record_sector n.slot copy index).0)) (meant_on ops p)) is))
    by false is =
        ap (λ (t : Bool). cond t (left_of tear.left (map_record n copy index) (meant_on ops p)) (meant_on ops p)) (turned (record_sector n.slot copy index).0 p ∙ is)
        ∙ sym (ap (λ (t : Bool). cond t (left_of tear.left (map_record n copy index) (meant_on ops (record_sector n.slot copy index).0)) (meant_on ops p)) is)

-- the records, one after another
pub next_record : (n : DefectMap) (k : ℕ) → k < 8 → take (suc k) (records_of n) ≡ take k (records_of n) ++ map_record n (k / 4) (k % 4) ∷ []
unfolding records_of
next_record n zero less = refl
next_record n (suc zero) less = refl
next_record n (suc (suc zero)) less = refl
next_record n (suc (suc (suc zero))) less = refl
next_record n (suc (suc (suc (suc zero)))) less = refl
next_record n (suc (suc (suc (suc (suc zero))))) less = refl
next_record n (suc (suc (suc (suc (suc (suc zero)))))) less = refl
next_record n (suc (suc (suc (suc (suc (suc (suc zero))))))) less = refl
next_record n (suc (suc (suc (suc (suc (suc (suc (suc k)))))))) less = absurd (omega (arith, less))

pub at_record : (n : DefectMap) (k : ℕ) (payload : Payload) → slice_get (records_of n) k ≡ Some payload → (k < 8) × (payload ≡ map_record n (k / 4) (k % 4))
unfolding records_of
at_record n zero payload is = (omega arith, (let e : map_record n 0 0 ≡ payload = cc in sym e))
at_record n (suc zero) payload is = (omega arith, (let e : map_record n 0 1 ≡ payload = cc in sym e))
at_record n (suc (suc zero)) payload is = (omega arith, (let e : map_record n 0 2 ≡ payload = cc in sym e))
at_record n (suc (suc (suc zero))) payload is = (omega arith, (let e : map_record n 0 3 ≡ payload = cc in sym e))
at_record n (suc (suc (suc (suc zero)))) payload is = (omega arith, (let e : map_record n 1 0 ≡ payload = cc in sym e))
at_record n (suc (suc (suc (suc (suc zero))))) payload is = (omega arith, (let e : map_record n 1 1 ≡ payload = cc in sym e))
at_record n (suc (suc (suc (suc (suc (suc zero)))))) payload is = (omega arith, (let e : map_record n 1 2 ≡ payload = cc in sym e))
at_record n (suc (suc (suc (suc (suc (suc (suc zero))))))) payload is = (omega arith, (let e : map_record n 1 3 ≡ payload = cc in sym e))
at_record n (suc (suc (suc (suc (suc (suc (suc (suc k)))))))) payload is = absurd (cc)

pub all_eight : (n : DefectMap) → take 8 (records_of n) ≡ records_of n
unfolding records_of
all_eight n = refl

pub map_push : (xs : List Payload) (x : Payload) → map Wrote (xs ++ x ∷ []) ≡ map Wrote xs ++ Wrote x ∷ []
map_push [] x = refl
map_push (y ∷ ys) x = ap (λ (os : List Op). Wrote y ∷ os) (map_push ys x)

-- what is meant after the first of them
pub first_ones : (n : DefectMap) (k : ℕ) → k ≤ 8 → (ops : List Op) (p : ℕ) → meant_on (ops ++ map Wrote (take k (records_of n))) p ≡ written_to n k (meant_on ops) p
first_ones n zero less ops p = ap (λ (os : List Op). meant_on os p) (append-nil ops)
first_ones n (suc k) less ops p =
    let before = first_ones n k (omega arith) ops in
    ap (λ (xs : List Payload). meant_on (ops ++ map Wrote xs) p) (next_record n k (omega arith))
    ∙ (ap (λ (os : List Op). meant_on (ops ++ os) p) (map_push (take k (records_of n)) (map_record n (k / 4) (k % 4)))
    ∙ (ap (λ (os : List Op). meant_on os p) (sym (append_assoc ops (map Wrote (take k (records_of n))) (Wrote (map_record n (k / 4) (k % 4)) ∷ [])))
    ∙ (one n (k / 4) (k % 4) (ops ++ map Wrote (take k (records_of n))) p
    ∙ ap (λ (o : Option Payload). cond (p == (record_sector n.slot (k / 4) (k % 4)).0) (Some (map_record n (k / 4) (k % 4))) o) (before p))))

pub left_torn : (left : Left) (k : ℕ) (payload : Payload) (f g : Reads) → ((p : ℕ) → g p ≡ put_at k (left_of left payload (f k)) f p)
    → (after : Reads) × IsLeftTorn k payload f after × ((p : ℕ) → p < 16 → after p ≡ g p)
left_torn Old k payload f g is = (f, inl refl, λ p less. old p (p == k) refl ∙ sym (is p))
  where
    old : (p : ℕ) (t : Bool) → (p == k) ≡ t → f p ≡ put_at k (f k) f p
    old p true e = ap f (eqb-true p k e) ∙ sym (ap (λ (t : Bool). cond t (f k) (f p)) e)
    old p false e = sym (ap (λ (t : Bool). cond t (f k) (f p)) e)
left_torn New k payload f g is = (put_at k (Some payload) f, inr (inl refl), λ p less. sym (is p))
left_torn Nothing k payload f g is = (put_at k None f, inr (inr refl), λ p less. sym (is p))

-- writes that were cut off within a list
abbrev pub IsCutIn : List Payload → List Op → Type 0
IsCutIn xs ops = (count : ℕ) × (payload : Payload) × (tear : Tear) × (slice_get xs count ≡ Some payload)
    × (ops ≡ map Wrote (take count xs) ++ Torn payload tear ∷ Cut ∷ [])

pub map_both : (xs ys : List Payload) → map Wrote (xs ++ ys) ≡ map Wrote xs ++ map Wrote ys
map_both [] ys = refl
map_both (x ∷ xs) ys = ap (λ (os : List Op). Wrote x ∷ os) (map_both xs ys)

abbrev pub IsSplit : List Payload → List Payload → List Op → Type 0
IsSplit xs ys more = IsCutIn xs more ⊎ ((rest : List Op) × (more ≡ map Wrote xs ++ rest) × AreWrites ys rest)

split_cut : (xs ys : List Payload) (count : ℕ) (payload : Payload) (tear : Tear) → slice_get (xs ++ ys) count ≡ Some payload
    → IsSplit xs ys (map Wrote (take count (xs ++ ys)) ++ Torn payload tear ∷ Cut ∷ [])
split_cut [] ys count payload tear there = inr (_, refl, inr (count, payload, tear, there, refl))
split_cut (x ∷ xs) ys zero payload tear there = inl (zero, payload, tear, there, refl)
split_cut (x ∷ xs) ys (suc count) payload tear there = on (split_cut xs ys count payload tear there)
  where
    on : IsSplit xs ys (map Wrote (take count (xs ++ ys)) ++ Torn payload tear ∷ Cut ∷ [])
        → IsSplit (x ∷ xs) ys (map Wrote (take (suc count) (x ∷ xs ++ ys)) ++ Torn payload tear ∷ Cut ∷ [])
    on (inl c) = inl (suc c.0, c.1, c.2, c.3, ap (λ (os : List Op). Wrote x ∷ os) c.4)
    on (inr r) = inr (r.0, ap (λ (os : List Op). Wrote x ∷ os) r.1, r.2)

pub split : (xs ys : List Payload) (more : List Op) → AreWrites (xs ++ ys) more → IsSplit xs ys more
split xs ys more (inl is) = inr (map Wrote ys, is ∙ map_both xs ys, inl refl)
split xs ys more (inr c) = subst (λ (os : List Op). IsSplit xs ys os) (sym c.4) (split_cut xs ys c.0 c.1 c.2 c.3)

-- a map that may be written, cut off at one of its records
pub cut_safe : TornWritesKeepMapsSafe → SafetyIsByPlace → (n : DefectMap) (pair : KeptPair) (ops more : List Op)
    → ((count : ℕ) → count ≤ 8 → MayBeWritten (written_to n count (meant_on ops)) pair n) → IsCutIn (records_of n) more → SafeMaps (meant_on (ops ++ more)) pair
cut_safe torn_law by_place n pair ops more whole cut =
    let at = at_record n cut.0 cut.1 cut.3 in
    let before : List Op = ops ++ map Wrote (take cut.0 (records_of n)) in
    let lefts = left_torn cut.2.left (record_sector n.slot (cut.0 / 4) (cut.0 % 4)).0 (map_record n (cut.0 / 4) (cut.0 % 4)) (meant_on before)
    (meant_on (before ++ Torn (map_record n (cut.0 / 4) (cut.0 % 4)) cut.2 ∷ Cut ∷ [])) (torn n (cut.0 / 4) (cut.0 % 4) cut.2 before) in
    let may_then : MayBeWritten (meant_on before) pair n =
    (by_place (written_to n cut.0 (meant_on ops)) (meant_on before) (λ p less. sym (first_ones n cut.0 (omega (arith, at.0)) ops p))).1 pair n (whole cut.0 (omega (arith, at.0))) in
    let safe : SafeMaps lefts.0 pair = torn_law (meant_on before) lefts.0 pair n (cut.0 / 4) (cut.0 % 4) may_then lefts.1 in
    let after : SafeMaps (meant_on (before ++ Torn (map_record n (cut.0 / 4) (cut.0 % 4)) cut.2 ∷ Cut ∷ [])) pair =
    (by_place lefts.0 (meant_on (before ++ Torn (map_record n (cut.0 / 4) (cut.0 % 4)) cut.2 ∷ Cut ∷ [])) lefts.2).0 pair safe in
    let joined : before ++ Torn (map_record n (cut.0 / 4) (cut.0 % 4)) cut.2 ∷ Cut ∷ [] ≡ ops ++ more =
    append_assoc ops (map Wrote (take cut.0 (records_of n))) (Torn (map_record n (cut.0 / 4) (cut.0 % 4)) cut.2 ∷ Cut ∷ [])
    ∙ ap (λ (x : Payload). ops ++ (map Wrote (take cut.0 (records_of n)) ++ Torn x cut.2 ∷ Cut ∷ [])) (sym at.1)
    ∙ ap (λ (os : List Op). ops ++ os) (sym cut.4) in
    subst (λ (os : List Op). SafeMaps (meant_on os) pair) joined after

-- the records of a map, all written
pub all_written : (n : DefectMap) (ops : List Op) (p : ℕ) → written_to n 8 (meant_on ops) p ≡ meant_on (ops ++ map Wrote (records_of n)) p
all_written n ops p = sym (first_ones n 8 (omega arith) ops p) ∙ ap (λ (xs : List Payload). meant_on (ops ++ map Wrote xs) p) (all_eight n)

-- what is written over reads that are the same
pub same_written : (n : DefectMap) (k : ℕ) (f g : Reads) → ((p : ℕ) → f p ≡ g p) → (p : ℕ) → written_to n k f p ≡ written_to n k g p
same_written n zero f g same p = same p
same_written n (suc k) f g same p =
    ap (λ (o : Option Payload). cond (p == (record_sector n.slot (k / 4) (k % 4)).0) (Some (map_record n (k / 4) (k % 4))) o) (same_written n k f g same p)

-- whole lists of writes aren't cut off
pub no_torn : (xs : List Payload) (os : List Op) (x : Payload) (tear : Tear) → os ++ Torn x tear ∷ Cut ∷ [] ≡ map Wrote xs → ⊥
no_torn [] [] x tear e = absurd (cc)
no_torn [] (o ∷ os) x tear e = absurd (cc)
no_torn (y ∷ ys) [] x tear e = absurd (cc)
no_torn (y ∷ ys) (o ∷ os) x tear e = no_torn ys os x tear (ap (λ (zs : List Op). drop 1 zs) e)
