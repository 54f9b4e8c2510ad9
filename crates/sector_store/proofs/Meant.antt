-- What is meant on sectors after a write.
use Rattle.std.proofs.Common.{◌≡◌, Bool, true, false, List, [], ◌∷◌, ◌++◌, Option, Some, None, refl, sym, ◌∙◌, ap, ◌⊎◌, inl, inr}
use Rattle.std.specs.Prelude.{if◌then◌else◌, ◌==◌, ◌-◌}
use Rattle.std.proofs.lemmas.Bool.{ne_eqb, eq-eqb}
use Rattle.std.proofs.lemmas.List.Sums.{fold_push}
use Rattle.disk_base.specs.declared.address.Psn.{Psn}
use Rattle.disk_base.specs.declared.payload.Payload.{Payload}
use Rattle.platter_model.specs.declared.answer.WriteAnswer.{WriteAnswer}
use Rattle.platter_model.specs.declared.answer.WriteAnswer.TheVariants.{Written, Fault, Off}
use Rattle.platter_model.specs.declared.damage.Arming.{Arming}
use Rattle.platter_model.specs.declared.damage.Left.{Left}
use Rattle.platter_model.specs.declared.damage.Left.TheVariants.{Old, New, Nothing}
use Rattle.platter_model.specs.declared.damage.Tear.{Tear}
use Rattle.platter_model.specs.declared.op.Op.{Op}
use Rattle.platter_model.specs.declared.op.Op.TheVariants.{Wrote, Torn, WriteFailed, Cut}
use Rattle.platter_model.specs.Sector.{is_sector, left_of, meant_after, meant, is_faulty}
use Rattle.platter_model.specs.State.{State, with_op, torn, good_answer, write_answer, after_good_write, after_write}
use Rattle.platter_model.specs.TrueLog.{is_off}

-- one operation more
pub meant-push : (p : Psn) (ops : List Op) (op : Op) → meant p (ops ++ op ∷ []) ≡ meant_after p (meant p ops) op
meant-push p ops op = fold_push (meant_after p) None ops op

-- of two sectors
pub is_sector-own : (p : Psn) → is_sector p p ≡ true
is_sector-own p = eq-eqb p.0 p.0 refl

pub is_sector-apart : (p q : Psn) → (q.0 ≡ p.0 → ⊥) → is_sector q p ≡ false
is_sector-apart p q apart = ne_eqb p.0 q.0 (λ same. apart (sym same))

-- a write that is carried out or torn, elsewhere
wrote-apart : (q : Psn) (ops : List Op) (payload : Payload) → is_sector q payload.psn ≡ false → meant q (ops ++ Wrote payload ∷ []) ≡ meant q ops
wrote-apart q ops payload apart =
    meant-push q ops (Wrote payload) ∙ ap (λ (b : Bool). if b then Some payload else meant q ops) apart

torn_to : (q : Psn) (ops : List Op) (payload : Payload) (tear : Tear)
    → meant q (ops ++ Torn payload tear ∷ [] ++ Cut ∷ []) ≡ (if is_sector q payload.psn then left_of tear.left payload (meant q ops) else meant q ops)
torn_to q ops payload tear = meant-push q (ops ++ Torn payload tear ∷ []) Cut ∙ meant-push q ops (Torn payload tear)

torn-apart : (q : Psn) (ops : List Op) (payload : Payload) (tear : Tear) → is_sector q payload.psn ≡ false
    → meant q (ops ++ Torn payload tear ∷ [] ++ Cut ∷ []) ≡ meant q ops
torn-apart q ops payload tear apart =
    torn_to q ops payload tear ∙ ap (λ (b : Bool). if b then left_of tear.left payload (meant q ops) else meant q ops) apart

good-apart : (armed : Option Arming) (q : Psn) (s : State) (payload : Payload) → is_sector q payload.psn ≡ false
    → meant q (after_good_write armed s payload).ops ≡ meant q s.ops
good-apart None q s payload apart = wrote-apart q s.ops payload apart
good-apart (Some arming) q s payload apart = by_count (arming.k == 1)
  where
    by_count : (b : Bool) → meant q (if b then torn s payload arming.tear else record (with_op s (Wrote payload)) { armed = Some (record arming { k = arming.k - 1 }) }).ops ≡ meant q s.ops
    by_count true = torn-apart q s.ops payload arming.tear apart
    by_count false = wrote-apart q s.ops payload apart

-- a write changes nothing elsewhere
pub write-apart : (s : State) (p q : Psn) (payload : Payload) → is_sector q payload.psn ≡ false → meant q (after_write s p payload).ops ≡ meant q s.ops
write-apart s p q payload apart = by_power (is_off s.ops)
  where
    by_fault : (b : Bool) → meant q (if b then with_op s (WriteFailed p) else after_good_write s.armed s payload).ops ≡ meant q s.ops
    by_fault true = meant-push q s.ops (WriteFailed p)
    by_fault false = good-apart s.armed q s payload apart

    by_power : (b : Bool) → meant q (if b then s else if is_faulty p s.ops then with_op s (WriteFailed p) else after_good_write s.armed s payload).ops ≡ meant q s.ops
    by_power true = refl
    by_power false = by_fault (is_faulty p s.ops)

-- what is meant on its sector after a write, by its answer
abbrev pub IsMeantBy : Psn → Payload → List Op → List Op → WriteAnswer → Type 0
IsMeantBy p payload ops more Written = meant p more ≡ Some payload
IsMeantBy p payload ops more Fault = meant p more ≡ meant p ops
IsMeantBy p payload ops more Off = (meant p more ≡ meant p ops) ⊎ ((meant p more ≡ Some payload) ⊎ (meant p more ≡ None))

wrote-own : (p : Psn) (ops : List Op) (payload : Payload) → is_sector p payload.psn ≡ true → meant p (ops ++ Wrote payload ∷ []) ≡ Some payload
wrote-own p ops payload own =
    meant-push p ops (Wrote payload) ∙ ap (λ (b : Bool). if b then Some payload else meant p ops) own

torn-own : (p : Psn) (ops : List Op) (payload : Payload) (tear : Tear) → is_sector p payload.psn ≡ true
    → meant p (ops ++ Torn payload tear ∷ [] ++ Cut ∷ []) ≡ left_of tear.left payload (meant p ops)
torn-own p ops payload tear own =
    torn_to p ops payload tear ∙ ap (λ (b : Bool). if b then left_of tear.left payload (meant p ops) else meant p ops) own

left-own : (left : Left) (payload : Payload) (before after : Option Payload) → after ≡ left_of left payload before
    → (after ≡ before) ⊎ ((after ≡ Some payload) ⊎ (after ≡ None))
left-own Old payload before after is = inl is
left-own New payload before after is = inr (inl is)
left-own Nothing payload before after is = inr (inr is)

good-own : (armed : Option Arming) (p : Psn) (s : State) (payload : Payload) → is_sector p payload.psn ≡ true
    → IsMeantBy p payload s.ops (after_good_write armed s payload).ops (good_answer armed)
good-own None p s payload own = wrote-own p s.ops payload own
good-own (Some arming) p s payload own = by_count (arming.k == 1)
  where
    by_count : (b : Bool) → IsMeantBy p payload s.ops
        (if b then torn s payload arming.tear else record (with_op s (Wrote payload)) { armed = Some (record arming { k = arming.k - 1 }) }).ops
        (if b then Off else Written)
    by_count true = left-own arming.tear.left payload (meant p s.ops) _ (torn-own p s.ops payload arming.tear own)
    by_count false = wrote-own p s.ops payload own

pub write-own : (s : State) (p : Psn) (payload : Payload) → is_sector p payload.psn ≡ true
    → IsMeantBy p payload s.ops (after_write s p payload).ops (write_answer s p)
write-own s p payload own = by_power (is_off s.ops)
  where
    by_fault : (b : Bool) → IsMeantBy p payload s.ops
        (if b then with_op s (WriteFailed p) else after_good_write s.armed s payload).ops (if b then Fault else good_answer s.armed)
    by_fault true = meant-push p s.ops (WriteFailed p)
    by_fault false = good-own s.armed p s payload own

    by_power : (b : Bool) → IsMeantBy p payload s.ops
        (if b then s else if is_faulty p s.ops then with_op s (WriteFailed p) else after_good_write s.armed s payload).ops
        (if b then Off else if is_faulty p s.ops then Fault else good_answer s.armed)
    by_power true = inl refl
    by_power false = by_fault (is_faulty p s.ops)
