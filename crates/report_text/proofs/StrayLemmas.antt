-- What is meant on a sector, from the last operation back; and strays one operation after another.
use Rattle.std.proofs.Common.{◌≡◌, ℕ, ◌+◌, ◌<◌, ◌≤◌, ◌&&◌, Bool, true, false, List, [], ◌∷◌, ◌++◌, length, get_or, take, refl, sym, ap, ◌∙◌, subst, ⊎_elim, arith, length-append}
use Rattle.std.specs.Prelude.{Option, None, if◌then◌else◌}
use Rattle.std.proofs.lemmas.Bool.{cases_lt}
use Rattle.std.proofs.lemmas.List.{take_more, take_all, take-append-le, length-take}
use Rattle.std.proofs.lemmas.Grind.{fold-append}
use Rattle.disk_base.specs.declared.address.Psn.{Psn}
use Rattle.disk_base.specs.declared.payload.Payload.{Payload}
use Rattle.platter_model.specs.declared.damage.Left.{Left}
use Rattle.platter_model.specs.declared.damage.Left.TheVariants.{Old, New, Nothing}
use Rattle.platter_model.specs.declared.op.Op.{Op}
use Rattle.platter_model.specs.declared.op.Op.TheVariants.{Wrote, Torn, WriteFailed, Damaged, Faulty, Fetched, Tried, Cut, Power}
use Rattle.platter_model.specs.Sector.{meant, meant_after, is_sector, left_of}
use Rattle.platter_model.specs.Places.{settles, payload_of, changes_meant}
use Rattle.platter_model.specs.TrueLog.{is_stray, strays}
use Rattle.platter_model.proofs.Logs.{strays-push}
use Rattle.report_text.specs.Ends.{IsMeantSince, AreEnds}

-- what is meant after an operation: what it settles, or what was meant before
meant_after-by : (p : Psn) (before : Option Payload) (op : Op) → meant_after p before op ≡ (if settles p op then payload_of op else before)
meant_after-by p before (Wrote payload) = refl
meant_after-by p before (Torn payload tear) = by_parts (is_sector p payload.psn) tear.left
  where
    by_parts : (here : Bool) (left : Left) → (if here then left_of left payload before else before) ≡ (if here && changes_meant left then left_of left payload None else before)
    by_parts true Old = refl
    by_parts true New = refl
    by_parts true Nothing = refl
    by_parts false left = refl
meant_after-by p before (WriteFailed q) = refl
meant_after-by p before (Damaged damage) = refl
meant_after-by p before (Faulty q) = refl
meant_after-by p before (Fetched q attempt) = refl
meant_after-by p before (Tried at q stage found) = refl
meant_after-by p before Cut = refl
meant_after-by p before Power = refl

-- the same of the first operations of a list
meant-more : (p : Psn) (ops : List Op) (i : ℕ) (d : Op) → i < length ops
    → meant p (take (i + 1) ops) ≡ (if settles p (get_or ops i d) then payload_of (get_or ops i d) else meant p (take i ops))
meant-more p ops i d within =
    ap (meant p) (take_more ops i d within)
    ∙ (fold-append (meant_after p) None (take i ops) (get_or ops i d ∷ []) ∙ meant_after-by p (meant p (take i ops)) (get_or ops i d))

-- the last operation settles it
pub meant-settled : (p : Psn) (ops : List Op) (i : ℕ) (d : Op) → i < length ops → settles p (get_or ops i d) ≡ true
    → meant p (take (i + 1) ops) ≡ payload_of (get_or ops i d)
meant-settled p ops i d within e = meant-more p ops i d within ∙ ap (λ b. if b then payload_of (get_or ops i d) else meant p (take i ops)) e

-- the last operation doesn't
pub meant-kept : (p : Psn) (ops : List Op) (i : ℕ) (d : Op) → i < length ops → settles p (get_or ops i d) ≡ false
    → meant p (take (i + 1) ops) ≡ meant p (take i ops)
meant-kept p ops i d within e = meant-more p ops i d within ∙ ap (λ b. if b then payload_of (get_or ops i d) else meant p (take i ops)) e

-- one operation more
pub strays-more : (ops : List Op) (i : ℕ) (d : Op) → i < length ops
    → strays (take (i + 1) ops) ≡ strays (take i ops) + (if is_stray (take i ops) (get_or ops i d) then 1 else 0)
strays-more ops i d within = ap strays (take_more ops i d within) ∙ strays-push (take i ops) (get_or ops i d)

-- the operation that a list is read as having behind its end
abbrev pub no_op : Op
no_op = Wrote (record { kind = 0; index = 0; state = 0; version = 0; psn = record { 0 = 0 }; address = 0; block = [] })

-- an operation that doesn't settle a sector leaves there what was meant
meant-push-kept : (p : Psn) (before : List Op) (op : Op) → settles p op ≡ false → meant p (before ++ op ∷ []) ≡ meant p before
meant-push-kept p before op e = fold-append (meant_after p) None before (op ∷ [])
    ∙ (meant_after-by p (meant p before) op ∙ ap (λ b. if b then payload_of op else meant p before) e)

-- before the first operation each end is the start
pub ends-none : (ends : List ℕ) → ((p : Psn) → p.0 < 4096 → get_or ends p.0 0 ≡ 0) → AreEnds [] ends
ends-none ends zeros = record {
  within = λ p low. omega (arith, zeros p low);
  since = λ p low k from upto. ap (λ j. meant p (take j [])) (omega (arith, zeros p low));
}

-- the end of a sector's last write, an operation more
since-push : (p : Psn) (before : List Op) (op : Op) (end : ℕ) → end ≤ length before → IsMeantSince p before end → (here : Bool) → settles p op ≡ here
    → IsMeantSince p (before ++ op ∷ []) (if here then length before + 1 else end)
since-push p before op end within since true e = λ k from upto. ap (λ j. meant p (take j (before ++ op ∷ []))) (omega (arith, from, upto, length-append before (op ∷ [])))
since-push p before op end within since false e = λ k from upto.
    let front : meant p (take end before) ≡ meant p (take end (before ++ op ∷ [])) = ap (meant p) (sym (take-append-le end before (op ∷ []) within)) in
    ⊎_elim
    (λ (last : length before < k). ap (meant p) (take_all k (before ++ op ∷ []) (omega (arith, last, length-append before (op ∷ []))))
    ∙ (meant-push-kept p before op e ∙ (ap (meant p) (sym (take_all (length before) before (omega arith))) ∙ (since (length before) within (omega arith) ∙ front))))
    (λ (inside : k ≤ length before). ap (meant p) (take-append-le k before (op ∷ []) inside) ∙ (since k from inside ∙ front))
    (cases_lt (length before) k)

-- each end, an operation more
ends-push : (before : List Op) (op : Op) (ends after : List ℕ) → AreEnds before ends
    → ((p : Psn) → p.0 < 4096 → get_or after p.0 0 ≡ (if settles p op then length before + 1 else get_or ends p.0 0)) → AreEnds (before ++ op ∷ []) after
ends-push before op ends after are noted = record {
  within = λ p low. subst (λ e. e ≤ length (before ++ op ∷ [])) (sym (noted p low)) (room (settles p op) (get_or ends p.0 0) (are.within p low));
  since = λ p low. subst (IsMeantSince p (before ++ op ∷ [])) (sym (noted p low)) (since-push p before op (get_or ends p.0 0) (are.within p low) (are.since p low) (settles p op) refl);
}
  where
    room : (here : Bool) (end : ℕ) → end ≤ length before → (if here then length before + 1 else end) ≤ length (before ++ op ∷ [])
    room true end within = omega (arith, length-append before (op ∷ []))
    room false end within = omega (arith, within, length-append before (op ∷ []))

-- the same of the first operations of a list
pub ends-more : (ops : List Op) (i : ℕ) (d : Op) (ends after : List ℕ) → i < length ops → AreEnds (take i ops) ends
    → ((p : Psn) → p.0 < 4096 → get_or after p.0 0 ≡ (if settles p (get_or ops i d) then i + 1 else get_or ends p.0 0)) → AreEnds (take (i + 1) ops) after
ends-more ops i d ends after low are noted =
    subst (λ xs. AreEnds xs after) (sym (take_more ops i d low))
    (ends-push (take i ops) (get_or ops i d) ends after are
    (subst (λ n. (p : Psn) → p.0 < 4096 → get_or after p.0 0 ≡ (if settles p (get_or ops i d) then n + 1 else get_or ends p.0 0)) (omega (arith, length-take i ops)) noted))
