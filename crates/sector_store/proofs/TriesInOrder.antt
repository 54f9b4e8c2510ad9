-- What tries of sectors by stages add, and what they leave.
use Rattle.std.proofs.Common.{◌≡◌, ◌≢◌, ℕ, zero, suc, ◌+◌, ◌-◌, ◌*◌, ◌<◌, ◌≤◌, Bool, true, false, List, [], ◌∷◌, ◌++◌, length, take, drop, get_or, set, Option, Some, None, refl, sym, ◌∙◌, ap, subst, arith, append_assoc, append-nil, ◌⊎◌, inl, inr}
use Rattle.std.specs.Prelude.{◌==◌, is_some}
use Rattle.std.specs.Option.{option_flatten}
use Rattle.std.proofs.Math.Seq.{take-suc}
use Rattle.std.proofs.lemmas.List.{take-append-drop, length-append, length-take-le, get_or-set_same, get_or-set_other}
use Rattle.std.proofs.lemmas.Bool.{eqb-true, eqb-false}
use Rattle.disk_base.specs.declared.address.Psn.{Psn}
use Rattle.disk_base.specs.declared.payload.Payload.{Payload}
use Rattle.disk_base.specs.declared.stage.Stage.{Stage}
use Rattle.platter_model.specs.declared.op.Op.{Op}
use Rattle.platter_model.specs.declared.op.Op.TheVariants.{Fetched, Tried}
use Rattle.platter_model.specs.Sector.{meant, is_faulty}
use Rattle.platter_model.specs.State.{State, tried}
use Rattle.platter_model.specs.TrueLog.{attempt_of, is_off, strays}
use Rattle.geometry_map.specs.DefectMap.{sector}
use Rattle.map_generations.specs.Recovery.{Reads, reads_of}
use Rattle.sector_store.specs.Maps.{meant_on}
use Rattle.sector_store.specs.Shapes.{try_of, AreTries, AreReads}
use Rattle.sector_store.specs.Recovering.{with_ops, IsReadBy, AreReadBy}
use Rattle.sector_store.proofs.Meant.{meant-push}
use Rattle.sector_store.proofs.Calls.{HasTried}
use Rattle.sector_store.proofs.Strays.{strays-push, found_is_meant}
use Rattle.sector_store.proofs.WritesInOrder.{off-push, faulty-push}

-- how many there are
pub tries_length : (before : ℕ) (p : Psn) (stages : List Stage) (found : Option Payload) (ops : List Op) → AreTries before p stages found ops
    → length ops ≤ 2 * length stages
tries_length before p [] found ops tries =
    let none : length ops ≡ 0 = ap (λ (os : List Op). length os) tries.1 in omega (arith, none)
tries_length before p (stage ∷ stages) found ops (inl first) =
    let two : length ops ≡ 2 = ap (λ (os : List Op). length os) first.2 in omega (arith, two)
tries_length before p (stage ∷ stages) found ops (inr more) =
    let all : length ops ≡ 2 + length more.0 = ap (λ (os : List Op). length os) more.1 ∙ length-append (try_of before p stage None) more.0 in
    let rest = tries_length (before + 2) p stages found more.0 more.2 in
    omega (arith, all, rest)

pub missed_length : (before : ℕ) (p : Psn) (stages : List Stage) (ops : List Op) → AreTries before p stages None ops → length ops ≡ 2 * length stages
missed_length before p [] ops tries =
    let none : length ops ≡ 0 = ap (λ (os : List Op). length os) tries.1 in omega (arith, none)
missed_length before p (stage ∷ stages) ops (inl first) = let is = first.1 in let never : ⊥ = cc in absurd never
missed_length before p (stage ∷ stages) ops (inr more) =
    let all : length ops ≡ 2 + length more.0 = ap (λ (os : List Op). length os) more.1 ∙ length-append (try_of before p stage None) more.0 in
    let rest = missed_length (before + 2) p stages more.0 more.2 in
    omega (arith, all, rest)

pub reads_length : (before p count : ℕ) (stages : List Stage) (reads : Reads) (ops : List Op) → AreReads before p count stages reads ops
    → length ops ≤ count * (2 * length stages)
reads_length before p zero stages reads ops are =
    let none : length ops ≡ 0 = ap (λ (os : List Op). length os) are in omega (arith, none)
reads_length before p (suc count) stages reads ops (tries, rest, is, one, more) =
    let all : length ops ≡ length tries + length rest = ap (λ (os : List Op). length os) is ∙ length-append tries rest in
    let first = tries_length before (sector p) stages (reads p) tries one in
    let others = reads_length (before + length tries) (p + 1) count stages reads rest more in
    omega (arith, all, first, others)

-- tries by further stages behind those that found nothing
pub tries_on : (before : ℕ) (p : Psn) (stages others : List Stage) (found : Option Payload) (ops more : List Op) → AreTries before p stages None ops
    → AreTries (before + length ops) p others found more → AreTries before p (stages ++ others) found (ops ++ more)
tries_on before p [] others found ops more tries rest =
    let none : length ops ≡ 0 = ap (λ (os : List Op). length os) tries.1 in
    let at : before + length ops ≡ before = omega (arith, none) in
    subst (λ (os : List Op). AreTries before p others found (os ++ more)) (sym tries.1) (subst (λ (n : ℕ). AreTries n p others found more) at rest)
tries_on before p (stage ∷ stages) others found ops more (inl first) rest = let is = first.1 in let never : ⊥ = cc in absurd never
tries_on before p (stage ∷ stages) others found ops more (inr missed) rest =
    let all : length ops ≡ 2 + length missed.0 = ap (λ (os : List Op). length os) missed.1 ∙ length-append (try_of before p stage None) missed.0 in
    let at : before + length ops ≡ before + 2 + length missed.0 = omega (arith, all) in
    inr (
      missed.0 ++ more,
      ap (λ (os : List Op). os ++ more) missed.1,
      tries_on (before + 2) p stages others found missed.0 more missed.2 (subst (λ (n : ℕ). AreTries n p others found more) at rest),
    )

-- reads of one sector more
pub reads_on : (before p count : ℕ) (stages : List Stage) (reads : Reads) (ops more : List Op) → AreReads before p count stages reads ops
    → AreTries (before + length ops) (sector (p + count)) stages (reads (p + count)) more → AreReads before p (suc count) stages reads (ops ++ more)
reads_on before p zero stages reads ops more are one =
    let none : length ops ≡ 0 = ap (λ (os : List Op). length os) are in
    let at : before + length ops ≡ before = omega (arith, none) in
    let here : p + 0 ≡ p = omega arith in
    let tries : AreTries before (sector p) stages (reads p) more =
    subst (λ (q : ℕ). AreTries before (sector q) stages (reads q) more) here
    (subst (λ (n : ℕ). AreTries n (sector (p + 0)) stages (reads (p + 0)) more) at one) in
    (more, [], ap (λ (os : List Op). os ++ more) are ∙ sym (append-nil more), tries, refl)
reads_on before p (suc count) stages reads ops more (tries, rest, is, first, others) one =
    let all : length ops ≡ length tries + length rest = ap (λ (os : List Op). length os) is ∙ length-append tries rest in
    let at : before + length ops ≡ before + length tries + length rest = omega (arith, all) in
    let here : p + suc count ≡ p + 1 + count = omega arith in
    let last : AreTries (before + length tries + length rest) (sector (p + 1 + count)) stages (reads (p + 1 + count)) more =
    subst (λ (q : ℕ). AreTries (before + length tries + length rest) (sector q) stages (reads q) more) here
    (subst (λ (n : ℕ). AreTries n (sector (p + suc count)) stages (reads (p + suc count)) more) at one) in (
      tries,
      rest ++ more,
      ap (λ (os : List Op). os ++ more) is ∙ append_assoc tries rest more,
      first,
      reads_on (before + length tries) (p + 1) count stages reads rest more others last,
    )

-- what else the reads say elsewhere doesn't count
pub reads_alike : (before p count : ℕ) (stages : List Stage) (reads others : Reads) (ops : List Op) → ((q : ℕ) → q < p + count → reads q ≡ others q)
    → AreReads before p count stages reads ops → AreReads before p count stages others ops
reads_alike before p zero stages reads others ops same are = are
reads_alike before p (suc count) stages reads others ops same (tries, rest, is, one, more) = (
  tries,
  rest,
  is,
  subst (λ (found : Option Payload). AreTries before (sector p) stages found tries) (same p (omega arith)) one,
  reads_alike (before + length tries) (p + 1) count stages reads others rest (λ q low. same q (omega (arith, low))) more,
)

-- what tries leave as it is
pub record Quiet (before after : List Op) : Type 0 where
  pub means : (q : Psn) → meant q after ≡ meant q before
  pub faults : (q : Psn) → is_faulty q after ≡ is_faulty q before
  pub power : is_off after ≡ is_off before
  pub strays_grow : strays before ≤ strays after

quiet_same : (ops : List Op) → Quiet ops ops
quiet_same ops = record { means = λ q. refl; faults = λ q. refl; power = refl; strays_grow = omega arith }

pub quiet_on : (before middle after : List Op) → Quiet before middle → Quiet middle after → Quiet before after
quiet_on before middle after first second = record {
  means = λ q. second.means q ∙ first.means q;
  faults = λ q. second.faults q ∙ first.faults q;
  power = second.power ∙ first.power;
  strays_grow = omega (arith, first.strays_grow, second.strays_grow);
}

grown : (a b c : ℕ) → a ≡ b + c → b ≤ a
grown a b c is = omega (arith, is)

quiet_fetch : (ops : List Op) (p : Psn) (stage : Stage) → Quiet ops (ops ++ Fetched p (attempt_of stage) ∷ [])
quiet_fetch ops p stage = record {
  means = λ q. meant-push q ops (Fetched p (attempt_of stage));
  faults = λ q. faulty-push q ops (Fetched p (attempt_of stage));
  power = off-push ops (Fetched p (attempt_of stage));
  strays_grow = grown _ _ _ (strays-push ops (Fetched p (attempt_of stage)));
}

quiet_note : (ops : List Op) (at : ℕ) (p : Psn) (stage : Stage) (found : Option Payload) → Quiet ops (ops ++ Tried at p stage found ∷ [])
quiet_note ops at p stage found = record {
  means = λ q. meant-push q ops (Tried at p stage found);
  faults = λ q. faulty-push q ops (Tried at p stage found);
  power = off-push ops (Tried at p stage found);
  strays_grow = grown _ _ _ (strays-push ops (Tried at p stage found));
}

two_more : (ops : List Op) (at : ℕ) (p : Psn) (stage : Stage) (found : Option Payload)
    → ops ++ Fetched p (attempt_of stage) ∷ [] ++ Tried at p stage found ∷ [] ≡ ops ++ try_of at p stage found
two_more ops at p stage found = append_assoc ops (Fetched p (attempt_of stage) ∷ []) (Tried at p stage found ∷ [])

pub quiet_try : (ops : List Op) (at : ℕ) (p : Psn) (stage : Stage) (found : Option Payload) → Quiet ops (ops ++ try_of at p stage found)
quiet_try ops at p stage found =
    subst (λ (after : List Op). Quiet ops after) (two_more ops at p stage found)
    (quiet_on ops (ops ++ Fetched p (attempt_of stage) ∷ []) (ops ++ Fetched p (attempt_of stage) ∷ [] ++ Tried at p stage found ∷ [])
    (quiet_fetch ops p stage) (quiet_note (ops ++ Fetched p (attempt_of stage) ∷ []) at p stage found))

pub quiet_tries : (ops : List Op) (before : ℕ) (p : Psn) (stages : List Stage) (found : Option Payload) (more : List Op) → AreTries before p stages found more
    → Quiet ops (ops ++ more)
quiet_tries ops before p [] found more tries =
    subst (λ (after : List Op). Quiet ops after) (sym (append-nil ops) ∙ ap (λ (os : List Op). ops ++ os) (sym tries.1)) (quiet_same ops)
quiet_tries ops before p (stage ∷ stages) found more (inl first) =
    subst (λ (os : List Op). Quiet ops (ops ++ os)) (sym first.2) (quiet_try ops before p stage found)
quiet_tries ops before p (stage ∷ stages) found more (inr missed) =
    let tail : Quiet (ops ++ try_of before p stage None) (ops ++ try_of before p stage None ++ missed.0) =
    quiet_tries (ops ++ try_of before p stage None) (before + 2) p stages found missed.0 missed.2 in
    subst (λ (after : List Op). Quiet ops after) (append_assoc ops (try_of before p stage None) missed.0 ∙ ap (λ (os : List Op). ops ++ os) (sym missed.1))
    (quiet_on ops (ops ++ try_of before p stage None) (ops ++ try_of before p stage None ++ missed.0) (quiet_try ops before p stage None) tail)

pub quiet_reads : (ops : List Op) (before p count : ℕ) (stages : List Stage) (reads : Reads) (more : List Op) → AreReads before p count stages reads more
    → Quiet ops (ops ++ more)
quiet_reads ops before p zero stages reads more are =
    subst (λ (after : List Op). Quiet ops after) (sym (append-nil ops) ∙ ap (λ (os : List Op). ops ++ os) (sym are)) (quiet_same ops)
quiet_reads ops before p (suc count) stages reads more (tries, rest, is, one, others) =
    subst (λ (after : List Op). Quiet ops after) (append_assoc ops tries rest ∙ ap (λ (os : List Op). ops ++ os) (sym is))
    (quiet_on ops (ops ++ tries) (ops ++ tries ++ rest) (quiet_tries ops before (sector p) stages (reads p) tries one)
    (quiet_reads (ops ++ tries) (before + length tries) (p + 1) count stages reads rest others))

-- without a stray what was found is what is meant
none_below : (a b : ℕ) → a ≤ b → b ≡ 0 → a ≡ 0
none_below a b le none = omega (arith, le, none)

pub tries_true : (ops : List Op) (before : ℕ) (p : Psn) (stages : List Stage) (payload : Payload) (more : List Op) → before ≡ length ops
    → AreTries before p stages (Some payload) more → strays (ops ++ more) ≡ 0 → meant p ops ≡ Some payload
tries_true ops before p [] payload more at tries none = let is = tries.0 in let never : ⊥ = cc in absurd never
tries_true ops before p (stage ∷ stages) payload more at (inl first) none =
    let whole : ops ++ Fetched p (attempt_of stage) ∷ [] ++ Tried (length ops) p stage (Some payload) ∷ [] ≡ ops ++ more =
    two_more ops (length ops) p stage (Some payload) ∙ ap (λ (os : List Op). ops ++ os) (ap (λ (n : ℕ). try_of n p stage (Some payload)) (sym at) ∙ sym first.2) in
    let end : strays (ops ++ Fetched p (attempt_of stage) ∷ [] ++ Tried (length ops) p stage (Some payload) ∷ []) ≡ 0 = ap strays whole ∙ none in
    let low : strays ops ≤ strays (ops ++ try_of (length ops) p stage (Some payload)) = (quiet_try ops (length ops) p stage (Some payload)).strays_grow in
    let begin : strays ops ≡ 0 = none_below _ _ low (ap strays (sym (two_more ops (length ops) p stage (Some payload))) ∙ end) in
    found_is_meant ops p stage payload (end ∙ sym begin)
tries_true ops before p (stage ∷ stages) payload more at (inr missed) none =
    let middle : List Op = ops ++ try_of before p stage None in
    let whole : ops ++ try_of before p stage None ++ missed.0 ≡ ops ++ more =
    append_assoc ops (try_of before p stage None) missed.0 ∙ ap (λ (os : List Op). ops ++ os) (sym missed.1) in
    let long : length (ops ++ try_of before p stage None) ≡ length ops + 2 = length-append ops (try_of before p stage None) in
    let on : before + 2 ≡ length (ops ++ try_of before p stage None) = omega (arith, long, at) in
    sym ((quiet_try ops before p stage None).means p)
    ∙ tries_true (ops ++ try_of before p stage None) (before + 2) p stages payload missed.0 on missed.2 (ap strays whole ∙ none)

pub reads_true : (ops : List Op) (before p count : ℕ) (stages : List Stage) (reads : Reads) (more : List Op) → before ≡ length ops
    → AreReads before p count stages reads more → strays (ops ++ more) ≡ 0
    → (q : ℕ) → p ≤ q → q < p + count → (reads q ≡ meant_on ops q) ⊎ (reads q ≡ None)
reads_true ops before p zero stages reads more at are none q low high = absurd (omega (arith, low, high))
reads_true ops before p (suc count) stages reads more at (tries, rest, is, one, others) none q low high =
    by (q == p) refl (λ from to. reads_true (ops ++ tries) (before + length tries) (p + 1) count stages reads rest on others (ap strays whole ∙ none) q from to)
  where
    whole : ops ++ tries ++ rest ≡ ops ++ more
    whole = append_assoc ops tries rest ∙ ap (λ (os : List Op). ops ++ os) (sym is)

    first_none : strays (ops ++ tries) ≡ 0
    first_none =
        none_below _ _ (quiet_reads (ops ++ tries) (before + length tries) (p + 1) count stages reads rest others).strays_grow (ap strays whole ∙ none)

    here : (found : Option Payload) → AreTries before (sector p) stages found tries → (found ≡ meant_on ops p) ⊎ (found ≡ None)
    here None t = inr refl
    here (Some payload) t = inl (sym (tries_true ops before (sector p) stages payload tries at t first_none))

    on : before + length tries ≡ length (ops ++ tries)
    on = let long : length (ops ++ tries) ≡ length ops + length tries = length-append ops tries in omega (arith, long, at)

    as_before : (reads q ≡ meant_on (ops ++ tries) q) ⊎ (reads q ≡ None) → (reads q ≡ meant_on ops q) ⊎ (reads q ≡ None)
    as_before (inl same) = inl (same ∙ (quiet_tries ops before (sector p) stages (reads p) tries one).means (sector q))
    as_before (inr nothing) = inr nothing

    by : (b : Bool) → (q == p) ≡ b → (p + 1 ≤ q → q < p + 1 + count → (reads q ≡ meant_on (ops ++ tries) q) ⊎ (reads q ≡ None))
        → (reads q ≡ meant_on ops q) ⊎ (reads q ≡ None)
    by true same later =
        subst (λ (r : ℕ). (reads r ≡ meant_on ops r) ⊎ (reads r ≡ None)) (sym (eqb-true q p same)) (here (reads p) one)
    by false apart later =
        let other : q ≢ p = eqb-false q p apart in
        as_before (later (omega (arith, low, other)) (omega (arith, high)))

-- a platter after operations
same_parts : (s : State) (ops others : List Op) (room left : ℕ) → ops ≡ others → room ≡ left
    → (let one : State = record s { ops = ops; room = room } in one) ≡ (let other : State = record s { ops = others; room = left } in other)
same_parts s ops others room left same_ops same_room = rw (same_ops, same_room) refl

pub with_none : (s : State) → s ≡ with_ops s []
with_none s = same_parts s s.ops (s.ops ++ []) s.room (s.room - 0) (sym (append-nil s.ops)) (omega arith)

pub with_both : (s : State) (first second : List Op) → with_ops (with_ops s first) second ≡ with_ops s (first ++ second)
with_both s first second =
    let long : length (first ++ second) ≡ length first + length second = length-append first second in
    same_parts s (s.ops ++ first ++ second) (s.ops ++ (first ++ second)) (s.room - length first - length second) (s.room - length (first ++ second))
    (append_assoc s.ops first second) (omega (arith, long))

tried_with : (s : State) (p : Psn) (stage : Stage) (found : Option Payload) → tried s p stage found ≡ with_ops s (try_of (length s.ops) p stage found)
tried_with s p stage found =
    same_parts s (s.ops ++ Fetched p (attempt_of stage) ∷ [] ++ Tried (length s.ops) p stage found ∷ []) (s.ops ++ try_of (length s.ops) p stage found)
    (s.room - 1 - 1) (s.room - 2) (two_more s.ops (length s.ops) p stage found) (omega arith)

-- a stage tried a sector behind those that found nothing there
pub next_tried : (s middle after : State) (p : Psn) (stages : List Stage) (stage : Stage) (others : List Stage) (found : Option Payload)
    → IsReadBy s p stages None middle → after ≡ tried middle p stage found
    → (AreTries (length s.ops + 2 * length stages) p (stage ∷ others) found (try_of (length s.ops + 2 * length stages) p stage found))
    → IsReadBy s p (stages ++ stage ∷ others) found after
next_tried s middle after p stages stage others found read after_is one =
    let long : length read.more ≡ 2 * length stages = missed_length (length s.ops) p stages read.more read.tries in
    let number : length s.ops + 2 * length stages ≡ length s.ops + length read.more = omega (arith, long) in
    let at : length middle.ops ≡ length s.ops + length read.more =
    ap (λ (x : State). length x.ops) read.is ∙ length-append s.ops read.more in
    let tries : AreTries (length s.ops + length read.more) p (stage ∷ others) found (try_of (length s.ops + length read.more) p stage found) =
    subst (λ (n : ℕ). AreTries n p (stage ∷ others) found (try_of n p stage found)) number one in
    record {
      more = read.more ++ try_of (length s.ops + length read.more) p stage found;
      tries = tries_on (length s.ops) p stages (stage ∷ others) found read.more (try_of (length s.ops + length read.more) p stage found) read.tries tries;
      is = after_is ∙ (tried_with middle p stage found ∙ (ap (λ (n : ℕ). with_ops middle (try_of n p stage found)) at
          ∙ (ap (λ (x : State). with_ops x (try_of (length s.ops + length read.more) p stage found)) read.is
          ∙ with_both s read.more (try_of (length s.ops + length read.more) p stage found))));
    }

-- one sector more was read
pub next_read : (s middle after : State) (p : ℕ) (stages : List Stage) (reads : List (Option Payload)) (found : Option Payload) → p < length reads
    → AreReadBy s p stages (reads_of reads) middle → IsReadBy middle (sector p) stages found after → AreReadBy s (suc p) stages (reads_of (set reads p found)) after
next_read s middle after p stages reads found low read one =
    let at : length middle.ops ≡ length s.ops + length read.more = ap (λ (x : State). length x.ops) read.is ∙ length-append s.ops read.more in
    let own : found ≡ reads_of (set reads p found) p = sym (get_or-set_same reads p found None low) in
    let here : p ≡ 0 + p = omega arith in
    let last : AreTries (length s.ops + length read.more) (sector p) stages (reads_of (set reads p found) p) one.more =
    subst (λ (o : Option Payload). AreTries (length s.ops + length read.more) (sector p) stages o one.more) own
    (subst (λ (n : ℕ). AreTries n (sector p) stages found one.more) at one.tries) in
    record {
      more = read.more ++ one.more;
      tries = reads_on (length s.ops) 0 p stages (reads_of (set reads p found)) read.more one.more
          (reads_alike (length s.ops) 0 p stages (reads_of reads) (reads_of (set reads p found)) read.more
          (λ q below. let apart : q ≢ p = omega (arith, below) in sym (get_or-set_other reads p q found None apart)) read.tries)
          (subst (λ (q : ℕ). AreTries (length s.ops + length read.more) (sector q) stages (reads_of (set reads p found) q) one.more) here last);
      is = one.is ∙ (ap (λ (x : State). with_ops x one.more) read.is ∙ with_both s read.more one.more);
    }

-- before the first
pub none_read : (s : State) (stages : List Stage) (reads : Reads) → AreReadBy s 0 stages reads s
none_read s stages reads = record { more = []; tries = refl; is = with_none s }

pub none_tried : (s : State) (p : Psn) (stages : List Stage) → IsReadBy s p (take 0 stages) None s
none_tried s p stages = record { more = []; tries = (refl, refl); is = with_none s }

-- the room and the power in between
pub room_after : (s middle : State) (p : ℕ) (stages : List Stage) (reads : Reads) → AreReadBy s p stages reads middle → p < 16 → length stages ≡ 10
    → 320 ≤ s.room → 2 * length stages ≤ middle.room
room_after s middle p stages reads read low ten room =
    let long : length read.more ≤ p * (2 * length stages) = reads_length (length s.ops) 0 p stages reads read.more read.tries in
    let twenty : length read.more ≤ p * 20 = subst (λ (n : ℕ). length read.more ≤ p * (2 * n)) ten long in
    let left : middle.room ≡ s.room - length read.more = ap (λ (x : State). x.room) read.is in
    omega (arith, twenty, left, low, ten, room)

pub still_on : (s middle : State) (p : ℕ) (stages : List Stage) (reads : Reads) → AreReadBy s p stages reads middle → is_off s.ops ≡ false → is_off middle.ops ≡ false
still_on s middle p stages reads read on =
    ap (λ (x : State). is_off x.ops) read.is ∙ ((quiet_reads s.ops (length s.ops) 0 p stages reads read.more read.tries).power ∙ on)

pub as_many : (s middle : State) (p : ℕ) (stages : List Stage) (reads : Reads) → AreReadBy s p stages reads middle → middle.sectors ≡ s.sectors
as_many s middle p stages reads read = ap (λ (x : State). x.sectors) read.is

pub take_less : (stages : List Stage) (i : ℕ) → i < length stages → length (take i stages) < length stages
take_less stages i low = let is = length-take-le i stages (omega (arith, low)) in omega (arith, is, low)

pub room_between : (s middle : State) (p : Psn) (stages : List Stage) (all : ℕ) → IsReadBy s p stages None middle → length stages < all → 2 * all ≤ s.room → 2 ≤ middle.room
room_between s middle p stages all read low room =
    let long : length read.more ≡ 2 * length stages = missed_length (length s.ops) p stages read.more read.tries in
    let left : middle.room ≡ s.room - length read.more = ap (λ (x : State). x.room) read.is in
    omega (arith, long, left, low, room)

pub on_between : (s middle : State) (p : Psn) (stages : List Stage) (found : Option Payload) → IsReadBy s p stages found middle → is_off s.ops ≡ false → is_off middle.ops ≡ false
on_between s middle p stages found read on =
    ap (λ (x : State). is_off x.ops) read.is ∙ ((quiet_tries s.ops (length s.ops) p stages found read.more read.tries).power ∙ on)

-- a stage of a list, and those before and behind it
around : (stages : List Stage) (i : ℕ) (d : Stage) → i < length stages → take i stages ++ get_or stages i d ∷ drop (suc i) stages ≡ stages
around stages i d low =
    sym (append_assoc (take i stages) (get_or stages i d ∷ []) (drop (suc i) stages))
    ∙ (ap (λ (xs : List Stage). xs ++ drop (suc i) stages) (sym (take-suc stages i d low)) ∙ take-append-drop (suc i) stages)

-- a stage in the list found, or missed
pub read_found : (s middle after : State) (p : Psn) (stages : List Stage) (i : ℕ) (d : Stage) (seen : Option (Option Payload)) (found : Option Payload)
    → i < length stages → IsReadBy s p (take i stages) None middle → HasTried middle after p (get_or stages i d) seen → found ≡ option_flatten seen
    → is_some found ≡ true → IsReadBy s p stages found after
read_found s middle after p stages i d None found low read has is some = let never : ⊥ = cc in absurd never
read_found s middle after p stages i d (Some None) found low read has is some = let never : ⊥ = cc in absurd never
read_found s middle after p stages i d (Some (Some payload)) found low read has is some =
    subst (λ (o : Option Payload). IsReadBy s p stages o after) (sym is)
    (subst (λ (xs : List Stage). IsReadBy s p xs (Some payload) after) (around stages i d low)
    (next_tried s middle after p (take i stages) (get_or stages i d) (drop (suc i) stages) (Some payload) read has.1 (inl (payload, refl, refl))))

pub read_missed : (s middle after : State) (p : Psn) (stages : List Stage) (i : ℕ) (d : Stage) (seen : Option (Option Payload)) (found : Option Payload)
    → i < length stages → is_off s.ops ≡ false → IsReadBy s p (take i stages) None middle → HasTried middle after p (get_or stages i d) seen
    → found ≡ option_flatten seen → is_some found ≡ false → IsReadBy s p (take (i + 1) stages) None after
read_missed s middle after p stages i d None found low on read has is none =
    let e : true ≡ false = sym has.0 ∙ on_between s middle p (take i stages) None read on in
    let never : ⊥ = cc in absurd never
read_missed s middle after p stages i d (Some None) found low on read has is none =
    let next : take (suc i) stages ≡ take (i + 1) stages = ap (λ (n : ℕ). take n stages) (let e : suc i ≡ i + 1 = omega arith in e) in
    subst (λ (xs : List Stage). IsReadBy s p xs None after) (sym (take-suc stages i d low) ∙ next)
    (next_tried s middle after p (take i stages) (get_or stages i d) [] None read has.1 (inr ([], refl, (refl, refl))))
read_missed s middle after p stages i d (Some (Some payload)) found low on read has is none = let never : ⊥ = cc in absurd never
