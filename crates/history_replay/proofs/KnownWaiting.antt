-- Only known attentions wait.
use Rattle.std.proofs.Common.{◌≡◌, sym, refl, subst, ℕ, zero, suc, ◌+◌, ◌-◌, ◌≤◌, Bool, true, false, cond, List, [], ◌∷◌, ◌++◌, length, get_or, set, drop, replicate, length-append, arith}
use Rattle.std.specs.Prelude.{◌&&◌, ◌==◌, fold, not, IsTrue}
use Rattle.std.specs.List.{list_any}
use Rattle.task_set.specs.Members.{is_of}
use Rattle.std.proofs.lemmas.Bool.{and_parts}
use Rattle.sense_data.specs.declared.attention.Attention.{Attention}
use Rattle.sense_data.specs.Attentions.{Waiting, WaitNoMoreThanKnown, all_among, raised, first_taken, waiting_for, waits_in, with_attention, attention}
use Rattle.sense_data.proofs.Twice.{none_twice-push}
use Rattle.disk_base.specs.declared.command.Function.TheVariants.{Clear, Reset}
use Rattle.block_machine.specs.declared.entry.Entry.{Entry}
use Rattle.block_machine.specs.declared.entry.Entry.TheVariants.{Started, Asked, Mode, PoweredOn}
use Rattle.block_machine.specs.declared.turn.Label.{Label}
use Rattle.block_machine.specs.declared.turn.Label.TheVariants.{Work}
use Rattle.block_machine.proofs.Booleans.{and_both}
use Rattle.block_machine.specs.Attentions.{attentions_at_start, initiators}
use Rattle.block_machine.specs.State.{State, initiator_of}
use Rattle.block_machine.specs.Steps.{waiting_after}
use Rattle.history_replay.specs.Warning.{AreKnown, HasRoom, KnownWait, known_attentions}

one-more : (b : Bool) (a : Attention) (xs : List Attention) → length xs ≤ 4 → length (cond b xs (xs ++ a ∷ [])) ≤ 8
one-more true a xs few = omega arith
one-more false a xs few = let e : length (xs ++ a ∷ []) ≡ length xs + 1 = length-append xs (a ∷ []) in omega arith

-- there is room for one more
pub room_for : WaitNoMoreThanKnown → (a : Attention) (waiting : Waiting) → KnownWait waiting → HasRoom a waiting
room_for law a waiting known i =
    let few : length (waiting_for waiting i) ≤ 4 = law known_attentions (waiting_for waiting i) (known i).0 (known i).1 in
    one-more (waits_in a (waiting_for waiting i)) a (waiting_for waiting i) few

known-either : (xs : Waiting) (i j : ℕ) (v : List Attention) → AreKnown v → AreKnown (get_or xs j []) → AreKnown (get_or (set xs i v) j [])
known-either [] i j v new old = old
known-either (x ∷ xs) zero zero v new old = new
known-either (x ∷ xs) zero (suc j) v new old = old
known-either (x ∷ xs) (suc i) zero v new old = old
known-either (x ∷ xs) (suc i) (suc j) v new old = known-either xs i j v new old

known-drop : (xs : List Attention) → AreKnown xs → AreKnown (drop 1 xs)
known-drop [] known = known
known-drop (x ∷ xs) known = ((and_parts _ _ known.0).1, (and_parts _ _ known.1).1)

all-push : (known : List Attention) (a : Attention) (xs : List Attention) → IsTrue (all_among known xs) → IsTrue (waits_in a known)
    → IsTrue (all_among known (xs ++ a ∷ []))
all-push known a [] all here = and_both (waits_in a known) true here refl
all-push known a (x ∷ xs) all here =
    let parts = and_parts (waits_in x known) (all_among known xs) all in
    and_both (waits_in x known) (all_among known (xs ++ a ∷ [])) parts.0 (all-push known a xs parts.1 here)

known-more : (b : Bool) (a : Attention) (xs : List Attention) → waits_in a xs ≡ b → IsTrue (waits_in a known_attentions) → AreKnown xs
    → AreKnown (cond b xs (xs ++ a ∷ []))
known-more true a xs is here known = known
known-more false a xs is here known = (none_twice-push a xs is known.0, all-push known_attentions a xs known.1 here)

known-taken : (waiting : Waiting) (i : ℕ) → KnownWait waiting → KnownWait (first_taken waiting i)
known-taken waiting i known j =
    known-either waiting (i - 1) (j - 1) (drop 1 (waiting_for waiting i)) (known-drop (waiting_for waiting i) (known i)) (known j)

known-raised : (a : Attention) (waiting : Waiting) (i : ℕ) → IsTrue (waits_in a known_attentions) → KnownWait waiting → KnownWait (raised waiting i a)
known-raised a waiting i here known j =
    let xs = waiting_for waiting i in
    known-either waiting (i - 1) (j - 1) (with_attention a xs) (known-more (waits_in a xs) a xs refl here (known i)) (known j)

known-if : (b : Bool) (one other : Waiting) → KnownWait one → KnownWait other → KnownWait (cond b one other)
known-if true one other k h = k
known-if false one other k h = h

known-where : (test : ℕ → Bool) (a : Attention) (is : List ℕ) (waiting : Waiting) → IsTrue (waits_in a known_attentions) → KnownWait waiting
    → KnownWait (fold (λ w i. cond (test i) (raised w i a) w) waiting is)
known-where test a [] waiting here known = known
known-where test a (i ∷ is) waiting here known =
    known-where test a is (cond (test i) (raised waiting i a) waiting) here
    (known-if (test i) (raised waiting i a) waiting (known-raised a waiting i here known) known)

known-all : (n j : ℕ) (v : List Attention) → AreKnown v → AreKnown (get_or (replicate n v) j [])
known-all zero j v known = (refl, refl)
known-all (suc n) zero v known = known
known-all (suc n) (suc j) v known = known-all n j v known

-- what waits when a drive is made is known
pub known_at_start : KnownWait attentions_at_start
known_at_start i = known-all 8 (i - 1) (attention 0x29 0x01 ∷ []) (refl, refl)

-- an entry adds none but known ones
pub known_after : (label : Label) (s : State) (e : Entry) → KnownWait s.waiting → KnownWait (waiting_after label s e)
known_after label s (Started c) known = known-if _ _ s.waiting (known-taken s.waiting _ known) known
known_after label s (Asked i Clear) known = known-where (λ j. not (j == i) && list_any (is_of j) s.set) (attention 0x2F 0x00) initiators s.waiting refl known
known_after label s (Asked i Reset) known = known-where (λ (j : ℕ). true) (attention 0x29 0x03) initiators s.waiting refl known
known_after (Work c) s (Mode settings) known = known-where (λ j. not (j == initiator_of s c)) (attention 0x2A 0x01) initiators s.waiting refl known
known_after label s (PoweredOn outcome) known = known_at_start
known_after label s other known = known

pub known_when : (label : Label) (s : State) (e : Entry) (waiting : Waiting) → waiting ≡ waiting_after label s e → KnownWait s.waiting → KnownWait waiting
known_when label s e waiting is known = subst (λ (w : Waiting). KnownWait w) (sym is) (known_after label s e known)
