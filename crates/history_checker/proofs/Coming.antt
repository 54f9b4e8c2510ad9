-- What comes in a turn, and where the walk stands behind it.
use Rattle.std.proofs.Common.{◌≡◌, ◌∙◌, ap, refl, ℕ, ◌+◌, Bool, true, false, cond, List, [], ◌∷◌, drop}
use Rattle.std.specs.Prelude.{◌&&◌, ◌||◌, ◌==◌, filter, find, Option, Some, None}
use Rattle.std.specs.List.{list_any}
use Rattle.std.proofs.lemmas.Bool.{and_parts}
use Rattle.disk_base.specs.Along.{all_along}
use Rattle.platter_model.specs.declared.world.World.{World as Event}
use Rattle.task_set.specs.Members.{is_named, numbers}
use Rattle.block_machine.specs.declared.entry.Entry.{Entry}
use Rattle.block_machine.specs.declared.entry.Entry.TheVariants.{Arrived, Ended, Aborted, Asked}
use Rattle.block_machine.specs.declared.turn.Label.{Label}
use Rattle.block_machine.specs.declared.turn.Label.TheVariants.{Arrive, Work, Job, Scan, Destage, World}
use Rattle.block_machine.specs.Entries.{entry_lawful}
use Rattle.block_machine.specs.State.{State, is_full}
use Rattle.block_machine.specs.Steps.{entry_after}
use Rattle.block_machine.specs.Turns.{are_aborted, arrival_lawful, is_answered, named_by}
use Rattle.history_checker.specs.Laws.{arrivals_from}
use Rattle.history_checker.specs.Parts.{Part}
use Rattle.history_checker.specs.Parts.Part.{Phase, Outside}
use Rattle.history_checker.specs.Walk.{Place, came_after, comes_next, happens_next, is_arrival, is_done, is_next, none_came, place_after, place_past, sender_of}
use Rattle.history_checker.proofs.AllEnded.{at-place}

-- where the next part is from outside, nothing of a phase has come
abbrev pub IsFresh : (ℕ → ℕ) → List Part → Type 0
IsFresh came [] = Unit {0}
IsFresh came (Phase lines ∷ parts) = Unit {0}
IsFresh came (Outside event ∷ parts) = (i : ℕ) → came i ≡ 0

pub none-fresh : (came : ℕ → ℕ) (parts : List Part) → ((i : ℕ) → came i ≡ 0) → IsFresh came parts
none-fresh came [] none = tt
none-fresh came (Phase lines ∷ parts) none = tt
none-fresh came (Outside event ∷ parts) none = none

pub past-fresh : (on idle : Bool) (came : ℕ → ℕ) (parts : List Part) → IsFresh came parts
    → IsFresh (place_past on idle came parts).came (place_past on idle came parts).ahead
past-fresh on idle came [] fresh = tt
past-fresh on idle came (Outside event ∷ parts) fresh = fresh
past-fresh on idle came (Phase lines ∷ parts) fresh =
    by (is_done on idle came lines) (past-fresh on idle none_came parts (none-fresh none_came parts (λ i. refl)))
  where
    by : (b : Bool) → IsFresh (place_past on idle none_came parts).came (place_past on idle none_came parts).ahead
        → IsFresh (cond b (place_past on idle none_came parts) (at-place (Phase lines ∷ parts) came)).came
        (cond b (place_past on idle none_came parts) (at-place (Phase lines ∷ parts) came)).ahead
    by true rest = rest
    by false rest = tt

arrive-fresh : (came : ℕ → ℕ) (ahead : List Part) (found : Option Entry) → comes_next (record { ahead = ahead; came = came }) found ≡ true
    → IsFresh (came_after came found) ahead
arrive-fresh came ahead None comes = absurd (cc)
arrive-fresh came [] (Some entry) comes = absurd (cc)
arrive-fresh came (Outside what ∷ rest) (Some entry) comes = absurd (cc)
arrive-fresh came (Phase lines ∷ rest) (Some entry) comes = tt

happens-fresh : (came : ℕ → ℕ) (ahead : List Part) (event : Event) → happens_next ahead event ≡ true → IsFresh came ahead → IsFresh came (drop 1 ahead)
happens-fresh came [] event happens fresh = absurd (cc)
happens-fresh came (Phase lines ∷ rest) event happens fresh = absurd (cc)
happens-fresh came (Outside what ∷ rest) event happens fresh = none-fresh came rest fresh

pub next-fresh : (place : Place) (label : Label) (entries : List Entry) → is_next place label entries ≡ true → IsFresh place.came place.ahead
    → IsFresh (place_after place label entries).came (place_after place label entries).ahead
next-fresh place (Arrive j) entries next fresh = arrive-fresh place.came place.ahead (find is_arrival entries) next
next-fresh place (World event) entries next fresh = happens-fresh place.came place.ahead event next fresh
next-fresh place (Work k) entries next fresh = fresh
next-fresh place (Job k) entries next fresh = fresh
next-fresh place Scan entries next fresh = fresh
next-fresh place Destage entries next fresh = fresh

no-arrival : (capacity : ℕ) (label : Label) (s : State) (e : Entry) → entry_lawful capacity label s e ≡ true → is_arrival e ≡ false
no-arrival capacity label s (Arrived c i t a cdb sent) lawful = absurd (cc)
no-arrival capacity label s (Asked i what) lawful = absurd (cc)
no-arrival capacity label s other lawful = refl

-- by the entries of a turn that isn't an arrival none comes
pub none-come : (capacity : ℕ) (label : Label) (s : State) (entries : List Entry)
    → all_along (entry_after capacity label) (entry_lawful capacity label) s entries ≡ true → list_any is_arrival entries ≡ false
none-come capacity label s [] lawful = refl
none-come capacity label s (e ∷ entries) lawful =
    let after = entry_after capacity label s e in
    let parts = and_parts (entry_lawful capacity label s e) (all_along (entry_after capacity label) (entry_lawful capacity label) after entries) lawful in
    ap (λ (b : Bool). b || list_any is_arrival entries) (no-arrival capacity label s e parts.0) ∙ none-come capacity label after entries parts.1

answered-none : (i : ℕ) (full : Bool) (c : ℕ) (entries : List Entry) → is_answered full c entries ≡ true → arrivals_from i entries ≡ []
answered-none i false c [] is = refl
answered-none i true c (Ended d reply ∷ []) is = refl
answered-none i full c entries is = absurd (cc)

aborted-none : (i : ℕ) (cs : List ℕ) (entries : List Entry) → are_aborted cs entries ≡ true → arrivals_from i entries ≡ []
aborted-none i [] [] is = refl
aborted-none i (c ∷ cs) (Aborted d ∷ entries) is = aborted-none i cs entries (and_parts (c == d) (are_aborted cs entries) is).1
aborted-none i cs entries is = absurd (cc)

-- what came in the turn of an arrival
pub record CameIn (entries : List Entry) : Type 0 where
  pub entry : Entry
  pub found : find is_arrival entries ≡ Some entry
  pub arrivals : (i : ℕ) → arrivals_from i entries ≡ cond (sender_of entry == i) (entry ∷ []) []

pub came-in : (s : State) (j : ℕ) (entries : List Entry) → arrival_lawful s j entries ≡ true → CameIn entries
came-in s j (Arrived c k t a cdb sent ∷ entries) is =
    let answered = (and_parts ((k == j) && (c == s.arrived + 1)) (is_answered (is_full s) c entries) is).1 in
    record {
      entry = Arrived c k t a cdb sent;
      found = refl;
      arrivals = λ i. ap (λ l. cond (k == i) (Arrived c k t a cdb sent ∷ l) l) (answered-none i (is_full s) c entries answered);
    }
came-in s j (Asked k what ∷ entries) is =
    let cs = numbers (filter (is_named (named_by j what)) s.set) in
    let aborted = (and_parts (k == j) (are_aborted cs entries) is).1 in
    record {
      entry = Asked k what;
      found = refl;
      arrivals = λ i. ap (λ l. cond (k == i) (Asked k what ∷ l) l) (aborted-none i cs entries aborted);
    }
came-in s j entries is = absurd (cc)
