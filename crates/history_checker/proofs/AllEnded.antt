-- Behind a history that a script allows no command is in.
use Rattle.std.proofs.Common.{◌≡◌, ◌∙◌, ap, sym, refl, subst, ℕ, ◌+◌, Bool, true, false, cond, not, List, [], ◌∷◌, ◌++◌, length, drop, arith, inl, inr}
use Rattle.std.specs.Prelude.{◌&&◌, ◌||◌, ◌==◌, ◌⊎◌, fold, filter, find, Option, Some, None}
use Rattle.std.specs.List.{list_all}
use Rattle.std.proofs.lemmas.Bool.{and_parts, eqb-true}
use Rattle.disk_base.specs.Along.{all_along}
use Rattle.platter_model.specs.declared.world.World.{World as Event}
use Rattle.task_set.specs.declared.member.Member.{Member}
use Rattle.task_set.specs.Members.{is_named, numbers, with_started, without}
use Rattle.block_machine.specs.declared.entry.Entry.{Entry}
use Rattle.block_machine.specs.declared.entry.Entry.TheVariants.{Arrived, Started, Ended, Aborted, Asked, Cut, PoweredOn, Tick}
use Rattle.block_machine.specs.declared.turn.Label.{Label}
use Rattle.block_machine.specs.declared.turn.Label.TheVariants.{Arrive, Work, Job, Scan, Destage, World}
use Rattle.block_machine.specs.declared.turn.Turn.{Turn}
use Rattle.block_machine.specs.Attentions.{attentions_at_start, initiators}
use Rattle.block_machine.specs.Entries.{entry_lawful}
use Rattle.block_machine.specs.History.{entries_of}
use Rattle.block_machine.specs.Laws.{tally_of}
use Rattle.block_machine.specs.State.{State, is_full}
use Rattle.block_machine.specs.Steps.{begun, entries_after, entry_after, set_after}
use Rattle.block_machine.specs.Turns.{are_aborted, arrival_lawful, blocks_lawful, is_answered, is_settled, named_by, starts_alone, tasks_lawful, turn_after, turn_lawful, work_lawful}
use Rattle.block_machine.proofs.Counting.{commands_are_accounted_for}
use Rattle.script_text.specs.declared.script.Line.{Line}
use Rattle.script_text.specs.declared.script.Line.TheVariants as line
use Rattle.history_checker.specs.declared.power.PowerEvent.{PowerEvent}
use Rattle.history_checker.specs.declared.power.PowerEvent.TheVariants.{Nothing, Off, On, Minutes, Several}
use Rattle.history_checker.specs.Good.{Course, course_after, course_at_start, course_of, is_finished, is_idle, may_come}
use Rattle.history_checker.specs.Laws.{AreAccountedFor, OfGoodHistories}
use Rattle.history_checker.specs.Parts.{Part, capacity_of, parts_behind}
use Rattle.history_checker.specs.Parts.Part.{Phase, Outside}
use Rattle.history_checker.specs.Walk.{Place, Walk, comes_next, event_after, event_of, happens_next, is_arrival, is_done, is_empty, is_next, left_of, next_lines, none_came, on_after, place_after, place_past, power_allows, sender_of, settled, tells_first, walk_allows}
use Rattle.history_checker.proofs.GoodLaws.{nil_is}

-- the turn isn't an arrival
abbrev pub IsOther : Label → Type 0
IsOther (Arrive i) = ⊥
IsOther other = Unit {0}

no-members : (capacity : ℕ) (label : Label) (s : State) (e : Entry) → entry_lawful capacity label s e ≡ true → s.set ≡ [] → set_after capacity s e ≡ []
no-members capacity label s (Arrived c i t a cdb sent) lawful none = absurd (cc)
no-members capacity label s (Started c) lawful none = ap (λ (l : List Member). with_started l c) none
no-members capacity label s (Ended c reply) lawful none = ap (λ (l : List Member). without l c) none
no-members capacity label s (Aborted c) lawful none = absurd (cc)
no-members capacity label s Cut lawful none = refl
no-members capacity label s other lawful none = none

-- what an entry that may come says of the power, and who is in behind it
cut-empties : (capacity : ℕ) (label : Label) (s : State) (e : Entry) (before : PowerEvent) → entry_lawful capacity label s e ≡ true
    → (before ≡ Off → s.set ≡ []) → event_after before e ≡ Off → set_after capacity s e ≡ []
cut-empties capacity label s Cut before lawful none is = refl
cut-empties capacity label s (PoweredOn outcome) Nothing lawful none is = absurd (cc)
cut-empties capacity label s (PoweredOn outcome) Off lawful none is = absurd (cc)
cut-empties capacity label s (PoweredOn outcome) On lawful none is = absurd (cc)
cut-empties capacity label s (PoweredOn outcome) (Minutes n) lawful none is = absurd (cc)
cut-empties capacity label s (PoweredOn outcome) Several lawful none is = absurd (cc)
cut-empties capacity label s (Tick minutes) Nothing lawful none is = absurd (cc)
cut-empties capacity label s (Tick minutes) Off lawful none is = absurd (cc)
cut-empties capacity label s (Tick minutes) On lawful none is = absurd (cc)
cut-empties capacity label s (Tick minutes) (Minutes n) lawful none is = absurd (cc)
cut-empties capacity label s (Tick minutes) Several lawful none is = absurd (cc)
cut-empties capacity label s e Nothing lawful none is = absurd (cc)
cut-empties capacity label s e On lawful none is = absurd (cc)
cut-empties capacity label s e (Minutes n) lawful none is = absurd (cc)
cut-empties capacity label s e Several lawful none is = absurd (cc)
cut-empties capacity label s e Off lawful none is = no-members capacity label s e lawful (none refl)

-- entries of a turn of work, one after another
stay-empty : (capacity : ℕ) (label : Label) (s : State) (entries : List Entry)
    → all_along (entry_after capacity label) (entry_lawful capacity label) s entries ≡ true → s.set ≡ [] → (entries_after capacity label s entries).set ≡ []
stay-empty capacity label s [] lawful none = none
stay-empty capacity label s (e ∷ entries) lawful none =
    let after = entry_after capacity label s e in
    let parts = and_parts (entry_lawful capacity label s e) (all_along (entry_after capacity label) (entry_lawful capacity label) after entries) lawful in
    stay-empty capacity label after entries parts.1 (no-members capacity label s e parts.0 none)

cut-leaves-none : (capacity : ℕ) (label : Label) (s : State) (before : PowerEvent) (entries : List Entry)
    → all_along (entry_after capacity label) (entry_lawful capacity label) s entries ≡ true → (before ≡ Off → s.set ≡ [])
    → fold event_after before entries ≡ Off → (entries_after capacity label s entries).set ≡ []
cut-leaves-none capacity label s before [] lawful none is = none is
cut-leaves-none capacity label s before (e ∷ entries) lawful none is =
    let after = entry_after capacity label s e in
    let parts = and_parts (entry_lawful capacity label s e) (all_along (entry_after capacity label) (entry_lawful capacity label) after entries) lawful in
    cut-leaves-none capacity label after (event_after before e) entries parts.1 (cut-empties capacity label s e before parts.0 none) is

work-part : (capacity : ℕ) (label : Label) (s : State) (entries : List Entry) → work_lawful capacity label s entries ≡ true
    → all_along (entry_after capacity label) (entry_lawful capacity label) s entries ≡ true
work-part capacity label s entries is =
    let all = all_along (entry_after capacity label) (entry_lawful capacity label) s entries in
    (and_parts (starts_alone entries) all (and_parts (starts_alone entries && all) (is_settled label (entries_after capacity label s entries)) is).0).1

-- the entries of a turn that isn't an arrival
pub work-entries : (capacity : ℕ) (s : State) (turn : Turn) → IsOther turn.label → turn_lawful capacity s turn ≡ true
    → all_along (entry_after capacity turn.label) (entry_lawful capacity turn.label) (begun s turn.label) turn.entries ≡ true
work-entries capacity s turn other lawful =
    by turn.label other (and_parts (tasks_lawful capacity s turn) (blocks_lawful capacity s.blocks turn.entries) lawful).0
  where
    by : (label : Label) → IsOther label → tasks_lawful capacity s (record turn { label = label }) ≡ true
        → all_along (entry_after capacity label) (entry_lawful capacity label) (begun s label) turn.entries ≡ true
    by (Arrive i) other is = absurd other
    by (Work c) other is = work-part capacity (Work c) (begun s (Work c)) turn.entries is
    by (Job j) other is = work-part capacity (Job j) (begun s (Job j)) turn.entries is
    by Scan other is = work-part capacity Scan (begun s Scan) turn.entries is
    by Destage other is = work-part capacity Destage (begun s Destage) turn.entries is
    by (World event) other is = work-part capacity (World event) (begun s (World event)) turn.entries is

begun-set : (s : State) (label : Label) → (begun s label).set ≡ s.set
begun-set s (Work c) = refl
begun-set s (Arrive i) = refl
begun-set s (Job j) = refl
begun-set s Scan = refl
begun-set s Destage = refl
begun-set s (World event) = refl

-- the turn of an arrival says nothing of the power
answered-nothing : (full : Bool) (c : ℕ) (entries : List Entry) → is_answered full c entries ≡ true → fold event_after Nothing entries ≡ Nothing
answered-nothing false c [] is = refl
answered-nothing true c (Ended d reply ∷ []) is = refl
answered-nothing full c entries is = absurd (cc)

aborted-nothing : (cs : List ℕ) (entries : List Entry) → are_aborted cs entries ≡ true → fold event_after Nothing entries ≡ Nothing
aborted-nothing [] [] is = refl
aborted-nothing (c ∷ cs) (Aborted d ∷ entries) is = aborted-nothing cs entries (and_parts (c == d) (are_aborted cs entries) is).1
aborted-nothing cs entries is = absurd (cc)

arrival-nothing : (s : State) (i : ℕ) (entries : List Entry) → arrival_lawful s i entries ≡ true → event_of entries ≡ Nothing
arrival-nothing s i (Arrived c j t a cdb sent ∷ entries) is =
    answered-nothing (is_full s) c entries (and_parts ((j == i) && (c == s.arrived + 1)) (is_answered (is_full s) c entries) is).1
arrival-nothing s i (Asked j what ∷ entries) is =
    let cs = numbers (filter (is_named (named_by i what)) s.set) in
    aborted-nothing cs entries (and_parts (j == i) (are_aborted cs entries) is).1
arrival-nothing s i entries is = absurd (cc)

-- the parts end with a phase
abbrev ends : List Part → Bool
ends [] = false
ends (Phase lines ∷ []) = true
ends (Outside event ∷ []) = false
ends (part ∷ next ∷ parts) = ends (next ∷ parts)

more-ends : (part : Part) (parts : List Part) → ends parts ≡ true → ends (part ∷ parts) ≡ true
more-ends part [] e = absurd (cc)
more-ends part (next ∷ parts) e = e

lines-end : (waiting lines : List Line) → ends (parts_behind waiting lines) ≡ true
lines-end waiting [] = refl
lines-end waiting (line.Go ∷ lines) = more-ends (Phase waiting) (parts_behind [] lines) (lines-end [] lines)
lines-end waiting (line.World event ∷ lines) = more-ends (Outside event) (parts_behind waiting lines) (lines-end waiting lines)
lines-end waiting (line.Command i t a cdb sent ∷ lines) = lines-end (waiting ++ line.Command i t a cdb sent ∷ []) lines
lines-end waiting (line.Function i what ∷ lines) = lines-end (waiting ++ line.Function i what ∷ []) lines
lines-end waiting (line.Scan n ∷ lines) = lines-end (waiting ++ line.Scan n ∷ []) lines
lines-end waiting (line.Destage n ∷ lines) = lines-end (waiting ++ line.Destage n ∷ []) lines

tail-ends : (event : Event) (parts : List Part) → ends (Outside event ∷ parts) ≡ true → ends parts ≡ true
tail-ends event [] e = absurd (cc)
tail-ends event (next ∷ parts) e = e

done-cases : (on idle came : Bool) → (not on || (idle && came)) ≡ true → (on ≡ false) ⊎ (idle ≡ true)
done-cases false idle came is = inl refl
done-cases true true came is = inr refl
done-cases true false came is = absurd (cc)

abbrev pub at-place : List Part → (ℕ → ℕ) → Place
at-place ahead came = record { ahead = ahead; came = came }

-- the walk behind the phases that are done
abbrev pub walk-at : Course → Walk
walk-at c = settled (is_idle c.history) c.walk

-- behind the phases that are done, the parts still end with a phase; or none is left, and no command is in or the power is off
past-ends : (on idle : Bool) (came : ℕ → ℕ) (parts : List Part) → ends parts ≡ true
    → (ends (place_past on idle came parts).ahead ≡ true) ⊎ (((place_past on idle came parts).ahead ≡ []) × ((on ≡ false) ⊎ (idle ≡ true)))
past-ends on idle came [] e = absurd (cc)
past-ends on idle came (Outside event ∷ parts) e = inl e
past-ends on idle came (Phase lines ∷ []) e = by (is_done on idle came lines) refl
  where
    by : (b : Bool) → is_done on idle came lines ≡ b
        → (ends (cond b (at-place [] none_came) (at-place (Phase lines ∷ []) came)).ahead ≡ true)
        ⊎ (((cond b (at-place [] none_came) (at-place (Phase lines ∷ []) came)).ahead ≡ []) × ((on ≡ false) ⊎ (idle ≡ true)))
    by true is = inr (refl, done-cases on idle (list_all (λ i. is_empty (left_of came lines i)) initiators) is)
    by false is = inl refl
past-ends on idle came (Phase lines ∷ next ∷ parts) e = by (is_done on idle came lines) (past-ends on idle none_came (next ∷ parts) e)
  where
    by : (b : Bool)
        → ((ends (place_past on idle none_came (next ∷ parts)).ahead ≡ true)
        ⊎ (((place_past on idle none_came (next ∷ parts)).ahead ≡ []) × ((on ≡ false) ⊎ (idle ≡ true))))
        → (ends (cond b (place_past on idle none_came (next ∷ parts)) (at-place (Phase lines ∷ next ∷ parts) came)).ahead ≡ true)
        ⊎ (((cond b (place_past on idle none_came (next ∷ parts)) (at-place (Phase lines ∷ next ∷ parts) came)).ahead ≡ []) × ((on ≡ false) ⊎ (idle ≡ true)))
    by true rest = rest
    by false rest = inl e

-- while the power is off no phase is ahead
off-none : (idle : Bool) (came : ℕ → ℕ) (parts : List Part) (i : ℕ)
    → next_lines (place_past false idle came parts).came (place_past false idle came parts).ahead i ≡ []
off-none idle came [] i = refl
off-none idle came (Outside event ∷ parts) i = refl
off-none idle came (Phase lines ∷ parts) i = off-none idle none_came parts i

-- who is in where the power is off, and where nothing is left of the script
record Rests (c : Course) : Type 0 where
  off : c.walk.on ≡ false → c.history.set ≡ []
  left : (ends c.walk.place.ahead ≡ true) ⊎ ((c.walk.place.ahead ≡ []) × (c.history.set ≡ []))

idle-none : (s : State) → is_idle s ≡ true → s.set ≡ []
idle-none s is = by s.set (eqb-true (length s.set) 0 is)
  where
    by : (l : List Member) → length l ≡ 0 → l ≡ []
    by [] e = refl
    by (m ∷ l) e = absurd (omega (arith, e))

-- once the phases that are done are behind
settled-left : (c : Course) → Rests c
    → (ends (settled (is_idle c.history) c.walk).place.ahead ≡ true)
    ⊎ (((settled (is_idle c.history) c.walk).place.ahead ≡ []) × (c.history.set ≡ []))
settled-left c rests = elim rests.left [
  | inl e ↦ elim (past-ends c.walk.on (is_idle c.history) c.walk.place.came c.walk.place.ahead e) [
    | inl more ↦ inl more
    | inr none ↦ inr (none.0, elim none.1 [ inl off ↦ rests.off off | inr idle ↦ idle-none c.history idle ])
  ]
  | inr none ↦ inr (ap (λ (p : List Part). (place_past c.walk.on (is_idle c.history) c.walk.place.came p).ahead) none.0, none.1)
]

off-cases : (on : Bool) (event : PowerEvent) → on_after on event ≡ false → (event ≡ Off) ⊎ (on ≡ false)
off-cases on Off is = inl refl
off-cases on On is = absurd (cc)
off-cases on Nothing is = inr is
off-cases on (Minutes n) is = inr is
off-cases on Several is = inr is

-- a turn that isn't an arrival
module _ (capacity : ℕ) (c : Course) (turn : Turn) (other : IsOther turn.label) (lawful : turn_lawful capacity c.history turn ≡ true) where
  begun-none : c.history.set ≡ [] → (begun c.history turn.label).set ≡ []
  begun-none none = begun-set c.history turn.label ∙ none

  work-none : c.history.set ≡ [] → (turn_after capacity c.history turn).set ≡ []
  work-none none =
      stay-empty capacity turn.label (begun c.history turn.label) turn.entries (work-entries capacity c.history turn other lawful) (begun-none none)

  work-off : Rests c → on_after c.walk.on (event_of turn.entries) ≡ false → (turn_after capacity c.history turn).set ≡ []
  work-off rests is = elim (off-cases c.walk.on (event_of turn.entries) is) [
    | inl off ↦
        cut-leaves-none capacity turn.label (begun c.history turn.label) Nothing turn.entries (work-entries capacity c.history turn other lawful)
        (λ e. absurd (cc)) off
    | inr off ↦ work-none (rests.off off)
  ]

  -- where the part that is ahead stays
  work-left : Rests c → (ends (settled (is_idle c.history) c.walk).place.ahead ≡ true)
      ⊎ (((settled (is_idle c.history) c.walk).place.ahead ≡ []) × ((turn_after capacity c.history turn).set ≡ []))
  work-left rests = elim (settled-left c rests) [ inl e ↦ inl e | inr none ↦ inr (none.0, work-none none.1) ]

next-phase : (place : Place) (found : Option Entry) → comes_next place found ≡ true → (i : ℕ) × (next_lines place.came place.ahead i ≡ [] → ⊥)
next-phase place None is = absurd (cc)
next-phase place (Some entry) is = (sender_of entry, λ none. let e = sym is ∙ ap (tells_first entry) none in absurd (cc))

off-or-on : (b : Bool) → (b ≡ true) ⊎ (b ≡ false)
off-or-on true = inl refl
off-or-on false = inr refl

happens-tail : {A B : Type 0} (event : Event) (ahead : List Part) → happens_next ahead event ≡ true → (ends ahead ≡ true) ⊎ ((ahead ≡ []) × A)
    → (ends (drop 1 ahead) ≡ true) ⊎ ((drop 1 ahead ≡ []) × B)
happens-tail event [] happens so = absurd (cc)
happens-tail event (Phase lines ∷ rest) happens so = absurd (cc)
happens-tail event (Outside what ∷ rest) happens (inl e) = inl (tail-ends what rest e)
happens-tail event (Outside what ∷ rest) happens (inr none) = let e = none.0 in absurd (cc)

-- a turn that may come leaves it so
rests_more : (capacity : ℕ) (c : Course) (turn : Turn) → may_come capacity c turn ≡ true → Rests c → Rests (course_after capacity c turn)
rests_more capacity c turn may rests =
    let parts = and_parts (walk_allows (is_idle c.history) c.walk turn) (turn_lawful capacity c.history turn) may in
    let walk = and_parts (is_next (walk-at c).place turn.label turn.entries) (power_allows (walk-at c).on (walk-at c).armed turn.label (event_of turn.entries)) parts.0 in
    by turn.label refl walk.0 parts.1
  where
    stays : (label : Label) → turn.label ≡ label → IsOther label → place_after (walk-at c).place label turn.entries ≡ (walk-at c).place
        → turn_lawful capacity c.history turn ≡ true → Rests (course_after capacity c turn)
    stays label is other same lawful =
        let own : IsOther turn.label = subst (λ (l : Label). IsOther l) (sym is) other in
        let here : place_after (walk-at c).place turn.label turn.entries ≡ (walk-at c).place = ap (λ (l : Label). place_after (walk-at c).place l turn.entries) is ∙ same in
        let P : Place → Type 0 = λ p. (ends p.ahead ≡ true) ⊎ ((p.ahead ≡ []) × ((turn_after capacity c.history turn).set ≡ [])) in
        record {
          off = work-off capacity c turn own lawful rests;
          left = subst P (sym here) (work-left capacity c turn own lawful rests);
        }

    by : (label : Label) → turn.label ≡ label → is_next (walk-at c).place turn.label turn.entries ≡ true → turn_lawful capacity c.history turn ≡ true
        → Rests (course_after capacity c turn)
    by (Work n) is next lawful = stays (Work n) is tt refl lawful
    by (Job n) is next lawful = stays (Job n) is tt refl lawful
    by Scan is next lawful = stays Scan is tt refl lawful
    by Destage is next lawful = stays Destage is tt refl lawful
    by (World event) is next lawful =
        let own : IsOther turn.label = subst (λ (l : Label). IsOther l) (sym is) tt in
        let here : place_after (walk-at c).place turn.label turn.entries ≡ record (walk-at c).place { ahead = drop 1 (walk-at c).place.ahead } =
        ap (λ (l : Label). place_after (walk-at c).place l turn.entries) is in
        let happens : happens_next (walk-at c).place.ahead event ≡ true = ap (λ (l : Label). is_next (walk-at c).place l turn.entries) (sym is) ∙ next in
        let P : Place → Type 0 = λ p. (ends p.ahead ≡ true) ⊎ ((p.ahead ≡ []) × ((turn_after capacity c.history turn).set ≡ [])) in
        record {
          off = work-off capacity c turn own lawful rests;
          left = subst P (sym here) (happens-tail event (walk-at c).place.ahead happens (settled-left c rests));
        }
    by (Arrive i) is next lawful =
        let here : place_after (walk-at c).place turn.label turn.entries ≡ place_after (walk-at c).place (Arrive i) turn.entries =
        ap (λ (l : Label). place_after (walk-at c).place l turn.entries) is in
        let comes : comes_next (walk-at c).place (find is_arrival turn.entries) ≡ true = ap (λ (l : Label). is_next (walk-at c).place l turn.entries) (sym is) ∙ next in
        let some = next-phase (walk-at c).place (find is_arrival turn.entries) comes in
        let tasks = (and_parts (tasks_lawful capacity c.history turn) (blocks_lawful capacity c.history.blocks turn.entries) lawful).0 in
        let arrives : arrival_lawful c.history i turn.entries ≡ true = ap (λ (l : Label). tasks_lawful capacity c.history (record turn { label = l })) (sym is) ∙ tasks in
        let nothing = arrival-nothing c.history i turn.entries arrives in
        let P : Place → Type 0 = λ p. (ends p.ahead ≡ true) ⊎ ((p.ahead ≡ []) × ((turn_after capacity c.history turn).set ≡ [])) in
        record {
          off = λ off.
              let was : c.walk.on ≡ false = ap (on_after c.walk.on) (sym nothing) ∙ off in
              absurd (some.1 (ap (λ (b : Bool). next_lines (place_past b (is_idle c.history) c.walk.place.came c.walk.place.ahead).came
              (place_past b (is_idle c.history) c.walk.place.came c.walk.place.ahead).ahead some.0) was
              ∙ off-none (is_idle c.history) c.walk.place.came c.walk.place.ahead some.0));
          left = subst P (sym here) (elim (settled-left c rests) [
            | inl e ↦ inl e
            | inr none ↦ absurd (some.1 (ap (λ (p : List Part). next_lines (walk-at c).place.came p some.0) none.0))
          ]);
        }

along-rests : (capacity : ℕ) (c : Course) (turns : List Turn) → all_along (course_after capacity) (may_come capacity) c turns ≡ true → Rests c
    → Rests (fold (course_after capacity) c turns)
along-rests capacity c [] all rests = rests
along-rests capacity c (turn ∷ turns) all rests =
    let parts = and_parts (may_come capacity c turn) (all_along (course_after capacity) (may_come capacity) (course_after capacity c turn) turns) all in
    along-rests capacity (course_after capacity c turn) turns parts.1 (rests_more capacity c turn parts.0 rests)

-- where nothing is left of the script no command is in
finished-none : (c : Course) → is_finished c ≡ true → Rests c → c.history.set ≡ []
finished-none c is rests = elim (settled-left c rests) [
  | inl e ↦ let f = sym (ap ends (nil_is (settled (is_idle c.history) c.walk).place.ahead is)) ∙ e in absurd (cc)
  | inr none ↦ none.1
]

-- turns that may come, along the script and of the history, may come as far as commands go
along-tasks : (capacity : ℕ) (c : Course) (turns : List Turn) → all_along (course_after capacity) (may_come capacity) c turns ≡ true
    → all_along (turn_after capacity) (tasks_lawful capacity) c.history turns ≡ true
along-tasks capacity c [] all = refl
along-tasks capacity c (turn ∷ turns) all =
    let parts = and_parts (may_come capacity c turn) (all_along (course_after capacity) (may_come capacity) (course_after capacity c turn) turns) all in
    let own = and_parts (walk_allows (is_idle c.history) c.walk turn) (turn_lawful capacity c.history turn) parts.0 in
    let tasks = and_parts (tasks_lawful capacity c.history turn) (blocks_lawful capacity c.history.blocks turn.entries) own.1 in
    ap (λ (b : Bool). b && all_along (turn_after capacity) (tasks_lawful capacity) (turn_after capacity c.history turn) turns) tasks.0
    ∙ along-tasks capacity (course_after capacity c turn) turns parts.1

history-of : (capacity : ℕ) (c : Course) (turns : List Turn)
    → (fold (course_after capacity) c turns).history ≡ fold (turn_after capacity) c.history turns
history-of capacity c [] = refl
history-of capacity c (turn ∷ turns) = history-of capacity (course_after capacity c turn) turns

pub all_ended : OfGoodHistories AreAccountedFor
all_ended script turns is =
    let capacity = capacity_of script in
    let start = course_at_start script.lines in
    let c = course_of capacity script.lines turns in
    let parts = and_parts (all_along (course_after capacity) (may_come capacity) start turns) (is_finished c) is in
    let rests = along-rests capacity start turns parts.0 (record { off = λ e. refl; left = inl (lines-end [] script.lines) }) in
    let none = finished-none c parts.1 rests in
    let told = commands_are_accounted_for capacity attentions_at_start turns (along-tasks capacity start turns parts.0) in
    let inside : length (tally_of (entries_of turns)).inside ≡ 0 =
    ap length (told.1 ∙ ap (λ (s : State). numbers s.set) (sym (history-of capacity start turns)) ∙ ap numbers none) in
    let sum = told.0 in
    omega (arith, sum, inside)
