-- How turns fall to the parts of a script.
use Rattle.std.proofs.Common.{◌≡◌, ◌∙◌, ap, sym, refl, subst, ℕ, ◌+◌, Bool, true, false, cond, List, [], ◌∷◌, ◌++◌, drop}
use Rattle.std.specs.Prelude.{◌&&◌, ◌||◌, ◌==◌, fold, Option, Some}
use Rattle.std.specs.List.{list_all, list_any}
use Rattle.std.proofs.lemmas.Bool.{and_parts, eqb-true, eq-eqb, ne_eqb, false≢true}
use Rattle.std.proofs.lemmas.List.{drop-drop}
use Rattle.std.proofs.lemmas.List.Elements.{filter-append}
use Rattle.disk_base.specs.Along.{all_along}
use Rattle.platter_model.specs.declared.world.World.{World as Event}
use Rattle.platter_model.specs.declared.world.World.TheVariants as world
use Rattle.block_machine.specs.declared.entry.Entry.{Entry}
use Rattle.block_machine.specs.declared.entry.Entry.TheVariants.{Cut, PoweredOn, Tick}
use Rattle.block_machine.specs.declared.turn.Label.{Label}
use Rattle.block_machine.specs.declared.turn.Label.TheVariants.{Arrive, Work, Job, Scan, Destage, World}
use Rattle.block_machine.specs.declared.turn.Turn.{Turn}
use Rattle.block_machine.specs.Attentions.{initiators}
use Rattle.block_machine.specs.History.{entries_of}
use Rattle.block_machine.specs.Steps.{begun}
use Rattle.block_machine.specs.Turns.{arrival_lawful, blocks_lawful, tasks_lawful, turn_lawful}
use Rattle.script_text.specs.declared.script.Line.{Line}
use Rattle.history_checker.specs.declared.power.PowerEvent.{PowerEvent}
use Rattle.history_checker.specs.declared.power.PowerEvent.TheVariants.{Nothing, Off, On, Minutes, Several}
use Rattle.history_checker.specs.Good.{Course, course_after, course_at_start, course_of, is_finished, is_idle, may_come}
use Rattle.history_checker.specs.Laws.{AreLeftByCuts, FallTo, InPhase, NothingComes, OfGoodHistories, arrivals_from, goes_off, is_event, is_outside, power_behind, tell_all, tell_front}
use Rattle.history_checker.specs.Parts.{Part, capacity_of, lines_of, parts_behind}
use Rattle.history_checker.specs.Parts.Part.{Phase, Outside}
use Rattle.history_checker.specs.Same.{tells}
use Rattle.history_checker.specs.Walk.{came_after, comes_next, event_after, event_of, happens_next, is_arrival, is_done, is_empty, is_next, left_of, next_lines, none_came, on_after, place_after, place_past, power_allows, sender_of, settled, tells_first, walk_allows}
use Rattle.history_checker.proofs.AllEnded.{IsOther, at-place, walk-at, work-entries}
use Rattle.history_checker.proofs.Coming.{IsFresh, came-in, next-fresh, none-come, none-fresh, past-fresh}
use Rattle.history_checker.proofs.GoodLaws.{nil_is}

pub or-first : (b c : Bool) → (b || c) ≡ false → b ≡ false
or-first false c none = refl
or-first true c none = none

pub or-rest : (b c : Bool) → (b || c) ≡ false → c ≡ false
or-rest false c none = none
or-rest true c none = absurd (cc)

pub neither : (b c : Bool) → b ≡ false → c ≡ false → (b || c) ≡ false
neither b c first rest = ap (λ (x : Bool). x || c) first ∙ rest

pub split-any : {A : Type 0} (p : A → Bool) (xs ys : List A) → list_any p (xs ++ ys) ≡ false → (list_any p xs ≡ false) × (list_any p ys ≡ false)
split-any p [] ys none = (refl, none)
split-any p (x ∷ xs) ys none =
    let rest = split-any p xs ys (or-rest (p x) (list_any p (xs ++ ys)) none) in
    (neither (p x) (list_any p xs) (or-first (p x) (list_any p (xs ++ ys)) none) rest.0, rest.1)

pub join-any : {A : Type 0} (p : A → Bool) (xs ys : List A) → list_any p xs ≡ false → list_any p ys ≡ false → list_any p (xs ++ ys) ≡ false
join-any p [] ys none more = more
join-any p (x ∷ xs) ys none more =
    neither (p x) (list_any p (xs ++ ys)) (or-first (p x) (list_any p xs) none) (join-any p xs ys (or-rest (p x) (list_any p xs) none) more)

-- where no command or function comes, none comes of any initiator
pub none-from : (i : ℕ) (entries : List Entry) → list_any is_arrival entries ≡ false → arrivals_from i entries ≡ []
none-from i [] none = refl
none-from i (e ∷ entries) none =
    ap (λ (b : Bool). cond (b && (sender_of e == i)) (e ∷ arrivals_from i entries) (arrivals_from i entries)) (or-first (is_arrival e) (list_any is_arrival entries) none)
    ∙ none-from i entries (or-rest (is_arrival e) (list_any is_arrival entries) none)

pub arrivals-append : (i : ℕ) (xs ys : List Entry) → arrivals_from i (xs ++ ys) ≡ arrivals_from i xs ++ arrivals_from i ys
arrivals-append i xs ys = filter-append (λ e. is_arrival e && (sender_of e == i)) xs ys

-- the power behind entries
power-cons : (on : Bool) (e : Entry) (entries : List Entry) → power_behind on (e ∷ entries) ≡ power_behind (power_behind on (e ∷ [])) entries
power-cons on Cut entries = refl
power-cons on (PoweredOn outcome) entries = refl
power-cons on e entries = refl

power-append : (on : Bool) (xs ys : List Entry) → power_behind on (xs ++ ys) ≡ power_behind (power_behind on xs) ys
power-append on [] ys = refl
power-append on (x ∷ xs) ys =
    power-cons on x (xs ++ ys) ∙ power-append (power_behind on (x ∷ [])) xs ys
    ∙ ap (λ (b : Bool). power_behind b ys) (sym (power-cons on x xs))

one-on : (e : Entry) → goes_off e ≡ false → power_behind true (e ∷ []) ≡ true
one-on Cut none = absurd (cc)
one-on (PoweredOn outcome) none = refl
one-on e none = refl

pub stays-on : (entries : List Entry) → list_any goes_off entries ≡ false → power_behind true entries ≡ true
stays-on [] none = refl
stays-on (e ∷ entries) none =
    power-cons true e entries
    ∙ ap (λ (b : Bool). power_behind b entries) (one-on e (or-first (goes_off e) (list_any goes_off entries) none))
    ∙ stays-on entries (or-rest (goes_off e) (list_any goes_off entries) none)

several-stay : (entries : List Entry) → fold event_after Several entries ≡ Several
several-stay [] = refl
several-stay (Cut ∷ entries) = several-stay entries
several-stay (PoweredOn outcome ∷ entries) = several-stay entries
several-stay (Tick minutes ∷ entries) = several-stay entries
several-stay (e ∷ entries) = several-stay entries

power-one : (on : Bool) (before : PowerEvent) (e : Entry) → (event_after before e ≡ Several → ⊥)
    → power_behind (on_after on before) (e ∷ []) ≡ on_after on (event_after before e)
power-one on Nothing Cut one = refl
power-one on Off Cut one = absurd (one refl)
power-one on On Cut one = absurd (one refl)
power-one on (Minutes m) Cut one = absurd (one refl)
power-one on Several Cut one = absurd (one refl)
power-one on Nothing (PoweredOn outcome) one = refl
power-one on Off (PoweredOn outcome) one = absurd (one refl)
power-one on On (PoweredOn outcome) one = absurd (one refl)
power-one on (Minutes m) (PoweredOn outcome) one = absurd (one refl)
power-one on Several (PoweredOn outcome) one = absurd (one refl)
power-one on Nothing (Tick minutes) one = refl
power-one on Off (Tick minutes) one = absurd (one refl)
power-one on On (Tick minutes) one = absurd (one refl)
power-one on (Minutes m) (Tick minutes) one = absurd (one refl)
power-one on Several (Tick minutes) one = absurd (one refl)
power-one on Nothing e one = refl
power-one on Off e one = refl
power-one on On e one = refl
power-one on (Minutes m) e one = refl
power-one on Several e one = refl

-- entries that tell one thing of the power at most leave it as that tells
power-told : (on : Bool) (before : PowerEvent) (entries : List Entry) → (fold event_after before entries ≡ Several → ⊥)
    → power_behind (on_after on before) entries ≡ on_after on (fold event_after before entries)
power-told on before [] one = refl
power-told on before (e ∷ entries) one =
    let first : event_after before e ≡ Several → ⊥ =
    λ is. one (ap (λ (p : PowerEvent). fold event_after p entries) is ∙ several-stay entries) in
    power-cons (on_after on before) e entries
    ∙ ap (λ (b : Bool). power_behind b entries) (power-one on before e first)
    ∙ power-told on (event_after before e) entries one

not-several : (on armed : Bool) (label : Label) → power_allows on armed label Several ≡ true → ⊥
not-several true true (World world.Cut) is = cc
not-several true false (World world.Cut) is = cc
not-several false true (World world.Cut) is = cc
not-several false false (World world.Cut) is = cc
not-several true true label is = cc
not-several true false label is = cc
not-several false true label is = cc
not-several false false label is = cc

-- the power behind a turn that the walk allows
power-after : (on armed : Bool) (label : Label) (entries : List Entry) → power_allows on armed label (event_of entries) ≡ true
    → power_behind on entries ≡ on_after on (event_of entries)
power-after on armed label entries allowed =
    power-told on Nothing entries (λ is. not-several on armed label (ap (power_allows on armed label) (sym is) ∙ allowed))

-- how turns fall to the parts where so many of each initiator's lines of the first have come
abbrev Falls : Bool → (ℕ → ℕ) → List Part → List Turn → Type 0
Falls on came [] turns = NothingComes turns
Falls on came (Phase lines ∷ parts) turns =
    (now : List Turn) × (later : List Turn) × InPhase on (left_of came lines) turns now later × FallTo (power_behind on (entries_of now)) parts later
Falls on came (Outside event ∷ parts) turns = FallTo on (Outside event ∷ parts) turns

-- where none of a phase's lines has come
fresh-falls : (on : Bool) (came : ℕ → ℕ) (parts : List Part) (turns : List Turn) → ((i : ℕ) → came i ≡ 0) → Falls on came parts turns → FallTo on parts turns
fresh-falls on came [] turns none falls = falls
fresh-falls on came (Outside event ∷ parts) turns none falls = falls
fresh-falls on came (Phase lines ∷ parts) turns none (now, later, p, rest) = (
  now,
  later,
  record {
    are = p.are;
    inside = p.inside;
    first = λ i. ap (λ n. tell_front (arrivals_from i (entries_of now)) (drop n (lines_of i lines))) (sym (none i)) ∙ p.first i;
    all = λ o off i one. ap (λ n. tell_all (arrivals_from i (entries_of now)) (drop n (lines_of i lines))) (sym (none i)) ∙ p.all o off i one;
  },
  rest,
)

-- an initiator is one of the eight, so where all lines of a phase have come, its own have
of-eight : (p : ℕ → Bool) (all : List ℕ) (i : ℕ) → list_all p all ≡ true → list_any (λ j. j == i) all ≡ true → p i ≡ true
of-eight p [] i all_pass some = absurd (cc)
of-eight p (j ∷ all) i all_pass some =
    let parts = and_parts (p j) (list_all p all) all_pass in
    by (j == i) refl some parts.0 (λ any. of-eight p all i parts.1 any)
  where
    by : (b : Bool) → (j == i) ≡ b → (b || list_any (λ j. j == i) all) ≡ true → p j ≡ true
        → (list_any (λ j. j == i) all ≡ true → p i ≡ true) → p i ≡ true
    by true is any first rest = ap p (sym (eqb-true j i is)) ∙ first
    by false is any first rest = rest any

gone : (on idle : Bool) (came : ℕ → ℕ) (lines : List Line) → is_done on idle came lines ≡ true → on ≡ true
    → (i : ℕ) → list_any (λ j. j == i) initiators ≡ true → left_of came lines i ≡ []
gone true true came lines is on i one =
    nil_is (left_of came lines i) (of-eight (λ j. is_empty (left_of came lines j)) initiators i is one)
gone true false came lines is on i one = absurd (cc)
gone false idle came lines is on i one = absurd (cc)

-- to the phases that are done no turn falls
past-falls : (on idle : Bool) (came : ℕ → ℕ) (parts : List Part) (turns : List Turn)
    → Falls on (place_past on idle came parts).came (place_past on idle came parts).ahead turns → Falls on came parts turns
past-falls on idle came [] turns falls = falls
past-falls on idle came (Outside event ∷ parts) turns falls = falls
past-falls on idle came (Phase lines ∷ parts) turns falls =
    by (is_done on idle came lines) refl (past-falls on idle none_came parts turns) falls
  where
    by : (b : Bool) → is_done on idle came lines ≡ b
        → (Falls on (place_past on idle none_came parts).came (place_past on idle none_came parts).ahead turns → Falls on none_came parts turns)
        → Falls on (cond b (place_past on idle none_came parts) (at-place (Phase lines ∷ parts) came)).came
        (cond b (place_past on idle none_came parts) (at-place (Phase lines ∷ parts) came)).ahead turns
        → Falls on came (Phase lines ∷ parts) turns
    by true is rest falls = (
      [],
      turns,
      record {
        are = refl;
        inside = refl;
        first = λ i. refl;
        all = λ o off i one. ap (tell_all []) (gone on idle came lines is o i one);
      },
      fresh-falls on none_came parts turns (λ i. refl) (rest falls),
    )
    by false is rest falls = falls

-- a test of entries and lines that goes one by one
abbrev IsStepwise : (List Entry → List Line → Bool) → Type 0
IsStepwise tell = (e : Entry) (es : List Entry) (l : Line) (ls : List Line) → tell (e ∷ es) (l ∷ ls) ≡ (tells e l && tell es ls)

-- the sender's first line is told by the arrival
sent-first : (tell : List Entry → List Line → Bool) → IsStepwise tell → (entry : Entry) (more : List Entry) (came later : ℕ → ℕ) (lines : List Line) (i : ℕ) (left : List Line)
    → left_of came lines i ≡ left → tells_first entry left ≡ true → later i ≡ came i + 1
    → tell more (left_of later lines i) ≡ true → tell (entry ∷ more) (left_of came lines i) ≡ true
sent-first tell law entry more came later lines i [] is first next told = absurd (cc)
sent-first tell law entry more came later lines i (l ∷ ls) is first next told =
    let then : left_of later lines i ≡ ls =
    ap (λ n. drop n (lines_of i lines)) next ∙ sym (drop-drop 1 (came i) (lines_of i lines)) ∙ ap (drop 1) is in
    ap (tell (entry ∷ more)) is ∙ law entry more l ls ∙ ap (λ (b : Bool). b && tell more ls) first ∙ ap (tell more) (sym then) ∙ told

-- one arrival more of a phase
sent-one : (tell : List Entry → List Line → Bool) → IsStepwise tell → (b : Bool) (i : ℕ) (came : ℕ → ℕ) (lines : List Line) (entry : Entry) (more : List Entry)
    → (sender_of entry == i) ≡ b → tells_first entry (left_of came lines (sender_of entry)) ≡ true
    → tell more (left_of (came_after came (Some entry)) lines i) ≡ true
    → tell (cond b (entry ∷ []) [] ++ more) (left_of came lines i) ≡ true
sent-one tell law true i came lines entry more same first told =
    let j = sender_of entry in
    let eq : j ≡ i = eqb-true j i same in
    let own : tells_first entry (left_of came lines i) ≡ true = ap (λ n. tells_first entry (left_of came lines n)) (sym eq) ∙ first in
    let later : came_after came (Some entry) i ≡ came i + 1 =
    ap (λ (b : Bool). cond b (came j + 1) (came i)) (eq-eqb i j (sym eq)) ∙ ap (λ n. came n + 1) eq in
    sent-first tell law entry more came (came_after came (Some entry)) lines i (left_of came lines i) refl own later told
sent-one tell law false i came lines entry more other first told =
    let j = sender_of entry in
    let ne : i ≡ j → ⊥ = λ e. false≢true (sym other ∙ eq-eqb j i (sym e)) in
    let same : came_after came (Some entry) i ≡ came i = ap (λ (b : Bool). cond b (came j + 1) (came i)) (ne_eqb i j ne) in
    ap (λ n. tell more (drop n (lines_of i lines))) (sym same) ∙ told

-- one turn more of a phase
extend : (on : Bool) (due left : ℕ → List Line) (turn : Turn) (turns now later : List Turn) → is_outside turn.label ≡ false
    → ((tell : List Entry → List Line → Bool) → IsStepwise tell → (i : ℕ) (more : List Entry) → tell more (left i) ≡ true → tell (arrivals_from i turn.entries ++ more) (due i) ≡ true)
    → InPhase (power_behind on turn.entries) left turns now later → InPhase on due (turn ∷ turns) (turn ∷ now) later
extend on due left turn turns now later inside step p = record {
  are = ap (λ l. turn ∷ l) p.are;
  inside = neither (is_outside turn.label) (list_any (λ t. is_outside t.label) now) inside p.inside;
  first = λ i. ap (λ l. tell_front l (due i)) (arrivals-append i turn.entries (entries_of now))
      ∙ step tell_front (λ e es l ls. refl) i (arrivals_from i (entries_of now)) (p.first i);
  all = λ o off i one.
      let split = split-any goes_off turn.entries (entries_of now) off in
      let still : power_behind on turn.entries ≡ true = ap (λ (b : Bool). power_behind b turn.entries) o ∙ stays-on turn.entries split.0 in
      ap (λ l. tell_all l (due i)) (arrivals-append i turn.entries (entries_of now))
      ∙ step tell_all (λ e es l ls. refl) i (arrivals_from i (entries_of now)) (p.all still split.1 i one);
}

-- one turn more by which nothing comes
quiet-falls : (on : Bool) (came : ℕ → ℕ) (ahead : List Part) (turn : Turn) (turns : List Turn) → list_any is_arrival turn.entries ≡ false → is_outside turn.label ≡ false
    → Falls (power_behind on turn.entries) came ahead turns → Falls on came ahead (turn ∷ turns)
quiet-falls on came [] turn turns none inside falls = (
  join-any is_arrival turn.entries (entries_of turns) none falls.0,
  neither (is_outside turn.label) (list_any (λ t. is_outside t.label) turns) inside falls.1,
)
quiet-falls on came (Phase lines ∷ parts) turn turns none inside (now, later, p, rest) = (
  turn ∷ now,
  later,
  extend on (left_of came lines) (left_of came lines) turn turns now later inside
      (λ tell law i more told. ap (λ l. tell (l ++ more) (left_of came lines i)) (none-from i turn.entries none) ∙ told) p,
  subst (λ (b : Bool). FallTo b parts later) (sym (power-append on turn.entries (entries_of now))) rest,
)
quiet-falls on came (Outside event ∷ parts) turn turns none inside (before, at, later, p, rest) = (
  turn ∷ before,
  at,
  later,
  record {
    are = ap (λ l. turn ∷ l) p.are;
    nothing = (
      join-any is_arrival turn.entries (entries_of before) none p.nothing.0,
      neither (is_outside turn.label) (list_any (λ t. is_outside t.label) before) inside p.nothing.1,
    );
    happens = p.happens;
    alone = p.alone;
  },
  subst (λ (b : Bool). FallTo (power_behind b at.entries) parts later) (sym (power-append on turn.entries (entries_of before))) rest,
)

-- one turn more by which a command or a function comes
arrive-falls : (on : Bool) (came : ℕ → ℕ) (ahead : List Part) (turn : Turn) (turns : List Turn) (entry : Entry)
    → tells_first entry (next_lines came ahead (sender_of entry)) ≡ true
    → ((i : ℕ) → arrivals_from i turn.entries ≡ cond (sender_of entry == i) (entry ∷ []) []) → is_outside turn.label ≡ false
    → Falls (power_behind on turn.entries) (came_after came (Some entry)) ahead turns → Falls on came ahead (turn ∷ turns)
arrive-falls on came [] turn turns entry comes arrivals inside falls = absurd (cc)
arrive-falls on came (Outside event ∷ parts) turn turns entry comes arrivals inside falls = absurd (cc)
arrive-falls on came (Phase lines ∷ parts) turn turns entry comes arrivals inside (now, later, p, rest) = (
  turn ∷ now,
  later,
  extend on (left_of came lines) (left_of (came_after came (Some entry)) lines) turn turns now later inside
      (λ tell law i more told. ap (λ l. tell (l ++ more) (left_of came lines i)) (arrivals i)
      ∙ sent-one tell law (sender_of entry == i) i came lines entry more refl comes told) p,
  subst (λ (b : Bool). FallTo b parts later) (sym (power-append on turn.entries (entries_of now))) rest,
)

-- one turn more by which something happens from outside
happens-falls : (on : Bool) (came : ℕ → ℕ) (ahead : List Part) (event : Event) (turn : Turn) (turns : List Turn) → turn.label ≡ World event → list_any is_arrival turn.entries ≡ false
    → happens_next ahead event ≡ true → IsFresh came ahead → Falls (power_behind on turn.entries) came (drop 1 ahead) turns → Falls on came ahead (turn ∷ turns)
happens-falls on came [] event turn turns is none happens fresh falls = absurd (cc)
happens-falls on came (Phase lines ∷ parts) event turn turns is none happens fresh falls = absurd (cc)
happens-falls on came (Outside next ∷ parts) event turn turns is none happens fresh falls = (
  [],
  turn,
  turns,
  record {
    are = refl;
    nothing = (refl, refl);
    happens = ap (is_event next) is ∙ happens;
    alone = none;
  },
  fresh-falls (power_behind on turn.entries) came parts turns fresh falls,
)

module _ (capacity : ℕ) where
  abbrev FallsAt : Course → List Turn → Type 0
  FallsAt c turns = Falls c.walk.on c.walk.place.came c.walk.place.ahead turns

  turn-falls : (c : Course) (turn : Turn) (turns : List Turn) → IsFresh c.walk.place.came c.walk.place.ahead
      → walk_allows (is_idle c.history) c.walk turn ≡ true → turn_lawful capacity c.history turn ≡ true
      → FallsAt (course_after capacity c turn) turns → FallsAt c (turn ∷ turns)
  turn-falls c turn turns fresh allowed lawful falls =
      past-falls c.walk.on (is_idle c.history) c.walk.place.came c.walk.place.ahead (turn ∷ turns) (by turn.label refl own.0)
    where
      own : (is_next (walk-at c).place turn.label turn.entries ≡ true)
          × (power_allows (walk-at c).on (walk-at c).armed turn.label (event_of turn.entries) ≡ true)
      own = and_parts (is_next (walk-at c).place turn.label turn.entries)
          (power_allows (walk-at c).on (walk-at c).armed turn.label (event_of turn.entries)) allowed

      then : Falls (power_behind c.walk.on turn.entries) (place_after (walk-at c).place turn.label turn.entries).came
          (place_after (walk-at c).place turn.label turn.entries).ahead turns
      then = subst (λ (b : Bool). Falls b (place_after (walk-at c).place turn.label turn.entries).came
          (place_after (walk-at c).place turn.label turn.entries).ahead turns)
          (sym (power-after c.walk.on (walk-at c).armed turn.label turn.entries own.1)) falls

      after : (label : Label) → turn.label ≡ label → Falls (power_behind c.walk.on turn.entries) (place_after (walk-at c).place label turn.entries).came
          (place_after (walk-at c).place label turn.entries).ahead turns
      after label is = subst (λ (l : Label). Falls (power_behind c.walk.on turn.entries) (place_after (walk-at c).place l turn.entries).came
          (place_after (walk-at c).place l turn.entries).ahead turns) is then

      none : (label : Label) → turn.label ≡ label → IsOther label → list_any is_arrival turn.entries ≡ false
      none label is other =
          let own : IsOther turn.label = subst (λ (l : Label). IsOther l) (sym is) other in
          none-come capacity turn.label (begun c.history turn.label) turn.entries (work-entries capacity c.history turn own lawful)

      quiet : (label : Label) → turn.label ≡ label → IsOther label → is_outside label ≡ false
          → Falls (power_behind c.walk.on turn.entries) (walk-at c).place.came (walk-at c).place.ahead turns
          → Falls c.walk.on (walk-at c).place.came (walk-at c).place.ahead (turn ∷ turns)
      quiet label is other inside rest =
          quiet-falls c.walk.on (walk-at c).place.came (walk-at c).place.ahead turn turns (none label is other) (ap is_outside is ∙ inside) rest

      by : (label : Label) → turn.label ≡ label → is_next (walk-at c).place turn.label turn.entries ≡ true
          → Falls c.walk.on (walk-at c).place.came (walk-at c).place.ahead (turn ∷ turns)
      by (Work n) is next = quiet (Work n) is tt refl (after (Work n) is)
      by (Job n) is next = quiet (Job n) is tt refl (after (Job n) is)
      by Scan is next = quiet Scan is tt refl (after Scan is)
      by Destage is next = quiet Destage is tt refl (after Destage is)
      by (World event) is next =
          let happens : happens_next (walk-at c).place.ahead event ≡ true = ap (λ (l : Label). is_next (walk-at c).place l turn.entries) (sym is) ∙ next in
          let still = past-fresh c.walk.on (is_idle c.history) c.walk.place.came c.walk.place.ahead fresh in
          happens-falls c.walk.on (walk-at c).place.came (walk-at c).place.ahead event turn turns is (none (World event) is tt) happens still (after (World event) is)
      by (Arrive j) is next =
          let tasks = (and_parts (tasks_lawful capacity c.history turn) (blocks_lawful capacity c.history.blocks turn.entries) lawful).0 in
          let arrives : arrival_lawful c.history j turn.entries ≡ true = ap (λ (l : Label). tasks_lawful capacity c.history (record turn { label = l })) (sym is) ∙ tasks in
          let came = came-in c.history j turn.entries arrives in
          let comes : comes_next (walk-at c).place (Some came.entry) ≡ true =
          ap (comes_next (walk-at c).place) (sym came.found) ∙ ap (λ (l : Label). is_next (walk-at c).place l turn.entries) (sym is) ∙ next in
          let rest : Falls (power_behind c.walk.on turn.entries) (came_after (walk-at c).place.came (Some came.entry)) (walk-at c).place.ahead turns =
          subst (λ (o : Option Entry). Falls (power_behind c.walk.on turn.entries) (came_after (walk-at c).place.came o) (walk-at c).place.ahead turns) came.found (after (Arrive j) is) in
          arrive-falls c.walk.on (walk-at c).place.came (walk-at c).place.ahead turn turns came.entry comes came.arrivals (ap is_outside is) rest

  fresh-more : (c : Course) (turn : Turn) → IsFresh c.walk.place.came c.walk.place.ahead → walk_allows (is_idle c.history) c.walk turn ≡ true
      → IsFresh (course_after capacity c turn).walk.place.came (course_after capacity c turn).walk.place.ahead
  fresh-more c turn fresh allowed =
      let w = settled (is_idle c.history) c.walk in
      let next = (and_parts (is_next w.place turn.label turn.entries) (power_allows w.on w.armed turn.label (event_of turn.entries)) allowed).0 in
      next-fresh w.place turn.label turn.entries next (past-fresh c.walk.on (is_idle c.history) c.walk.place.came c.walk.place.ahead fresh)

  along-falls : (c : Course) (turns : List Turn) → IsFresh c.walk.place.came c.walk.place.ahead
      → all_along (course_after capacity) (may_come capacity) c turns ≡ true
      → is_finished (fold (course_after capacity) c turns) ≡ true → FallsAt c turns
  along-falls c [] fresh all over =
      let none : FallTo c.walk.on [] [] = (refl, refl) in
      past-falls c.walk.on (is_idle c.history) c.walk.place.came c.walk.place.ahead []
      (subst (λ (p : List Part). Falls c.walk.on (walk-at c).place.came p []) (sym (nil_is (walk-at c).place.ahead over)) none)
  along-falls c (turn ∷ turns) fresh all over =
      let parts = and_parts (may_come capacity c turn) (all_along (course_after capacity) (may_come capacity) (course_after capacity c turn) turns) all in
      let own = and_parts (walk_allows (is_idle c.history) c.walk turn) (turn_lawful capacity c.history turn) parts.0 in
      turn-falls c turn turns fresh own.0 own.1
      (along-falls (course_after capacity c turn) turns (fresh-more c turn fresh own.0) parts.1 over)

pub left_by_cuts : OfGoodHistories AreLeftByCuts
left_by_cuts script turns is =
    let capacity = capacity_of script in
    let start = course_at_start script.lines in
    let parts = and_parts (all_along (course_after capacity) (may_come capacity) start turns) (is_finished (course_of capacity script.lines turns)) is in
    let came = none-fresh none_came (parts_behind [] script.lines) (λ j. refl) in
    fresh-falls true none_came (parts_behind [] script.lines) turns (λ j. refl) (along-falls capacity start turns came parts.0 parts.1)
