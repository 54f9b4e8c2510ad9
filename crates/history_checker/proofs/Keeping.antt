-- What is kept of a walk stands for it, step by step.
use Rattle.std.proofs.Common.{◌≡◌, ◌∙◌, ap, sym, refl, subst, ℕ, zero, suc, ◌+◌, ◌<◌, ◌≤◌, Bool, true, false, cond, not, List, [], ◌∷◌, ◌++◌, length, get_or, set, drop, append_assoc, arith, inl, inr}
use Rattle.std.specs.Prelude.{◌&&◌, ◌||◌, ◌==◌, ◌⊎◌, slice_index, slice_range}
use Rattle.std.specs.List.{list_all}
use Rattle.std.proofs.lemmas.Bool.{eq-eqb, eqb-true, ne_eqb, false≢true}
use Rattle.std.proofs.lemmas.List.{drop_all, drop-append-le, drop-drop, drop_more, get_or-set_same, get_or-set_other, length-append, length-drop, length-set}
use Rattle.std.proofs.lemmas.List.Elements.{filter-append}
use Rattle.disk_base.specs.At.{put_at}
use Rattle.platter_model.specs.declared.world.World.{World as Event}
use Rattle.block_machine.specs.declared.entry.Entry.{Entry}
use Rattle.block_machine.specs.Attentions.{initiators}
use Rattle.script_text.specs.declared.script.Line.{Line}
use Rattle.script_text.specs.declared.script.Line.TheVariants.{World}
use Rattle.script_text.specs.Standing.{is_world}
use Rattle.history_checker.specs.declared.walk.Walk as kept
use Rattle.history_checker.specs.Parts.{Part, is_from, lines_of, parts_behind}
use Rattle.history_checker.specs.Parts.Part.{Phase, Outside}
use Rattle.history_checker.specs.Same.{tells}
use Rattle.history_checker.specs.Standing.{BeginsWith, IsAhead, IsPlace, Keeps, StandsFirst, begins_with, done_first, is_done_first, is_phase_ahead, is_stop, past_first}
use Rattle.history_checker.specs.Walk.{Place, Walk, is_empty, left_of, next_lines, none_came, tells_first, walk_at_start}
use Rattle.history_checker.proofs.Ahead.{event_first, one_waits, parts_past, phase_first}
use Rattle.history_checker.proofs.Ranges.{drop_next, range_front, range_join, range_more, range_none}

-- a list that isn't gone through has a first item
pub first_item : {X : Type 0} (xs : List X) (a : ℕ) → a < length xs → (x : X) × (rest : List X) × (drop a xs ≡ x ∷ rest)
first_item [] a less = absurd (omega arith)
first_item (x ∷ xs) zero less = (x, xs, refl)
first_item (x ∷ xs) (suc a) less = first_item xs a (omega arith)

-- where something is left
pub ahead_of : (lines : List Line) (walk : kept.Walk) (w : Walk) → Keeps lines walk w → walk.is_over ≡ false → IsAhead lines walk.stop walk.next w.place
ahead_of lines walk w k more = let P : Bool → Type 0 = λ b. IsPlace b lines walk.stop walk.next w.place in subst P more k.place

pub nothing_of : (lines : List Line) (walk : kept.Walk) (w : Walk) → Keeps lines walk w → walk.is_over ≡ true → w.place.ahead ≡ []
nothing_of lines walk w k over = let P : Bool → Type 0 = λ b. IsPlace b lines walk.stop walk.next w.place in subst P over k.place

-- an initiator's first line is the one that stands where it is said to
pub first_is : (lines : List Line) (i at stop : ℕ) (left : List Line) (line : Line) (rest : List Line) → StandsFirst lines i at stop left → at < stop
    → drop at lines ≡ line ∷ rest → left ≡ line ∷ lines_of i (slice_range lines (at + 1) stop)
first_is lines i at stop left line rest f less is =
    let from : is_from i line ≡ true = let P : List Line → Type 0 = λ l. BeginsWith (is_from i) l in subst P is (f.first less) in
    f.are ∙ ap (lines_of i) (range_front lines at stop line rest less is)
    ∙ ap (λ (b : Bool). cond b (line ∷ lines_of i (slice_range lines (at + 1) stop)) (lines_of i (slice_range lines (at + 1) stop))) from

pub none_is : (lines : List Line) (i at stop : ℕ) (left : List Line) → StandsFirst lines i at stop left → stop ≤ at → left ≡ []
none_is lines i at stop left f le = f.are ∙ ap (lines_of i) (range_none lines at stop le)

at-or-before : (at stop : ℕ) → at ≤ stop → (at < stop) ⊎ (at ≡ stop)
at-or-before zero zero le = inr refl
at-or-before zero (suc stop) le = inl (omega arith)
at-or-before (suc at) zero le = absurd (omega arith)
at-or-before (suc at) (suc stop) le = elim (at-or-before at stop (omega arith)) as (λ v. (suc at < suc stop) ⊎ (suc at ≡ suc stop)) [
  | inl less ↦ inl (omega arith)
  | inr same ↦ inr (ap suc same)
]

-- no line is left of an initiator exactly where its place is the end
pub none_left : (lines : List Line) (i at stop : ℕ) (left : List Line) → stop ≤ length lines → StandsFirst lines i at stop left
    → (at == stop) ≡ is_empty left
none_left lines i at stop left bound f = elim (at-or-before at stop f.within) [
  | inl less ↦
      let first = first_item lines at (omega (arith, less, bound)) in
      ne_eqb at stop (λ e. omega (arith, less, e)) ∙ sym (ap is_empty (first_is lines i at stop left first.0 first.1 f less first.2))
  | inr same ↦ eq-eqb at stop same ∙ sym (ap is_empty (none_is lines i at stop left f (omega (arith, same))))
]

-- numbers one after another
abbrev numbers : ℕ → ℕ → List ℕ
numbers n zero = []
numbers n (suc count) = n ∷ numbers (n + 1) count

all-numbered : (p q : ℕ → Bool) (xs : List ℕ) (n : ℕ) → ((k : ℕ) → k < length xs → p (get_or xs k 0) ≡ q (n + k))
    → list_all p xs ≡ list_all q (numbers n (length xs))
all-numbered p q [] n each = refl
all-numbered p q (x ∷ xs) n each =
    let here : p x ≡ q n = let e : n + 0 ≡ n = omega arith in each 0 (omega arith) ∙ ap q e in
    let there = all-numbered p q xs (n + 1) (λ k less.
    let e : n + suc k ≡ (n + 1) + k = omega arith in each (suc k) (omega (arith, less)) ∙ ap q e) in
    ap (λ (b : Bool). b && list_all p xs) here ∙ ap (λ (b : Bool). q n && b) there

pub all_eight : (p q : ℕ → Bool) (xs : List ℕ) → length xs ≡ 8 → ((k : ℕ) → k < 8 → p (get_or xs k 0) ≡ q (k + 1))
    → list_all p xs ≡ list_all q initiators
all_eight p q xs long each =
    all-numbered p q xs 1 (λ k less. let e : k + 1 ≡ 1 + k = omega arith in each k (omega (arith, less, long)) ∙ ap q e)
    ∙ ap (λ n. list_all q (numbers 1 n)) long

-- all of a phase has come exactly where each initiator's place is the end
pub all_come : (lines : List Line) (walk : kept.Walk) (w : Walk) (k : Keeps lines walk w) (a : IsAhead lines walk.stop walk.next w.place)
    → list_all (λ at. at == walk.stop) walk.next ≡ list_all (λ i. is_empty (left_of w.place.came a.waiting i)) initiators
all_come lines walk w k a =
    all_eight (λ at. at == walk.stop) (λ i. is_empty (left_of w.place.came a.waiting i)) walk.next k.eight
    (λ j less. none_left lines (j + 1) (slice_index walk.next j) walk.stop (left_of w.place.came a.waiting (j + 1)) k.bound (a.each j less))

no-world : (over world : Bool) → (not over && not world) ≡ true → (over ≡ false) × (world ≡ false)
no-world false false e = (refl, refl)
no-world false true e = absurd (cc)
no-world true world e = absurd (cc)

a-world : (over world : Bool) → (not over && not world) ≡ false → (over ≡ true) ⊎ ((over ≡ false) × (world ≡ true))
a-world true world e = inl refl
a-world false true e = inr (refl, refl)
a-world false false e = absurd (cc)

-- a phase is ahead
pub phase_of : (lines : List Line) (walk : kept.Walk) (w : Walk) → Keeps lines walk w → is_phase_ahead lines walk ≡ true
    → (a : IsAhead lines walk.stop walk.next w.place) × (w.place.ahead ≡ Phase a.waiting ∷ parts_past (drop walk.stop lines))
phase_of lines walk w k is =
    let parts = no-world walk.is_over (begins_with is_world (drop walk.stop lines)) is in
    let a = ahead_of lines walk w k parts.0 in
    (a, a.ahead ∙ phase_first a.waiting (drop walk.stop lines) a.stops parts.1)

-- or none: nothing is, or something that happens from outside
pub no_phase_of : (lines : List Line) (walk : kept.Walk) (w : Walk) → Keeps lines walk w → is_phase_ahead lines walk ≡ false
    → (w.place.ahead ≡ []) ⊎ ((event : Event) × (parts : List Part) × (w.place.ahead ≡ Outside event ∷ parts))
no_phase_of lines walk w k is = elim (a-world walk.is_over (begins_with is_world (drop walk.stop lines)) is) [
  | inl over ↦ inl (nothing_of lines walk w k over)
  | inr more ↦
      let a = ahead_of lines walk w k more.0 in
      let first = event_first a.waiting (drop walk.stop lines) more.1 in
      inr (first.0, parts_behind a.waiting first.1, a.ahead ∙ first.3)
]

-- whether the phase that is ahead is done
pub done_is : (lines : List Line) (walk : kept.Walk) (idle : Bool) (w : Walk) → Keeps lines walk w → is_phase_ahead lines walk ≡ true
    → (not walk.is_on || (idle && list_all (λ at. at == walk.stop) walk.next)) ≡ is_done_first idle w
done_is lines walk idle w k is =
    let phase = phase_of lines walk w k is in
    ap (λ (b : Bool). not b || (idle && list_all (λ at. at == walk.stop) walk.next)) k.on
    ∙ ap (λ (b : Bool). not w.on || (idle && b)) (all_come lines walk w k phase.0)
    ∙ sym (ap (done_first w.on idle w.place.came) phase.1)

pub none_is_done : (lines : List Line) (walk : kept.Walk) (idle : Bool) (w : Walk) → Keeps lines walk w → is_phase_ahead lines walk ≡ false
    → false ≡ is_done_first idle w
none_is_done lines walk idle w k is = elim (no_phase_of lines walk w k is) [
  | inl none ↦ sym (ap (done_first w.on idle w.place.came) none)
  | inr event ↦ sym (ap (done_first w.on idle w.place.came) event.2)
]

-- what is ahead where a phase begins at a place
pub phase_begins : (lines : List Line) (from stop : ℕ) (next : List ℕ) → from ≤ stop → stop ≤ length lines → BeginsWith is_stop (drop stop lines)
    → ((waiting : List Line) → parts_behind waiting (drop from lines) ≡ parts_behind (waiting ++ slice_range lines from stop) (drop stop lines))
    → ((k : ℕ) → k < 8 → StandsFirst lines (k + 1) (slice_index next k) stop (lines_of (k + 1) (slice_range lines from stop)))
    → IsAhead lines stop next (record { ahead = parts_behind [] (drop from lines); came = none_came })
phase_begins lines from stop next low high stops parts each = record {
  waiting = slice_range lines from stop;
  ahead = parts [];
  stops = stops;
  few = λ i. omega arith;
  each = each;
}

-- what is left behind a phase that ends with `go`
pub past_go : (lines : List Line) (stop : ℕ) → stop < length lines → BeginsWith is_stop (drop stop lines)
    → begins_with is_world (drop stop lines) ≡ false → parts_past (drop stop lines) ≡ parts_behind [] (drop (stop + 1) lines)
past_go lines stop less stops none =
    let first = first_item lines stop less in
    ap parts_past first.2 ∙ ap (parts_behind []) (sym (drop_next lines stop first.0 first.1 first.2))

-- an initiator's lines up to a later end, where a line stands between that is none of it
more-left : (lines : List Line) (i at stop later : ℕ) (event : Event) (rest : List Line) → at ≤ stop → stop < later
    → drop stop lines ≡ World event ∷ rest
    → lines_of i (slice_range lines at later) ≡ lines_of i (slice_range lines at stop) ++ lines_of i (slice_range lines (stop + 1) later)
more-left lines i at stop later event rest low high is =
    ap (lines_of i) (range_join lines at stop later low (omega (arith, high))) ∙ filter-append (is_from i) (slice_range lines at stop) (slice_range lines stop later)
    ∙ ap (λ l. lines_of i (slice_range lines at stop) ++ lines_of i l) (range_front lines stop later (World event) rest high is)

-- what is ahead behind a world line
pub event_past : (lines : List Line) (stop later : ℕ) (next after : List ℕ) (place : Place) (event : Event) (rest : List Line)
    → (a : IsAhead lines stop next place) → drop stop lines ≡ World event ∷ rest → stop < later → BeginsWith is_stop (drop later lines)
    → ((waiting : List Line) → parts_behind waiting (drop (stop + 1) lines) ≡ parts_behind (waiting ++ slice_range lines (stop + 1) later) (drop later lines))
    → ((k : ℕ) → k < 8 → StandsFirst lines (k + 1) (slice_index after k) later (lines_of (k + 1) (slice_range lines (slice_index next k) later)))
    → IsAhead lines later after (record place { ahead = drop 1 place.ahead })
event_past lines stop later next after place event rest a is high stops parts each =
    let more = slice_range lines (stop + 1) later in
    let first : place.ahead ≡ Outside event ∷ parts_behind a.waiting rest = a.ahead ∙ ap (parts_behind a.waiting) is in
    let behind : drop 1 place.ahead ≡ parts_behind a.waiting (drop (stop + 1) lines) =
    ap (drop 1) first ∙ ap (parts_behind a.waiting) (sym (drop_next lines stop (World event) rest is)) in
    let all : (i : ℕ) → lines_of i (a.waiting ++ more) ≡ lines_of i a.waiting ++ lines_of i more = λ i. filter-append (is_from i) a.waiting more in
    record {
      waiting = a.waiting ++ more;
      ahead = behind ∙ parts a.waiting;
      stops = stops;
      few = λ i. let e = ap length (all i) ∙ length-append (lines_of i a.waiting) (lines_of i more) in omega (arith, a.few i, e);
      each = λ k less.
          let i = k + 1 in
          let old = a.each k less in
          let P : List Line → Type 0 = λ l. StandsFirst lines i (slice_index after k) later l in
          subst P
          (more-left lines i (slice_index next k) stop later event rest old.within high is
          ∙ ap (λ l. l ++ lines_of i more) (sym old.are)
          ∙ sym (ap (drop (place.came i)) (all i) ∙ drop-append-le (place.came i) (lines_of i a.waiting) (lines_of i more) (a.few i)))
          (each k less);
    }

decided : (b : Bool) → (b ≡ true) ⊎ (b ≡ false)
decided true = inl refl
decided false = inr refl

-- what is ahead once one line more of an initiator has come
pub line_past : (lines : List Line) (stop : ℕ) (next : List ℕ) (place : Place) (k at : ℕ) → stop ≤ length lines → length next ≡ 8
    → (a : IsAhead lines stop next place) → k < 8 → slice_index next k < stop
    → StandsFirst lines (k + 1) at stop (lines_of (k + 1) (slice_range lines (slice_index next k + 1) stop))
    → IsAhead lines stop (set next k at) (record place { came = put_at (k + 1) (place.came (k + 1) + 1) place.came })
line_past lines stop next place k at bound long a small more new =
    let i = k + 1 in
    let came = put_at i (place.came i + 1) place.came in
    let first = first_item lines (slice_index next k) (omega (arith, more, bound)) in
    let own = lines_of i a.waiting in
    let left = first_is lines i (slice_index next k) stop (left_of place.came a.waiting i) first.0 first.1 (a.each k small) more first.2 in
    let some : place.came i + 1 ≤ length own =
    let e = length-drop (place.came i) own in let f = ap length left in omega (arith, e, f) in
    let behind : drop (place.came i + 1) own ≡ lines_of i (slice_range lines (slice_index next k + 1) stop) =
    sym (drop-drop 1 (place.came i) own) ∙ ap (drop 1) left in
    record {
      waiting = a.waiting;
      ahead = a.ahead;
      stops = a.stops;
      few = λ j. elim (decided (j == i)) [
        | inl same ↦
            let e = eqb-true j i same in
            let c : came j ≡ place.came i + 1 = ap (λ (b : Bool). cond b (place.came i + 1) (place.came j)) same in
            let l : length (lines_of j a.waiting) ≡ length own = ap (λ n. length (lines_of n a.waiting)) e in
            omega (arith, c, l, some)
        | inr other ↦
            let c : came j ≡ place.came j = ap (λ (b : Bool). cond b (place.came i + 1) (place.came j)) other in
            omega (arith, c, a.few j)
      ];
      each = λ j less. elim (decided (j == k)) [
        | inl same ↦
            let e = eqb-true j k same in
            let here : slice_index (set next k at) j ≡ at =
            ap (λ n. get_or (set next k at) n 0) e ∙ get_or-set_same next k at 0 (omega (arith, long, small)) in
            let c : came (j + 1) ≡ place.came i + 1 =
            ap (λ (b : Bool). cond b (place.came i + 1) (place.came (j + 1))) (eq-eqb (j + 1) i (ap (λ n. n + 1) e)) in
            let l : left_of came a.waiting (j + 1) ≡ lines_of i (slice_range lines (slice_index next k + 1) stop) =
            ap (λ n. drop n (lines_of (j + 1) a.waiting)) c ∙ ap (λ n. drop (place.came i + 1) (lines_of (n + 1) a.waiting)) e ∙ behind in
            let P : List Line → Type 0 = λ l. StandsFirst lines (j + 1) (slice_index (set next k at) j) stop l in
            let Q : ℕ → Type 0 = λ n. StandsFirst lines (n + 1) at stop (lines_of i (slice_range lines (slice_index next k + 1) stop)) in
            let R : ℕ → Type 0 = λ n. StandsFirst lines (j + 1) n stop (lines_of i (slice_range lines (slice_index next k + 1) stop)) in
            subst P (sym l) (subst R (sym here) (subst Q (sym e) new))
        | inr other ↦
            let ne : j ≡ k → ⊥ = λ e. false≢true (sym other ∙ eq-eqb j k e) in
            let here : slice_index (set next k at) j ≡ slice_index next j = get_or-set_other next k j at 0 ne in
            let c : came (j + 1) ≡ place.came (j + 1) =
            ap (λ (b : Bool). cond b (place.came i + 1) (place.came (j + 1))) (ne_eqb (j + 1) i (λ e. ne (omega (arith, e)))) in
            let P : ℕ → Type 0 = λ n. StandsFirst lines (j + 1) (slice_index (set next k at) j) stop (drop n (lines_of (j + 1) a.waiting)) in
            let R : ℕ → Type 0 = λ n. StandsFirst lines (j + 1) n stop (left_of place.came a.waiting (j + 1)) in
            subst P (sym c) (subst R (sym here) (a.each j less))
      ];
    }

-- whether what came by an entry is its sender's next line, by where that stands
pub sent_next : (lines : List Line) (walk : kept.Walk) (w : Walk) (e : Entry) (k : ℕ) (line : Line) → Keeps lines walk w
    → is_phase_ahead lines walk ≡ true → k < 8 → slice_index walk.next k < walk.stop → (rest : List Line) → drop (slice_index walk.next k) lines ≡ line ∷ rest
    → tells_first e (next_lines w.place.came w.place.ahead (k + 1)) ≡ tells e line
sent_next lines walk w e k line keeps is small less rest at =
    let phase = phase_of lines walk w keeps is in
    ap (λ (p : List Part). tells_first e (next_lines w.place.came p (k + 1))) phase.1
    ∙ ap (tells_first e) (first_is lines (k + 1) (slice_index walk.next k) walk.stop (left_of w.place.came phase.0.waiting (k + 1)) line rest (phase.0.each k small) less at)

pub none_sent : (lines : List Line) (walk : kept.Walk) (w : Walk) (k : ℕ) → Keeps lines walk w
    → is_phase_ahead lines walk ≡ true → k < 8 → walk.stop ≤ slice_index walk.next k
    → next_lines w.place.came w.place.ahead (k + 1) ≡ []
none_sent lines walk w k keeps is small le =
    let phase = phase_of lines walk w keeps is in
    ap (λ (p : List Part). next_lines w.place.came p (k + 1)) phase.1
    ∙ none_is lines (k + 1) (slice_index walk.next k) walk.stop (left_of w.place.came phase.0.waiting (k + 1)) (phase.0.each k small) le

pub none_without_phase : (lines : List Line) (walk : kept.Walk) (w : Walk) (i : ℕ) → Keeps lines walk w → is_phase_ahead lines walk ≡ false
    → next_lines w.place.came w.place.ahead i ≡ []
none_without_phase lines walk w i keeps is = elim (no_phase_of lines walk w keeps is) [
  | inl none ↦ ap (λ (p : List Part). next_lines w.place.came p i) none
  | inr event ↦ ap (λ (p : List Part). next_lines w.place.came p i) event.2
]

-- whether the phase that is ahead is done, case by case
pub done_off : (lines : List Line) (walk : kept.Walk) (idle : Bool) (w : Walk) → is_phase_ahead lines walk ≡ true → walk.is_on ≡ false
    → Keeps lines walk w → true ≡ is_done_first idle w
done_off lines walk idle w is off k =
    sym (ap (λ (b : Bool). not b || (idle && list_all (λ at. at == walk.stop) walk.next)) off) ∙ done_is lines walk idle w k is

pub done_busy : (lines : List Line) (walk : kept.Walk) (idle : Bool) (w : Walk) → is_phase_ahead lines walk ≡ true → walk.is_on ≡ true → idle ≡ false
    → Keeps lines walk w → false ≡ is_done_first idle w
done_busy lines walk idle w is on busy k =
    sym (ap (λ (b : Bool). not b || (idle && list_all (λ at. at == walk.stop) walk.next)) on
    ∙ ap (λ (b : Bool). b && list_all (λ at. at == walk.stop) walk.next) busy) ∙ done_is lines walk idle w k is

pub done_come : (lines : List Line) (walk : kept.Walk) (idle come : Bool) (w : Walk) → is_phase_ahead lines walk ≡ true → walk.is_on ≡ true → idle ≡ true
    → come ≡ list_all (λ at. at == walk.stop) walk.next → Keeps lines walk w → come ≡ is_done_first idle w
done_come lines walk idle come w is on free told k =
    told ∙ sym (ap (λ (b : Bool). not b || (idle && list_all (λ at. at == walk.stop) walk.next)) on
    ∙ ap (λ (b : Bool). b && list_all (λ at. at == walk.stop) walk.next) free) ∙ done_is lines walk idle w k is

-- at the start
pub keeps_first : (lines : List Line) (stop : ℕ) (next : List ℕ) → stop ≤ length lines → BeginsWith is_stop (drop stop lines) → length next ≡ 8
    → ((waiting : List Line) → parts_behind waiting (drop 0 lines) ≡ parts_behind (waiting ++ slice_range lines 0 stop) (drop stop lines))
    → ((k : ℕ) → k < 8 → StandsFirst lines (k + 1) (slice_index next k) stop (lines_of (k + 1) (slice_range lines 0 stop)))
    → Keeps lines (record { stop = stop; next = next; is_over = false; is_on = true; is_armed = false }) (walk_at_start lines)
keeps_first lines stop next high stops eight parts each = record {
  on = refl;
  armed = refl;
  bound = high;
  eight = eight;
  place = phase_begins lines 0 stop next (omega arith) high stops parts each;
}

-- behind the last phase
pub last_past : (lines : List Line) (old : kept.Walk) (w : Walk) → Keeps lines old w → is_phase_ahead lines old ≡ true → old.stop ≡ length lines
    → Keeps lines (record old { is_over = true }) (past_first w)
last_past lines old w k is end =
    let phase = phase_of lines old w k is in
    record {
      on = k.on;
      armed = k.armed;
      bound = k.bound;
      eight = k.eight;
      place = ap (drop 1) phase.1 ∙ ap parts_past (drop_all old.stop lines (omega (arith, end)));
    }

-- behind a phase with more lines
pub phase_past : (lines : List Line) (old : kept.Walk) (w : Walk) (stop : ℕ) (next : List ℕ) → Keeps lines old w → is_phase_ahead lines old ≡ true
    → (old.stop ≡ length lines → ⊥) → old.stop + 1 ≤ stop → stop ≤ length lines → BeginsWith is_stop (drop stop lines)
    → ((waiting : List Line) → parts_behind waiting (drop (old.stop + 1) lines) ≡ parts_behind (waiting ++ slice_range lines (old.stop + 1) stop) (drop stop lines))
    → length next ≡ 8
    → ((k : ℕ) → k < 8 → StandsFirst lines (k + 1) (slice_index next k) stop (lines_of (k + 1) (slice_range lines (old.stop + 1) stop)))
    → Keeps lines (record old { stop = stop; next = next }) (past_first w)
phase_past lines old w stop next k is more low high stops parts eight each =
    let split = no-world-of old is in
    let phase = phase_of lines old w k is in
    let bound = k.bound in
    let less : old.stop < length lines = elim (at-or-before old.stop (length lines) bound) [ inl l ↦ l | inr e ↦ absurd (more e) ] in
    let here : drop 1 w.place.ahead ≡ parts_behind [] (drop (old.stop + 1) lines) =
    ap (drop 1) phase.1 ∙ past_go lines old.stop less phase.0.stops split.1 in
    let Q : List Part → Type 0 = λ p. IsAhead lines stop next (record { ahead = p; came = none_came }) in
    let P : Bool → Type 0 = λ b. IsPlace b lines stop next (past_first w).place in
    record {
      on = k.on;
      armed = k.armed;
      bound = high;
      eight = eight;
      place = subst P (sym split.0) (subst Q (sym here) (phase_begins lines (old.stop + 1) stop next low high stops parts each));
    }
  where
    no-world-of : (old : kept.Walk) → is_phase_ahead lines old ≡ true → (old.is_over ≡ false) × (begins_with is_world (drop old.stop lines) ≡ false)
    no-world-of old is = no-world old.is_over (begins_with is_world (drop old.stop lines)) is

-- behind what happened from outside
pub outside_past : (lines : List Line) (old : kept.Walk) (w : Walk) (stop : ℕ) (next : List ℕ) → Keeps lines old w → old.is_over ≡ false
    → begins_with is_world (drop old.stop lines) ≡ true → old.stop + 1 ≤ stop → stop ≤ length lines → BeginsWith is_stop (drop stop lines)
    → ((waiting : List Line) → parts_behind waiting (drop (old.stop + 1) lines) ≡ parts_behind (waiting ++ slice_range lines (old.stop + 1) stop) (drop stop lines))
    → length next ≡ 8
    → ((k : ℕ) → k < 8 → StandsFirst lines (k + 1) (slice_index next k) stop (lines_of (k + 1) (slice_range lines (slice_index old.next k) stop)))
    → Keeps lines (record old { stop = stop; next = next }) (record w { place = record w.place { ahead = drop 1 w.place.ahead } })
outside_past lines old w stop next k more is low high stops parts eight each =
    let a = ahead_of lines old w k more in
    let first = event_first a.waiting (drop old.stop lines) is in
    let P : Bool → Type 0 = λ b. IsPlace b lines stop next (record w.place { ahead = drop 1 w.place.ahead }) in
    record {
      on = k.on;
      armed = k.armed;
      bound = high;
      eight = eight;
      place = subst P (sym more) (event_past lines old.stop stop old.next next w.place first.0 first.1 a first.2 (omega (arith, low)) stops parts each);
    }

-- one line more of an initiator came
pub sender_past : (lines : List Line) (old : kept.Walk) (w : Walk) (k at : ℕ) → Keeps lines old w → not (is_empty (next_lines w.place.came w.place.ahead (k + 1))) ≡ true
    → k < 8 → slice_index old.next k < old.stop
    → StandsFirst lines (k + 1) at old.stop (lines_of (k + 1) (slice_range lines (slice_index old.next k + 1) old.stop))
    → Keeps lines (record old { next = set old.next k at }) (record w { place = record w.place { came = put_at (k + 1) (w.place.came (k + 1) + 1) w.place.came } })
sender_past lines old w k at keeps some small less new =
    let P : Bool → Type 0 = λ b. IsPlace b lines old.stop (set old.next k at) (record w.place { came = put_at (k + 1) (w.place.came (k + 1) + 1) w.place.came }) in
    record {
      on = keeps.on;
      armed = keeps.armed;
      bound = keeps.bound;
      eight = length-set old.next k at ∙ keeps.eight;
      place = elim (decided old.is_over) [
        | inl over ↦
            let none = ap (λ (p : List Part). not (is_empty (next_lines w.place.came p (k + 1)))) (nothing_of lines old w keeps over) in
            absurd (false≢true (sym none ∙ some))
        | inr more ↦ subst P (sym more) (line_past lines old.stop old.next w.place k at keeps.bound keeps.eight (ahead_of lines old w keeps more) small less new)
      ];
    }

-- where an initiator has a line left, it stands before the end
pub some_left : (lines : List Line) (old : kept.Walk) (w : Walk) (k : ℕ) → Keeps lines old w → not (is_empty (next_lines w.place.came w.place.ahead (k + 1))) ≡ true
    → k < 8 → (slice_index old.next k < old.stop → ⊥) → ⊥
some_left lines old w k keeps some small none = elim (decided (is_phase_ahead lines old)) [
  | inl is ↦
      let gone = none_sent lines old w k keeps is small (omega (arith, none)) in
      false≢true (sym (ap (λ (l : List Line). not (is_empty l)) gone) ∙ some)
  | inr is ↦
      let gone = none_without_phase lines old w (k + 1) keeps is in
      false≢true (sym (ap (λ (l : List Line). not (is_empty l)) gone) ∙ some)
]

-- a line that isn't the initiator's is passed over
pub seek_more : (lines : List Line) (i place stop : ℕ) (line : Line) → place < stop → stop ≤ length lines → line ≡ get_or lines place line
    → is_from i line ≡ false → lines_of i (slice_range lines place stop) ≡ lines_of i (slice_range lines (place + 1) stop)
seek_more lines i place stop line less bound is other =
    let rest = drop (place + 1) lines in
    let left : drop place lines ≡ line ∷ rest = drop_more lines place line (omega (arith, less, bound)) ∙ ap (λ x. x ∷ rest) (sym is) in
    let more = slice_range lines (place + 1) stop in
    ap (lines_of i) (range_front lines place stop line rest less left)
    ∙ ap (λ (b : Bool). cond b (line ∷ lines_of i more) (lines_of i more)) other

-- one line more that waits
pub waits_more : (lines : List Line) (from place : ℕ) (line : Line) (waiting : List Line) → from ≤ place → place < length lines
    → line ≡ get_or lines place line → is_stop line ≡ false
    → parts_behind (waiting ++ slice_range lines from place) (drop place lines)
    ≡ parts_behind (waiting ++ slice_range lines from (place + 1)) (drop (place + 1) lines)
waits_more lines from place line waiting low less is other =
    let rest = drop (place + 1) lines in
    let so_far = slice_range lines from place in
    let left : drop place lines ≡ line ∷ rest = drop_more lines place line less ∙ ap (λ x. x ∷ rest) (sym is) in
    let longer : slice_range lines from (place + 1) ≡ so_far ++ line ∷ [] =
    range_more lines from place line low less ∙ ap (λ x. so_far ++ x ∷ []) (sym is) in
    ap (parts_behind (waiting ++ so_far)) left ∙ one_waits (waiting ++ so_far) line rest other
    ∙ ap (λ l. parts_behind l rest) (append_assoc waiting so_far (line ∷ []) ∙ ap (λ l. waiting ++ l) (sym longer))

-- an entry tells a first line only where there is one
pub tells_some : (entry : Entry) (lines : List Line) → tells_first entry lines ≡ true → not (is_empty lines) ≡ true
tells_some entry [] is = absurd (cc)
tells_some entry (line ∷ lines) is = refl

-- the power and the arm of a walk, whatever its place
pub keeps_power : (lines : List Line) (old : kept.Walk) (w : Walk) (on armed kept_on kept_armed : Bool) → Keeps lines old w → kept_on ≡ on → kept_armed ≡ armed
    → Keeps lines (record old { is_on = kept_on; is_armed = kept_armed }) (record w { on = on; armed = armed })
keeps_power lines old w on armed kept_on kept_armed k same_on same_armed = record {
  on = same_on;
  armed = same_armed;
  bound = k.bound;
  eight = k.eight;
  place = k.place;
}
