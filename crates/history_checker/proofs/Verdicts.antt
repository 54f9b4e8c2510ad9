-- The first flaw of turns, as they are gone through.
use Rattle.std.proofs.Common.{◌≡◌, ◌∙◌, ap, sym, refl, subst, ℕ, ◌+◌, ◌<◌, ◌≤◌, Bool, true, false, cond, List, [], ◌∷◌, ◌++◌, length, get_or, drop, take, arith}
use Rattle.std.specs.Prelude.{◌&&◌, ◌↔◌, IsTrue, fold, Option, Some, None, unwrap_or}
use Rattle.std.proofs.lemmas.Bool.{and_parts}
use Rattle.std.proofs.lemmas.List.{drop_all, drop_more, length-take-le, take-append-drop, take_all}
use Rattle.disk_base.specs.Along.{all_along, first_failing}
use Rattle.block_machine.specs.declared.turn.Turn.{Turn}
use Rattle.block_machine.specs.Turns.{turn_after, turn_lawful}
use Rattle.script_text.specs.declared.script.Line.{Line}
use Rattle.script_text.specs.declared.script.Script.{Script}
use Rattle.history_replay.specs.declared.monitor.Monitor.{Monitor}
use Rattle.history_replay.specs.Monitor.{Follows, Judges}
use Rattle.history_checker.specs.declared.verdict.Flaw.TheVariants.{Order, Step, Left}
use Rattle.history_checker.specs.declared.verdict.Verdict.{Verdict}
use Rattle.history_checker.specs.declared.verdict.Verdict.TheVariants.{Yes, No}
use Rattle.history_checker.specs.declared.walk.Walk as kept
use Rattle.history_checker.specs.Good.{Course, array_good, course_after, course_at_start, course_of, flaw_behind, flaw_next, is_finished, is_good, is_idle, may_come, no_at, turns_allowed, verdict_by, verdict_of}
use Rattle.history_checker.specs.Parts.{capacity_of}
use Rattle.history_checker.specs.Standing.{Keeps}
use Rattle.history_checker.specs.Walk.{Walk, advanced, allows, is_empty, settled, walk_allows}
use Rattle.history_checker.proofs.Courses.{Passes, fails_at, first_behind, none_fails, none_first, passes_more}

-- so many turns have come, and what is kept stands for what they have come to
pub record Stands (capacity : ℕ) (lines : List Line) (monitor : Monitor) (walk : kept.Walk) (turns : List Turn) (k : ℕ) : Type 0 where
  pub course : Course
  pub follows : Follows capacity monitor course.history
  pub keeps : Keeps lines walk course.walk
  pub passes : Passes (course_after capacity) (may_come capacity) (course_at_start lines) turns k course

module _ (capacity : ℕ) (lines : List Line) (turns : List Turn) where
  abbrev start : Course
  start = course_at_start lines

  -- the verdict where the first flaw stands behind so many turns
  behind : (n : ℕ) (c : Course) (rest : List Turn) → turns_allowed capacity lines turns ≡ n → course_of capacity lines (take n turns) ≡ c
      → drop n turns ≡ rest → verdict_by capacity lines turns ≡ no_at n (flaw_next c rest)
  behind n c rest so_many come left =
      ap (flaw_behind capacity lines turns) so_many ∙ ap (λ x. no_at n (flaw_next x (drop n turns))) come ∙ ap (λ l. no_at n (flaw_next c l)) left

  -- at a turn that may not come
  pub flaw_here : (k : ℕ) (c : Course) (t : Turn) → k < length turns → t ≡ get_or turns k t → may_come capacity c t ≡ false
      → Passes (course_after capacity) (may_come capacity) start turns k c
      → verdict_by capacity lines turns ≡ No (k + 1) (cond (walk_allows (is_idle c.history) c.walk t) Step Order)
  flaw_here k c t less is not_so so =
      let rest = drop (k + 1) turns in
      let left : drop k turns ≡ t ∷ rest = drop_more turns k t less ∙ ap (λ x. x ∷ rest) (sym is) in
      let whole : turns ≡ take k turns ++ t ∷ rest = sym (take-append-drop k turns) ∙ ap (λ l. take k turns ++ l) left in
      let first : first_failing (course_after capacity) (may_come capacity) start turns ≡ Some k =
      ap (first_failing (course_after capacity) (may_come capacity) start) whole
      ∙ first_behind (course_after capacity) (may_come capacity) start (take k turns) t rest so.0 (ap (λ x. may_come capacity x t) so.1 ∙ not_so)
      ∙ ap Some (length-take-le k turns (omega (arith, less))) in
      behind k c (t ∷ rest) (ap (λ o. unwrap_or o (length turns)) first) so.1 left

  -- behind the last turn
  pub flaw_end : (k : ℕ) (c : Course) → length turns ≤ k → Passes (course_after capacity) (may_come capacity) start turns k c
      → verdict_by capacity lines turns ≡ no_at (length turns) (cond (is_finished c) None (Some Left))
  flaw_end k c all so =
      let whole : take k turns ≡ turns = take_all k turns all in
      let none : first_failing (course_after capacity) (may_come capacity) start turns ≡ None =
      none_first (course_after capacity) (may_come capacity) start turns (ap (all_along (course_after capacity) (may_come capacity) start) (sym whole) ∙ so.0) in
      behind (length turns) c [] (ap (λ o. unwrap_or o (length turns)) none)
      (ap (fold (course_after capacity) start) (take_all (length turns) turns (omega arith) ∙ sym whole) ∙ so.1)
      (drop_all (length turns) turns (omega arith))

  finished : (c : Course) → no_at (length turns) (cond (is_finished c) None (Some Left)) ≡ Yes → is_finished c ≡ true
  finished c e = by (is_finished c) e
    where
      by : (b : Bool) → no_at (length turns) (cond b None (Some Left)) ≡ Yes → b ≡ true
      by true e = refl
      by false e = absurd (cc)

  -- the verdict is Yes exactly where the script allows the turns
  pub yes_where_good : (verdict_by capacity lines turns ≡ Yes) ↔ IsTrue (is_good capacity lines turns)
  yes_where_good = (there, back)
    where
      all_whole : all_along (course_after capacity) (may_come capacity) start turns ≡ true
          → Passes (course_after capacity) (may_come capacity) start turns (length turns) (course_of capacity lines turns)
      all_whole all =
          let whole = take_all (length turns) turns (omega arith) in
          (ap (all_along (course_after capacity) (may_come capacity) start) whole ∙ all, ap (fold (course_after capacity) start) whole)

      by : (o : Option ℕ) → first_failing (course_after capacity) (may_come capacity) start turns ≡ o → verdict_by capacity lines turns ≡ Yes
          → IsTrue (is_good capacity lines turns)
      by None is it_is =
          let all = none_fails (course_after capacity) (may_come capacity) start turns is in
          let c = course_of capacity lines turns in
          ap (λ (b : Bool). b && is_finished c) all ∙ finished c (sym (flaw_end (length turns) c (omega arith) (all_whole all)) ∙ it_is)
      by (Some k) is it_is =
          let here = fails_at (course_after capacity) (may_come capacity) start turns k is in
          let c = course_of capacity lines (take k turns) in
          let e = sym (behind k c (here.0 ∷ here.1) (ap (λ o. unwrap_or o (length turns)) is) refl here.2) ∙ it_is in
          absurd (cc)

      there : verdict_by capacity lines turns ≡ Yes → IsTrue (is_good capacity lines turns)
      there it_is = by (first_failing (course_after capacity) (may_come capacity) start turns) refl it_is

      back : IsTrue (is_good capacity lines turns) → verdict_by capacity lines turns ≡ Yes
      back good =
          let c = course_of capacity lines turns in
          let parts = and_parts (all_along (course_after capacity) (may_come capacity) start turns) (is_finished c) good in
          flaw_end (length turns) c (omega arith) (all_whole parts.0) ∙ ap (λ (b : Bool). no_at (length turns) (cond b None (Some Left))) parts.1

-- before the first turn
pub stands_first : (capacity : ℕ) (lines : List Line) (monitor : Monitor) (walk : kept.Walk) (turns : List Turn)
    → Follows capacity monitor (course_at_start lines).history → Keeps lines walk (course_at_start lines).walk → Stands capacity lines monitor walk turns 0
stands_first capacity lines monitor walk turns follows keeps =
    record { course = course_at_start lines; follows = follows; keeps = keeps; passes = (refl, refl) }

-- the walk is behind the phases that are done
pub settled_keeps : (lines : List Line) (walk : kept.Walk) (c : Course) (idle : Bool) → idle ≡ is_idle c.history → Keeps lines walk (settled idle c.walk)
    → Keeps lines walk (settled (is_idle c.history) c.walk)
settled_keeps lines walk c idle is keeps = let P : Bool → Type 0 = λ b. Keeps lines walk (settled b c.walk) in subst P is keeps

-- a turn that the script doesn't ask for
pub order_flaw : (capacity : ℕ) (lines : List Line) (monitor : Monitor) (walk : kept.Walk) (turns : List Turn) (k : ℕ) (t : Turn) (allowed : Bool)
    → (st : Stands capacity lines monitor walk turns k) → k < length turns → t ≡ get_or turns k t
    → allowed ≡ walk_allows (is_idle st.course.history) st.course.walk t → allowed ≡ false → verdict_by capacity lines turns ≡ No (k + 1) Order
order_flaw capacity lines monitor walk turns k t allowed st less is told not_so =
    let c = st.course in
    let w : walk_allows (is_idle c.history) c.walk t ≡ false = sym told ∙ not_so in
    flaw_here capacity lines turns k c t less is (ap (λ (b : Bool). b && turn_lawful capacity c.history t) w) st.passes
    ∙ ap (λ (b : Bool). No (k + 1) (cond b Step Order)) w

-- one that no history has there
pub step_flaw : (capacity : ℕ) (lines : List Line) (monitor : Monitor) (walk : kept.Walk) (turns : List Turn) (k : ℕ) (t : Turn) (allowed may : Bool)
    → (st : Stands capacity lines monitor walk turns k) → k < length turns → t ≡ get_or turns k t
    → allowed ≡ walk_allows (is_idle st.course.history) st.course.walk t → allowed ≡ true
    → may ≡ turn_lawful capacity st.course.history t → may ≡ false → verdict_by capacity lines turns ≡ No (k + 1) Step
step_flaw capacity lines monitor walk turns k t allowed may st less is told it_is judged not_so =
    let c = st.course in
    let w : walk_allows (is_idle c.history) c.walk t ≡ true = sym told ∙ it_is in
    flaw_here capacity lines turns k c t less is (ap (λ (b : Bool). b && turn_lawful capacity c.history t) w ∙ (sym judged ∙ not_so)) st.passes
    ∙ ap (λ (b : Bool). No (k + 1) (cond b Step Order)) w

-- a turn that may come
pub stands_more : (capacity : ℕ) (lines : List Line) (monitor after : Monitor) (walk next : kept.Walk) (turns : List Turn) (k : ℕ) (t : Turn) (allowed may : Bool)
    → (st : Stands capacity lines monitor walk turns k) → k < length turns → t ≡ get_or turns k t
    → allowed ≡ walk_allows (is_idle st.course.history) st.course.walk t → allowed ≡ true
    → may ≡ turn_lawful capacity st.course.history t → may ≡ true
    → Follows capacity after (turn_after capacity st.course.history t)
    → Keeps lines next (advanced (settled (is_idle st.course.history) st.course.walk) t) → Stands capacity lines after next turns (k + 1)
stands_more capacity lines monitor after walk next turns k t allowed may st less is told it_is judged came follows keeps =
    let c = st.course in
    record {
      course = course_after capacity c t;
      follows = follows;
      keeps = keeps;
      passes = passes_more (course_after capacity) (may_come capacity) (course_at_start lines) c turns k t less is
          (ap (λ (b : Bool). b && turn_lawful capacity c.history t) (sym told ∙ it_is) ∙ (sym judged ∙ came)) st.passes;
    }

-- behind the last
pub end_is : (capacity : ℕ) (lines : List Line) (monitor : Monitor) (walk : kept.Walk) (turns : List Turn) (k : ℕ) (over : Bool)
    → (st : Stands capacity lines monitor walk turns k) → length turns ≤ k → over ≡ is_finished st.course
    → verdict_by capacity lines turns ≡ no_at (length turns) (cond over None (Some Left))
end_is capacity lines monitor walk turns k over st all is =
    flaw_end capacity lines turns k st.course all st.passes ∙ ap (λ (b : Bool). no_at (length turns) (cond b None (Some Left))) (sym is)

pub over_yes : (n : ℕ) (over : Bool) → over ≡ true → no_at n (cond over None (Some Left)) ≡ Yes
over_yes n over is = ap (λ (b : Bool). no_at n (cond b None (Some Left))) is

pub left_no : (n : ℕ) (over : Bool) → over ≡ false → no_at n (cond over None (Some Left)) ≡ No (n + 1) Left
left_no n over is = ap (λ (b : Bool). no_at n (cond b None (Some Left))) is

-- a verdict that is the definition's is Yes exactly where the script allows the turns
pub answers : (script : Script) (turns : List Turn) (verdict : Verdict) → verdict ≡ verdict_of script turns
    → (verdict ≡ Yes) ↔ IsTrue (array_good script turns)
answers script turns verdict is =
    let both = yes_where_good (capacity_of script) script.lines turns in
    (λ it_is. both.0 (sym is ∙ it_is), λ good. is ∙ both.1 good)

module _ (script : Script) (turns : List Turn) (lines : List Line) (same : lines ≡ script.lines) where
  abbrev blocks : ℕ
  blocks = capacity_of script

  by-lines : (verdict : Verdict) → verdict_by blocks lines turns ≡ verdict → verdict ≡ verdict_of script turns
  by-lines verdict is = sym is ∙ ap (λ (l : List Line). verdict_by blocks l turns) same

  module _ (monitor : Monitor) (walk after : kept.Walk) (k : ℕ) (t : Turn) (idle allowed : Bool) (st : Stands blocks lines monitor walk turns k)
      (less : k < length turns) (here : t ≡ get_or turns k t) (free : idle ≡ is_idle st.course.history)
      (keeps : Keeps lines after (settled idle st.course.walk)) (told : (w : Walk) → Keeps lines after w → allowed ≡ allows w t) where
    abbrev walked : Walk
    walked = settled (is_idle st.course.history) st.course.walk

    at-walked : Keeps lines after walked
    at-walked = settled_keeps lines after st.course idle free keeps

    -- the script doesn't ask for the turn
    pub order_told : allowed ≡ false → No (k + 1) Order ≡ verdict_of script turns
    order_told not_so =
        by-lines (No (k + 1) Order) (order_flaw blocks lines monitor walk turns k t allowed st less here (told walked at-walked) not_so)

    module _ (next : Monitor) (may : Bool) (judges : Judges t monitor next may) (allows-it : allowed ≡ true) where
      -- a history doesn't have it there
      pub step_told : may ≡ false → No (k + 1) Step ≡ verdict_of script turns
      step_told not_so =
          by-lines (No (k + 1) Step)
          (step_flaw blocks lines monitor walk turns k t allowed may st less here (told walked at-walked) allows-it (judges blocks st.course.history st.follows).0 not_so)

      -- it comes
      pub one_more : (behind : kept.Walk) → may ≡ true → ((w : Walk) → Keeps lines after w → IsTrue (allows w t) → Keeps lines behind (advanced w t))
          → Stands blocks lines next behind turns (k + 1)
      one_more behind came goes =
          let judged = judges blocks st.course.history st.follows in
          let yes-told = told walked at-walked in
          stands_more blocks lines monitor next walk behind turns k t allowed may st less here yes-told allows-it judged.0 came (judged.1 came)
          (goes walked at-walked (sym yes-told ∙ allows-it))

  module _ (monitor : Monitor) (walk after : kept.Walk) (k : ℕ) (idle over : Bool) (st : Stands blocks lines monitor walk turns k)
      (all : length turns ≤ k) (free : idle ≡ is_idle st.course.history) (keeps : Keeps lines after (settled idle st.course.walk))
      (told : (w : Walk) → Keeps lines after w → over ≡ is_empty w.place.ahead) where
    ended : verdict_by blocks lines turns ≡ no_at (length turns) (cond over None (Some Left))
    ended = end_is blocks lines monitor walk turns k over st all
        (told (settled (is_idle st.course.history) st.course.walk) (settled_keeps lines after st.course idle free keeps))

    pub over_told : over ≡ true → Yes ≡ verdict_of script turns
    over_told is = by-lines Yes (ended ∙ over_yes (length turns) over is)

    pub left_told : over ≡ false → No (length turns + 1) Left ≡ verdict_of script turns
    left_told is = by-lines (No (length turns + 1) Left) (ended ∙ left_no (length turns) over is)
