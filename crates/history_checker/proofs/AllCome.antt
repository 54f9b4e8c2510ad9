-- What came of the script, initiator by initiator.
use Rattle.std.proofs.Common.{◌≡◌, ◌∙◌, ap, sym, refl, ℕ, Bool, true, false, List, [], ◌∷◌, ◌++◌, append_assoc}
use Rattle.std.specs.Prelude.{◌&&◌, ◌||◌, ◌==◌}
use Rattle.std.specs.List.{list_any}
use Rattle.std.proofs.lemmas.Bool.{and_parts}
use Rattle.std.proofs.lemmas.List.Elements.{filter-append}
use Rattle.block_machine.specs.declared.entry.Entry.{Entry}
use Rattle.block_machine.specs.declared.turn.Turn.{Turn}
use Rattle.block_machine.specs.Attentions.{initiators}
use Rattle.block_machine.specs.History.{entries_of}
use Rattle.script_text.specs.declared.script.Line.{Line}
use Rattle.script_text.specs.declared.script.Line.TheVariants as line
use Rattle.history_checker.specs.Laws.{AllHaveCome, AreOfScript, FallTo, OfGoodHistories, arrivals_from, goes_off, power_behind, tell_all, tell_front, tell_some}
use Rattle.history_checker.specs.Parts.{Part, is_from, lines_of, parts_behind}
use Rattle.history_checker.specs.Parts.Part.{Phase, Outside}
use Rattle.history_checker.specs.Same.{tells}
use Rattle.history_checker.specs.Walk.{is_arrival}
use Rattle.history_checker.proofs.Falling.{arrivals-append, left_by_cuts, none-from, split-any, stays-on}

-- an initiator's lines of all phases
abbrev lines-in : ℕ → List Part → List Line
lines-in i [] = []
lines-in i (Phase lines ∷ parts) = lines_of i lines ++ lines-in i parts
lines-in i (Outside event ∷ parts) = lines-in i parts

append-none : (l : List Line) → l ++ [] ≡ l
append-none [] = refl
append-none (x ∷ l) = ap (λ y. x ∷ y) (append-none l)

-- a line that waits
one-waits : (i : ℕ) (waiting lines : List Line) (l : Line) → lines-in i (parts_behind (waiting ++ l ∷ []) lines) ≡ lines_of i (waiting ++ l ∷ []) ++ lines_of i lines
    → lines-in i (parts_behind (waiting ++ l ∷ []) lines) ≡ lines_of i waiting ++ lines_of i (l ∷ lines)
one-waits i waiting lines l e =
    e ∙ ap (λ x. x ++ lines_of i lines) (filter-append (is_from i) waiting (l ∷ [])) ∙ append_assoc (lines_of i waiting) (lines_of i (l ∷ [])) (lines_of i lines)
    ∙ ap (λ x. lines_of i waiting ++ x) (sym (filter-append (is_from i) (l ∷ []) lines))

-- at the start
lines-at-start : (i : ℕ) (waiting lines : List Line) → lines-in i (parts_behind waiting lines) ≡ lines_of i waiting ++ lines_of i lines
lines-at-start i waiting [] = refl
lines-at-start i waiting (line.Go ∷ lines) = ap (λ l. lines_of i waiting ++ l) (lines-at-start i [] lines)
lines-at-start i waiting (line.World event ∷ lines) = lines-at-start i waiting lines
lines-at-start i waiting (line.Command j t a cdb sent ∷ lines) =
    one-waits i waiting lines (line.Command j t a cdb sent) (lines-at-start i (waiting ++ line.Command j t a cdb sent ∷ []) lines)
lines-at-start i waiting (line.Function j what ∷ lines) =
    one-waits i waiting lines (line.Function j what) (lines-at-start i (waiting ++ line.Function j what ∷ []) lines)
lines-at-start i waiting (line.Scan n ∷ lines) =
    one-waits i waiting lines (line.Scan n) (lines-at-start i (waiting ++ line.Scan n ∷ []) lines)
lines-at-start i waiting (line.Destage n ∷ lines) =
    one-waits i waiting lines (line.Destage n) (lines-at-start i (waiting ++ line.Destage n ∷ []) lines)

entries-append : (xs ys : List Turn) → entries_of (xs ++ ys) ≡ entries_of xs ++ entries_of ys
entries-append [] ys = refl
entries-append (x ∷ xs) ys = ap (λ l. x.entries ++ l) (entries-append xs ys) ∙ sym (append_assoc x.entries (entries_of xs) (entries_of ys))

-- what came by some turns and then by others
came-then : (i : ℕ) (turns now later : List Turn) → turns ≡ now ++ later
    → arrivals_from i (entries_of turns) ≡ arrivals_from i (entries_of now) ++ arrivals_from i (entries_of later)
came-then i turns now later are =
    ap (λ l. arrivals_from i (entries_of l)) are ∙ ap (arrivals_from i) (entries-append now later) ∙ arrivals-append i (entries_of now) (entries_of later)

-- and by some turns by which none came, and one more
came-later : (i : ℕ) (turns before : List Turn) (turn : Turn) (later : List Turn) → turns ≡ before ++ turn ∷ later
    → list_any is_arrival (entries_of before) ≡ false → list_any is_arrival turn.entries ≡ false
    → arrivals_from i (entries_of turns) ≡ arrivals_from i (entries_of later)
came-later i turns before turn later are none alone =
    came-then i turns before (turn ∷ later) are
    ∙ ap (λ l. l ++ arrivals_from i (turn.entries ++ entries_of later)) (none-from i (entries_of before) none)
    ∙ arrivals-append i turn.entries (entries_of later)
    ∙ ap (λ l. l ++ arrivals_from i (entries_of later)) (none-from i turn.entries alone)

-- where each tells all, both do
all-then : (xs ys : List Entry) (ls ms : List Line) → tell_all xs ls ≡ true → tell_all ys ms ≡ true → tell_all (xs ++ ys) (ls ++ ms) ≡ true
all-then [] ys [] ms first rest = rest
all-then [] ys (l ∷ ls) ms first rest = absurd (cc)
all-then (x ∷ xs) ys [] ms first rest = absurd (cc)
all-then (x ∷ xs) ys (l ∷ ls) ms first rest =
    let parts = and_parts (tells x l) (tell_all xs ls) first in
    ap (λ (b : Bool). b && tell_all (xs ++ ys) (ls ++ ms)) parts.0 ∙ all-then xs ys ls ms parts.1 rest

or-right : (b c : Bool) → c ≡ true → (b || c) ≡ true
or-right true c is = refl
or-right false c is = is

or-left : (b c : Bool) → b ≡ true → (b || c) ≡ true
or-left b c is = ap (λ (x : Bool). x || c) is

front-some : (xs : List Entry) (ls : List Line) → tell_front xs ls ≡ true → tell_some xs ls ≡ true
front-some [] ls is = refl
front-some (x ∷ xs) [] is = absurd (cc)
front-some (x ∷ xs) (l ∷ ls) is =
    let parts = and_parts (tells x l) (tell_front xs ls) is in
    or-left (tells x l && tell_some xs ls) (tell_some (x ∷ xs) ls)
    (ap (λ (b : Bool). b && tell_some xs ls) parts.0 ∙ front-some xs ls parts.1)

some-more : (xs : List Entry) (l : Line) (ls : List Line) → tell_some xs ls ≡ true → tell_some xs (l ∷ ls) ≡ true
some-more [] l ls is = refl
some-more (x ∷ xs) l ls is = or-right (tells x l && tell_some xs ls) (tell_some (x ∷ xs) ls) is

-- where each tells some, both do
some-then : (xs ys : List Entry) (ls ms : List Line) → tell_some xs ls ≡ true → tell_some ys ms ≡ true → tell_some (xs ++ ys) (ls ++ ms) ≡ true
some-then [] ys [] ms first rest = rest
some-then [] ys (l ∷ ls) ms first rest = some-more ys l (ls ++ ms) (some-then [] ys ls ms refl rest)
some-then (x ∷ xs) ys [] ms first rest = absurd (cc)
some-then (x ∷ xs) ys (l ∷ ls) ms first rest =
    by (tells x l && tell_some xs ls) refl first (λ is. some-then xs ys ls ms is rest) (λ is. some-then (x ∷ xs) ys ls ms is rest)
  where
    by : (b : Bool) → (tells x l && tell_some xs ls) ≡ b → (b || tell_some (x ∷ xs) ls) ≡ true
        → (tell_some xs ls ≡ true → tell_some (xs ++ ys) (ls ++ ms) ≡ true)
        → (tell_some (x ∷ xs) ls ≡ true → tell_some (x ∷ xs ++ ys) (ls ++ ms) ≡ true)
        → ((tells x l && tell_some (xs ++ ys) (ls ++ ms)) || tell_some (x ∷ xs ++ ys) (ls ++ ms)) ≡ true
    by true is any here past =
        let parts = and_parts (tells x l) (tell_some xs ls) is in
        or-left (tells x l && tell_some (xs ++ ys) (ls ++ ms)) (tell_some (x ∷ xs ++ ys) (ls ++ ms))
        (ap (λ (b : Bool). b && tell_some (xs ++ ys) (ls ++ ms)) parts.0 ∙ here parts.1)
    by false is any here past =
        or-right (tells x l && tell_some (xs ++ ys) (ls ++ ms)) (tell_some (x ∷ xs ++ ys) (ls ++ ms)) (past any)

-- of turns that fall to the parts, each initiator's arrivals are some of its lines
some-told : (i : ℕ) (on : Bool) (parts : List Part) (turns : List Turn) → FallTo on parts turns
    → tell_some (arrivals_from i (entries_of turns)) (lines-in i parts) ≡ true
some-told i on [] turns falls = ap (λ l. tell_some l []) (none-from i (entries_of turns) falls.0)
some-told i on (Phase lines ∷ parts) turns (now, later, p, rest) =
    ap (λ l. tell_some l (lines_of i lines ++ lines-in i parts)) (came-then i turns now later p.are)
    ∙ some-then (arrivals_from i (entries_of now)) (arrivals_from i (entries_of later)) (lines_of i lines) (lines-in i parts)
    (front-some (arrivals_from i (entries_of now)) (lines_of i lines) (p.first i))
    (some-told i (power_behind on (entries_of now)) parts later rest)
some-told i on (Outside event ∷ parts) turns (before, turn, later, p, rest) =
    ap (λ l. tell_some l (lines-in i parts)) (came-later i turns before turn later p.are p.nothing.0 p.alone)
    ∙ some-told i (power_behind (power_behind on (entries_of before)) turn.entries) parts later rest

-- and all of them, where the power never goes off
all-told : (i : ℕ) (on : Bool) (parts : List Part) (turns : List Turn) → list_any (λ j. j == i) initiators ≡ true → on ≡ true
    → list_any goes_off (entries_of turns) ≡ false → FallTo on parts turns → tell_all (arrivals_from i (entries_of turns)) (lines-in i parts) ≡ true
all-told i on [] turns one is none falls = ap (λ l. tell_all l []) (none-from i (entries_of turns) falls.0)
all-told i on (Phase lines ∷ parts) turns one is none (now, later, p, rest) =
    let split = split-any goes_off (entries_of now) (entries_of later)
    (ap (list_any goes_off) (sym (ap entries_of p.are ∙ entries-append now later)) ∙ none) in
    ap (λ l. tell_all l (lines_of i lines ++ lines-in i parts)) (came-then i turns now later p.are)
    ∙ all-then (arrivals_from i (entries_of now)) (arrivals_from i (entries_of later)) (lines_of i lines) (lines-in i parts)
    (p.all is split.0 i one)
    (all-told i (power_behind on (entries_of now)) parts later one (ap (λ (b : Bool). power_behind b (entries_of now)) is ∙ stays-on (entries_of now) split.0) split.1 rest)
all-told i on (Outside event ∷ parts) turns one is none (before, turn, later, p, rest) =
    let split = split-any goes_off (entries_of before) (turn.entries ++ entries_of later)
    (ap (list_any goes_off) (sym (ap entries_of p.are ∙ entries-append before (turn ∷ later))) ∙ none) in
    let behind = split-any goes_off turn.entries (entries_of later) split.1 in
    ap (λ l. tell_all l (lines-in i parts)) (came-later i turns before turn later p.are p.nothing.0 p.alone)
    ∙ all-told i (power_behind (power_behind on (entries_of before)) turn.entries) parts later one
    (ap (λ (b : Bool). power_behind (power_behind b (entries_of before)) turn.entries) is
    ∙ ap (λ (b : Bool). power_behind b turn.entries) (stays-on (entries_of before) split.0) ∙ stays-on turn.entries behind.0)
    behind.1 rest

pub of_script : OfGoodHistories AreOfScript
of_script script turns is i =
    ap (tell_some (arrivals_from i (entries_of turns))) (sym (lines-at-start i [] script.lines))
    ∙ some-told i true (parts_behind [] script.lines) turns (left_by_cuts script turns is)

pub all_come : OfGoodHistories AllHaveCome
all_come script turns is none i one =
    ap (tell_all (arrivals_from i (entries_of turns))) (sym (lines-at-start i [] script.lines))
    ∙ all-told i true (parts_behind [] script.lines) turns one refl none (left_by_cuts script turns is)
