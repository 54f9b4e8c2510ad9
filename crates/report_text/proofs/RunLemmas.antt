-- Lines one after another.
use Rattle.std.proofs.Common.{◌≡◌, ◌≢◌, ℕ, ◌+◌, ◌<◌, ◌≤◌, ◌^◌, ◌==◌, Bool, true, false, not, cond, List, [], ◌∷◌, ◌++◌, length, get_or, refl, sym, ap, ◌∙◌, subst, append_assoc, append-nil, length-append, Err, arith}
use Rattle.std.specs.Prelude.{codes, decimal, nat_lt, fold}
use Rattle.std.specs.List.{list_all, slice_split, onto_first, join_with_byte}
use Rattle.std.proofs.lemmas.Bool.{and_parts, not-true, ltb-true, ne_eqb, eqb-true, eq-eqb, false≢true}
use Rattle.std.proofs.lemmas.Grind.{fold-append}
use Rattle.std.proofs.lemmas.List.Splits.{length-slice_split, join_with_byte-slice_split}
use Rattle.block_machine.specs.declared.turn.Turn.{Turn}
use Rattle.text_words.specs.Line.{spaced, parts_at}
use Rattle.report_text.specs.declared.counts.Counts.{Counts}
use Rattle.report_text.specs.declared.fault.LineFault.{LineFault}
use Rattle.report_text.specs.declared.fault.LineFault.TheVariants.{NoMemory, Unreadable}
use Rattle.report_text.specs.declared.shown.Shown.{Shown}
use Rattle.report_text.specs.Answers.{fault_at}
use Rattle.report_text.specs.Lines.{IsFound}
use Rattle.report_text.specs.Summary.{summary_text, summary_words}
use Rattle.report_text.specs.Reading.{Place, first_place, place_after, place_behind, IsLawful, AreLines, AreCounts, IsSummary, IsReport, IsStuck, IsFirstBad, AreRead, IfLine}
use Rattle.report_text.specs.Reading.IsFirstBad.{neither, after_summary}
use Rattle.report_text.proofs.Plain.{both, plain_decimal}
use Rattle.report_text.proofs.LineWords.{no_blank, no_blanks, turn_words, turn_free, first_digit}
use Rattle.report_text.proofs.SummaryLaw.{summary_free}

-- a text without LF
abbrev pub no_end : List ℕ → Bool
no_end text = list_all (λ b. not (b == 10)) text

not_ten : (b : ℕ) → 10 < b → not (b == 10) ≡ true
not_ten b far = ap not (ne_eqb b 10 (λ e. omega (arith, far, e)))

word_no_end : (word : List ℕ) → no_blank word ≡ true → no_end word ≡ true
word_no_end [] p = refl
word_no_end (b ∷ rest) p =
    let parts = and_parts (nat_lt 32 b) (no_blank rest) p in
    both (not (b == 10)) (no_end rest) (not_ten b (omega (arith, ltb-true 32 b parts.0))) (word_no_end rest parts.1)

no_end-append : (xs ys : List ℕ) → no_end xs ≡ true → no_end ys ≡ true → no_end (xs ++ ys) ≡ true
no_end-append [] ys p q = q
no_end-append (x ∷ xs) ys p q =
    let parts = and_parts (not (x == 10)) (no_end xs) p in
    both (not (x == 10)) (no_end (xs ++ ys)) parts.0 (no_end-append xs ys parts.1 q)

spaced_no_end : (first : List ℕ) (words : List (List ℕ)) → no_end first ≡ true → list_all no_blank words ≡ true → no_end (spaced first words) ≡ true
spaced_no_end first [] p q = p
spaced_no_end first (w ∷ ws) p q =
    let parts = and_parts (no_blank w) (list_all no_blank ws) q in
    spaced_no_end (first ++ 32 ∷ w) ws (no_end-append first (32 ∷ w) p (word_no_end w parts.0)) parts.1

-- a text without LF, LF and another are that text and the parts of the other
parts_behind : (line more : List ℕ) → no_end line ≡ true → parts_at 10 (line ++ 10 ∷ more) ≡ line ∷ parts_at 10 more
unfolding parts_at
parts_behind [] more p = refl
parts_behind (x ∷ line) more p =
    let parts = and_parts (not (x == 10)) (no_end line) p in
    ap (λ b. cond b ([] ∷ slice_split (λ b. b == 10) (line ++ 10 ∷ more)) (onto_first x (slice_split (λ b. b == 10) (line ++ 10 ∷ more)))) (not-true (x == 10) parts.0)
    ∙ ap (onto_first x) (parts_behind line more parts.1)

some_parts : (text : List ℕ) → parts_at 10 text ≡ [] → ⊥
unfolding parts_at
some_parts text e =
    let some = length-slice_split (λ b. b == 10) text in
    let none : length (slice_split (λ b. b == 10) text) ≡ 0 = ap length e in
    omega arith

joined : (text : List ℕ) → join_with_byte 10 (parts_at 10 text) ≡ text
unfolding parts_at
joined text = join_with_byte-slice_split 10 text

join_first : (line : List ℕ) (parts : List (List ℕ)) → (parts ≡ [] → ⊥) → join_with_byte 10 (line ∷ parts) ≡ line ++ 10 ∷ join_with_byte 10 parts
join_first line [] some = absurd (some refl)
join_first line (p ∷ parts) some = refl

-- the text, by its first part and the rest
pub text_is : (text line behind : List ℕ) → parts_at 10 text ≡ line ∷ parts_at 10 behind → text ≡ line ++ 10 ∷ behind
text_is text line behind e =
    sym (joined text) ∙ (ap (join_with_byte 10) e ∙ (join_first line (parts_at 10 behind) (some_parts behind) ∙ ap (λ t. line ++ 10 ∷ t) (joined behind)))

-- the first line of a text is this one, where this one has no LF
pub record IsSplitAt (line behind own more : List ℕ) : Type 0 where
  pub line_is : line ≡ own
  pub behind_is : behind ≡ more

pub one_line : (text line behind own more : List ℕ) → parts_at 10 text ≡ line ∷ parts_at 10 behind → text ≡ own ++ 10 ∷ more → no_end own ≡ true → IsSplitAt line behind own more
one_line text line behind own more e is p =
    let same : line ∷ parts_at 10 behind ≡ own ∷ parts_at 10 more = sym e ∙ (ap (parts_at 10) is ∙ parts_behind own more p) in
    record {
      line_is = cons_head same;
      behind_is = sym (joined behind) ∙ (ap (join_with_byte 10) (cons_tail same) ∙ joined more);
    }
  where
    cons_head : {x y : List ℕ} {xs ys : List (List ℕ)} → x ∷ xs ≡ y ∷ ys → x ≡ y
    cons_head h = cc

    cons_tail : {x y : List ℕ} {xs ys : List (List ℕ)} → x ∷ xs ≡ y ∷ ys → xs ≡ ys
    cons_tail h = cc

pub no_line : (text whole own more : List ℕ) → parts_at 10 text ≡ whole ∷ [] → text ≡ own ++ 10 ∷ more → no_end own ≡ true → ⊥
no_line text whole own more e is p =
    let same : whole ∷ [] ≡ own ∷ parts_at 10 more = sym e ∙ (ap (parts_at 10) is ∙ parts_behind own more p) in
    some_parts more (sym (cons_tail same))
  where
    cons_tail : {x y : List ℕ} {xs ys : List (List ℕ)} → x ∷ xs ≡ y ∷ ys → xs ≡ ys
    cons_tail h = cc

-- neither the line of a turn nor a summary has an LF
pub lawful_no_end : (p : Place) (line : List ℕ) (turn : Turn) → p.number < 2 ^ 64 → IsLawful p line turn → no_end line ≡ true
lawful_no_end p line turn small lawful =
    let shown : List Shown = lawful.0 in
    ap no_end lawful.2.text ∙ spaced_no_end (decimal p.number) (turn_words turn shown) (word_no_end (decimal p.number) (no_blanks (decimal p.number) (plain_decimal p.number small))) (turn_free p.minutes turn shown lawful.1)

pub summary_no_end : (counts : Counts) → AreCounts counts → no_end (summary_text counts) ≡ true
summary_no_end counts fit = spaced_no_end (codes "turns") (summary_words counts) refl (summary_free counts fit)

-- the first character of words is that of the first
spaced_first : (first : List ℕ) (words : List (List ℕ)) → 0 < length first → get_or (spaced first words) 0 0 ≡ get_or first 0 0
spaced_first [] words some = absurd (omega arith)
spaced_first (c ∷ cs) [] some = refl
spaced_first (c ∷ cs) (w ∷ ws) some = spaced_first (c ∷ (cs ++ 32 ∷ w)) ws (omega arith)

-- no line is that of a turn and a summary
pub not_both : (p : Place) (line : List ℕ) (turn : Turn) (counts : Counts) → p.number < 2 ^ 64 → IsLawful p line turn → line ≡ summary_text counts → ⊥
not_both p line turn counts small lawful is =
    let shown : List Shown = lawful.0 in
    let digit = first_digit p.number small in
    let one : get_or line 0 0 ≡ get_or (decimal p.number) 0 0 = ap (λ t. get_or t 0 0) lawful.2.text ∙ spaced_first (decimal p.number) (turn_words turn shown) digit.0 in
    let other : get_or line 0 0 ≡ 116 = ap (λ t. get_or t 0 0) is ∙ spaced_first (codes "turns") (summary_words counts) (omega arith) in
    omega (arith, digit.1, one, other)

-- a line more
pub lines_more : (p : Place) (text : List ℕ) (turns : List Turn) (rest line more : List ℕ) (turn : Turn)
    → AreLines p text turns rest → rest ≡ line ++ 10 ∷ more → IsLawful (fold place_after p turns) line turn → AreLines p text (turns ++ turn ∷ []) more
lines_more p text [] rest line more turn are e is = (line, more, are ∙ e, is, refl)
lines_more p text (t ∷ turns) rest line more turn are e is =
    (are.0, are.1, are.2, are.3, lines_more (place_after p t) are.1 turns rest line more turn are.4 e is)

-- where the reader stands
abbrev pub place_at : ℕ → ℕ → ℕ → Place
place_at number minutes shown = record { number = number; minutes = minutes; shown = shown }

-- of turns that a report tells the others are left in a text
pub record Left (p : Place) (text : List ℕ) (turns all : List Turn) : Type 0 where
  pub later : List Turn
  pub tail : List ℕ
  pub together : all ≡ turns ++ later
  pub lines : AreLines p text later tail
  pub summary : IsSummary tail []

-- these turns are read of a text, and this is behind them
pub record ReadSo (text rest : List ℕ) (turns : List Turn) (p : Place) : Type 0 where
  pub printed : AreLines first_place text turns rest
  pub place : place_behind turns ≡ p
  pub counted : p.number ≡ length turns + 1
  pub line_room : p.number + length rest ≤ 1 + length text
  pub shown_room : p.shown + length rest ≤ length text
  pub found : (all : List Turn) → IsReport text all → Left p rest turns all

pub nothing_read : (text : List ℕ) → ReadSo text text [] first_place
nothing_read text = record {
  printed = refl;
  place = refl;
  counted = refl;
  line_room = omega arith;
  shown_room = omega arith;
  found = λ all report. record { later = all; tail = report.0; together = refl; lines = report.1; summary = report.2 };
}

-- what the next line can be for turns that are told
pub data Next (p : Place) (line behind : List ℕ) (turns all : List Turn) : Type 0 where
  is_end : (counts : Counts) → AreCounts counts → line ≡ summary_text counts → behind ≡ [] → turns ≡ all → Next p line behind turns all
  is_turn : (t : Turn) → IsLawful p line t → ((next : Place) → place_after p t ≡ next → Left next behind (turns ++ t ∷ []) all) → Next p line behind turns all

pub next_of : (p : Place) (text line behind : List ℕ) (turns all : List Turn) → p.number < 2 ^ 64 → Left p text turns all → parts_at 10 text ≡ line ∷ parts_at 10 behind → Next p line behind turns all
next_of p text line behind turns all small left e = by_later left.later left.together left.lines
  where
    by_later : (later : List Turn) → all ≡ turns ++ later → AreLines p text later left.tail → Next p line behind turns all
    by_later [] together are =
        let counts = left.summary.0 in
        let split = one_line text line behind (summary_text counts) [] e (are ∙ left.summary.2) (summary_no_end counts left.summary.1) in
        is_end counts left.summary.1 split.line_is split.behind_is (sym (append-nil turns) ∙ sym together)
    by_later (t ∷ later) together are =
        let split = one_line text line behind are.0 are.1 e are.2 (lawful_no_end p are.0 t small are.3) in
        is_turn t (subst (λ (l : List ℕ). IsLawful p l t) (sym split.line_is) are.3) (λ next same. record {
          later = later;
          tail = left.tail;
          together = together ∙ sym (append_assoc turns (t ∷ []) later);
          lines = subst (λ (q : Place). AreLines q behind later left.tail) same (subst (λ (b : List ℕ). AreLines (place_after p t) b later left.tail) (sym split.behind_is) are.4);
          summary = left.summary;
        })

-- where there is no next line, no turns are told
pub none_left : (p : Place) (text whole : List ℕ) (turns all : List Turn) → p.number < 2 ^ 64 → Left p text turns all → parts_at 10 text ≡ whole ∷ [] → ⊥
none_left p text whole turns all small left e = by_later left.later left.lines
  where
    by_later : (later : List Turn) → AreLines p text later left.tail → ⊥
    by_later [] are = no_line text whole (summary_text left.summary.0) [] e (are ∙ left.summary.2) (summary_no_end left.summary.0 left.summary.1)
    by_later (t ∷ later) are = no_line text whole are.0 are.1 e are.2 (lawful_no_end p are.0 t small are.3)

-- the next line is no turn's, and no summary
pub record IsNone (p : Place) (line : List ℕ) : Type 0 where
  pub no_turn : (turn : Turn) → IsLawful p line turn → ⊥
  pub no_summary : (counts : Counts) → AreCounts counts → line ≡ summary_text counts → ⊥

-- where the next line is a summary, it is that of the turns that are told
pub told_all : (p : Place) (rest line behind : List ℕ) (turns all : List Turn) (counts : Counts) → p.number < 2 ^ 64 → Left p rest turns all → parts_at 10 rest ≡ line ∷ parts_at 10 behind
    → line ≡ summary_text counts → (behind ≡ []) × (turns ≡ all)
told_all p rest line behind turns all counts small left e is = by_next (next_of p rest line behind turns all small left e)
  where
    by_next : Next p line behind turns all → (behind ≡ []) × (turns ≡ all)
    by_next (is_end other fit same last told) = (last, told)
    by_next (is_turn t lawful others) = absurd (not_both p line t counts small lawful is)

-- where it is none, no turns are told
pub told_none : (p : Place) (rest line behind : List ℕ) (turns all : List Turn) → p.number < 2 ^ 64 → Left p rest turns all → parts_at 10 rest ≡ line ∷ parts_at 10 behind → IsNone p line → ⊥
told_none p rest line behind turns all small left e none = by_next (next_of p rest line behind turns all small left e)
  where
    by_next : Next p line behind turns all → ⊥
    by_next (is_end counts fit is last told) = none.no_summary counts fit is
    by_next (is_turn t lawful others) = none.no_turn t lawful

-- and reading is stuck there
pub stuck_at : (p : Place) (rest line behind : List ℕ) → p.number < 2 ^ 64 → parts_at 10 rest ≡ line ∷ parts_at 10 behind → IsNone p line → IsStuck p rest
stuck_at p rest line behind small e none = record {
  no_turn = λ own more t is lawful. let split = one_line rest line behind own more e is (lawful_no_end p own t small lawful) in
      none.no_turn t (subst (λ (l : List ℕ). IsLawful p l t) (sym split.line_is) lawful);
  no_summary = λ more found. none.no_summary found.0 found.1 (one_line rest line behind (summary_text found.0) more e found.2 (summary_no_end found.0 found.1)).line_is;
}

-- as it is where there is no next line
pub stuck_whole : (p : Place) (rest whole : List ℕ) → p.number < 2 ^ 64 → parts_at 10 rest ≡ whole ∷ [] → IsStuck p rest
stuck_whole p rest whole small e = record {
  no_turn = λ own more t is lawful. no_line rest whole own more e is (lawful_no_end p own t small lawful);
  no_summary = λ more found. no_line rest whole (summary_text found.0) more e found.2 (summary_no_end found.0 found.1);
}

-- the next line is the first bad one
pub bad_here : (text rest : List ℕ) (turns : List Turn) (p : Place) → ReadSo text rest turns p → IsStuck p rest → IsFirstBad text p.number
bad_here text rest turns p so is = neither turns rest so.printed so.counted (subst (λ (q : Place). IsStuck q rest) (sym so.place) is)

-- the line behind the summary is
pub bad_behind : (text rest line behind : List ℕ) (turns : List Turn) (p : Place) (n : ℕ) (counts : Counts) → ReadSo text rest turns p → parts_at 10 rest ≡ line ∷ parts_at 10 behind
    → AreCounts counts → line ≡ summary_text counts → n ≡ p.number + 1 → behind ≢ [] → IsFirstBad text n
bad_behind text rest line more turns p n counts so e fit is same some =
    after_summary turns rest more so.printed (omega (arith, same, so.counted)) (counts, fit, text_is rest line more e ∙ ap (λ l. l ++ 10 ∷ more) is) some

-- the report of these turns
pub report_is : (text rest line behind : List ℕ) (turns : List Turn) (p : Place) (counts : Counts) → ReadSo text rest turns p → parts_at 10 rest ≡ line ∷ parts_at 10 behind
    → AreCounts counts → line ≡ summary_text counts → behind ≡ [] → IsReport text turns
report_is text rest line more turns p counts so e fit is last =
    (rest, so.printed, (counts, fit, text_is rest line more e ∙ (ap (λ l. l ++ 10 ∷ more) is ∙ ap (λ m. summary_text counts ++ 10 ∷ m) last)))

-- one turn more
pub read_more : (text rest line behind : List ℕ) (turns grown : List Turn) (p next : Place) (t : Turn) → p.number < 2 ^ 64 → ReadSo text rest turns p → parts_at 10 rest ≡ line ∷ parts_at 10 behind
    → IsLawful p line t → ((other : Turn) → IsLawful p line other → t ≡ other) → ((counts : Counts) → AreCounts counts → line ≡ summary_text counts → ⊥)
    → t.ops_to ≤ p.shown + length line → next ≡ place_after p t → grown ≡ turns ++ t ∷ [] → ReadSo text behind grown next
read_more text rest line more turns grown p next t small so e printed only none bounded after pushed =
    subst (λ (ts : List Turn). ReadSo text more ts next) (sym pushed) (subst (λ (q : Place). ReadSo text more (turns ++ t ∷ []) q) (sym after) (record {
      printed = lines_more first_place text turns rest line more t so.printed (text_is rest line more e) (subst (λ (q : Place). IsLawful q line t) (sym so.place) printed);
      place = fold-append place_after first_place turns (t ∷ []) ∙ ap (λ q. place_after q t) so.place;
      counted = ap (λ n. n + 1) so.counted ∙ ap (λ n. n + 1) (sym (length-append turns (t ∷ [])));
      line_room = omega (arith, so.line_room, long);
      shown_room = omega (arith, so.shown_room, long, bounded);
      found = λ all report. by_next all (next_of p rest line more turns all small (so.found all report) e);
    }))
  where
    long : length rest ≡ length line + (1 + length more)
    long = ap length (text_is rest line more e) ∙ (length-append line (10 ∷ more) ∙ ap (λ n. length line + n) (one_longer more))
      where
        one_longer : (xs : List ℕ) → length (10 ∷ xs) ≡ 1 + length xs
        one_longer xs = omega arith

    by_next : (all : List Turn) → Next p line more turns all → Left (place_after p t) more (turns ++ t ∷ []) all
    by_next all (is_end counts fit is last told) = absurd (none counts fit is)
    by_next all (is_turn other lawful others) =
        let same : t ≡ other = only other lawful in
        subst (λ (x : Turn). Left (place_after p t) more (turns ++ x ∷ []) all) (sym same) (others (place_after p t) (ap (place_after p) (sym same)))

-- a fault that can only be want of memory, and one that names the first bad line
pub are_read_unless : (n : ℕ) (fault : LineFault) (all : List Turn) → (fault ≡ Unreadable → ⊥) → AreRead all (Err (fault_at n fault))
are_read_unless n NoMemory all other = tt
are_read_unless n Unreadable all other = absurd (other refl)

pub if_line_at : (text : List ℕ) (n : ℕ) (fault : LineFault) → (fault ≡ Unreadable → IsFirstBad text n) → IfLine text (Err (fault_at n fault))
if_line_at text n NoMemory bad = tt
if_line_at text n Unreadable bad = bad refl

pub long_is : (text line more : List ℕ) → parts_at 10 text ≡ line ∷ parts_at 10 more → length text ≡ length line + (1 + length more)
long_is text line more e = ap length (text_is text line more e) ∙ (length-append line (10 ∷ more) ∙ omega arith)

pub empty_is : (xs : List ℕ) → (length xs == 0) ≡ true → xs ≡ []
empty_is [] e = refl
empty_is (x ∷ xs) e = let none = eqb-true (length (x ∷ xs)) 0 e in absurd (omega arith)

pub some_is : (xs : List ℕ) → (length xs == 0) ≡ false → xs ≢ []
some_is xs e none = false≢true (sym e ∙ eq-eqb (length xs) 0 (ap length none))

pub unreadable : {A : Type 0} (fault : LineFault) (P : A → Type 0) → fault ≡ Unreadable → IsFound (Err fault) P → ⊥
unreadable NoMemory P e found = absurd (apart e)
  where
    apart : NoMemory ≡ Unreadable → ⊥
    apart h = cc
unreadable Unreadable P e found = found
