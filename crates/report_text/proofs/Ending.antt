-- The last line of a text.
use Rattle.std.proofs.Common.{◌≡◌, ◌∙◌, ap, sym, refl, ℕ, zero, suc, ◌+◌, ◌<◌, ◌≤◌, Bool, true, false, cond, not, List, [], ◌∷◌, ◌++◌, length, get_or, drop, take, append_assoc, append-nil, arith}
use Rattle.std.specs.Prelude.{◌==◌, fold}
use Rattle.std.specs.List.{list_all}
use Rattle.std.proofs.lemmas.Bool.{and_parts, not-true}
use Rattle.std.proofs.lemmas.Grind.{fold-append}
use Rattle.std.proofs.lemmas.List.{drop_more, get_or-drop, length-drop, same_from_push, take-append-drop}
use Rattle.report_text.specs.declared.counts.Counts.{Counts}
use Rattle.report_text.specs.declared.summary.Summary.{Summary}
use Rattle.report_text.specs.Ending.{EndsInSummary, counts_in, last_line, line_behind}
use Rattle.report_text.specs.Summary.{summary_text}
use Rattle.report_text.proofs.Plain.{both}
use Rattle.report_text.proofs.RunLemmas.{no_end}

-- a text without LF is added to the line before it
added : (line text : List ℕ) → no_end text ≡ true → fold line_behind line text ≡ line ++ text
added line [] none = sym (append-nil line)
added line (b ∷ text) none =
    let parts = and_parts (not (b == 10)) (no_end text) none in
    ap (λ (t : Bool). fold line_behind (cond t [] (line ++ b ∷ [])) text) (not-true (b == 10) parts.0)
    ∙ added (line ++ b ∷ []) text parts.1 ∙ append_assoc line (b ∷ []) text

-- no byte of a text is LF
all-other : (text : List ℕ) → ((k : ℕ) → k < length text → (get_or text k 0 == 10) ≡ true → ⊥) → no_end text ≡ true
all-other [] none = refl
all-other (b ∷ text) none =
    both (not (b == 10)) (no_end text) (other (b == 10) (none 0 (omega arith)))
    (all-other text (λ k less is. none (suc k) (omega (arith, less)) is))
  where
    other : (t : Bool) → (t ≡ true → ⊥) → not t ≡ true
    other true not_so = absurd (not_so refl)
    other false not_so = refl

-- all of a text without LF
pub whole_line : (text : List ℕ) → ((k : ℕ) → 0 ≤ k → k < length text → (get_or text k 0 == 10) ≡ true → ⊥) → last_line text ≡ text
whole_line text none = added [] text (all-other text (λ k less is. none k (omega arith) less is))

-- what stands behind the last LF
pub behind_end : (text : List ℕ) (at : ℕ) → at < length text → (get_or text at 0 == 10) ≡ true
    → ((k : ℕ) → at + 1 ≤ k → k < length text → (get_or text k 0 == 10) ≡ true → ⊥) → last_line text ≡ drop (at + 1) text
behind_end text at less is none =
    let rest = drop (at + 1) text in
    let cut : take at text ++ (get_or text at 0 ∷ rest) ≡ text = ap (λ l. take at text ++ l) (sym (drop_more text at 0 less)) ∙ take-append-drop at text in
    let before = fold line_behind [] (take at text) in
    let free : no_end rest ≡ true = all-other rest (λ k short here.
    let long = length-drop (at + 1) text in
    none (at + 1 + k) (omega arith) (omega (arith, short, long)) (ap (λ b. b == 10) (sym (get_or-drop (at + 1) text k 0)) ∙ here)) in
    ap (fold line_behind []) (sym cut) ∙ fold-append line_behind [] (take at text) (get_or text at 0 ∷ rest)
    ∙ ap (λ (t : Bool). fold line_behind (cond t [] (before ++ get_or text at 0 ∷ [])) rest) is
    ∙ added [] rest free

-- where a text ends in a summary, the last of the lines before its last byte is that
pub ending_is : (text lines : List ℕ) (end : ℕ) (s : Summary) → text ≡ lines ++ end ∷ [] → (e : EndsInSummary text s)
    → last_line lines ≡ summary_text (counts_in s)
ending_is text lines end s is e = ap last_line (same_from_push lines e.lines end 10 (sym is ∙ e.ended)).0 ∙ e.line

abbrev summary-of : Counts → Summary
summary-of c = record {
  turns = c.turns;
  commands = c.commands;
  good = c.good;
  check = c.check;
  full = c.full;
  aborted = c.aborted;
  cut = c.cut;
  strays = c.strays;
}

-- summaries with the same numbers are the same
pub same_numbers : (a b : Summary) → counts_in a ≡ counts_in b → a ≡ b
same_numbers a b same = ap summary-of same
