-- Plain words are those before the next mark.
use Rattle.std.proofs.Common.{◌≡◌, ℕ, ◌≤◌, ◌==◌, ◌&&◌, Bool, true, false, not, ◌≢◌, List, [], ◌∷◌, ◌++◌, length, Some, append_assoc, refl, sym, ap, ◌∙◌, arith}
use Rattle.std.specs.Prelude.{codes, nat_lt, nat_le, if◌then◌else◌}
use Rattle.std.specs.List.{list_all}
use Rattle.std.proofs.lemmas.List.Elements.{All-head, All-tail}
use Rattle.std.proofs.lemmas.Bool.{and_parts, not-true, leb-true}
use Rattle.block_machine.specs.declared.entry.Entry.{Entry}
use Rattle.report_text.specs.declared.shown.Shown.{Shown}
use Rattle.report_text.specs.Operations.{shown_words}
use Rattle.report_text.specs.Entries.{entry_words}
use Rattle.report_text.specs.Turns.{operation_words, entries_words}
use Rattle.report_text.specs.Marks.{is_mark, before_mark, from_mark}
use Rattle.report_text.specs.Lines.{IsSplit, IsListed}
use Rattle.report_text.specs.OperationReading.{shown_from}
use Rattle.report_text.specs.EntryReading.{entry_from}
use Rattle.report_text.specs.Findings.{minutes_after}
use Rattle.report_text.specs.Proper.{IsShown}
use Rattle.report_text.proofs.OperationLaw.{shown_again}
use Rattle.report_text.proofs.EntryLaw.{entry_again}
use Rattle.report_text.proofs.Plain.{is_plain, plain, few_plain, shown_plain, entry_plain}

-- a plain word is no mark
no_mark : (word : List ℕ) → plain word ≡ true → is_mark word ≡ false
no_mark [] p = refl
no_mark (b ∷ rest) p =
    let first = (and_parts (is_plain b) (plain rest) p).0 in
    let both = (and_parts (nat_lt 32 b) (not (b == 60) && not (b == 62)) first).1 in
    let each = and_parts (not (b == 60)) (not (b == 62)) both in
    rw (not-true (b == 60) each.0, not-true (b == 62) each.1) refl

-- plain words before words that begin with a mark, or before none
pub before-plain : (words more : List (List ℕ)) → list_all plain words ≡ true → before_mark more ≡ [] → before_mark (words ++ more) ≡ words
before-plain [] more p none = none
before-plain (w ∷ ws) more p none =
    let parts = and_parts (plain w) (list_all plain ws) p in
    ap (λ b. if b then [] else w ∷ before_mark (ws ++ more)) (no_mark w parts.0) ∙ ap (λ r. w ∷ r) (before-plain ws more parts.1 none)

pub from-plain : (words more : List (List ℕ)) → list_all plain words ≡ true → from_mark more ≡ more → from_mark (words ++ more) ≡ more
from-plain [] more p here = here
from-plain (w ∷ ws) more p here =
    let parts = and_parts (plain w) (list_all plain ws) p in
    ap (λ b. if b then w ∷ (ws ++ more) else from_mark (ws ++ more)) (no_mark w parts.0) ∙ from-plain ws more parts.1 here

-- no word comes from behind the mark
pub from_mark-le : (words : List (List ℕ)) → length (from_mark words) ≤ length words
from_mark-le [] = omega arith
from_mark-le (w ∷ ws) = by_test (is_mark w) (from_mark-le ws)
  where
    by_test : (b : Bool) → length (from_mark ws) ≤ length ws → length (if b then w ∷ ws else from_mark ws) ≤ length (w ∷ ws)
    by_test true rest = omega arith
    by_test false rest = omega arith

-- few plain words
pub few : (words : List (List ℕ)) → few_plain words ≡ true → length words ≤ 8
few words p = leb-true (length words) 8 (and_parts (nat_le (length words) 8) (list_all plain words) p).0

pub all_plain : (words : List (List ℕ)) → few_plain words ≡ true → list_all plain words ≡ true
all_plain words p = (and_parts (nat_le (length words) 8) (list_all plain words) p).1

-- operations and entries begin with their marks
pub operations_before : (shown : List Shown) (more : List (List ℕ)) → before_mark more ≡ [] → before_mark (operation_words shown ++ more) ≡ []
operations_before [] more none = none
operations_before (s ∷ shown) more none = refl

pub operations_from : (shown : List Shown) (more : List (List ℕ)) → from_mark more ≡ more → from_mark (operation_words shown ++ more) ≡ operation_words shown ++ more
operations_from [] more here = here
operations_from (s ∷ shown) more here = refl

pub entries_before : (entries : List Entry) → before_mark (entries_words entries) ≡ []
entries_before [] = refl
entries_before (e ∷ entries) = refl

pub entries_from : (entries : List Entry) → from_mark (entries_words entries) ≡ entries_words entries
entries_from [] = refl
entries_from (e ∷ entries) = refl

-- the next operation of such words, and the rest of them
pub record OperationNext (behind : List (List ℕ)) (later : List Shown) (more : List (List ℕ)) : Type 0 where
  pub first : Shown
  pub others : List Shown
  pub later_is : later ≡ first ∷ others
  pub few_words : length (before_mark behind) ≤ 8
  pub read : shown_from (before_mark behind) ≡ Some first
  pub rest : IsSplit (from_mark behind) others more

pub operation_next : (words behind : List (List ℕ)) (later : List Shown) (more : List (List ℕ)) → IsSplit words later more → words ≡ codes "<" ∷ behind → OperationNext behind later more
operation_next words behind [] more split e = absurd (split.past behind (sym split.whole ∙ e))
operation_next words behind (s ∷ later) more split e =
    let proper : IsShown s = All-head IsShown s later split.proper in
    let tail : behind ≡ shown_words s ++ (operation_words later ++ more) = cons_tail (sym e ∙ (split.whole ∙ ap (λ ws. codes "<" ∷ ws) (append_assoc (shown_words s) (operation_words later) more))) in
    let plain = shown_plain s proper in
    let own : before_mark behind ≡ shown_words s = ap before_mark tail ∙ before-plain (shown_words s) (operation_words later ++ more) (all_plain (shown_words s) plain) (operations_before later more split.marked) in
    record {
      first = s;
      others = later;
      later_is = refl;
      few_words = let count : length (before_mark behind) ≡ length (shown_words s) = ap length own in omega (arith, few (shown_words s) plain, count);
      read = ap shown_from own ∙ shown_again s proper;
      rest = record {
        proper = All-tail IsShown s later split.proper;
        whole = ap from_mark tail ∙ from-plain (shown_words s) (operation_words later ++ more) (all_plain (shown_words s) plain) (operations_from later more split.here);
        marked = split.marked;
        here = split.here;
        past = split.past;
      };
    }
  where
    cons_tail : {x : List ℕ} {xs ys : List (List ℕ)} → x ∷ xs ≡ x ∷ ys → xs ≡ ys
    cons_tail h = cc

-- where no operation begins, none is left
pub operations_end : (words : List (List ℕ)) (later : List Shown) (more : List (List ℕ)) → IsSplit words later more → ((rest : List (List ℕ)) → words ≢ codes "<" ∷ rest)
    → (later ≡ []) × (words ≡ more)
operations_end words [] more split none = (refl, split.whole)
operations_end words (s ∷ later) more split none = absurd (none _ split.whole)

pub record EntryNext (minutes : ℕ) (behind : List (List ℕ)) (later : List Entry) : Type 0 where
  pub first : Entry
  pub others : List Entry
  pub later_is : later ≡ first ∷ others
  pub few_words : length (before_mark behind) ≤ 8
  pub read : entry_from minutes (before_mark behind) ≡ Some first
  pub rest : IsListed (minutes_after minutes first) (from_mark behind) others

pub entry_next : (minutes : ℕ) (words behind : List (List ℕ)) (later : List Entry) → IsListed minutes words later → words ≡ codes ">" ∷ behind → EntryNext minutes behind later
entry_next minutes words behind [] listed e = absurd (no_words (sym listed.whole ∙ e))
  where
    no_words : [] ≡ codes ">" ∷ behind → ⊥
    no_words h = cc
entry_next minutes words behind (s ∷ later) listed e =
    let tail : behind ≡ entry_words s ++ entries_words later = cons_tail (sym e ∙ listed.whole) in
    let plain = entry_plain minutes s listed.proper.0 in
    let own : before_mark behind ≡ entry_words s = ap before_mark tail ∙ before-plain (entry_words s) (entries_words later) (all_plain (entry_words s) plain) (entries_before later) in
    record {
      first = s;
      others = later;
      later_is = refl;
      few_words = let count : length (before_mark behind) ≡ length (entry_words s) = ap length own in omega (arith, few (entry_words s) plain, count);
      read = ap (entry_from minutes) own ∙ entry_again minutes s listed.proper.0;
      rest = record {
        proper = listed.proper.1;
        whole = ap from_mark tail ∙ from-plain (entry_words s) (entries_words later) (all_plain (entry_words s) plain) (entries_from later);
      };
    }
  where
    cons_tail : {x : List ℕ} {xs ys : List (List ℕ)} → x ∷ xs ≡ x ∷ ys → xs ≡ ys
    cons_tail h = cc

pub entries_end : (minutes : ℕ) (words : List (List ℕ)) (later : List Entry) → IsListed minutes words later → ((rest : List (List ℕ)) → words ≢ codes ">" ∷ rest) → later ≡ []
entries_end minutes words [] listed none = refl
entries_end minutes words (s ∷ later) listed none = absurd (none _ listed.whole)
