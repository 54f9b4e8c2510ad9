-- The print is the line exactly where the line is that of the turn whose words were read.
use Rattle.std.proofs.Common.{◌≡◌, ◌+◌, ℕ, List, [], length, refl, sym, ap, ◌∙◌, subst, arith}
use Rattle.std.specs.Prelude.{decimal}
use Rattle.std.proofs.lemmas.Bool.{false≢true}
use Rattle.report_text.specs.Turns.{label_words, operation_words, entries_words}
use Rattle.report_text.specs.Marks.{before_mark, words_in}
use Rattle.report_text.specs.Proper.{IsLabel}
use Rattle.report_text.proofs.ReadRanges.{label_range}
use Rattle.report_text.specs.Lines.{IsSplit, IsListed}
use Rattle.report_text.proofs.MarkLemmas.{from_mark-le}
use Rattle.report_text.proofs.ReadLemmas.{of_read, other_result}
use Rattle.report_text.proofs.LineWords.{parts_of, text_in_parts, same_turn, same_some, none_some, print_same}
use Rattle.report_text.proofs.turn_reading.read_turn.Goals as goal

pub returns-in-None-clause-found : goal.returns-in-None-clause-found
returns-in-None-clause-found c = λ turn shown proper is.
    let first = c.behind_first.ensures.words in
    let parts = parts_of c.args.number c.args.from c.args.minutes c.args.line.now first.0 (words_in c.behind_first.result) turn shown c.ranges.number.fits proper is first.1 in
    none_some (sym (c.in-None.ensures.none parts.few_words) ∙ parts.label)

pub read_ops-requires : goal.read_ops-requires
read_ops-requires c =
    let left = ap length c.in-Some.ensures.rest in
    omega (arith, left, c.behind_first.ensures.few, from_mark-le (words_in c.behind_first.result), c.requires)

pub returns-in-None-read_ops-clause-found : goal.returns-in-None-read_ops-clause-found
returns-in-None-read_ops-clause-found c = λ turn shown proper is.
    let first = c.behind_first.ensures.words in
    let parts = parts_of c.args.number c.args.from c.args.minutes c.args.line.now first.0 (words_in c.behind_first.result) turn shown c.ranges.number.fits proper is first.1 in
    let more : List (List ℕ) = entries_words turn.entries in
    c.in-None-read_ops.ensures.found shown more (subst (λ (ws : List (List ℕ)). IsSplit ws shown more) (sym c.in-Some.ensures.rest) parts.operations)

pub overflow_add-turn : goal.overflow_add-turn
overflow_add-turn c =
    let left = ap length c.in-Some.ensures.rest in
    omega (arith, left, c.behind_first.ensures.few, from_mark-le (words_in c.behind_first.result), c.in-Some-read_ops.ensures.few, c.requires)

pub returns-then-is_all-clause-line : goal.returns-then-is_all-clause-line
returns-then-is_all-clause-line c =
    let so = c.in-Some-read_ops.ensures.sound in
    let start = c.new-out.result in
    let text = c.in-Ok.ensures.written start _ (so.3 start _ (c.put_label.ensures start _ (c.put_first.ensures start [] c.new-out.ensures.fresh))) in
    let all = (c.is_all.ensures start _ text).0 c.if-is_all.true in (
      so.0,
      record {
        label = of_read IsLabel _ c.in-Some.label (label_range (before_mark (words_in c.behind_first.result))) c.in-Some.ensures.some;
        operations = so.2;
        entries = c.in-Ok.ensures.proper;
      },
      record {
        begins = refl;
        ends = ap (λ k. c.args.from + k) (sym so.1);
        text = sym c.new-out.ensures.rest ∙ (all ∙ text_in_parts (decimal c.args.number) (label_words c.in-Some.label) (operation_words so.0) (entries_words c.in-Ok.entries));
      },
    )

pub returns-then-is_all-clause-found : goal.returns-then-is_all-clause-found
returns-then-is_all-clause-found c = λ turn shown proper is.
    let first = c.behind_first.ensures.words in
    let parts = parts_of c.args.number c.args.from c.args.minutes c.args.line.now first.0 (words_in c.behind_first.result) turn shown c.ranges.number.fits proper is first.1 in
    let more : List (List ℕ) = entries_words turn.entries in
    let ops = c.in-Some-read_ops.ensures.found shown more (subst (λ (ws : List (List ℕ)). IsSplit ws shown more) (sym c.in-Some.ensures.rest) parts.operations) in
    let entries = c.in-Ok.ensures.found turn.entries (subst (λ (ws : List (List ℕ)). IsListed c.args.minutes ws turn.entries) (sym ops.1) parts.entries) in
    same_turn c.in-Some.label c.args.from (c.args.from + c.in-Some-read_ops.count) c.in-Ok.entries turn
    (same_some (sym c.in-Some.ensures.some ∙ parts.label)) (sym is.begins) (ap (λ k. c.args.from + k) ops.0 ∙ sym is.ends) entries

pub returns-else-is_all-clause-found : goal.returns-else-is_all-clause-found
returns-else-is_all-clause-found c = λ turn shown proper is.
    let first = c.behind_first.ensures.words in
    let parts = parts_of c.args.number c.args.from c.args.minutes c.args.line.now first.0 (words_in c.behind_first.result) turn shown c.ranges.number.fits proper is first.1 in
    let more : List (List ℕ) = entries_words turn.entries in
    let ops = c.in-Some-read_ops.ensures.found shown more (subst (λ (ws : List (List ℕ)). IsSplit ws shown more) (sym c.in-Some.ensures.rest) parts.operations) in
    let entries : c.in-Ok.entries ≡ turn.entries = c.in-Ok.ensures.found turn.entries (subst (λ (ws : List (List ℕ)). IsListed c.args.minutes ws turn.entries) (sym ops.1) parts.entries) in
    let label : c.in-Some.label ≡ turn.label = same_some (sym c.in-Some.ensures.some ∙ parts.label) in
    let start = c.new-out.result in
    let text = c.in-Ok.ensures.written start _ (ops.2 start _ (c.put_label.ensures start _ (c.put_first.ensures start [] c.new-out.ensures.fresh))) in
    let same = c.new-out.ensures.rest ∙ (is.text ∙ (sym (text_in_parts (decimal c.args.number) (label_words turn.label) (operation_words shown) (entries_words turn.entries)) ∙ print_same (decimal c.args.number) (operation_words shown) c.in-Some.label turn.label c.in-Ok.entries turn.entries label entries)) in
    absurd (false≢true (sym c.if-is_all.false ∙ (c.is_all.ensures start _ text).1 same))

pub returns-in-Err-clause-found : goal.returns-in-Err-clause-found
returns-in-Err-clause-found c = λ turn shown proper is.
    let first = c.behind_first.ensures.words in
    let parts = parts_of c.args.number c.args.from c.args.minutes c.args.line.now first.0 (words_in c.behind_first.result) turn shown c.ranges.number.fits proper is first.1 in
    let more : List (List ℕ) = entries_words turn.entries in
    let ops = c.in-Some-read_ops.ensures.found shown more (subst (λ (ws : List (List ℕ)). IsSplit ws shown more) (sym c.in-Some.ensures.rest) parts.operations) in
    other_result c.in-Err.fault (λ r. r.0 ≡ turn.entries) (λ r. r.0 ≡ turn) (c.in-Err.ensures.found turn.entries (subst (λ (ws : List (List ℕ)). IsListed c.args.minutes ws turn.entries) (sym ops.1) parts.entries))

pub returns-then-is_all-clause-bounded : goal.returns-then-is_all-clause-bounded
returns-then-is_all-clause-bounded c =
    let left = ap length c.in-Some.ensures.rest in
    omega (arith, left, c.behind_first.ensures.few, from_mark-le (words_in c.behind_first.result), c.in-Some-read_ops.ensures.few)
