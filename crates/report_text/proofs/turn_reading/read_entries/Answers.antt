-- One entry more; and what isn't read is none.
use Rattle.std.proofs.Common.{◌≡◌, ◌∙◌, [], ◌∷◌, ◌++◌, length, Some, ap, sym, subst, arith}
use Rattle.std.specs.Prelude.{option_map}
use Rattle.std.proofs.lemmas.Bool.{false≢true}
use Rattle.text_words.specs.Line.{texts_of}
use Rattle.report_text.specs.Marks.{before_mark, words_in}
use Rattle.report_text.specs.EntryReading.{entry_from}
use Rattle.report_text.specs.Proper.{IsEntry}
use Rattle.report_text.proofs.EntryRanges.{entry_range}
use Rattle.report_text.proofs.MarkLemmas.{from_mark-le}
use Rattle.report_text.proofs.ReadLemmas.{of_read, entries_more, entries_left_more, entries_none, entries_all, unless_memory, added, unadded}
use Rattle.report_text.proofs.turn_reading.read_entries.Goals as goal

pub loop-behind-smaller : goal.loop-behind-smaller
loop-behind-smaller g c =
    let long = ap length c.in-Some.ensures.some in
    let left = ap length c.in-Some-front.ensures.left in
    omega (arith, long, left, from_mark-le (words_in c.in-Some.behind))

pub loop-behind-preserved : goal.loop-behind-preserved
loop-behind-preserved g c =
    let own : texts_of c.as_slice.result.now ≡ before_mark (words_in c.in-Some.behind) = ap texts_of c.as_slice.ensures.value ∙ c.in-Some-front.ensures.front in
    let is = added c.loop-behind.entries c.push_entry.new.entries (entry_from c.loop-behind.now (before_mark (words_in c.in-Some.behind)))
    (subst (λ words. option_map (λ e. c.loop-behind.entries ++ e ∷ []) (entry_from c.loop-behind.now words) ≡ Some c.push_entry.new.entries) own c.in-Ok.ensures) in
    record {
      so = entries_more g.O.Out.written _ _ _ _ c.loop-behind.now c.put_last-now.result c.loop-behind.entries c.push_entry.new.entries is.entry c.loop-behind.invariant.so (of_read (IsEntry c.loop-behind.now) _ is.entry (entry_range c.loop-behind.now (before_mark (words_in c.in-Some.behind))) is.read)
          (c.put_last-now.ensures.written c.loop-behind.entries is.entry (c.as_slice-in-Ok.ensures ∙ is.grown)) (c.put_last-now.ensures.minutes c.loop-behind.entries is.entry (c.as_slice-in-Ok.ensures ∙ is.grown)) is.grown;
      found = λ all listed. entries_left_more c.loop-behind.now c.put_last-now.result (words_in c.loop-behind.left) (words_in c.in-Some.behind) (words_in c.in-Some-front.rest) c.loop-behind.entries c.push_entry.new.entries all is.entry
          (c.loop-behind.invariant.found all listed) c.in-Some.ensures.some is.read c.in-Some-front.ensures.left (c.put_last-now.ensures.minutes c.loop-behind.entries is.entry (c.as_slice-in-Ok.ensures ∙ is.grown)) is.grown;
    }

pub returns-in-Err-clause-found : goal.returns-in-Err-clause-found
returns-in-Err-clause-found g c = λ all listed. unless_memory c.in-Err.fault (λ r. r.0 ≡ all)
    (λ e. entries_none c.loop-behind.now (words_in c.loop-behind.left) (words_in c.in-Some.behind) c.loop-behind.entries all (c.loop-behind.invariant.found all listed) c.in-Some.ensures.some
    (λ few. ap (entry_from c.loop-behind.now) (sym c.in-Some-front.ensures.front ∙ ap texts_of (sym c.as_slice.ensures.value)) ∙ unadded c.loop-behind.entries c.push_entry.new.entries _ c.in-Err.fault e c.in-Err.ensures))

pub returns-in-None-clause-found : goal.returns-in-None-clause-found
returns-in-None-clause-found g c = λ all listed.
    entries_none c.loop-behind.now (words_in c.loop-behind.left) (words_in c.in-Some.behind) c.loop-behind.entries all (c.loop-behind.invariant.found all listed) c.in-Some.ensures.some
    (λ few. absurd (false≢true (c.in-None.ensures.few few)))

pub returns-clause-found : goal.returns-clause-found
returns-clause-found g c = λ all listed. entries_all c.loop-behind.now (words_in c.loop-behind.left) c.loop-behind.entries all (c.loop-behind.invariant.found all listed) c.in_default.ensures.none
