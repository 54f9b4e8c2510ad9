-- the entries so far are written, and of listed ones the rest is left
use Rattle.std.proofs.Common.{List, length}
use Rattle.block_machine.specs.declared.entry.Entry.{Entry}
use Rattle.report_text.specs.Marks.{words_in}
use Rattle.report_text.specs.Lines.{IsListed}
use Rattle.report_text.proofs.ReadLemmas.{EntriesSo, EntriesLeft}
use Rattle.report_text.proofs.turn_reading.read_entries.Given as goal

abbrev pub invariant-loop-behind : goal.invariant-loop-behind
invariant-loop-behind g l = record {
  so : EntriesSo g.O.Out.written l.fn.out l.out l.fn.minutes l.now l.entries;
  found : (all : List Entry) → IsListed l.fn.minutes (words_in l.fn.words) all → EntriesLeft l.now (words_in l.left) l.entries all;
}

abbrev pub decreases-loop-behind : goal.decreases-loop-behind
decreases-loop-behind g l = length (words_in l.left)
