-- the entries so far, with those to come, come to what all do; no count is above their number
use Rattle.std.proofs.Common.{◌≡◌, ◌+◌, ◌^◌, drop}
use Rattle.std.specs.Prelude.{fold}
use Rattle.report_text.specs.Summary.{IsWithin, tally_after}
use Rattle.report_text.proofs.tally.tally_behind.Given as goal

abbrev pub invariant-loop-entry : goal.invariant-loop-entry
invariant-loop-entry l = record {
  whole : fold tally_after l.tally (drop l.entry-index l.entries) ≡ fold tally_after l.fn.before l.entries;
  within : IsWithin (2 ^ 127 + l.entry-index) l.tally;
}
