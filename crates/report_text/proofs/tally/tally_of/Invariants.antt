-- the turns so far, with those to come, come to what all do; a turn has fewer than 2 ^ 64 entries
use Rattle.std.proofs.Common.{◌≡◌, ◌*◌, ◌^◌, drop}
use Rattle.std.specs.Prelude.{fold}
use Rattle.report_text.specs.Summary.{IsWithin, tally_behind, tally_of}
use Rattle.report_text.proofs.tally.tally_of.Given as goal

abbrev pub invariant-loop-turn : goal.invariant-loop-turn
invariant-loop-turn l = record {
  whole : fold tally_behind l.tally (drop l.turn-index l.turns) ≡ tally_of l.turns;
  within : IsWithin (l.turn-index * 2 ^ 64) l.tally;
}
