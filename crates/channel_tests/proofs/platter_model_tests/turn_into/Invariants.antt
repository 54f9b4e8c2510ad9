use Rattle.std.proofs.Common.{◌≡◌}
use Rattle.channel_tests.proofs.platter_model_tests.turn_into.Given as goal

abbrev pub invariant-loop-k : goal.invariant-loop-k
invariant-loop-k l = l.platter.sectors ≡ l.initial.platter.sectors
