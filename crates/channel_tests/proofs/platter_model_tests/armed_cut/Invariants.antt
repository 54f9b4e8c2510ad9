use Rattle.std.proofs.Common.{◌≡◌}
use Rattle.channel_tests.proofs.platter_model_tests.armed_cut.Given as goal

abbrev pub invariant-loop-stage : goal.invariant-loop-stage
invariant-loop-stage g l = l.platter.sectors ≡ 48
