use Rattle.std.proofs.Common.{◌≡◌, ◌++◌, map, take, drop}
use Rattle.platter_model.specs.Given.{affected}
use Rattle.platter_model.proofs.flaws.change_all.Given as goal

abbrev pub invariant-loop-sample : goal.invariant-loop-sample
invariant-loop-sample l = l.samples ≡ map (affected l.fn.effect) (take l.sample-index l.initial.samples) ++ drop l.sample-index l.initial.samples
