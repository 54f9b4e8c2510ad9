use Rattle.rs_sector.specs.Places.{AddsValues}
use Rattle.rs_sector.proofs.decode.with_values.Given as goal

abbrev pub invariant-loop-i : goal.invariant-loop-i
invariant-loop-i l = AddsValues l.places.list l.values l.i l.word l.sum
