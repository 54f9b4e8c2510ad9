use Rattle.std.proofs.Common.{◌≡◌, ◌≤◌, [], vec_len}
use Rattle.std.specs.Vec.{vec_capacity}
use Rattle.platter_model.specs.Places.{AreSectors}
use Rattle.platter_model.proofs.kept.blank_sectors.Given as goal

abbrev pub invariant-loop : goal.invariant-loop
invariant-loop l = record { room : l.fn.count ≤ vec_capacity l.sectors; long : vec_len l.sectors ≡ l.counter; are_blank : AreSectors [] l.sectors.items }
