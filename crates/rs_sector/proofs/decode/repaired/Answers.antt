use Rattle.std.proofs.Common.{◌≡◌, take, drop, length, arith}
use Rattle.std.proofs.lemmas.List.{get_or_append_left, length-take-le}
use Rattle.rs_sector.proofs.Repairing.{points_apart_in_list, adds_errors}
use Rattle.rs_sector.proofs.decode.repaired.Goals as goal

pub solve-requires-clause-apart : goal.solve-requires-clause-apart
solve-requires-clause-apart c =
    points_apart_in_list c.gathered-places.result.list c.points_at-points.result c.gathered-places.result.count c.gathered-places.ensures.places c.points_at-points.ensures.long c.points_at-points.ensures.points

pub returns-clause-errors : goal.returns-clause-errors
returns-clause-errors c =
    let short : length (take c.gathered-places.result.count c.args.sums.now) ≡ c.gathered-places.result.count = length-take-le c.gathered-places.result.count c.args.sums.now (omega (arith, c.gathered-places.ensures.places.few, c.told-sums)) in
    adds_errors c.args.marks.now c.args.word.now c.args.sums.now c.gathered-places.result.list c.points_at-points.result c.solve.new.sums _ c.with_values.result c.gathered-places.result.count c.told-sums c.points_at-points.ensures.long
    c.gathered-places.ensures c.points_at-points.ensures.points c.solve.ensures (λ i l. get_or_append_left c.solve.new.sums (drop c.gathered-places.result.count c.args.sums.now) 0 i (omega (arith, c.solve.auto.sums, short))) c.with_values.ensures
