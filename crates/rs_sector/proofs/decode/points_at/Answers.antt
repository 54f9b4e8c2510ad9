use Rattle.std.proofs.Common.{◌<◌, get_or, ◌∙◌, ◌-◌, arith}
use Rattle.rs_sector.specs.Code.{point}
use Rattle.rs_sector.proofs.Powers.{power-lt, power-one}
use Rattle.rs_sector.proofs.Numbering.{written_more}
use Rattle.rs_sector.proofs.decode.points_at.Goals as goal

pub loop-i-preserved : goal.loop-i-preserved
loop-i-preserved c =
    let within : c.loop-i.i < 16 = omega (arith, c.requires.few) in
    let place = get_or c.args.places.now.list c.loop-i.i 0 in
    written_more (λ i. point (get_or c.args.places.now.list i 0)) 16 c.loop-i.i _ c.loop-i.points within
    (c.point_powers.ensures place 1 (c.requires.below c.loop-i.i (omega arith)) (omega arith) ∙ power-one (point place) (power-lt 2 (147 - place))) c.loop-i.invariant
