use Rattle.std.proofs.Common.{take, get_or, [], refl, arith}
use Rattle.rs_sector.specs.Lanes.{combination_of}
use Rattle.rs_sector.proofs.Suspects.{values_hold, ten_lanes}
use Rattle.rs_sector.proofs.locate.values_at_points.Goals as goal

pub returns : goal.returns
returns c =
    values_hold c.args.polynomial.now (take 9 c.args.polynomial.now) c.block_powers-blocks.result.now _ refl (omega (arith, c.told-polynomial)) c.block_powers-blocks.ensures
    (ten_lanes (λ b. combination_of (take 9 c.args.polynomial.now) (get_or c.block_powers-blocks.result.now b [])) c.combined.ensures c.combined-2.ensures c.combined-3.ensures c.combined-4.ensures c.combined-5.ensures c.combined-6.ensures c.combined-7.ensures c.combined-8.ensures c.combined-9.ensures c.combined-10.ensures)
