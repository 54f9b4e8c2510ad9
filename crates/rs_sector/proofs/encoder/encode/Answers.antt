use Rattle.std.proofs.Common.{sym, subst}
use Rattle.rs_sector.specs.Code.{Encodes}
use Rattle.rs_sector.proofs.Codewords.{encoded}
use Rattle.rs_sector.proofs.encoder.encode.Goals as goal

pub returns : goal.returns
returns c =
    subst (Encodes c.args.plain.now) (sym c.joined.ensures)
    (encoded c.args.plain.now c.combined-sums.result c.combined.result c.point_powers.result.now c.check_rows.result.now c.told-plain c.fits-plain c.point_powers.ensures c.check_rows.ensures c.combined-sums.ensures c.combined.ensures)
