use Rattle.std.proofs.Common.{ap₂, ◌∙◌, bit_xor, bit_and, get_or, ◌/◌}
use Rattle.rs_sector.proofs.LaneLaws.{product_of_halves}
use Rattle.rs_sector.proofs.field.mul.Goals as goal

pub returns : goal.returns
returns c =
    ap₂ (λ low high. bit_xor (get_or low (bit_and c.args.b 15) 0) (get_or high (c.args.b / 16) 0)) c.low_products.ensures c.high_products.ensures
    ∙ product_of_halves c.args.a c.args.b c.ranges.b.fits
