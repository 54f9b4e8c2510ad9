use Rattle.std.proofs.Common.{◌≡◌, ◌+◌, ◌-◌, ◌*◌, ◌%◌, length, take, drop, sym, ap, ◌∙◌, arith}
use Rattle.rll_code.specs.declared.tables.TheConstants.{SPREAD}
use Rattle.rll_code.proofs.BitLists.{length-low_bits}
use Rattle.rll_code.proofs.Packing.{eight}
use Rattle.rll_code.proofs.SpreadTable.{table_spreads}
use Rattle.rll_code.proofs.encoder.spread.Goals as goal

pub returns : goal.returns
returns c =
    let at = 8 * (c.args.word % 256) in
    let all : at + 8 - at ≡ 8 = omega arith in
    let bits = ap (λ n. take n (drop at SPREAD)) all ∙ table_spreads c.args.word in
    sym (eight _ (ap length bits ∙ length-low_bits 8 c.args.word)) ∙ bits
