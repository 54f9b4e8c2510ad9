-- where a byte differs from the first, all digits are printed
use Rattle.std.proofs.Common.{sym, ◌∙◌, arith}
use Rattle.text_words.proofs.Filled.{mixed_word}
use Rattle.text_words.proofs.printing.put_block.Goals as goal

pub returns-else-eq : goal.returns-else-eq
returns-else-eq g c start text before =
    rw (mixed_word c.args.block.now (omega arith) (sym c.eq.ensures ∙ c.if-eq.false)) (c.put_hex.ensures start text before)
