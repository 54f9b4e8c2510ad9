use Rattle.std.proofs.Common.{◌+◌, ◌/◌, ◌%◌, get_or, ap, ◌∙◌, arith}
use Rattle.std.proofs.lemmas.Nat.{shl_whole}
use Rattle.bit_words.specs.Words.{first_bits}
use Rattle.rll_code.proofs.WordReading.{sixty_four_bits}
use Rattle.rll_code.proofs.word_decoder.sixty_four.Goals as goal

pub returns : goal.returns
returns c =
    let words = c.args.words.now in
    let j = c.args.j in
    let whole = shl_whole (get_or words (j + 1) 0 % 64) 6 58 64 (omega arith) (omega arith) in
    ap (λ h. first_bits 64 (h + get_or words j 0 / 64)) whole ∙ sixty_four_bits words j c.requires (omega arith)
