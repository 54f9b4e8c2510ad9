use Rattle.std.proofs.Common.{◌≡◌, ◌+◌, ◌*◌, ◌/◌, ◌%◌, not, eqb, sym, subst, ◌++◌, arith}
use Rattle.bit_words.specs.Words.{first_bits}
use Rattle.rll_code.specs.Steps.{Reads}
use Rattle.rll_code.proofs.Decoding.{sixteen_read}
use Rattle.rll_code.proofs.WordReading.{two_halves}
use Rattle.rll_code.proofs.word_decoder.read_byte.Goals as goal

pub returns-clause-reads : goal.returns-clause-reads
returns-clause-reads c = λ before keeps.
    let kept = c.args.kept in
    let state = 64 * c.args.state in
    let last = 64 * c.settle-second.result.state in
    let first = c.settle-first.ensures in
    let second = c.settle-second.ensures in
    let all = kept * 256 + c.settle-first.result.read * 16 + c.settle-second.result.read in
    let of_bits : all % 65536 ≡ kept % 65536 * 256 + c.settle-first.result.read % 65536 * 16 + c.settle-second.result.read % 65536 = omega (arith, first.bits, second.bits, c.requires.bits) in
    let of_flags : all / 65536 ≡ kept / 65536 * 256 + c.settle-first.result.read / 65536 * 16 + c.settle-second.result.read / 65536 = omega (arith, first.bits, second.bits, c.requires.bits) in
    let read = sixteen_read before state _ _ _ _ _ _ _ _ _ last _ _ keeps first.settles second.settles of_bits of_flags in
    let byte : all % 65536 / 8 ≡ all / 8 % 256 = omega (arith, read.0.0) in
    let bits : all % 65536 % 8 ≡ c.lowest_three.result % 65536 = omega (arith, c.lowest_three.ensures.bits) in
    let marks : all / 65536 % 8 ≡ c.lowest_three.result / 65536 = sym c.lowest_three.ensures.flags in
    let v = c.args.sixteen in
    let xs = first_bits 8 (v % 256) ++ first_bits 8 (v / 256) in
    let low = c.lowest_three.result % 65536 in
    let high = c.lowest_three.result / 65536 in
    let flagged = not (eqb (all / 65536 / 8) 0) in
    let with_bits = subst (λ n. Reads before state xs (all % 65536 / 8) flagged last n (all / 65536 % 8)) bits read.1 in
    let with_marks = subst (λ m. Reads before state xs (all % 65536 / 8) flagged last low m) marks with_bits in
    let with_byte = subst (λ b. Reads before state xs b flagged last low high) byte with_marks in
    subst (λ l. Reads before state l (all / 8 % 256) flagged last low high) (sym (two_halves v)) with_byte
