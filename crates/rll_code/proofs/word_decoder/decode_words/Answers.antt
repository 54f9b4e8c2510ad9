use Rattle.std.proofs.Common.{◌≡◌, ℕ, ◌+◌, ◌*◌, ◌/◌, ◌%◌, ◌^◌, ◌<◌, length, take, drop, refl, subst, arith, ◌++◌}
use Rattle.std.proofs.Math.Seq.{lt-length-set}
use Rattle.std.proofs.lemmas.List.{length-take-le}
use Rattle.bit_words.specs.Words.{first_bits, word_bits}
use Rattle.bit_words.proofs.BitLists.{length-word_bits}
use Rattle.rll_code.proofs.Decoding.{Decoded, kept-bound, decoded_none, decoded_more, decoded_all}
use Rattle.rll_code.proofs.WordReading.{first_six, sixteen_of}
use Rattle.rll_code.proofs.word_decoder.decode_words.Goals as goal

pub loop-j-init : goal.loop-j-init
loop-j-init c =
    let words = c.args.words.now in
    let n = 16 * length c.args.out.now + 6 in
    let channel = take n (word_bits words) in
    let long : length channel ≡ n = length-take-le n (word_bits words) (omega (arith, length-word_bits words)) in
    let state = 64 * c.settle-start.result.state in
    let kept = c.lowest_three-kept.result in
    let bits : c.settle-start.result.read % 65536 % 8 ≡ kept % 65536 = omega (arith, c.lowest_three-kept.ensures.bits) in
    let marks : c.settle-start.result.read / 65536 % 8 ≡ kept / 65536 = omega (arith, c.lowest_three-kept.ensures.flags) in
    subst (λ m. Decoded channel c.args.out.now c.args.flags.now state (kept % 65536) m 0) marks
    (subst (λ b. Decoded channel c.args.out.now c.args.flags.now state b (c.settle-start.result.read / 65536 % 8) 0) bits
    (decoded_none channel c.args.out.now c.args.flags.now _ _ _ state (omega arith) (first_six words n (omega arith) (omega arith)) c.settle-start.ensures.settles))

pub read_byte-one-requires-clause-bits : goal.read_byte-one-requires-clause-bits
read_byte-one-requires-clause-bits c = (kept-bound c.loop-j.invariant.kept _ _ _ c.loop-j.invariant.keeps).0

pub read_byte-one-requires-clause-flags : goal.read_byte-one-requires-clause-flags
read_byte-one-requires-clause-flags c = (kept-bound c.loop-j.invariant.kept _ _ _ c.loop-j.invariant.keeps).1

pub loop-j-preserved : goal.loop-j-preserved
loop-j-preserved c =
    let words = c.args.words.now in
    let n = 16 * length c.args.out.now + 6 in
    let channel = take n (word_bits words) in
    let at = 4 * c.loop-j.j in
    let v = c.sixty_four-channel.result in
    let holds : (i place part : ℕ) → part ≡ v / 2 ^ (16 * i) % 65536 → place ≡ 64 * c.loop-j.j + 6 + 16 * i → i < 4 → drop place channel ≡ first_bits 16 part ++ drop (place + 16) channel = λ i place part is_part is_place four.
    sixteen_of (word_bits words) v (64 * c.loop-j.j + 6) n i part place c.sixty_four-channel.ensures is_part is_place four (omega arith) (omega (arith, length-word_bits words)) in
    let so_far = c.loop-j.invariant in
    let one = decoded_more channel _ _ _ _ _ at (at + 1) _ _ _ _ _ _ refl so_far (c.read_byte-one.ensures.reads so_far.kept so_far.keeps) (holds 0 (16 * at + 6) _ (omega arith) (omega arith) (omega arith)) (omega arith) (omega arith) in
    let two = decoded_more channel _ _ _ _ _ (at + 1) (at + 2) _ _ _ _ _ _ (omega arith) one (c.read_byte-two.ensures.reads one.kept one.keeps) (holds 1 (16 * (at + 1) + 6) _ (omega arith) (omega arith) (omega arith)) (lt-length-set _ at _ (omega arith)) (lt-length-set _ at _ (omega arith)) in
    let three = decoded_more channel _ _ _ _ _ (at + 2) (at + 3) _ _ _ _ _ _ (omega arith) two (c.read_byte-three.ensures.reads two.kept two.keeps) (holds 2 (16 * (at + 2) + 6) _ (omega arith) (omega arith) (omega arith)) (lt-length-set _ (at + 1) _ (lt-length-set _ at _ (omega arith))) (lt-length-set _ (at + 1) _ (lt-length-set _ at _ (omega arith))) in
    decoded_more channel _ _ _ _ _ (at + 3) (4 * (c.loop-j.j + 1)) _ _ _ _ _ _ (omega arith) three (c.read_byte-four.ensures.reads three.kept three.keeps) (holds 3 (16 * (at + 3) + 6) _ (omega arith) (omega arith) (omega arith)) (lt-length-set _ (at + 2) _ (lt-length-set _ (at + 1) _ (lt-length-set _ at _ (omega arith)))) (lt-length-set _ (at + 2) _ (lt-length-set _ (at + 1) _ (lt-length-set _ at _ (omega arith))))

pub returns-clause-bytes : goal.returns-clause-bytes
returns-clause-bytes c =
    let words = c.args.words.now in
    let n = 16 * length c.args.out.now + 6 in
    let long : length (take n (word_bits words)) ≡ n = length-take-le n (word_bits words) (omega (arith, length-word_bits words)) in
    (decoded_all _ _ _ _ _ _ _ c.loop-j.invariant (omega arith) (omega arith) (omega arith)).0

pub returns-clause-flagged : goal.returns-clause-flagged
returns-clause-flagged c =
    let words = c.args.words.now in
    let n = 16 * length c.args.out.now + 6 in
    let long : length (take n (word_bits words)) ≡ n = length-take-le n (word_bits words) (omega (arith, length-word_bits words)) in
    (decoded_all _ _ _ _ _ _ _ c.loop-j.invariant (omega arith) (omega arith) (omega arith)).1
