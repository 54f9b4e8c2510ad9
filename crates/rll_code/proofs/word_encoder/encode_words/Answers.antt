use Rattle.std.proofs.Common.{◌≡◌, ◌+◌, ◌-◌, ◌*◌, ◌++◌, false, length, take, drop, refl, ap, subst, arith}
use Rattle.std.specs.Prelude.{replicate}
use Rattle.std.specs.List.{flat_map}
use Rattle.std.proofs.lemmas.List.{take_rest}
use Rattle.bit_words.specs.Words.{word_bits}
use Rattle.rll_code.specs.Bits.{byte_bits}
use Rattle.rll_code.specs.Words.{Carries}
use Rattle.rll_code.proofs.WordCoding.{first_carried, word_carried, code_held}
use Rattle.rll_code.proofs.word_encoder.encode_words.Goals as goal

pub loop-j-init : goal.loop-j-init
loop-j-init c = record {
  carries = first_carried c.args.bytes.now c.args.out.now _ _ _ c.requires.some c.add_byte-first.ensures.goes_on;
  small = c.add_byte-first.ensures.carry;
}

pub loop-j-preserved : goal.loop-j-preserved
loop-j-preserved c =
    let at = 4 * c.loop-j.j + 1 in
    let four : 4 * c.loop-j.j + 5 - at ≡ 4 = omega arith in
    record {
      carries = word_carried c.args.bytes.now c.loop-j.out _ c.loop-j.j at _ _ _ _ _ refl (omega arith) (omega arith)
          (ap (λ n. take n (drop at c.args.bytes.now)) four) c.add_four-next.ensures.goes_on c.loop-j.invariant.carries;
      small = c.add_four-next.ensures.carry;
    }

pub returns : goal.returns
returns c =
    let bytes = c.args.bytes.now in
    let last = length c.args.out.now - 2 in
    let all : c.loop-j.j ≡ last = omega arith in
    let carries = subst (λ j. Carries (flat_map byte_bits (take (4 * j + 1) bytes)) (replicate 16 false ++ word_bits (take j c.loop-j.out)) 16 c.loop-j.state c.loop-j.carry) all c.loop-j.invariant.carries in
    code_held bytes c.loop-j.out _ last _ _ _ _ _ refl (omega arith) (omega arith) (take_rest bytes (4 * last + 1)) c.add_end-end.ensures carries
