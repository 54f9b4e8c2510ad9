use Rattle.std.proofs.Common.{◌+◌, ◌*◌, ◌++◌, sym, ap, ◌∙◌, refl, arith}
use Rattle.rll_code.specs.Code.{tail}
use Rattle.rll_code.proofs.WordCoding.{Carries-same, bits_of_three, four_appended, carries_more}
use Rattle.rll_code.proofs.word_encoder.add_end.Goals as goal

pub returns : goal.returns
returns c = λ message written so_far.
    Carries-same _ _ _ _ _ _ _ (ap (λ l. l ++ tail) (bits_of_three message c.args.bytes.now c.requires.three))
    (four_appended written _ _ _ _ ∙ ap (λ l. written ++ l) (sym c.side_by_side.ensures))
    (carries_more _ _ tail 6 c.add_byte-three.result.state c.add_byte-three.result.carry c.look_up_tail.result 0 _
    (ap (λ n. c.add_byte-three.result.carry + 1024 * n) c.from.ensures) (omega arith) refl
    (c.add_byte-three.ensures.goes_on _ _ (c.add_byte-two.ensures.goes_on _ _ (c.add_byte-one.ensures.goes_on message written so_far)))
    c.look_up_tail.ensures.places)
