use Rattle.std.proofs.Common.{◌++◌, sym, ap, ◌∙◌}
use Rattle.rll_code.proofs.WordCoding.{Carries-same, bits_of_four, four_appended}
use Rattle.rll_code.proofs.word_encoder.add_four.Goals as goal

pub returns-clause-goes_on : goal.returns-clause-goes_on
returns-clause-goes_on c = λ message written so_far.
    Carries-same _ _ _ _ _ _ _ (bits_of_four message c.args.bytes.now c.requires.four)
    (four_appended written _ _ _ _ ∙ ap (λ l. written ++ l) (sym c.side_by_side.ensures))
    (c.add_byte-four.ensures.goes_on _ _ (c.add_byte-three.ensures.goes_on _ _ (c.add_byte-two.ensures.goes_on _ _ (c.add_byte-one.ensures.goes_on message written so_far))))
