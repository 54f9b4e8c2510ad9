use Rattle.std.proofs.Common.{refl, take, ap, ◌∙◌}
use Rattle.rll_code.proofs.Writing.{pieces_written}
use Rattle.rll_code.proofs.encoder.put.Goals as goal

pub returns : goal.returns
returns c =
    pieces_written c.args.places.now c.copy_from_slice.new.self c.copy_from_slice-2.new.self c.copy_from_slice-3.new.self c.args.word _ c.requires
    (c.copy_from_slice.ensures.after ∙ c.spread.ensures)
    (c.copy_from_slice-2.ensures.after ∙ c.spread-2.ensures)
    (c.copy_from_slice-3.ensures.after ∙ ap (take 6) c.spread-3.ensures)
    refl
