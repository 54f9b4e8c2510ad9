use Rattle.std.proofs.Common.{ap, ◌∙◌}
use Rattle.platter_model.specs.Given.{under}
use Rattle.platter_model.specs.Places.{gathered}
use Rattle.platter_model.proofs.Lined.{give_is}
use Rattle.platter_model.proofs.flaws.give.Goals as goal

pub returns-clause-given : goal.returns-clause-given
returns-clause-given c =
    let flaws = gathered c.args.p c.index-sector.result.now.written c.args.kept.now.ops.items c.line_up.new.order.items in
    give_is c.args.p _ c.args.attempt _ c.index-sector.result.now c.line_up.new.order.items _ c.requires.within c.index-sector.ensures
    c.requires.kept.are_sectors c.line_up.ensures.all (c.apply.ensures.under ∙ ap (λ samples. under c.args.attempt flaws samples) c.copy_from_slice.ensures.after)
