use Rattle.std.proofs.Common.{◌∙◌, ap, sym, Bool}
use Rattle.cdb_reader.specs.declared.plan.Deed.{Deed}
use Rattle.cdb_reader.specs.declared.plan.Plan.TheVariants.{Moving, Over}
use Rattle.cdb_reader.specs.Plan.{next, when}
use Rattle.history_replay.proofs.plan.after_moving.Goals as goal

pub returns-in-Ended : goal.returns-in-Ended
returns-in-Ended c =
    c.over_where.ensures ∙ ap (λ (may : Bool). when may Over) c.may_end_moving.ensures
    ∙ ap (λ (deed : Deed). next (Moving c.args.moving) deed) (sym c.in-Ended.is)
