use Rattle.std.proofs.Common.{rules, List, eqb, not, subst, sym}
use Rattle.history_replay.proofs.Retained.{filter-from_filtered}
use Rattle.drive_core.specs.declared.accepted.Accepted.{Accepted}
use Rattle.drive_core.specs.Accepting.{Drops}
use Rattle.drive_core.proofs.Placing.{drops}
use Rattle.drive_core.proofs.accepted.leave.Goals as goal

pub returns : goal.returns
returns c =
    let kept = filter-from_filtered _ (λ (a : Accepted). not (eqb a.c c.args.c)) _ (λ x b g called. search rules) _ _ c.retain.ensures.filtered in
    subst (λ (xs : List Accepted). Drops c.args.commands.now.items xs c.args.c) (sym kept) (drops c.args.commands.now.items c.args.c)
