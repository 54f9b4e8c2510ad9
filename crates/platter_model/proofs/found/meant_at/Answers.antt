use Rattle.std.proofs.Common.{sym, ap, ◌∙◌}
use Rattle.platter_model.specs.Places.{payload_at}
use Rattle.platter_model.proofs.Beside.{meant_from_link}
use Rattle.platter_model.proofs.found.meant_at.Goals as goal

pub returns-in-Some : goal.returns-in-Some
returns-in-Some c = λ p attempt fetched.
    c.settled_at.ensures ∙ (ap (λ m. payload_at c.args.kept.now.ops.items m) (sym c.in-Some.is) ∙ meant_from_link _ _ _ c.args.at _ p attempt c.requires.kept c.index.ensures fetched)

pub returns-in-None : goal.returns-in-None
returns-in-None c = λ p attempt fetched.
    ap (λ m. payload_at c.args.kept.now.ops.items m) (sym c.in-None.is) ∙ meant_from_link _ _ _ c.args.at _ p attempt c.requires.kept c.index.ensures fetched
