use Rattle.std.proofs.Common.{◌≡◌, sym, ap, ◌∙◌, take, slice_get, option_copied}
use Rattle.platter_model.specs.Sector.{meant}
use Rattle.platter_model.specs.TrueLog.{attempt_of, is_other}
use Rattle.platter_model.proofs.platter.Platter.note.Goals as goal

pub meant_at-requires-clause-fetched : goal.meant_at-requires-clause-fetched
meant_at-requires-clause-fetched c =
    let ops_are : c.self.inside.kept.ops.items ≡ c.args.self.now.ops = ap (λ x. x.ops) c.self.view_is in
    (c.args.p, attempt_of c.args.stage, ap (λ os. slice_get os c.args.at) ops_are ∙ c.requires.may.1.fetched)

pub add-requires-clause-stray : goal.add-requires-clause-stray
add-requires-clause-stray c =
    let ops_are : c.self.inside.kept.ops.items ≡ c.args.self.now.ops = ap (λ x. x.ops) c.self.view_is in
    let was : option_copied c.meant_at.result ≡ meant c.args.p (take c.args.at c.args.self.now.ops) =
    c.meant_at.ensures c.args.p (attempt_of c.args.stage) (ap (λ os. slice_get os c.args.at) ops_are ∙ c.requires.may.1.fetched) ∙ ap (λ os. meant c.args.p (take c.args.at os)) ops_are in
    c.is_other-stray.ensures ∙ (ap (λ m. is_other m (option_copied c.args.found)) was ∙ ap (λ f. is_other (meant c.args.p (take c.args.at c.args.self.now.ops)) f) (sym c.copied-found.ensures))
