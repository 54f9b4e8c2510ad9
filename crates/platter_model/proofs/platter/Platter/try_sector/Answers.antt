-- What a stage found may be noted after its fetch.
use Rattle.std.proofs.Common.{◌≡◌, ◌∙◌, false, length, option_copied, sym, subst, arith, rules}
use Rattle.platter_model.specs.declared.op.Op.TheVariants.{Tried}
use Rattle.platter_model.specs.State.{State}
use Rattle.platter_model.specs.TrueLog.{MayFollow, is_off}
use Rattle.platter_model.proofs.Notes.{noted_on}
use Rattle.platter_model.proofs.platter.Platter.try_sector.Goals as goal

pub note-requires-clause-may : goal.note-requires-clause-may
note-requires-clause-may c =
    let same : option_copied c.as_ref.result ≡ c.find-found.result = search rules in
    let given = c.find-found.ensures.found in
    let on : is_off c.self.inside.kept.ops.items ≡ false = sym c.self.invariant.off ∙ c.if-self.false in
    let last : c.len-at.result ≡ length c.self.inside.kept.ops.items = omega (arith, c.len-at.ensures, c.self.inside.kept.ops.ok) in
    let P : State → Type 0 = λ s. MayFollow s.ops (Tried c.len-at.result c.args.p c.args.stage (option_copied c.as_ref.result)) in
    subst P (sym (rw c.of-attempt.ensures at c.add.ensures))
    (noted_on c.self.inside.kept.ops.items c.args.p c.args.stage given.0 (option_copied c.as_ref.result) c.len-at.result last c.self.invariant.log on given.1 (rw same given.2))
