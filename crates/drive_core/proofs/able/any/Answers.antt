use Rattle.std.proofs.Common.{◌≢◌, ◌∙◌, ◌<◌, ℕ, List, Some, ap, sym, arith, get_or, length}
use Rattle.std.specs.Prelude.{◌%◌}
use Rattle.std.proofs.lemmas.Bool.{eqb-false}
use Rattle.drive_scene.specs.declared.answer.Pick.TheVariants.{Work}
use Rattle.drive_scene.proofs.Walking.{any-picked}
use Rattle.drive_core.proofs.able.any.Goals as goal

pub returns-clause-picked : goal.returns-clause-picked
returns-clause-picked c s fits =
    let full : length c.able_commands-commands.result.items ≢ 0 = eqb-false _ 0 (sym c.is_empty.ensures ∙ c.if-is_empty.false) in
    let some : 0 < c.len.result = omega (arith, full, c.len.ensures.value) in
    ap (λ (xs : List ℕ). Some (Work (get_or xs (c.args.x % c.len.result) 0))) c.deref.ensures.0
    ∙ any-picked s c.args.x c.len.result c.able_commands-commands.result.items fits.flightless (c.able_commands-commands.ensures.able s fits) c.len.ensures.value some (omega (arith, some))
