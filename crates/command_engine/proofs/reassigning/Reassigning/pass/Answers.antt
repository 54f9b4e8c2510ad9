-- where the block isn't among those left, none is hardened
use Rattle.std.proofs.Common.{◌≡◌, ◌∙◌, ℕ, Some, None, sym, ap, List}
use Rattle.std.specs.Prelude.{Option, drop, unwrap_or, ◌==◌}
use Rattle.std.specs.List.{position}
use Rattle.disk_base.specs.declared.address.Lba.{Lba}
use Rattle.cdb_reader.specs.declared.plan.Moving as moving
use Rattle.cdb_reader.specs.declared.plan.Plan.TheVariants.{Moving}
use Rattle.cdb_reader.specs.Plan.{after_move}
use Rattle.command_engine.specs.Answers.{past}
use Rattle.command_engine.proofs.reassigning.Reassigning.pass.Goals as goal

pub returns-in-None-clause-plan : goal.returns-in-None-clause-plan
returns-in-None-clause-plan c =
    let m : moving.Moving = record { blocks = c.args.self.now.blocks.items; hardened = c.args.self.now.hardened } in
    let nowhere : position (λ block. block.0 == c.in-Some.b.0) (drop m.hardened m.blocks) ≡ None =
    ap (position (λ block. block.0 == c.in-Some.b.0)) (sym c.left.ensures) ∙ sym c.place_of.ensures ∙ c.in-None.is in
    ap (λ (o : Option ℕ). unwrap_or (after_move m o) (Moving m)) (sym nowhere) ∙ ap (past m) (sym c.in-Some.is)
