use Rattle.std.proofs.Common.{Some, ap, refl, Option}
use Rattle.std.specs.Option.{option_and_then}
use Rattle.command_engine.specs.declared.answer.Answer.TheVariants.{NextDirty, Hardened}
use Rattle.command_engine.specs.Answers.{after}
use Rattle.drive_core.specs.declared.accepted.Accepted.{Accepted}
use Rattle.drive_core.proofs.Hardened.{hardened_fits, fits_course, some_fits, replaces-twice, working_of}
use Rattle.drive_core.proofs.hardening.hardened.Goals as goal
use Rattle.block_machine.proofs.Booleans.{both}

pub answer-requires : goal.answer-requires
answer-requires c =
    let fit = fits_course _ c.args.b c.requires in
    some_fits _ fit.0 (NextDirty (Some c.args.b)) fit.1 (both _ _ fit.2).1

pub answer-requires-2 : goal.answer-requires-2
answer-requires-2 c =
    let fit = fits_course _ c.args.b c.requires in
    let served = both _ _ fit.2 in
    let at = working_of c.args.commands.now.items c.args.c fit.0 fit.1 in
    let gone = c.answer.ensures.goes at.0 fit.0 at.1 at.2 in
    some_fits _ (after fit.0 (NextDirty (Some c.args.b))) Hardened (ap (λ (o : Option Accepted). option_and_then (λ a. a.work) o) gone.own) (hardened_fits fit.0 c.args.b served.0 served.1)

pub returns-clause-reply : goal.returns-clause-reply
returns-clause-reply c w is =
    let at = working_of c.args.commands.now.items c.args.c w is in
    let gone = c.answer.ensures.goes at.0 w at.1 at.2 in
    c.answer-2.ensures.reply (after w (NextDirty (Some c.args.b))) (ap (λ (o : Option Accepted). option_and_then (λ a. a.work) o) gone.own)

pub returns-clause-goes : goal.returns-clause-goes
returns-clause-goes c a w there is =
    let gone = c.answer.ensures.goes a w there is in
    replaces-twice c.args.commands.now.items c.answer.new.commands.items c.answer-2.new.commands.items c.args.c _ _ gone
    (c.answer-2.ensures.goes (record a { work = Some (after w (NextDirty (Some c.args.b))) }) (after w (NextDirty (Some c.args.b))) gone.own refl)
