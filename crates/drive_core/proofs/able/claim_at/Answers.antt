use Rattle.std.proofs.Common.{◌∙◌, sym, ap, subst, List, Some, None}
use Rattle.std.specs.Prelude.{position}
use Rattle.write_cache.specs.Contents.{Contents}
use Rattle.command_engine.specs.Need.{need_of}
use Rattle.drive_core.specs.declared.accepted.Accepted.{Accepted}
use Rattle.drive_core.specs.Accepting.{is_numbered, under_way}
use Rattle.drive_core.specs.Needed.{IsNeeded}
use Rattle.drive_core.proofs.Placing.{under_way-nowhere}
use Rattle.drive_core.proofs.Holding.{work-there, claims-both, claims-nothing}
use Rattle.drive_core.proofs.able.claim_at.Goals as goal

pub returns-in-Some-work : goal.returns-in-Some-work
returns-in-Some-work c s fits =
    claims-both s c.args.server.now c.args.c c.in-Some-work.work c.claim_by.result fits
    (ap (λ (xs : List Accepted). under_way xs c.args.c) (sym c.as_slice-commands.ensures.value)
    ∙ work-there c.as_slice-commands.result.now c.args.c c.in-Some.i c.index-commands-i.result (Some c.in-Some-work.work) (ap (λ (xs : List Accepted). position (is_numbered c.args.c) xs) c.as_slice-commands.ensures.value ∙ (sym c.requires ∙ c.in-Some.is))
    c.in-Some-work.is)
    c.claim_by.ensures.c
    (subst (λ (cache : Contents). IsNeeded cache (need_of c.in-Some-work.work) c.claim_by.result.needs) c.cached.ensures c.claim_by.ensures.needs)
    c.claim_by.ensures.holds

pub returns-in-None-work : goal.returns-in-None-work
returns-in-None-work c s fits =
    claims-nothing s c.args.server.now c.args.c c.nothing.result fits
    (ap (λ (xs : List Accepted). under_way xs c.args.c) (sym c.as_slice-commands.ensures.value)
    ∙ work-there c.as_slice-commands.result.now c.args.c c.in-Some.i c.index-commands-i.result None (ap (λ (xs : List Accepted). position (is_numbered c.args.c) xs) c.as_slice-commands.ensures.value ∙ (sym c.requires ∙ c.in-Some.is)) c.in-None-work.is)
    c.nothing.ensures.c c.nothing.ensures.needs c.nothing.ensures.holds

pub returns-in-None : goal.returns-in-None
returns-in-None c s fits =
    claims-nothing s c.args.server.now c.args.c c.nothing-in-None.result fits
    (under_way-nowhere c.args.server.now.commands.items c.args.c (sym c.requires ∙ c.in-None.is))
    c.nothing-in-None.ensures.c c.nothing-in-None.ensures.needs c.nothing-in-None.ensures.holds
