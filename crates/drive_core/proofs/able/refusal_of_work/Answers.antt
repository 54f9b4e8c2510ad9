use Rattle.std.proofs.Common.{◌∙◌, sym, ap, List}
use Rattle.std.specs.Prelude.{position}
use Rattle.drive_core.specs.declared.accepted.Accepted.{Accepted}
use Rattle.drive_core.specs.Accepting.{is_numbered}
use Rattle.drive_core.proofs.Claimed.{gathered, refused-by-claims}
use Rattle.drive_core.proofs.able.refusal_of_work.Goals as goal

pub claim_at-claim-requires : goal.claim_at-claim-requires
claim_at-claim-requires c = c.place.ensures ∙ ap (λ (xs : List Accepted). position (is_numbered c.args.c) xs) c.as_slice-commands.ensures.value

pub returns-in-Some : goal.returns-in-Some
returns-in-Some c s fits =
    refused-by-claims s c.args.server.now.set c.args.c c.args.coming c.in-Some.member c.claim_at-claim.result c.as_slice-in-Some.result.now c.held_back.result
    fits.flightless fits.tasks.set (sym c.member.ensures ∙ c.in-Some.is) c.if-member.true (c.claim_at-claim.ensures s fits)
    (gathered s c.claims-claims.result.items c.as_slice.result.now c.holders-holders.result.items c.as_slice-in-Some.result.now
    (c.claims-claims.ensures.claims s fits) c.as_slice.ensures.value c.holders-holders.ensures c.as_slice-in-Some.ensures.value)
    c.held_back.ensures
