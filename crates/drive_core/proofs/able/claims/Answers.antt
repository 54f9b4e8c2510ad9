use Rattle.std.proofs.Common.{◌≡◌, ◌∙◌, ◌∷◌, [], ◌++◌, ap, arith, length, length-append, List}
use Rattle.std.specs.Prelude.{position}
use Rattle.drive_core.specs.declared.accepted.Accepted.{Accepted}
use Rattle.drive_core.specs.Accepting.{is_numbered}
use Rattle.drive_core.proofs.Claimed.{all-older, one-older, after-few, one_more}
use Rattle.drive_core.proofs.able.claims.Goals as goal

pub place_from-place-requires : goal.place_from-place-requires
place_from-place-requires c =
    all-older c.args.server.now.commands.items c.as_slice-commands.result.now c.args.server.now.set c.members-member-items.result.now c.loop-member.older
    c.loop-member.member-index c.member-item.result c.loop-member.invariant.older c.as_slice-commands.ensures.value c.members-member-items.ensures.value
    c.loop-member-test.true c.member-item.is

pub claim_at-requires : goal.claim_at-requires
claim_at-requires c =
    c.place_from-place.ensures ∙ ap (λ (xs : List Accepted). position (is_numbered c.member-item.result.task.c) xs) c.as_slice-commands.ensures.value

pub loop-member-preserved : goal.loop-member-preserved
loop-member-preserved c =
    let more : c.push.new.self.items ≡ c.loop-member.claims.items ++ c.claim_at.result ∷ [] = cc in
    record {
      claims = λ s fits. one_more s c.members-member-items.result.now c.loop-member.member-index c.member-item.result c.claim_at.result c.loop-member.claims.items
          c.push.new.self.items (c.members-member-items.ensures.value ∙ fits.tasks.set) c.loop-member-test.true c.member-item.is (c.claim_at.ensures s fits)
          (c.loop-member.invariant.claims s fits) more;
      each = omega (arith, ap length more, length-append c.loop-member.claims.items (c.claim_at.result ∷ []), c.loop-member.invariant.each);
      few = after-few c.loop-member.older c.loop-member.member-index c.place_from-place.result c.older_after-older.result c.loop-member.invariant.few c.older_after-older.ensures;
      older = one-older c.args.server.now.commands.items c.args.server.now.set c.members-member-items.result.now c.loop-member.older c.loop-member.member-index
          c.member-item.result c.place_from-place.result c.older_after-older.result c.members-member-items.ensures.by_age c.loop-member.invariant.older
          c.members-member-items.ensures.value c.loop-member-test.true c.member-item.is
          (c.place_from-place.ensures ∙ ap (λ (xs : List Accepted). position (is_numbered c.member-item.result.task.c) xs) c.as_slice-commands.ensures.value)
          c.older_after-older.ensures;
    }
