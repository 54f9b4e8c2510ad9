use Rattle.std.proofs.Common.{◌≡◌, ◌∙◌, ℕ, ◌∷◌, [], ◌++◌, List, None, true, false, arith, ap, subst, sym, length, length-append}
use Rattle.std.specs.Prelude.{All}
use Rattle.std.specs.Option.{is_none}
use Rattle.std.proofs.lemmas.List.Elements.{All-push}
use Rattle.drive_scene.specs.Scene.{Scene}
use Rattle.drive_core.specs.Fits.{Fits}
use Rattle.drive_scene.specs.Able.{work_refused, refusal_of_work}
use Rattle.drive_scene.proofs.Walking.{IsNext, member-there, able-one, able-none, free-one, tells_none}
use Rattle.drive_core.proofs.Claimed.{claim-there, gathered}
use Rattle.drive_core.proofs.able.able_commands.Goals as goal
use Rattle.drive_core.proofs.able.able_commands.Goals.{then-is_none, else-is_none}

pub work_refused-requires : goal.work_refused-requires
work_refused-requires c =
    member-there c.args.server.now.set c.members-member-items.result.now c.loop-i.i c.member-item.result c.members-member-items.ensures.value
    c.members-member-items.ensures.by_age c.loop-i-test.true c.member-item.is

pub loop-i-preserved : goal.loop-i-preserved
loop-i-preserved c =
    let refused : (s : Scene) → Fits s c.args.server.now → c.work_refused.result ≡ work_refused s c.member-item.result.task.c c.member-item.result = λ s fits.
    c.work_refused.ensures s fits
    (claim-there s c.members-member-items.result.now c.claims-claims.result.items c.deref.result.now c.loop-i.i c.member-item.result _
    (c.members-member-items.ensures.value ∙ fits.tasks.set) c.loop-i-test.true c.member-item.is (c.claims-claims.ensures.claims s fits) c.deref.ensures.0)
    (gathered s c.claims-claims.result.items c.as_slice.result.now c.holders-holders.result.items c.as_slice-in-loop-i.result.now
    (c.claims-claims.ensures.claims s fits) c.as_slice.ensures.value c.holders-holders.ensures c.as_slice-in-loop-i.ensures.value) in
    let next : (s : Scene) → Fits s c.args.server.now
    → IsNext s c.members-member-items.result.now c.loop-i.i c.member-item.result c.work_refused.result = λ s fits. record {
      set = c.members-member-items.ensures.value ∙ fits.tasks.set;
      inside = c.loop-i-test.true;
      there = c.member-item.is;
      refused = refused s fits;
    } in
    elim c.if-is_none.branch [
      | then-is_none w ↦
          let more : c.if-is_none.able.items ≡ c.loop-i.able.items ++ c.member-item.result.task.c ∷ [] = cc in
          let none : is_none c.work_refused.result ≡ true = tells_none c.work_refused.result c.is_none.result true c.is_none.ensures w.if-is_none.true in
          record {
            able = λ s fits. able-one s c.members-member-items.result.now c.loop-i.i c.member-item.result c.work_refused.result
                c.loop-i.able.items c.if-is_none.able.items
                (next s fits) (c.loop-i.invariant.able s fits) none more;
            free = λ s fits. subst (λ (xs : List ℕ). All (λ (n : ℕ). refusal_of_work s 0 n ≡ None) xs) (sym more)
                (All-push (λ (n : ℕ). refusal_of_work s 0 n ≡ None) c.loop-i.able.items c.member-item.result.task.c (c.loop-i.invariant.free s fits)
                (free-one s c.args.server.now.set c.member-item.result c.work_refused.result fits.tasks.set
                (member-there c.args.server.now.set c.members-member-items.result.now c.loop-i.i c.member-item.result
                c.members-member-items.ensures.value c.members-member-items.ensures.by_age c.loop-i-test.true c.member-item.is)
                (refused s fits) none));
            few = omega (arith, ap length more, length-append c.loop-i.able.items (c.member-item.result.task.c ∷ []), c.loop-i.invariant.few);
          }
      | else-is_none w ↦
          let same : c.if-is_none.able.items ≡ c.loop-i.able.items = cc in
          record {
            able = λ s fits. able-none s c.members-member-items.result.now c.loop-i.i c.member-item.result c.work_refused.result
                c.loop-i.able.items c.if-is_none.able.items
                (next s fits) (c.loop-i.invariant.able s fits)
                (tells_none c.work_refused.result c.is_none.result false c.is_none.ensures w.if-is_none.false) same;
            free = λ s fits. subst (λ (xs : List ℕ). All (λ (n : ℕ). refusal_of_work s 0 n ≡ None) xs) (sym same) (c.loop-i.invariant.free s fits);
            few = omega (arith, ap length same, c.loop-i.invariant.few);
          }
    ]
