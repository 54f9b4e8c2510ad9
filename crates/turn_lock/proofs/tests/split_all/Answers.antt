use Rattle.std.proofs.Common.{◌≡◌, arith, subst, sym}
use Rattle.std.specs.Prelude.{All}
use Rattle.std.proofs.lemmas.List.Elements.{All-push}
use Rattle.turn_lock.specs.Pass.{Belongs}
use Rattle.turn_lock.proofs.tests.split_all.Goals as goal

pub loop-preserved : goal.loop-preserved
loop-preserved g c =
    let i = c.loop.invariant in
    let s = c.split-one.ensures in
    record {
      belongs = s.belongs.0;
      parts = omega (arith, i.parts, s.parts.1);
      all = subst (All (λ p. Belongs c.args.lock.now p × (c.args.lock.now.kept ≡ 10))) (sym c.in_ok-push.ensures.items) (All-push (λ p. Belongs c.args.lock.now p × (c.args.lock.now.kept ≡ 10)) c.loop.all.items c.split-one.result i.all (s.belongs.1, c.requires.belongs.1));
    }
