use Rattle.std.proofs.Common.{◌∙◌, ap, arith, ◌+◌, length, subst, sym, refl}
use Rattle.turn_lock.specs.Pass.{Rests, InSeen}
use Rattle.turn_lock.proofs.Kept.{splits}
use Rattle.turn_lock.proofs.Passes.{new_in_seen}
use Rattle.turn_lock.proofs.lock.TurnLock.split.Goals as goal

pub split_seat-seat-requires : goal.split_seat-seat-requires
split_seat-seat-requires g c = (ap (λ k. k.table) c.pass.view_is ∙ c.requires.belongs.0 ∙ sym (ap (λ k. k.table) c.self.view_is), omega arith, splits _ _ _)

pub invariant_of-pass : goal.invariant_of-pass
invariant_of-pass g c =
    let i = c.pass.invariant in
    let s = c.split_seat-seat.ensures in
    let o = c.split_off.ensures in
    let n = ap (λ k. k.parts) c.pass.view_is in
    record {
      empty = ap (λ m. m.1) s.2 ∙ i.empty;
      rests = subst (λ m. Rests m.0) (sym s.2) i.rests;
      in_seen = subst (λ m. InSeen m.0) (sym s.2) i.in_seen;
      part = omega (arith, o.parts_left, n, c.requires.parts);
      counted = omega (arith, i.counted, o.amount_left, ap (λ m. length m.0.mine + length m.0.met) s.2);
    }

pub invariant_of-result : goal.invariant_of-result
invariant_of-result g c =
    let i = c.pass.invariant in
    let s = c.split_seat-seat.ensures in
    let o = c.split_off.ensures in
    record {
      empty = ap (λ m. m.1) s.4;
      rests = subst (λ m. Rests m.0) (sym s.4) (refl, refl, refl);
      in_seen = subst (λ m. InSeen m.0) (sym s.4) (new_in_seen c.pass.inside.seat.me.0 i.in_seen);
      part = omega (arith, o.parts);
      counted = omega (arith, o.amount, ap (λ m. length m.0.mine + length m.0.met) s.4);
    }
