use Rattle.std.proofs.Common.{◌∙◌, ap, arith, ◌+◌, ◌++◌, ◌≤◌, subst, sym}
use Rattle.turn_lock.specs.Lists.{OneBegins, times}
use Rattle.turn_lock.specs.View.{merged}
use Rattle.turn_lock.specs.Pass.{Met}
use Rattle.turn_lock.proofs.Kept.{joins, compares_as}
use Rattle.turn_lock.proofs.Passes.{met_by, met_in_seen, met_counts}
use Rattle.turn_lock.proofs.lock.TurnLock.meet.Goals as goal

pub join_seat-requires : goal.join_seat-requires
join_seat-requires g c =
    let i = c.pass.invariant in
    let j = c.other.invariant in
    let here = ap (λ k. k.table) c.self.view_is in
    (ap (λ k. k.table) c.pass.view_is ∙ c.requires.belongs.0.0 ∙ sym here, ap (λ k. k.table) c.other.view_is ∙ c.requires.belongs.1.0 ∙ sym here, j.empty, omega arith, joins _ _ _ _ _ i.rests.0 j.rests.0 i.rests.2 j.rests.2)

pub load-requires : goal.load-requires
load-requires g c =
    let i = c.pass.invariant in
    let j = c.join_seat.ensures in
    (j.0 ∙ ap (λ k. k.table) c.pass.view_is ∙ c.requires.belongs.0.0 ∙ sym (ap (λ k. k.table) c.self.view_is), omega arith, compares_as _ _ _ _ (ap (λ m. m.1) j.2 ∙ i.empty) (ap (λ m. m.0.had) j.2 ∙ i.rests.0))

pub invariant_of-pass : goal.invariant_of-pass
invariant_of-pass g c =
    let v = c.pass.inside.seat.me.0 in
    let w = c.other.inside.seat.me.0 in
    let i = c.pass.invariant in
    let o = c.other.invariant in
    let j = c.join_seat.ensures.2 in
    let l = c.load.ensures.2 in
    let is = ap (λ m. m.0) l.0 ∙ ap (λ m. merged m.0) j in
    let n = met_counts v w c.load.new.seat.me.0 is in
    record {
      empty = ap (λ m. m.1) l.0 ∙ ap (λ m. m.1) j ∙ i.empty;
      rests = (ap (λ v. v.had) is ∙ i.rests.0, ap (λ v. v.beside) is, ap (λ v. v.theirs) is);
      in_seen = met_in_seen v w c.load.new.seat.me.0 is i.in_seen o.in_seen;
      part = omega (arith, c.merge.ensures.parts, i.part);
      counted = omega (arith, n, c.merge.ensures.amount, i.counted, o.counted);
    }

pub returns-clause-met : goal.returns-clause-met
returns-clause-met g c =
    let v = c.pass.inside.seat.me.0 in
    let w = c.other.inside.seat.me.0 in
    let j = c.join_seat.ensures.2 in
    let l = c.load.ensures.2 in
    let z = ap (λ m. m.0) j in
    let m = met_by v w c.load.new.seat.me.0 (ap (λ m. m.0) l.0 ∙ ap merged z) (subst (λ z. OneBegins z.seen z.beside) z l.1) (λ x. subst (λ z. times x (z.mine ++ z.met) + times x z.theirs ≤ 1) z (l.2 x)) in
    subst (λ v. Met v c.args.other.view c.load.new.seat.me.0) (ap (λ k. k.view) c.pass.view_is) (subst (λ w. Met v w c.load.new.seat.me.0) (ap (λ k. k.view) c.other.view_is) m)
