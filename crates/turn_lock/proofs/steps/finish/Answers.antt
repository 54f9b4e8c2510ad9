use Rattle.std.proofs.Common.{arith, rules, ◌≡◌, ◌∙◌, sym, ap, subst, length}
use Rattle.turn_lock.specs.Lists.{Follows}
use Rattle.turn_lock.proofs.Beginnings.{follows_length}
use Rattle.turn_lock.proofs.Counts.{gained_length}
use Rattle.turn_lock.proofs.Kept.{goes_of, puts_back, was_put_back}
use Rattle.turn_lock.proofs.steps.finish.Given.{Over}
use Rattle.turn_lock.proofs.steps.finish.Goals as goal

pub note-requires : goal.note-requires
note-requires g c = search (rules, follows_length _ _ c.step-answer.ensures.turns)

pub swap-requires : goal.swap-requires
swap-requires g c =
    let r = c.requires in
    let e = c.exchange-empty.ensures in
    let b = c.count-before.ensures in
    let a = c.count-after.ensures in
    let n = c.note.ensures in (
      e.0 ∙ r.table.0,
      omega arith,
      puts_back _ _ _ c.args.seat.now.me _ _ _ (g.T.Turned.turns c.args.home.value) (g.T.Turned.kept c.args.home.value) _ r.seat.0 e.3 r.seat.1 r.knows.0 c.step-answer.ensures.kept (goes_of (λ xs ys. (e : _) × (a : _) × g.T.Turned.tells (g.T.Turned.kept c.args.home.value) xs e a ys) (λ a. g.T.Turned.tells (g.T.Turned.kept c.args.home.value) (g.T.Turned.turns c.args.home.value) c.args.event a (g.T.Turned.turns c.step-answer.new.self)) (g.T.Turned.turns c.args.home.value) (g.T.Turned.turns c.step-answer.new.self) c.step-answer.result (λ a t. (c.args.event, a, t)) c.step-answer.ensures.turns c.step-answer.ensures.tells c.step-answer.ensures.none) (omega (arith, n.total, r.knows.1, a.count, b.count)) (omega (arith, a.count)),
    )

-- the list that was seen at the end is the value's
seen_is : (g : Over) (c : goal.After-swap g) → c.swap.new.seat.me.0.seen ≡ g.T.Turned.turns c.step-answer.new.self
seen_is g c = (was_put_back (λ h. g.T.Turned.turns h.value) c.args.seat.now.me _ _ _ _ c.requires.seat.0 c.exchange-empty.ensures.3 c.swap.ensures.2).0

pub returns-clause-seat : goal.returns-clause-seat
returns-clause-seat g c = (was_put_back (λ h. g.T.Turned.turns h.value) c.args.seat.now.me _ _ _ _ c.requires.seat.0 c.exchange-empty.ensures.3 c.swap.ensures.2).1

pub returns-clause-list : goal.returns-clause-list
returns-clause-list g c = subst (Follows (g.T.Turned.turns c.args.home.value)) (sym (seen_is g c)) c.step-answer.ensures.turns

pub returns-clause-share : goal.returns-clause-share
returns-clause-share g c =
    let list = returns-clause-list g c in
    let s = seen_is g c in
    omega (arith, gained_length (g.T.Turned.turns c.args.home.value) c.swap.new.seat.me.0.seen list, c.note.ensures.amount, c.count-before.ensures.count, c.count-after.ensures.count, ap length s)

pub returns-clause-tells : goal.returns-clause-tells
returns-clause-tells g c = rw (seen_is g c) c.step-answer.ensures.tells

pub returns-clause-none : goal.returns-clause-none
returns-clause-none g c = rw (seen_is g c) c.step-answer.ensures.none
