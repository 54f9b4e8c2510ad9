-- the parts of the command after an answer make what it stands at
use Rattle.command_engine.specs.Owed.{plan_owed, moved_owed}
use Rattle.command_engine.specs.Course.{Course}
use Rattle.command_engine.proofs.Advance.{advances_by}
use Rattle.command_engine.proofs.work.Work.answer.Goals as goal

pub invariant_of-self : goal.invariant_of-self
invariant_of-self c =
    let old : Course = record { settings = c.self.inside.settings; gives = c.self.inside.gives; plan = plan_owed c.self.inside.owed; moved = moved_owed c.self.inside.owed; step = c.self.inside.step; recovered = c.self.inside.recovered } in
    (advances_by old c.args.answer _ _ _ _ _ _ c.advance-lost.ensures.gives_up c.settled-settled.ensures c.advance.ensures.plan c.advance.ensures.moved (rw c.is_moving.ensures at c.advance-lost.ensures.after)
    (rw (← c.self.view_is) at c.recovered_after-recovered.ensures) c.self.invariant (rw (← c.self.view_is) at c.requires)).still

pub returns-clause-owes : goal.returns-clause-owes
returns-clause-owes c =
    let old : Course = record { settings = c.self.inside.settings; gives = c.self.inside.gives; plan = plan_owed c.self.inside.owed; moved = moved_owed c.self.inside.owed; step = c.self.inside.step; recovered = c.self.inside.recovered } in
    rw (← c.self.view_is) (advances_by old c.args.answer _ _ _ _ _ _ c.advance-lost.ensures.gives_up c.settled-settled.ensures c.advance.ensures.plan c.advance.ensures.moved (rw c.is_moving.ensures at c.advance-lost.ensures.after)
    (rw (← c.self.view_is) at c.recovered_after-recovered.ensures) c.self.invariant (rw (← c.self.view_is) at c.requires)).owes

pub returns-clause-nearer : goal.returns-clause-nearer
returns-clause-nearer c =
    let old : Course = record { settings = c.self.inside.settings; gives = c.self.inside.gives; plan = plan_owed c.self.inside.owed; moved = moved_owed c.self.inside.owed; step = c.self.inside.step; recovered = c.self.inside.recovered } in
    rw (← c.self.view_is) (advances_by old c.args.answer _ _ _ _ _ _ c.advance-lost.ensures.gives_up c.settled-settled.ensures c.advance.ensures.plan c.advance.ensures.moved (rw c.is_moving.ensures at c.advance-lost.ensures.after)
    (rw (← c.self.view_is) at c.recovered_after-recovered.ensures) c.self.invariant (rw (← c.self.view_is) at c.requires)).nearer

pub returns-clause-range : goal.returns-clause-range
returns-clause-range c =
    let old : Course = record { settings = c.self.inside.settings; gives = c.self.inside.gives; plan = plan_owed c.self.inside.owed; moved = moved_owed c.self.inside.owed; step = c.self.inside.step; recovered = c.self.inside.recovered } in
    rw (← c.self.view_is) (advances_by old c.args.answer _ _ _ _ _ _ c.advance-lost.ensures.gives_up c.settled-settled.ensures c.advance.ensures.plan c.advance.ensures.moved (rw c.is_moving.ensures at c.advance-lost.ensures.after)
    (rw (← c.self.view_is) at c.recovered_after-recovered.ensures) c.self.invariant (rw (← c.self.view_is) at c.requires)).range
