-- the queue of the initiator is longer, and the others are as they were
use Rattle.std.proofs.Common.{◌∙◌, ap, sym, ◌<◌, length, arith, List, [], ◌∷◌, ◌++◌}
use Rattle.std.proofs.lemmas.Result.{err_from_is_err_and}
use Rattle.drive_scene.specs.declared.event.Arrival.{Arrival as Sent}
use Rattle.script_runner.proofs.Places.{one_changed, one_of, unchanged}
use Rattle.script_runner.proofs.queues.Queues.put.Goals as goal

pub returns-in_err-push_back-clause-err : goal.returns-in_err-push_back-clause-err
returns-in_err-push_back-clause-err c =
    let within : c.place.result < length c.self.inside.queues.items = omega arith in
    let same = unchanged (λ q. q.items) c.self.inside.queues.items c.place.result c.index_mut.result.now c.push_back.new.self within c.index_mut.ensures.value (c.in_err-push_back.ensures.items) in
    let p = err_from_is_err_and c.from_residual.result c.from_residual.ensures.1 in
    rw (p.1, ← c.self.view_is) same

pub returns-clause-ok : goal.returns-clause-ok
returns-clause-ok c =
    let within : c.place.result < length c.self.inside.queues.items = omega arith in
    rw (← c.self.view_is) (λ j. one_changed (λ q. q.items) c.self.inside.queues.items c.place.result c.push_back.new.self _ j c.args.initiator within c.place.ensures.value
    (c.in_ok-push_back.ensures.items ∙ ap (λ (xs : List Sent). xs ++ c.args.arrival ∷ []) (sym (one_of (λ q. q.items) c.self.inside.queues.items c.place.result c.index_mut.result.now c.args.initiator within c.place.ensures.value c.index_mut.ensures.value))))
