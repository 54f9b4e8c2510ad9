use Rattle.std.proofs.Common.{◌≡◌, ◌∙◌, ℕ, List, Option, Some, None, subst, sym, ap}
use Rattle.std.specs.Prelude.{position}
use Rattle.move_jobs.specs.Job.{Job, answered, result_of}
use Rattle.move_table.specs.declared.flight.Flight.{Flight}
use Rattle.move_table.specs.Table.{IsTable, is_numbered, job_in, moves_after}
use Rattle.move_table.proofs.Numbers.{placed, there, nowhere, numbered, same_job, goes_on, leaves, removed, table-without, fits-there, fits-nowhere, some_where, none_where}
use Rattle.move_table.proofs.moves.Moves.answer.Goals as goal

pub answer-requires : goal.answer-requires
answer-requires c =
    let xs = c.self.inside.flights.items in
    let at : position (is_numbered c.args.j) xs ≡ Some c.in-Some.i = placed xs c.as_slice.result.now c.args.j c.place.result (Some c.in-Some.i) c.as_slice.ensures.value c.place.ensures c.in-Some.is in
    let found = there xs c.args.j c.in-Some.i c.index_mut.result.now c.self.invariant.ascend at in
    fits-there (job_in xs c.args.j) c.index_mut.result.now.job c.args.answer (found ∙ ap (λ (f : Flight). Some f.job) (sym c.index_mut.ensures.value))
    (rw (← c.self.view_is) at c.requires)

pub unreachable-requires : goal.unreachable-requires
unreachable-requires c =
    let xs = c.self.inside.flights.items in
    fits-nowhere (job_in xs c.args.j) c.args.answer
    (nowhere xs c.args.j (placed xs c.as_slice.result.now c.args.j c.place.result None c.as_slice.ensures.value c.place.ensures c.in-None.is)) (rw (← c.self.view_is) at c.requires)

pub invariant_of-self : goal.invariant_of-self
invariant_of-self c =
    let xs = c.self.inside.flights.items in
    let at : position (is_numbered c.args.j) xs ≡ Some c.in-Some.i = placed xs c.as_slice.result.now c.args.j c.place.result (Some c.in-Some.i) c.as_slice.ensures.value c.place.ensures c.in-Some.is in
    let place = numbered xs c.args.j c.in-Some.i c.index_mut.result.now at in
    let left = c.remove.ensures.items ∙ removed c.args.j _ xs c.in-Some.i c.index_mut.result.now c.self.invariant.ascend place.0 place.1 in
    subst (λ (ys : List Flight). IsTable c.self.inside.opened ys) (sym left) (table-without c.self.inside.opened xs c.args.j c.self.invariant)

pub returns-then-is_some-clause-result : goal.returns-then-is_some-clause-result
returns-then-is_some-clause-result c job in_flight =
    let xs = c.self.inside.flights.items in
    let at : position (is_numbered c.args.j) xs ≡ Some c.in-Some.i = placed xs c.as_slice.result.now c.args.j c.place.result (Some c.in-Some.i) c.as_slice.ensures.value c.place.ensures c.in-Some.is in
    let same : c.index_mut.result.now.job ≡ job = same_job xs c.args.j c.in-Some.i c.index_mut.result.now job c.self.invariant.ascend at c.index_mut.ensures.value (rw (← c.self.view_is) at in_flight) in
    let after : c.answer.new.self ≡ answered job c.args.answer = c.answer.ensures.after ∙ ap (λ (x : Job). answered x c.args.answer) same in
    c.result-result.ensures ∙ ap result_of after

pub returns-then-is_some-clause-flights : goal.returns-then-is_some-clause-flights
returns-then-is_some-clause-flights c job in_flight =
    let xs = c.self.inside.flights.items in
    let at : position (is_numbered c.args.j) xs ≡ Some c.in-Some.i = placed xs c.as_slice.result.now c.args.j c.place.result (Some c.in-Some.i) c.as_slice.ensures.value c.place.ensures c.in-Some.is in
    let same : c.index_mut.result.now.job ≡ job = same_job xs c.args.j c.in-Some.i c.index_mut.result.now job c.self.invariant.ascend at c.index_mut.ensures.value (rw (← c.self.view_is) at in_flight) in
    let after : c.answer.new.self ≡ answered job c.args.answer = c.answer.ensures.after ∙ ap (λ (x : Job). answered x c.args.answer) same in
    let over = some_where c.result-result.result (sym c.is_some.ensures ∙ c.if-is_some.true) in
    let ended : result_of (answered job c.args.answer) ≡ Some over.0 = ap result_of (sym after) ∙ (sym c.result-result.ensures ∙ over.1) in
    rw (← c.self.view_is) (c.remove.ensures.items ∙ leaves xs c.args.j c.in-Some.i c.index_mut.result.now (answered job c.args.answer) _ over.0 c.self.invariant.ascend at ended)

pub returns-else-is_some-clause-result : goal.returns-else-is_some-clause-result
returns-else-is_some-clause-result c job in_flight =
    let xs = c.self.inside.flights.items in
    let at : position (is_numbered c.args.j) xs ≡ Some c.in-Some.i = placed xs c.as_slice.result.now c.args.j c.place.result (Some c.in-Some.i) c.as_slice.ensures.value c.place.ensures c.in-Some.is in
    let same : c.index_mut.result.now.job ≡ job = same_job xs c.args.j c.in-Some.i c.index_mut.result.now job c.self.invariant.ascend at c.index_mut.ensures.value (rw (← c.self.view_is) at in_flight) in
    let after : c.answer.new.self ≡ answered job c.args.answer = c.answer.ensures.after ∙ ap (λ (x : Job). answered x c.args.answer) same in
    c.result-result.ensures ∙ ap result_of after

pub returns-else-is_some-clause-flights : goal.returns-else-is_some-clause-flights
returns-else-is_some-clause-flights c job in_flight =
    let xs = c.self.inside.flights.items in
    let at : position (is_numbered c.args.j) xs ≡ Some c.in-Some.i = placed xs c.as_slice.result.now c.args.j c.place.result (Some c.in-Some.i) c.as_slice.ensures.value c.place.ensures c.in-Some.is in
    let same : c.index_mut.result.now.job ≡ job = same_job xs c.args.j c.in-Some.i c.index_mut.result.now job c.self.invariant.ascend at c.index_mut.ensures.value (rw (← c.self.view_is) at in_flight) in
    let after : c.answer.new.self ≡ answered job c.args.answer = c.answer.ensures.after ∙ ap (λ (x : Job). answered x c.args.answer) same in
    let none = none_where c.result-result.result (sym c.is_some.ensures ∙ c.if-is_some.false) in
    let on : result_of c.answer.new.self ≡ None = sym c.result-result.ensures ∙ none in
    rw (← c.self.view_is)
    (goes_on xs c.args.j c.in-Some.i c.index_mut.result.now c.answer.new.self c.self.invariant.ascend at c.index_mut.ensures.value on ∙ ap (λ (x : Job). moves_after c.args.j x xs) after)
