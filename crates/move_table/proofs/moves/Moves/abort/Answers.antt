use Rattle.std.proofs.Common.{◌≡◌, ◌≤◌, ◌<◌, rules, List, None, subst, sym, not}
use Rattle.std.proofs.lemmas.Fn.{filter_same}
use Rattle.std.proofs.lemmas.List.Elements.{All-filter}
use Rattle.std.proofs.lemmas.List.Kept.{AllPairs-filter}
use Rattle.move_jobs.specs.Job.{result_of}
use Rattle.move_table.specs.declared.flight.Flight.{Flight}
use Rattle.move_table.specs.Table.{IsTable, is_new_of, without_new}
use Rattle.move_table.proofs.moves.Moves.abort.Goals as goal

pub invariant_of-self : goal.invariant_of-self
invariant_of-self c =
    let kept = filter_same _ (λ (f : Flight). not (is_new_of c.args.c f)) _ (λ x b g called. search rules) _ _ c.retain.ensures.filtered in
    let xs = c.self.inside.flights.items in
    let is = c.self.invariant in
    subst (λ (ys : List Flight). IsTable c.self.inside.opened ys) (sym kept) (record {
      ascend = AllPairs-filter (λ f g. f.j < g.j) (λ f. not (is_new_of c.args.c f)) xs is.ascend;
      numbered = All-filter (λ f. not (is_new_of c.args.c f)) (λ f. f.j ≤ c.self.inside.opened) xs is.numbered;
      underway = All-filter (λ f. not (is_new_of c.args.c f)) (λ f. result_of f.job ≡ None) xs is.underway;
    })

pub returns-clause-flights : goal.returns-clause-flights
returns-clause-flights c =
    rw (← c.self.view_is) (filter_same _ (λ (f : Flight). not (is_new_of c.args.c f)) _ (λ x b g called. search rules) _ _ c.retain.ensures.filtered)
