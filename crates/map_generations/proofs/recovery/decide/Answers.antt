-- Each arm decides by the rule, and the rule allows one decision.
use Rattle.std.proofs.Common.{lit<}
use Rattle.map_generations.specs.declared.recovery.Decision.TheVariants.{Take, Corrupt}
use Rattle.map_generations.specs.Recovery.{reads_of, counted, IsTaken}
use Rattle.map_generations.proofs.Rule.{later_taken, decided_alone, none_decided, takes_where, corrupt_where}
use Rattle.map_generations.proofs.recovery.decide.Goals as goal

pub returns-in-Some-Some : goal.returns-in-Some-Some
returns-in-Some-Some c =
    let reads = counted (reads_of c.args.reads.now) in
    let right : IsTaken c.args.size.now reads c.later.result =
    rw c.later.ensures (later_taken c.args.size.now reads c.in-Some-Some.first c.in-Some-Some.second
    c.in-Some-Some.ensures.0 c.in-Some-Some.ensures'.0 c.in-Some-Some.ensures.1 c.in-Some-Some.ensures'.1) in
    record {
      takes = takes_where c.args.size.now reads (Take c.later.result) right;
      corrupt = corrupt_where c.args.size.now reads (Take c.later.result) right;
    }

pub returns-in-Some-None : goal.returns-in-Some-None
returns-in-Some-None c =
    let reads = counted (reads_of c.args.reads.now) in
    let right =
    decided_alone c.args.size.now reads 1 c.in-Some-None.map c.alone.result (lit< tt)
    c.in-Some-None.ensures.0 c.in-Some-None.ensures.1 c.in-Some-None.ensures' c.alone.ensures in
    record { takes = takes_where c.args.size.now reads c.alone.result right; corrupt = corrupt_where c.args.size.now reads c.alone.result right }

pub returns-in-None-Some : goal.returns-in-None-Some
returns-in-None-Some c =
    let reads = counted (reads_of c.args.reads.now) in
    let none = rw c.in-None-Some.is-0 at c.latest.ensures in
    let right =
    decided_alone c.args.size.now reads 0 c.in-None-Some.map c.alone-in-None-Some.result (lit< tt)
    c.in-None-Some.ensures.0 c.in-None-Some.ensures.1 none c.alone-in-None-Some.ensures in
    record {
      takes = takes_where c.args.size.now reads c.alone-in-None-Some.result right;
      corrupt = corrupt_where c.args.size.now reads c.alone-in-None-Some.result right;
    }

pub returns-in-None-None : goal.returns-in-None-None
returns-in-None-None c =
    let reads = counted (reads_of c.args.reads.now) in
    let none = rw c.in-None-None.is-0 at c.latest.ensures in
    let right = none_decided c.args.size.now reads none c.in-None-None.ensures in
    record {
      takes = takes_where c.args.size.now reads (Corrupt 0) right;
      corrupt = corrupt_where c.args.size.now reads (Corrupt 0) right;
    }
