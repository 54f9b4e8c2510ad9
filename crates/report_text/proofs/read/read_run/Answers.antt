-- What the next line is: a summary, the line of a turn, or none.
use Rattle.std.proofs.Common.{◌≡◌, ◌+◌, refl, sym, ap, ◌∙◌, arith}
use Rattle.std.proofs.lemmas.Bool.{false≢true}
use Rattle.report_text.proofs.RunLemmas.{place_at, nothing_read, long_is, told_all, told_none, stuck_at, stuck_whole, bad_here, bad_behind, report_is, read_more, none_left, are_read_unless, if_line_at, empty_is, some_is, unreadable}
use Rattle.report_text.proofs.read.read_run.Goals as goal

pub loop-line-init : goal.loop-line-init
loop-line-init c = rw c.new-turns.ensures (nothing_read c.args.bytes.now)

pub returns-then-is_end-clause-ok : goal.returns-then-is_end-clause-ok
returns-then-is_end-clause-ok c =
    let told = c.if-is_summary.ensures.yes refl in
    let p = place_at c.loop-line.number c.loop-line.minutes c.loop-line.shown in
    report_is c.args.bytes.now c.loop-line.rest.now c.in-Some.line.now c.in-Some.behind.now c.loop-line.turns p told.0 c.loop-line.invariant c.in-Some.ensures.some told.1 told.2
    (empty_is c.in-Some.behind.now (sym c.is_end.ensures ∙ c.if-is_end.true))

pub returns-then-is_end-clause-found : goal.returns-then-is_end-clause-found
returns-then-is_end-clause-found c = λ all report.
    let told = c.if-is_summary.ensures.yes refl in
    let p = place_at c.loop-line.number c.loop-line.minutes c.loop-line.shown in
    (told_all p c.loop-line.rest.now c.in-Some.line.now c.in-Some.behind.now c.loop-line.turns all told.0 (omega (arith, c.loop-line.invariant.line_room, c.requires)) (c.loop-line.invariant.found all report) c.in-Some.ensures.some told.2).1

pub overflow_add-result : goal.overflow_add-result
overflow_add-result c =
    let long = long_is c.loop-line.rest.now c.in-Some.line.now c.in-Some.behind.now c.in-Some.ensures.some in
    omega (arith, c.loop-line.invariant.line_room, c.requires, long)

pub returns-then-is_summary-clause-found : goal.returns-then-is_summary-clause-found
returns-then-is_summary-clause-found c = λ all report.
    let told = c.if-is_summary.ensures.yes refl in
    let p = place_at c.loop-line.number c.loop-line.minutes c.loop-line.shown in
    let last = told_all p c.loop-line.rest.now c.in-Some.line.now c.in-Some.behind.now c.loop-line.turns all told.0 (omega (arith, c.loop-line.invariant.line_room, c.requires)) (c.loop-line.invariant.found all report) c.in-Some.ensures.some told.2 in
    some_is c.in-Some.behind.now (sym c.is_end.ensures ∙ c.if-is_end.false) last.0

pub returns-then-is_summary-clause-line : goal.returns-then-is_summary-clause-line
returns-then-is_summary-clause-line c =
    let told = c.if-is_summary.ensures.yes refl in
    let p = place_at c.loop-line.number c.loop-line.minutes c.loop-line.shown in
    bad_behind c.args.bytes.now c.loop-line.rest.now c.in-Some.line.now c.in-Some.behind.now c.loop-line.turns p (c.loop-line.number + 1) told.0 c.loop-line.invariant c.in-Some.ensures.some told.1 told.2 refl
    (some_is c.in-Some.behind.now (sym c.is_end.ensures ∙ c.if-is_end.false))

pub returns-in-Err-clause-found : goal.returns-in-Err-clause-found
returns-in-Err-clause-found c = λ all report.
    let p = place_at c.loop-line.number c.loop-line.minutes c.loop-line.shown in
    rw c.fault_at.ensures (are_read_unless c.loop-line.number c.in-Err.fault all (λ e.
    told_none p c.loop-line.rest.now c.in-Some.line.now c.in-Some.behind.now c.loop-line.turns all (omega (arith, c.loop-line.invariant.line_room, c.requires)) (c.loop-line.invariant.found all report) c.in-Some.ensures.some (record {
      no_turn = λ turn lawful. unreadable c.in-Err.fault (λ r. r.0 ≡ turn) e (c.in-Err.ensures.found turn lawful.0 lawful.1 (rw c.from.ensures lawful.2));
      no_summary = λ counts fit is. false≢true (sym c.if-is_summary.false ∙ c.is_summary.ensures.no counts fit is);
    })))

pub returns-in-Err-clause-line : goal.returns-in-Err-clause-line
returns-in-Err-clause-line c =
    let p = place_at c.loop-line.number c.loop-line.minutes c.loop-line.shown in
    rw c.fault_at.ensures (if_line_at c.args.bytes.now c.loop-line.number c.in-Err.fault (λ e.
    bad_here c.args.bytes.now c.loop-line.rest.now c.loop-line.turns p c.loop-line.invariant
    (stuck_at p c.loop-line.rest.now c.in-Some.line.now c.in-Some.behind.now (omega (arith, c.loop-line.invariant.line_room, c.requires)) c.in-Some.ensures.some (record {
      no_turn = λ turn lawful. unreadable c.in-Err.fault (λ r. r.0 ≡ turn) e (c.in-Err.ensures.found turn lawful.0 lawful.1 (rw c.from.ensures lawful.2));
      no_summary = λ counts fit is. false≢true (sym c.if-is_summary.false ∙ c.is_summary.ensures.no counts fit is);
    }))))

pub overflow_add-number : goal.overflow_add-number
overflow_add-number c =
    let long = long_is c.loop-line.rest.now c.in-Some.line.now c.in-Some.behind.now c.in-Some.ensures.some in
    omega (arith, c.loop-line.invariant.line_room, c.requires, long)

pub loop-line-smaller : goal.loop-line-smaller
loop-line-smaller c =
    let long = long_is c.loop-line.rest.now c.in-Some.line.now c.in-Some.behind.now c.in-Some.ensures.some in
    omega (arith, long)

pub loop-line-preserved : goal.loop-line-preserved
loop-line-preserved c =
    let p = place_at c.loop-line.number c.loop-line.minutes c.loop-line.shown in
    let printed = c.in-Ok.ensures.line in
    read_more c.args.bytes.now c.loop-line.rest.now c.in-Some.line.now c.in-Some.behind.now c.loop-line.turns c.push.new.self p (place_at (c.loop-line.number + 1) c.in-Ok.now c.in-Ok.turn.ops_to) c.in-Ok.turn
    (omega (arith, c.loop-line.invariant.line_room, c.requires)) c.loop-line.invariant c.in-Some.ensures.some
    (printed.0, printed.1, rw c.from.ensures at printed.2)
    (λ turn lawful. c.in-Ok.ensures.found turn lawful.0 lawful.1 (rw c.from.ensures lawful.2))
    (λ counts fit is. false≢true (sym c.if-is_summary.false ∙ c.is_summary.ensures.no counts fit is))
    c.in-Ok.ensures.bounded
    (ap (λ m. place_at (c.loop-line.number + 1) m c.in-Ok.turn.ops_to) c.in-Ok.ensures.minutes)
    c.in_ok-push-in-Ok.ensures.ok

pub returns-clause-found : goal.returns-clause-found
returns-clause-found c = λ all report.
    let whole = c.in_default.ensures.none in
    none_left (place_at c.loop-line.number c.loop-line.minutes c.loop-line.shown) c.loop-line.rest.now whole.0 c.loop-line.turns all (omega (arith, c.loop-line.invariant.line_room, c.requires)) (c.loop-line.invariant.found all report) whole.1

pub returns-clause-line : goal.returns-clause-line
returns-clause-line c =
    let whole = c.in_default.ensures.none in
    let p = place_at c.loop-line.number c.loop-line.minutes c.loop-line.shown in
    bad_here c.args.bytes.now c.loop-line.rest.now c.loop-line.turns p c.loop-line.invariant (stuck_whole p c.loop-line.rest.now whole.0 (omega (arith, c.loop-line.invariant.line_room, c.requires)) whole.1)
