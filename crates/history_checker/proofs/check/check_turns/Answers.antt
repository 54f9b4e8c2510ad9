use Rattle.std.proofs.Common.{◌∙◌, ◌<◌, ◌≤◌, sym, length, rules}
use Rattle.history_checker.specs.Parts.{capacity_of}
use Rattle.history_checker.specs.Walk.{settled}
use Rattle.history_checker.proofs.Verdicts.{answers, left_told, one_more, order_told, over_told, step_told}
use Rattle.history_checker.proofs.check.check_turns.Goals as goal

pub returns-then-not-allows-clause-verdict : goal.returns-then-not-allows-clause-verdict
returns-then-not-allows-clause-verdict c =
    let capacity = capacity_of c.args.script.now in
    let lines = c.as_slice-lines.result.now in
    let turns = c.args.turns.now in
    let st = c.loop-index.invariant in
    let less : c.loop-index.index < length turns = search rules in
    let idle = c.is_idle.ensures capacity st.course.history st.follows in
    let keeps = c.settle.ensures st.course.walk st.keeps in
    order_told c.args.script.now turns lines c.as_slice-lines.ensures c.loop-index.monitor c.loop-index.walk c.settle.new.self c.loop-index.index
    c.index-turns-index.result c.is_idle.result c.allows.result st less c.index-turns-index.is idle keeps c.allows.ensures c.if-not-allows.true

pub returns-then-not-branch-clause-verdict : goal.returns-then-not-branch-clause-verdict
returns-then-not-branch-clause-verdict c =
    let capacity = capacity_of c.args.script.now in
    let lines = c.as_slice-lines.result.now in
    let turns = c.args.turns.now in
    let st = c.loop-index.invariant in
    let less : c.loop-index.index < length turns = search rules in
    let idle = c.is_idle.ensures capacity st.course.history st.follows in
    let keeps = c.settle.ensures st.course.walk st.keeps in
    step_told c.args.script.now turns lines c.as_slice-lines.ensures c.loop-index.monitor c.loop-index.walk c.settle.new.self c.loop-index.index
    c.index-turns-index.result c.is_idle.result c.allows.result st less c.index-turns-index.is idle keeps c.allows.ensures
    c.take.new.self c.in_ok-take.field-0 c.in_ok-take.ensures c.if-not-allows.false c.if-not-branch.true

pub returns-then-is_over-clause-verdict : goal.returns-then-is_over-clause-verdict
returns-then-is_over-clause-verdict c =
    let capacity = capacity_of c.args.script.now in
    let lines = c.as_slice-lines.result.now in
    let turns = c.args.turns.now in
    let st = c.loop-index.invariant in
    let all : length turns ≤ c.loop-index.index = search rules in
    let idle = c.is_idle-idle.ensures capacity st.course.history st.follows in
    let keeps = c.settle-2.ensures st.course.walk st.keeps in
    over_told c.args.script.now turns lines c.as_slice-lines.ensures c.loop-index.monitor c.loop-index.walk c.settle-2.new.self c.loop-index.index
    c.is_idle-idle.result c.is_over.result st all idle keeps (c.is_over.ensures lines) c.if-is_over.true

pub returns-clause-verdict : goal.returns-clause-verdict
returns-clause-verdict c =
    let capacity = capacity_of c.args.script.now in
    let lines = c.as_slice-lines.result.now in
    let turns = c.args.turns.now in
    let st = c.loop-index.invariant in
    let all : length turns ≤ c.loop-index.index = search rules in
    let idle = c.is_idle-idle.ensures capacity st.course.history st.follows in
    let keeps = c.settle-2.ensures st.course.walk st.keeps in
    left_told c.args.script.now turns lines c.as_slice-lines.ensures c.loop-index.monitor c.loop-index.walk c.settle-2.new.self c.loop-index.index
    c.is_idle-idle.result c.is_over.result st all idle keeps (c.is_over.ensures lines) c.if-is_over.false

pub returns-then-not-allows-clause-yes : goal.returns-then-not-allows-clause-yes
returns-then-not-allows-clause-yes c =
    let capacity = capacity_of c.args.script.now in
    let lines = c.as_slice-lines.result.now in
    let turns = c.args.turns.now in
    let st = c.loop-index.invariant in
    let less : c.loop-index.index < length turns = search rules in
    let idle = c.is_idle.ensures capacity st.course.history st.follows in
    let keeps = c.settle.ensures st.course.walk st.keeps in
    answers c.args.script.now turns _ (order_told c.args.script.now turns lines c.as_slice-lines.ensures c.loop-index.monitor c.loop-index.walk c.settle.new.self c.loop-index.index
    c.index-turns-index.result c.is_idle.result c.allows.result st less c.index-turns-index.is idle keeps c.allows.ensures c.if-not-allows.true)

pub returns-then-not-branch-clause-yes : goal.returns-then-not-branch-clause-yes
returns-then-not-branch-clause-yes c =
    let capacity = capacity_of c.args.script.now in
    let lines = c.as_slice-lines.result.now in
    let turns = c.args.turns.now in
    let st = c.loop-index.invariant in
    let less : c.loop-index.index < length turns = search rules in
    let idle = c.is_idle.ensures capacity st.course.history st.follows in
    let keeps = c.settle.ensures st.course.walk st.keeps in
    answers c.args.script.now turns _ (step_told c.args.script.now turns lines c.as_slice-lines.ensures c.loop-index.monitor c.loop-index.walk c.settle.new.self c.loop-index.index
    c.index-turns-index.result c.is_idle.result c.allows.result st less c.index-turns-index.is idle keeps c.allows.ensures
    c.take.new.self c.in_ok-take.field-0 c.in_ok-take.ensures c.if-not-allows.false c.if-not-branch.true)

pub returns-then-is_over-clause-yes : goal.returns-then-is_over-clause-yes
returns-then-is_over-clause-yes c =
    let capacity = capacity_of c.args.script.now in
    let lines = c.as_slice-lines.result.now in
    let turns = c.args.turns.now in
    let st = c.loop-index.invariant in
    let all : length turns ≤ c.loop-index.index = search rules in
    let idle = c.is_idle-idle.ensures capacity st.course.history st.follows in
    let keeps = c.settle-2.ensures st.course.walk st.keeps in
    answers c.args.script.now turns _ (over_told c.args.script.now turns lines c.as_slice-lines.ensures c.loop-index.monitor c.loop-index.walk c.settle-2.new.self c.loop-index.index
    c.is_idle-idle.result c.is_over.result st all idle keeps (c.is_over.ensures lines) c.if-is_over.true)

pub returns-clause-yes : goal.returns-clause-yes
returns-clause-yes c =
    let capacity = capacity_of c.args.script.now in
    let lines = c.as_slice-lines.result.now in
    let turns = c.args.turns.now in
    let st = c.loop-index.invariant in
    let all : length turns ≤ c.loop-index.index = search rules in
    let idle = c.is_idle-idle.ensures capacity st.course.history st.follows in
    let keeps = c.settle-2.ensures st.course.walk st.keeps in
    answers c.args.script.now turns _ (left_told c.args.script.now turns lines c.as_slice-lines.ensures c.loop-index.monitor c.loop-index.walk c.settle-2.new.self c.loop-index.index
    c.is_idle-idle.result c.is_over.result st all idle keeps (c.is_over.ensures lines) c.if-is_over.false)

pub advance-requires : goal.advance-requires
advance-requires c =
    let st = c.loop-index.invariant in
    let keeps = c.settle.ensures st.course.walk st.keeps in
    (settled c.is_idle.result st.course.walk, keeps, sym (c.allows.ensures (settled c.is_idle.result st.course.walk) keeps) ∙ c.if-not-allows.false)

pub loop-index-preserved : goal.loop-index-preserved
loop-index-preserved c =
    let capacity = capacity_of c.args.script.now in
    let lines = c.as_slice-lines.result.now in
    let turns = c.args.turns.now in
    let st = c.loop-index.invariant in
    let less : c.loop-index.index < length turns = search rules in
    let idle = c.is_idle.ensures capacity st.course.history st.follows in
    let keeps = c.settle.ensures st.course.walk st.keeps in
    one_more c.args.script.now turns lines c.as_slice-lines.ensures c.loop-index.monitor c.loop-index.walk c.settle.new.self c.loop-index.index
    c.index-turns-index.result c.is_idle.result c.allows.result st less c.index-turns-index.is idle keeps c.allows.ensures
    c.take.new.self c.in_ok-take.field-0 c.in_ok-take.ensures c.if-not-allows.false c.advance.new.self c.if-not-branch.false c.advance.ensures
