use Rattle.std.proofs.Common.{◌≡◌, ◌∙◌, sym, ap, subst, Some, None}
use Rattle.command_engine.specs.Standing.{IsCourse}
use Rattle.drive_core.specs.declared.accepted.Accepted.{Accepted}
use Rattle.command_engine.specs.Course.{Course}
use Rattle.command_engine.specs.Ending.{ending_of}
use Rattle.command_engine.specs.Answers.{after}
use Rattle.drive_core.proofs.Placing.{placed, goes_on, same_there, under_way-there, under_way-nowhere, fits-there, fits-nowhere}
use Rattle.drive_core.proofs.accepted.answer.Goals as goal

pub answer-requires : goal.answer-requires
answer-requires c =
    fits-there _ c.in-Some-work.work c.args.answer
    (under_way-there c.args.commands.now.items c.args.c c.in-Some.i c.index_mut-accepted.result.now
    (placed c.args.commands.now.items c.as_slice.result.now c.args.c c.place.result (Some c.in-Some.i) c.as_slice.ensures.value c.place.ensures c.in-Some.is)
    c.index_mut-accepted.ensures.value ∙ c.in-Some-work.is) c.requires

pub unreachable-requires : goal.unreachable-requires
unreachable-requires c =
    fits-nowhere _ c.args.answer
    (under_way-there c.args.commands.now.items c.args.c c.in-Some.i c.index_mut-accepted.result.now
    (placed c.args.commands.now.items c.as_slice.result.now c.args.c c.place.result (Some c.in-Some.i) c.as_slice.ensures.value c.place.ensures c.in-Some.is)
    c.index_mut-accepted.ensures.value ∙ c.in-None-work.is) c.requires

pub unreachable-requires-in-None : goal.unreachable-requires-in-None
unreachable-requires-in-None c =
    fits-nowhere _ c.args.answer
    (under_way-nowhere c.args.commands.now.items c.args.c
    (placed c.args.commands.now.items c.as_slice.result.now c.args.c c.place.result None c.as_slice.ensures.value c.place.ensures c.in-None.is)) c.requires

pub returns-clause-reply : goal.returns-clause-reply
returns-clause-reply c w is =
    let there = under_way-there c.args.commands.now.items c.args.c c.in-Some.i c.index_mut-accepted.result.now
    (placed c.args.commands.now.items c.as_slice.result.now c.args.c c.place.result (Some c.in-Some.i) c.as_slice.ensures.value c.place.ensures c.in-Some.is)
    c.index_mut-accepted.ensures.value ∙ c.in-Some-work.is in
    let same : c.in-Some-work.work ≡ w = cc in
    c.ending.ensures.value ∙ (ap ending_of c.answer.ensures.after ∙ ap (λ (v : Course). ending_of (after v c.args.answer)) same)

pub returns-clause-course : goal.returns-clause-course
returns-clause-course c w is =
    let there = under_way-there c.args.commands.now.items c.args.c c.in-Some.i c.index_mut-accepted.result.now
    (placed c.args.commands.now.items c.as_slice.result.now c.args.c c.place.result (Some c.in-Some.i) c.as_slice.ensures.value c.place.ensures c.in-Some.is)
    c.index_mut-accepted.ensures.value ∙ c.in-Some-work.is in
    let same : c.in-Some-work.work ≡ w = cc in
    subst IsCourse (c.answer.ensures.after ∙ ap (λ (v : Course). after v c.args.answer) same) c.stands_by_its_plan.ensures

pub returns-clause-goes : goal.returns-clause-goes
returns-clause-goes c a w is_in works =
    let same : c.index_mut-accepted.result.now ≡ a = same_there c.args.commands.now.items c.args.c c.in-Some.i c.index_mut-accepted.result.now a
    (placed c.args.commands.now.items c.as_slice.result.now c.args.c c.place.result (Some c.in-Some.i) c.as_slice.ensures.value c.place.ensures c.in-Some.is)
    c.index_mut-accepted.ensures.value is_in in
    let one : Some c.in-Some-work.work ≡ Some w = sym c.in-Some-work.is ∙ (ap (λ (x : Accepted). x.work) same ∙ works) in
    let is : c.in-Some-work.work ≡ w = cc in
    goes_on c.args.commands.now.items c.args.c c.in-Some.i c.index_mut-accepted.result.now a (Some c.answer.new.self) (Some (after w c.args.answer))
    (placed c.args.commands.now.items c.as_slice.result.now c.args.c c.place.result (Some c.in-Some.i) c.as_slice.ensures.value c.place.ensures c.in-Some.is)
    c.index_mut-accepted.ensures.value is_in (ap Some (c.answer.ensures.after ∙ ap (λ (v : Course). after v c.args.answer) is))
