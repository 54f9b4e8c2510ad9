-- What is left of the meaning is that of the lines that are left.
use Rattle.std.proofs.Common.{◌≡◌, [], length, arith, rules}
use Rattle.std.proofs.lemmas.Bool.Decides.{nat_tests}
use Rattle.std.specs.Prelude.{◌≢◌}
use Rattle.script_text.specs.Meaning.{script_of}
use Rattle.script_text.proofs.ReadLemmas.{none_of_length, refused_at, ended_at}
use Rattle.script_text.proofs.read.read_script.Goals as goal

pub returns-in-Err : goal.returns-in-Err
unfolding script_of
returns-in-Err c =
    let some : c.loop-rest.rest.now ≢ [] = search rules in
    let left = rw (c.first_line.ensures.lines some) at c.loop-rest.invariant.rest in
    rw c.refused.ensures (refused_at c.loop-rest.number c.loop-rest.standing c.take.new.self _ _ c.in-Err.fault _ c.in-Err.ensures.meaning left)

pub returns-in-Ok-finish : goal.returns-in-Ok-finish
unfolding script_of
returns-in-Ok-finish c =
    let length_zero : length c.loop-rest.rest.now ≡ 0 = grind (arith, nat_tests) in
    let none : c.loop-rest.rest.now ≡ [] = none_of_length c.loop-rest.rest.now length_zero in
    let left = rw none at c.loop-rest.invariant.rest in
    ended_at c.loop-rest.number c.loop-rest.standing _ _ left c.in-Ok-finish.ensures
