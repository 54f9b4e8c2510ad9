use Rattle.std.proofs.Common.{◌≡◌, ◌∙◌, ◌+◌, ap, subst, sym}
use Rattle.block_machine.specs.declared.entry.Entry.{Entry}
use Rattle.block_machine.specs.Steps.{entry_after, set_after}
use Rattle.history_replay.specs.Arrival.{with_commands}
use Rattle.history_replay.specs.Kept.{BeginsArrival, Stands}
use Rattle.history_replay.proofs.Standing.{comes}
use Rattle.history_replay.proofs.turns.arrive.Goals as goal

pub returns-in_ok-admit-in-Arrived-clause-stands : goal.returns-in_ok-admit-in-Arrived-clause-stands
returns-in_ok-admit-in-Arrived-clause-stands c = λ s st.
    let kept = c.args.kept.now in
    let capacity = kept.known.capacity in
    let label = c.args.label.now in
    let w = c.in-Arrived in
    let P : Entry → Type 0 = λ e.
    Stands capacity (record kept { arrived = w.c; set = c.settle_set.new.set; duties = c.admit.new.duties }) (entry_after capacity label s e) in
    let B : Entry → Type 0 = λ e. BeginsArrival kept.arrived e in
    let next : w.c ≡ kept.arrived + 1 = subst B w.is c.requires.begins in
    subst P (sym w.is)
    (comes capacity kept label s w.c w.initiator w.tag w.attribute w.cdb w.sent c.admit.new.duties c.settle_set.new.set st next
    (c.settle_set.ensures ∙ ap (λ (e : Entry). set_after capacity (with_commands 0 kept.set) e) w.is) (c.in_ok-admit-in-Arrived.ensures capacity))
