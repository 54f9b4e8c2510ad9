use Rattle.std.proofs.Common.{◌≡◌, ◌∙◌, ◌-◌, ap, sym, subst, ℕ, true, List, length, take, drop, rules}
use Rattle.block_machine.specs.declared.entry.Entry.{Entry}
use Rattle.block_machine.specs.declared.turn.Label.TheVariants.{Arrive}
use Rattle.block_machine.specs.State.{State}
use Rattle.block_machine.specs.Steps.{entries_after, entry_after}
use Rattle.block_machine.specs.Turns.{arrival_lawful}
use Rattle.history_replay.specs.Arrival.{with_commands}
use Rattle.history_replay.specs.Kept.{Stands}
use Rattle.history_replay.proofs.OneTurn.{arrival_may, entry_stands, first_and_rest, rest_of_arrival}
use Rattle.history_replay.proofs.turns.take_arrival.Goals as goal

pub take_ends-requires-clause-stands : goal.take_ends-requires-clause-stands
take_ends-requires-clause-stands c =
    entry_stands c.arrive.new.kept.known.capacity c.args.kept.now.known.capacity c.args.kept.now c.arrive.new.kept (Arrive c.args.i)
    c.first-item.result c.in_ok-arrive-in-len1-up.ensures.capacity c.in_ok-arrive-in-len1-up.ensures.stands c.requires

pub take_ends-requires-clause-arrival : goal.take_ends-requires-clause-arrival
take_ends-requires-clause-arrival c =
    let kept = c.args.kept.now in
    let entries = c.args.entries.now in
    let e = c.first-item.result in
    let rest = take (length entries - 1) (drop 1 entries) in
    let s = with_commands kept.arrived kept.set in
    let may : arrival_lawful s c.args.i entries ≡ true = search rules in
    let is = first_and_rest entries e c.in-len1-up.len_at_least c.first-item.is in
    rest_of_arrival s c.args.i e rest (ap (λ (l : List Entry). arrival_lawful s c.args.i l) (sym is) ∙ may)

pub returns-in_ok-take_ends-in-len1-up : goal.returns-in_ok-take_ends-in-len1-up
returns-in_ok-take_ends-in-len1-up c = λ s st.
    let kept = c.args.kept.now in
    let capacity = kept.known.capacity in
    let entries = c.args.entries.now in
    let e = c.first-item.result in
    let label = Arrive c.args.i in
    let rest = take (length entries - 1) (drop 1 entries) in
    let may : arrival_lawful (with_commands kept.arrived kept.set) c.args.i entries ≡ true = search rules in
    let is = first_and_rest entries e c.in-len1-up.len_at_least c.first-item.is in
    let there = c.in_ok-arrive-in-len1-up.ensures.stands s st in
    let P : ℕ → Type 0 = λ n. (g : State) → Stands n c.arrive.new.kept g → Stands n c.take_ends.new.kept (entries_after n label g rest) in
    let end = subst P c.in_ok-arrive-in-len1-up.ensures.capacity c.in_ok-take_ends-in-len1-up.ensures (entry_after capacity label s e) there in
    let Q : List Entry → Type 0 = λ l. Stands capacity c.take_ends.new.kept (entries_after capacity label s l) in
    (sym may ∙ arrival_may capacity kept s c.args.i entries st, λ came. subst Q (sym is) end)
