use Rattle.std.proofs.Common.{◌≡◌, ◌∙◌, ◌+◌, ◌≤◌, ◌<◌, ℕ, List, [], ◌∷◌, ◌++◌, length, None, refl, ap, arith}
use Rattle.block_machine.specs.declared.entry.Entry.{Entry}
use Rattle.block_machine.specs.declared.entry.Entry.TheVariants.{Ended}
use Rattle.block_machine.specs.Steps.{set_after}
use Rattle.block_machine.specs.Turns.{task_set_full}
use Rattle.history_replay.specs.Arrival.{with_commands}
use Rattle.drive_scene.specs.Turning.{entry_of}
use Rattle.drive_core.proofs.ArrivalTurns.{enters, refuses, is_full-yes, is_full-no}
use Rattle.drive_core.proofs.arriving.enter.Goals as goal

pub returns-then-full-clause-moves : goal.returns-then-full-clause-moves
returns-then-full-clause-moves c s fits =
    let many : 64 ≤ length c.members.result.now = omega arith in
    let reply : c.task_set_full.result ≡ task_set_full = λ i. record { status = c.task_set_full.ensures.status i; sense = c.task_set_full.ensures.sense i } in
    refuses s c.args.server.now
    (record { store = c.args.server.now.store; set = c.settle_set.new.set; commands = c.args.server.now.commands; arrived = c.args.server.now.arrived + 1; known = c.args.server.now.known })
    c.args.arriving (c.args.server.now.arrived + 1) fits (ap (λ (n : ℕ). n + 1) fits.tasks.arrived) refl refl c.still_turns_are_good.ensures
    c.push_reserved-then-full.new.self.items _ (is_full-yes s c.args.server.now c.members.result.now fits c.members.ensures.value many)
    (c.settle_set.ensures ∙ ap (λ (x : Entry). set_after c.args.server.now.known.capacity (with_commands 0 c.args.server.now.set) x) c.entry_of-entry.ensures) refl refl refl
    (c.push_reserved-then-full.ensures.items ∙ (ap (λ (es : List Entry). es ++ Ended (c.args.server.now.arrived + 1) c.task_set_full.result ∷ [])
    (c.push_reserved.ensures.items ∙ ((λ i. (c.requires.empty i) ++ (c.entry_of-entry.ensures i) ∷ [])))
    ∙ (λ i. entry_of (c.args.server.now.arrived + 1) c.args.arriving ∷ Ended (c.args.server.now.arrived + 1) (reply i) ∷ [])))
    refl

pub returns-clause-moves : goal.returns-clause-moves
returns-clause-moves c s fits =
    let few : length c.members.result.now < 64 = omega arith in
    enters s c.args.server.now
    (record { store = c.args.server.now.store; set = c.settle_set.new.set; commands = c.push_reserved-2.new.self; arrived = c.args.server.now.arrived + 1; known = c.args.server.now.known })
    c.args.arriving (c.args.server.now.arrived + 1) fits (ap (λ (n : ℕ). n + 1) fits.tasks.arrived) refl refl c.still_turns_are_good.ensures
    (record { c = c.args.server.now.arrived + 1; cdb = c.copy.result; sent = c.in_ok-copy.field-0; work = None })
    c.push_reserved.new.self.items (is_full-no s c.args.server.now c.members.result.now fits c.members.ensures.value few) c.requires.served
    (c.settle_set.ensures ∙ ap (λ (x : Entry). set_after c.args.server.now.known.capacity (with_commands 0 c.args.server.now.set) x) c.entry_of-entry.ensures)
    refl refl c.push_reserved-2.ensures.items
    (λ i. record { c = c.args.server.now.arrived + 1; cdb = c.copy.ensures i; sent = c.in_ok-copy.ensures i; work = None })
    (c.push_reserved.ensures.items ∙ (λ i. (c.requires.empty i) ++ (c.entry_of-entry.ensures i) ∷ []))
