use Rattle.std.proofs.Common.{◌≡◌, ◌∙◌, ap, subst, true, List}
use Rattle.std.specs.Prelude.{◌&&◌, ◌||◌, not}
use Rattle.std.proofs.lemmas.Bool.{and_parts}
use Rattle.block_machine.specs.declared.entry.Entry.{Entry}
use Rattle.history_checker.specs.Standing.{Keeps}
use Rattle.history_checker.specs.Walk.{arms, event_of, is_next, is_off, on_after, place_after, power_allows}
use Rattle.history_checker.proofs.Keeping.{keeps_power}
use Rattle.history_checker.proofs.walk.Walk.advance.Goals as goal

pub returns : goal.returns
returns c = λ w k may.
    let lines = c.args.lines.now in
    let turn = c.args.turn.now in
    let entries = c.as_slice-entries.result.now in
    let these = c.as_slice-entries.ensures in
    let parts = and_parts (is_next w.place turn.label turn.entries) (power_allows w.on w.armed turn.label (event_of turn.entries)) may in
    let next : is_next w.place turn.label entries ≡ true = ap (is_next w.place turn.label) these ∙ parts.0 in
    let left = c.leave.ensures w k next in
    let event = c.of-event.ensures in
    let on = c.leaves_on-self.ensures ∙ ap (λ b. on_after b c.of-event.result) left.on ∙ ap (on_after w.on) event in
    let armed = c.stays_armed-self.ensures ∙ ap (λ b. (b || arms turn.label) && not (is_off c.of-event.result)) left.armed
    ∙ ap (λ e. (w.armed || arms turn.label) && not (is_off e)) event in
    let P : List Entry → Type 0 = λ es.
    Keeps lines (record c.leave.new.self { is_on = c.leaves_on-self.result; is_armed = c.stays_armed-self.result }) (record {
      place = place_after w.place turn.label es;
      on = on_after w.on (event_of es);
      armed = (w.armed || arms turn.label) && not (is_off (event_of es));
    }) in
    subst P these
    (keeps_power lines c.leave.new.self (record w { place = place_after w.place turn.label entries }) (on_after w.on (event_of entries))
    ((w.armed || arms turn.label) && not (is_off (event_of entries))) c.leaves_on-self.result c.stays_armed-self.result left on armed)
