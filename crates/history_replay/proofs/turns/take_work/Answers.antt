use Rattle.std.proofs.Common.{◌≡◌, ◌∙◌, sym, subst, ℕ, true, rules}
use Rattle.block_machine.specs.Steps.{begun, entries_after}
use Rattle.block_machine.specs.Turns.{starts_alone}
use Rattle.history_replay.specs.Kept.{Stands}
use Rattle.history_replay.proofs.OneTurn.{begun_stands, taken_at, work_refused, work_taken}
use Rattle.history_replay.proofs.turns.take_work.Goals as goal

pub take_entries-requires : goal.take_entries-requires
take_entries-requires c =
    begun_stands c.begin.new.kept.known.capacity c.args.kept.now.known.capacity c.args.kept.now c.begin.new.kept c.args.label.now
    c.begin.ensures.capacity c.in_ok-begin.ensures.stands c.requires.stands

pub returns-then-not-branch : goal.returns-then-not-branch
returns-then-not-branch c = λ s st.
    let capacity = c.args.kept.now.known.capacity in
    let label = c.args.label.now in
    let entries = c.args.entries.now in
    let taken = taken_at c.begin.new.kept.known.capacity capacity label entries c.begin.new.kept c.take_entries.new.kept c.in_ok-take_entries.field-0
    c.begin.ensures.capacity c.in_ok-take_entries.ensures.takes (begun s label) (c.in_ok-begin.ensures.stands s st) in
    (sym (work_refused capacity label s entries (sym taken.0 ∙ c.if-not-branch.true)), λ may. absurd (cc))

pub returns : goal.returns
returns c = λ s st.
    let capacity = c.args.kept.now.known.capacity in
    let label = c.args.label.now in
    let entries = c.args.entries.now in
    let after = c.take_entries.new.kept in
    let alone : starts_alone entries ≡ true = search rules in
    let taken = taken_at c.begin.new.kept.known.capacity capacity label entries c.begin.new.kept after c.in_ok-take_entries.field-0
    c.begin.ensures.capacity c.in_ok-take_entries.ensures.takes (begun s label) (c.in_ok-begin.ensures.stands s st) in
    let end = entries_after capacity label (begun s label) entries in
    let there : Stands capacity after end = taken.1 c.if-not-branch.false in
    let P : ℕ → Type 0 = λ n. Stands n after end in (
      c.is_settled.ensures end (subst P (sym there.unit) there)
          ∙ sym (work_taken capacity label s entries alone (sym taken.0 ∙ c.if-not-branch.false)),
      λ may. there,
    )
