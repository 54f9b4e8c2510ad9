use Rattle.std.proofs.Common.{◌<◌, ◌≤◌, length, drop, sym, rules}
use Rattle.block_machine.specs.State.{State}
use Rattle.history_replay.proofs.Taking.{EntriesComeTo, still_stands, entries_more, entries_refused, entries_end}
use Rattle.history_replay.proofs.turns.take_entries.Goals as goal

pub take_entry-requires : goal.take_entry-requires
take_entry-requires c =
    let capacity = c.args.kept.now.known.capacity in
    let entries = c.args.entries.now in
    still_stands capacity c.args.kept.now c.loop-entry.kept
    (λ (s : State) (g : State). EntriesComeTo capacity c.args.label.now s entries g (drop c.loop-entry.entry-index entries))
    c.loop-entry.invariant.0 c.requires c.loop-entry.invariant.1

pub returns-then-not-branch-clause-takes : goal.returns-then-not-branch-clause-takes
returns-then-not-branch-clause-takes c = λ s st.
    let less : c.loop-entry.entry-index < length c.args.entries.now = search rules in (
      sym (entries_refused c.args.kept.now.known.capacity c.args.kept.now c.loop-entry.kept c.take_entry.new.kept c.args.label.now
          c.args.entries.now c.loop-entry.entry-index c.entry-item.result c.in_ok-take_entry.field-0 c.loop-entry.invariant.0 less
          c.entry-item.is c.if-not-branch.true c.in_ok-take_entry.ensures c.loop-entry.invariant.1 s st),
      λ may. absurd (cc),
    )

pub loop-entry-preserved : goal.loop-entry-preserved
loop-entry-preserved c =
    let less : c.loop-entry.entry-index < length c.args.entries.now = search rules in
    let capacity = c.args.kept.now.known.capacity in
    let more = entries_more capacity c.args.kept.now c.loop-entry.kept c.take_entry.new.kept c.args.label.now c.args.entries.now
    c.loop-entry.entry-index c.entry-item.result c.in_ok-take_entry.field-0 c.loop-entry.invariant.0 less c.entry-item.is c.if-not-branch.false
    c.in_ok-take_entry.ensures c.loop-entry.invariant.1 in
    ((more c.requires.0 c.requires.1).1.unit, more)

pub returns-clause-takes : goal.returns-clause-takes
returns-clause-takes c =
    let all : length c.args.entries.now ≤ c.loop-entry.entry-index = search rules in
    entries_end c.args.kept.now.known.capacity c.args.kept.now c.loop-entry.kept c.args.label.now c.args.entries.now c.loop-entry.entry-index all
    c.loop-entry.invariant.1
