use Rattle.std.proofs.Common.{◌≡◌, ◌∙◌, ap, Bool, true, cond, rules}
use Rattle.std.specs.Prelude.{◌&&◌, ◌==◌, Option, Some}
use Rattle.history_replay.specs.declared.duty.Duty.{Duty}
use Rattle.block_machine.specs.Entries.{may_start, works_on}
use Rattle.cdb_reader.specs.Request.{outcome_of}
use Rattle.history_replay.specs.Known.{with_set}
use Rattle.history_replay.proofs.Standing.{start_may, started}
use Rattle.history_replay.proofs.entry.start.Goals as goal

pub returns : goal.returns
returns c = λ s st.
    let kept = c.args.kept.now in
    let capacity = kept.known.capacity in
    let works : true ≡ works_on c.args.label.now c.args.c = search rules in
    let free : true ≡ may_start (with_set kept.set) c.args.c = search rules in (
      ap (λ (b : Bool). b && true) works ∙ ap (λ (b : Bool). works_on c.args.label.now c.args.c && b) (start_may capacity kept s c.args.c true st free),
      λ may. started capacity kept c.args.label.now s c.args.c c.code-code.result c.in-Some.member c.in-Some-take.duty c.in_ok-begun.begun
          (outcome_of c.asks-asks.result) c.keep.new.duties c.settle_attentions.new.waiting c.start.new.self st c.in-Some.ensures
          c.in-Some-take.ensures.value c.code-code.ensures c.asks-asks.ensures.outcome c.in_ok-begun.ensures
          (λ q. c.in_ok-keep.ensures q ∙ ap (λ (o : Option Duty). cond (q == c.args.c) (Some c.in_ok-begun.begun) o) (c.in-Some-take.ensures.others q))
          c.settle_attentions.ensures.after c.settle_attentions.ensures.known c.start.ensures,
    )
