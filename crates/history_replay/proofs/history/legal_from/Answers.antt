use Rattle.std.proofs.Common.{◌≡◌, sym, subst, Bool, Result}
use Rattle.std.specs.Prelude.{IfOk}
use Rattle.disk_base.specs.declared.memory.NoMemory.{NoMemory}
use Rattle.block_machine.specs.History.{legal_from}
use Rattle.block_machine.specs.State.{state_at_start}
use Rattle.history_replay.proofs.TurnsTaken.{not_legal}
use Rattle.history_replay.proofs.history.legal_from.Goals as goal
use Rattle.history_replay.proofs.history.legal_from.Goals.{in-Ok, in-Err-Step, in-Err-NoMemory}

pub returns : goal.returns
returns c =
    let s = state_at_start c.args.waiting in
    let turns = c.args.turns.now in
    let P : Result Bool NoMemory → Type 0 = λ r. IfOk r (λ may. may ≡ legal_from c.args.capacity s turns) in
    elim c.match-replay_from.branch [
      | in-Ok w ↦ subst P (sym w.result-is) (sym w.in-Ok.ensures.legal)
      | in-Err-Step w ↦
          let h = w.in-Err-Step in
          subst P (sym w.result-is) (sym (not_legal c.args.capacity s turns h.field-0 h.field-0-0 h.field-0-is h.ensures.refused))
      | in-Err-NoMemory w ↦ subst P (sym w.result-is) tt
    ]
