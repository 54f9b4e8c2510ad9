-- A history that is judged turn by turn, beside the state that it has come to.
use Rattle.std.specs.Prelude.{◌≡◌, ℕ, Bool, IsTrue, length}
use Rattle.block_machine.specs.declared.turn.Turn.{Turn}
use Rattle.block_machine.specs.State.{State}
use Rattle.block_machine.specs.Turns.{turn_after, turn_lawful}
use Rattle.history_replay.specs.declared.monitor.Monitor.{Monitor}
use Rattle.history_replay.specs.Array.{blocks_of}
use Rattle.history_replay.specs.Kept.{Stands}

-- the monitor has followed a history of so many blocks to this state
pub record Follows (capacity : ℕ) (monitor : Monitor) (s : State) : Type 0 where
  pub commands : Stands capacity monitor.kept s
  pub length : length monitor.blocks.items ≡ capacity
  pub blocks : blocks_of monitor.blocks.items ≡ s.blocks

-- it says whether a turn may come next, and has followed the history over that turn where it may
abbrev pub Judges : Turn → Monitor → Monitor → Bool → Type 0
Judges turn old new may = (capacity : ℕ) (s : State) → Follows capacity old s
    → (may ≡ turn_lawful capacity s turn) × (IsTrue may → Follows capacity new (turn_after capacity s turn))
