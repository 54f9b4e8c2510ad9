-- What a phase is to bring, arrivals and destages: by the lines of a script, and in turns.
use Rattle.std.specs.Prelude.{◌≡◌, ℕ, ◌-◌, Bool, true, false, List, [], filter, length, sum_by}
use Rattle.block_machine.specs.declared.turn.Label.{Label}
use Rattle.block_machine.specs.declared.turn.Label.TheVariants as label
use Rattle.script_text.specs.declared.script.Line.{Line}
use Rattle.script_text.specs.declared.script.Line.TheVariants as line
use Rattle.drive_scene.specs.Scene.{Beat}
use Rattle.script_runner.specs.declared.queues.Queued.{Queued}
use Rattle.script_runner.specs.Arrivals.{Sends, sends_of, lines_of, unsent_of}

-- what each initiator is to send, in order, and how many destages are asked for
pub record Wanted : Type 0 where
  pub sends : Sends
  pub destages : ℕ

-- the same is wanted
pub record AreSame (f g : Wanted) : Type 0 where
  pub sends : (i : ℕ) → f.sends i ≡ g.sends i
  pub destages : f.destages ≡ g.destages

-- nothing is wanted
pub record IsNothing (wanted : Wanted) : Type 0 where
  pub sends : (i : ℕ) → wanted.sends i ≡ []
  pub destages : wanted.destages ≡ 0

-- what is wanted of what is queued
abbrev pub wanted_of : Queued → Wanted
wanted_of queued = record { sends = sends_of queued.queues; destages = queued.destages }

-- the destages that a line asks for
abbrev pub destages_of : Line → ℕ
destages_of (line.Destage count) = count
destages_of other = 0

-- what lines ask for: their destages add up
abbrev pub wanted_by : List Line → Wanted
wanted_by lines = record { sends = lines_of lines; destages = sum_by destages_of lines }

abbrev pub is_destage : Label → Bool
is_destage label.Destage = true
is_destage other = false

-- how many of some turns are destages
abbrev pub destages_in : List Beat → ℕ
destages_in turns = length (filter (λ t. is_destage t.label) turns)

-- what is still wanted, after turns of a phase
abbrev pub left_of : Wanted → List Beat → Wanted
left_of wanted came = record { sends = unsent_of wanted.sends came; destages = wanted.destages - destages_in came }
