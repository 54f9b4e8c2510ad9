-- What holds in the midst of a phase's turns, and of a script's lines.
use Rattle.std.specs.Prelude.{◌≡◌, ℕ, ◌+◌, ◌≤◌, IsTrue, List, [], ◌++◌, length, Option}
use Rattle.std.specs.List.{list_all}
use Rattle.geometry_map.specs.Size.{capacity_of}
use Rattle.script_text.specs.declared.script.Line.{Line}
use Rattle.drive_scene.specs.Scene.{Beat}
use Rattle.drive_scene.specs.Run.{Run, scene_of, beats_of}
use Rattle.script_runner.specs.Arrivals.{arrived_in}
use Rattle.script_runner.specs.Wanted.{Wanted, destages_in}
use Rattle.script_runner.specs.Order.{order_after}
use Rattle.script_runner.specs.Phase.{is_of_phase, ByOrder}
use Rattle.script_runner.specs.Phasing.{AreServed}
use Rattle.script_runner.specs.Leading.{Wait, IsAtRest, Leads}
use Rattle.script_runner.specs.Measure.{turns_of_phase, turns_of_lines, turns_wanted}

-- a phase is in hand, and an order
pub record InPhase (old : Run) (order : Option ℕ) (wanted : Wanted) (now : Run) (so_far : Option ℕ) (left : Wanted) : Type 0 where
  pub own : List Beat
  pub beats : beats_of now ≡ beats_of old ++ own
  pub made : now.made ≡ old.made
  pub kinds : IsTrue (list_all (λ t. is_of_phase t.label) own)
  pub arrivals : (i : ℕ) → wanted.sends i ≡ arrived_in i own ++ left.sends i
  pub destages : wanted.destages ≡ destages_in own + left.destages
  pub by_rule : ByOrder order (scene_of old) wanted own
  pub drawn_once_a_turn : so_far ≡ order_after order own
  pub served : AreServed left.sends
  pub few : length now.turns + turns_of_phase (scene_of now) left ≤ length old.turns + turns_of_phase (scene_of old) wanted

-- the lines so far were taken
pub record InScript (start : Run) (order : Option ℕ) (lines rest : List Line) (now : Run) (so_far : Option ℕ) (wanted : Wanted) : Type 0 where
  pub waiting : List Line
  pub waits : Wait waiting wanted
  pub at_rest : IsAtRest now wanted
  pub leads : Leads start order [] lines now so_far waiting rest
  pub few : length now.turns + turns_wanted (capacity_of now.made.size) wanted + turns_of_lines (capacity_of now.made.size) rest
      ≤ length start.turns + turns_of_lines (capacity_of start.made.size) lines
