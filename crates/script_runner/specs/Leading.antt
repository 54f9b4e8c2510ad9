-- How the loop over a script's lines goes on: whatever carries the rest out from there completes the whole.
use Rattle.std.specs.Prelude.{◌≡◌, ℕ, ◌+◌, ◌≤◌, List, [], ◌∷◌, ◌++◌, length, Option}
use Rattle.geometry_map.specs.Size.{capacity_of}
use Rattle.script_text.specs.declared.script.Line.{Line}
use Rattle.drive_scene.specs.Scene.{Beat}
use Rattle.drive_scene.specs.Run.{Run, scene_of, beats_of}
use Rattle.script_runner.specs.Wanted.{Wanted, AreSame, wanted_by}
use Rattle.script_runner.specs.Phase.{ByOrder}
use Rattle.script_runner.specs.CarriedOut.{CarryOut}
use Rattle.script_runner.specs.Phasing.{AreServed}
use Rattle.script_runner.specs.Measure.{turns_of_line, turns_of_lines, turns_wanted}

-- lines wait, and this is what they ask for
abbrev pub Wait : List Line → Wanted → Type 0
Wait waiting wanted = AreSame wanted (wanted_by waiting)

-- no command is in, and what is to be sent is served
pub record IsAtRest (r : Run) (wanted : Wanted) : Type 0 where
  pub idle : (scene_of r).hist.set ≡ []
  pub served : AreServed wanted.sends

-- a drive, and an order, go on from where some lines wait to where others do: what carries lines out from there carries these and them out
-- from here
pub record Leads (old : Run) (order : Option ℕ) (waiting lines : List Line) (new : Run) (next : Option ℕ) (after rest : List Line) : Type 0 where
  pub own : List Beat
  pub beats : beats_of new ≡ beats_of old ++ own
  pub made : new.made ≡ old.made
  pub completes : (turns : List Beat) → CarryOut ByOrder next (scene_of new) after rest turns
      → CarryOut ByOrder order (scene_of old) waiting lines (own ++ turns)

-- a line was taken: with any lines that wait it leads on
pub record TakesLine (old : Run) (order : Option ℕ) (wanted : Wanted) (line : Line) (new : Run) (next : Option ℕ) (left : Wanted) : Type 0 where
  pub at_rest : IsAtRest new left
  pub few : length new.turns + turns_wanted (capacity_of new.made.size) left
      ≤ length old.turns + turns_wanted (capacity_of old.made.size) wanted + turns_of_line (capacity_of old.made.size) line
  pub leads : (waiting : List Line) → Wait waiting wanted → (after : List Line) × Wait after left
      × ((rest : List Line) → Leads old order waiting (line ∷ rest) new next after rest)

-- the lines were carried out, in no more turns than they take at most
pub record CarriesOut (old : Run) (order : Option ℕ) (lines : List Line) (new : Run) : Type 0 where
  pub own : List Beat
  pub beats : beats_of new ≡ beats_of old ++ own
  pub made : new.made ≡ old.made
  pub few : length new.turns ≤ length old.turns + turns_of_lines (capacity_of old.made.size) lines
  pub carried : CarryOut ByOrder order (scene_of old) [] lines own
