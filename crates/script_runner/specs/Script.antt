-- Which scripts are carried out, and by which drive.
use Rattle.std.specs.Prelude.{◌≡◌, ◌<◌, ℕ, IsTrue, All, Option, option_map}
use Rattle.geometry_map.specs.declared.size.Size.{Size}
use Rattle.geometry_map.specs.DefectMap.{IsPrimaryList}
use Rattle.script_text.specs.declared.script.Line.{Line}
use Rattle.script_text.specs.declared.script.Line.TheVariants.{Command, Function, Scan, Destage, Go, World}
use Rattle.script_text.specs.declared.script.Script.{Script}
use Rattle.script_text.specs.Measures.{measures_of, given_or_default}
use Rattle.script_text.specs.Standing as text
use Rattle.geometry_map.specs.Size.{capacity_of}
use Rattle.drive_scene.specs.declared.made.Made.{Made}
use Rattle.drive_scene.specs.Run.{Run, run_at_start}
use Rattle.drive_scene.specs.Able.{turns_at_most}
use Rattle.drive_core.specs.Served.{is_served_cdb, IsServedWorld}
use Rattle.script_runner.specs.Measure.{turns_of_lines}

-- the blocks of the drive of a script
abbrev pub blocks_of : Script → ℕ
blocks_of script = text.capacity_of (given_or_default (option_map measures_of script.size))

-- the drive has the measures that a script gives, or the default ones
abbrev pub HasMeasures : Option Size → Size → Type 0
HasMeasures given size = measures_of size ≡ given_or_default (option_map measures_of given)

-- what the factory of a drive of these measures is told for a script
abbrev pub made_for : Size → Script → Made
made_for size script = record { size = size; primary = script.primary.items }

-- a line that the drive serves
abbrev pub IsServedLine : Size → Line → Type 0
IsServedLine size (Command i tag attribute cdb sent) = IsTrue (is_served_cdb cdb)
IsServedLine size (Function i what) = Unit {0}
IsServedLine size (Scan count) = ⊥
IsServedLine size (Destage count) = Unit {0}
IsServedLine size Go = Unit {0}
IsServedLine size (World event) = IsServedWorld size event

-- a script can be carried out on a drive: its primary list is one of such a drive, its lines are served, and they take fewer
-- turns than a drive can number
pub record CanBeCarriedOut (size : Size) (script : Script) : Type 0 where
  pub primary : IsPrimaryList size script.primary.items
  pub lines : All (IsServedLine size) script.lines
  pub few : turns_of_lines (capacity_of size) script.lines < turns_at_most

-- a drive as the factory makes it for a script
pub record IsFresh (script : Script) (r : Run) : Type 0 where
  pub size : Size
  pub measures : HasMeasures script.size size
  pub is : r ≡ run_at_start (made_for size script)
