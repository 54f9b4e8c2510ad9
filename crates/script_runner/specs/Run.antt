-- What a good run of a script is.
use Rattle.std.specs.Prelude.{◌≡◌, ℕ, IsTrue, List, [], ◌∷◌, ◌++◌, length, fold, Option}
use Rattle.geometry_map.specs.declared.size.Size.{Size}
use Rattle.geometry_map.specs.Size.{capacity_of}
use Rattle.platter_model.specs.declared.op.Op.{Op}
use Rattle.platter_model.specs.TrueLog.{strays}
use Rattle.block_machine.specs.declared.turn.Turn.{Turn}
use Rattle.block_machine.specs.History.{legal, task_legal}
use Rattle.script_text.specs.declared.script.Script.{Script}
use Rattle.report_text.specs.declared.run.Run as report
use Rattle.drive_scene.specs.Scene.{Scene, scene_at_start, factory_ops}
use Rattle.drive_scene.specs.After.{scene_after}
use Rattle.drive_scene.specs.GoodTurn.{IsStood}
use Rattle.drive_scene.specs.Run as drive
use Rattle.drive_scene.specs.Run.{IsGoodRun, beats_of}
use Rattle.script_runner.specs.Phase.{ByOrder}
use Rattle.script_runner.specs.CarriedOut.{CarryOut}
use Rattle.script_runner.specs.Script.{HasMeasures, made_for}

-- the drive of a script, with the turns and operations of a run
abbrev pub drive_run : Size → Script → List Turn → List Op → drive.Run
drive_run size script turns ops =
    record { made = made_for size script; turns = turns; ops = ops; coming = 0 }

-- what some turns of a run have come to
abbrev pub scene_behind : Size → Script → List Turn → List Op → Scene
scene_behind size script turns ops = fold scene_after (scene_at_start (made_for size script)) (beats_of (drive_run size script turns ops))

-- a good run of a script by an order: a drive of its measures did it, from the factory on
pub record IsGood (order : Option ℕ) (script : Script) (turns : List Turn) (ops : List Op) : Type 0 where
  pub size : Size
  pub measures : HasMeasures script.size size
  -- as far as commands go, the turns are a legal history
  pub of_commands : IsTrue (task_legal (capacity_of size) turns)
  -- so far as no operation is a stray, they are one
  pub of_blocks : (front more : List Turn) → turns ≡ front ++ more → strays (scene_behind size script front ops).ops ≡ 0
      → IsTrue (legal (capacity_of size) front)
  -- and then, behind each of them, every map that recovery may take has for each block a value that they allow it
  pub stands : (front more : List Turn) (t : Turn) → turns ≡ front ++ t ∷ more
      → let s = scene_behind size script (front ++ t ∷ []) ops in IsStood s.map s.ops s.hist.blocks
  -- the operations show what each turn says, each is a step, and none is about a block that another holds
  pub history : IsGoodRun (drive_run size script turns ops)
  -- and the turns carry out the lines, those of phases by the order
  pub carried_out :
      CarryOut ByOrder order (scene_at_start (made_for size script)) [] script.lines (beats_of (drive_run size script turns ops))

-- how many operations the factory of a script's drive did
abbrev pub factory_count_of : Size → Script → ℕ
factory_count_of size script = length (factory_ops (made_for size script))

-- a good run of its script by an order, whose turns name their operations among those behind the factory's
abbrev pub IsGoodByOrder : Option ℕ → report.Run → Type 0
IsGoodByOrder order run = (good : IsGood order run.script run.turns run.ops) × (run.factory_count ≡ factory_count_of good.size run.script)
