-- The turns that carry the lines of a script out.
use Rattle.std.specs.Prelude.{◌≡◌, ℕ, List, [], ◌∷◌, ◌++◌, fold, Option}
use Rattle.block_machine.specs.declared.turn.Label.TheVariants as label
use Rattle.script_text.specs.declared.script.Line.{Line}
use Rattle.script_text.specs.declared.script.Line.TheVariants.{Command, Function, Scan, Destage, Go, World}
use Rattle.drive_scene.specs.Scene.{Scene, Beat}
use Rattle.drive_scene.specs.After.{scene_after}
use Rattle.script_runner.specs.Wanted.{Wanted, wanted_by}
use Rattle.script_runner.specs.Order.{order_after}
use Rattle.script_runner.specs.Phase.{IsPhase}

-- a rule which turn comes next, at each turn of a phase, by the order as it stands when the phase begins
abbrev pub Rule : Type 1
Rule = Option ℕ → Scene → Wanted → List Beat → Type 0

-- turns are a phase, and keep to a rule
pub record CarriesPhase (rule : Rule) (order : Option ℕ) (s : Scene) (wanted : Wanted) (own : List Beat) : Type 0 where
  pub phase : IsPhase s wanted own
  pub by_rule : rule order s wanted own

-- turns carry out lines that follow some that wait: one for each event from outside, and those of a phase where what waits is to
-- be carried out, which it is at the end, too. Each phase takes the order up where the one before it left it
abbrev pub CarryOut : Rule → Option ℕ → Scene → List Line → List Line → List Beat → Type 0
CarryOut rule order s waiting [] turns = CarriesPhase rule order s (wanted_by waiting) turns
CarryOut rule order s waiting (Go ∷ lines) turns = (own : List Beat) × (rest : List Beat) × (turns ≡ own ++ rest)
    × CarriesPhase rule order s (wanted_by waiting) own × CarryOut rule (order_after order own) (fold scene_after s own) [] lines rest
CarryOut rule order s waiting (World event ∷ lines) turns = (t : Beat) × (rest : List Beat) × (turns ≡ t ∷ rest)
    × (t.label ≡ label.World event) × CarryOut rule order (scene_after s t) waiting lines rest
CarryOut rule order s waiting (Command i tag attribute cdb sent ∷ lines) turns =
    CarryOut rule order s (waiting ++ Command i tag attribute cdb sent ∷ []) lines turns
CarryOut rule order s waiting (Function i what ∷ lines) turns = CarryOut rule order s (waiting ++ Function i what ∷ []) lines turns
CarryOut rule order s waiting (Destage count ∷ lines) turns = CarryOut rule order s (waiting ++ Destage count ∷ []) lines turns
-- no scan is carried out yet
CarryOut rule order s waiting (Scan count ∷ lines) turns = ⊥
