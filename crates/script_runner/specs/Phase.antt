-- A phase of a script: what waits is carried out, until nothing is left to do.
use Rattle.std.specs.Prelude.{◌≡◌, ℕ, ◌<◌, ◌≤◌, ◌==◌, not, Bool, true, false, IsTrue, List, [], ◌∷◌, ◌++◌, map, fold, length, Option, Some, None}
use Rattle.std.specs.List.{list_all}
use Rattle.std.specs.Option.{option_map}
use Rattle.disk_base.specs.Along.{Along}
use Rattle.block_machine.specs.declared.turn.Label.{Label}
use Rattle.block_machine.specs.declared.turn.Label.TheVariants as label
use Rattle.block_machine.specs.Attentions.{initiators}
use Rattle.drive_scene.specs.declared.answer.Waiting.{Waiting}
use Rattle.drive_scene.specs.Scene.{Scene, Beat}
use Rattle.drive_scene.specs.After.{scene_after}
use Rattle.drive_scene.specs.Holds.{destaged}
use Rattle.drive_scene.specs.Able.{picked}
use Rattle.drive_scene.specs.Turning.{label_of_pick}
use Rattle.script_runner.specs.Arrivals.{Sends, arrived_in}
use Rattle.script_runner.specs.Wanted.{Wanted, destages_in, left_of}
use Rattle.script_runner.specs.Order.{drawn, number_of}

-- arrivals, work and destages are the turns of a phase
abbrev pub is_of_phase : Label → Bool
is_of_phase (label.Arrive i) = true
is_of_phase (label.Work c) = true
is_of_phase label.Destage = true
is_of_phase other = false

-- turns are a phase: each initiator sends what it is to send, in order and all of it; as many destages come as are asked for, fewer only
-- where in the end no block can be destaged; and in the end no command is in
pub record IsPhase (s : Scene) (wanted : Wanted) (own : List Beat) : Type 0 where
  pub kinds : IsTrue (list_all (λ t. is_of_phase t.label) own)
  pub arrivals : (i : ℕ) → arrived_in i own ≡ wanted.sends i
  pub destages : destages_in own ≤ wanted.destages
  pub none_left : destages_in own < wanted.destages → destaged (fold scene_after s own) ≡ None
  pub idle : (fold scene_after s own).hist.set ≡ []

-- which initiators have something to send
abbrev pub have_something : Sends → List Bool
have_something sends = map (λ i. not (length (sends i) == 0)) initiators

-- what waits outside the drive: of initiators, and destages
abbrev pub waiting_of : Wanted → Waiting
waiting_of wanted = record {
  arrivals = have_something wanted.sends;
  scans = false;
  destages = not (wanted.destages == 0);
}

-- a phase in hand: what the drive has come to, the turns of the phase so far, and the order so far
pub record InHand : Type 0 where
  pub scene : Scene
  pub came : List Beat
  pub order : Option ℕ

abbrev pub one_turn_on : InHand → Beat → InHand
one_turn_on p t = record { scene = scene_after p.scene t; came = p.came ++ t ∷ []; order = drawn p.order }

-- a turn is the one that the next number of the order picks of those that may come
abbrev pub IsPicked : Wanted → InHand → Beat → Type 0
IsPicked wanted p t = option_map label_of_pick (picked p.scene (waiting_of (left_of wanted p.came)) (number_of (drawn p.order))) ≡ Some t.label

-- turns come by an order; where none is asked for, each is the first of those that may come
abbrev pub ByOrder : Option ℕ → Scene → Wanted → List Beat → Type 0
ByOrder order s wanted own = Along one_turn_on (IsPicked wanted) (record { scene = s; came = []; order = order }) own
