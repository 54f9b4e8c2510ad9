-- While no move is in flight, no turn brings one into flight, and commands alone hold blocks.
use Rattle.std.proofs.Common.{◌≡◌, ◌≢◌, ℕ, false, eqb, not, List, [], Option, Some, None, sym, ap, ◌∙◌, subst, arith}
use Rattle.std.specs.Prelude.{◌&&◌, find, All, AllPairs}
use Rattle.std.specs.List.{list_any}
use Rattle.std.specs.Option.{option_map, option_and_then, option_or}
use Rattle.std.proofs.lemmas.List.Elements.{All-nil}
use Rattle.block_machine.specs.declared.turn.Label.{Label}
use Rattle.drive_scene.specs.declared.event.Holder.TheVariants as holder
use Rattle.drive_scene.specs.declared.answer.TurnAnswer.{TurnAnswer}
use Rattle.drive_scene.specs.declared.answer.TurnAnswer.TheVariants as answer
use Rattle.block_machine.specs.declared.turn.Label.TheVariants.{Work}
use Rattle.move_table.specs.declared.flight.Flight.{Flight}
use Rattle.move_table.specs.Table.{is_owned_by}
use Rattle.drive_scene.specs.GoodTurn.{waits_for_move}
use Rattle.drive_scene.specs.Scene.{Scene, Beat}
use Rattle.drive_scene.specs.After.{scene_after}
use Rattle.drive_scene.specs.Holds.{held_block, needed_block, goes_on_with, command_besides, holder_besides, IsApart}
use Rattle.drive_scene.specs.Able.{awaited, held_by_other, kept_waiting}
use Rattle.drive_scene.proofs.Uncommitted.{stays_flightless}

-- a turn leaves none, as before
pub same_flights : (s : Scene) (t : Beat) → s.back.flights ≡ [] → (scene_after s t).back.flights ≡ s.back.flights
same_flights s t none = stays_flightless s t none ∙ sym none

-- no command waits for one
pub waits_alone : (s : Scene) (c : ℕ) → s.back.flights ≡ [] → waits_for_move s (Work c) ≡ false
waits_alone s c none = ap (λ (fs : List Flight). list_any (λ f. is_owned_by c f.job.owner) fs) none

-- who else holds a block is a command
pub holder_alone : (s : Scene) (l : Label) (b : ℕ) → s.back.flights ≡ [] → holder_besides s l b ≡ option_map holder.Command (command_besides s l b)
holder_alone s l b none =
    ap (λ (fs : List Flight). option_or (option_map holder.Job (option_map (λ (f : Flight). f.j) (find (λ f. not (goes_on_with l f.j) && eqb f.job.b.0 b) fs)))
    (option_map holder.Command (command_besides s l b))) none

-- no block is held twice where no two commands hold one
pub apart_alone : (s : Scene) → s.back.flights ≡ [] → ((c q b : ℕ) → held_block s c ≡ Some b → held_block s q ≡ Some b → c ≡ q) → IsApart s
apart_alone s none commands = record {
  commands = commands;
  moves = subst (λ (fs : List Flight). AllPairs (λ f g. f.job.b ≢ g.job.b) fs) (sym none) (λ i j d less within. absurd (omega arith));
  owned = subst (λ (fs : List Flight). All (λ f. (c : ℕ) → held_block s c ≡ Some f.job.b.0 → f.job.owner ≡ Some c) fs) (sym none) (All-nil _);
}

-- and a started command waits for the block that it needs alone
pub kept_alone : (s : Scene) (c : ℕ) → s.back.flights ≡ [] → kept_waiting s c ≡ option_and_then (held_by_other s c) (needed_block s c)
kept_alone s c none =
    ap (λ (fs : List Flight). option_or (option_map (λ (f : Flight). answer.Held f.job.b (holder.Job f.j)) (find (λ (f : Flight). is_owned_by c f.job.owner) fs))
    (option_and_then (held_by_other s c) (needed_block s c))) none

-- a command that isn't kept waiting isn't held by another
pub unheld_by_other : (s : Scene) (c : ℕ) → kept_waiting s c ≡ None → option_and_then (held_by_other s c) (needed_block s c) ≡ None
unheld_by_other s c free = by (awaited s c) free
  where
    by : (o : Option TurnAnswer) → option_or o (option_and_then (held_by_other s c) (needed_block s c)) ≡ None
        → option_and_then (held_by_other s c) (needed_block s c) ≡ None
    by None free = free
    by (Some a) free = absurd (cc)
