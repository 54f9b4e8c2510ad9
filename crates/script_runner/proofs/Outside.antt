-- What happens to a drive from outside.
use Rattle.std.proofs.Common.{◌≡◌, ap, sym, refl, subst, ℕ, List, [], ◌∷◌, true}
use Rattle.platter_model.specs.declared.world.World.{World}
use Rattle.task_set.specs.declared.member.Member.{Member}
use Rattle.task_set.specs.Members.{with_started, without}
use Rattle.block_machine.specs.declared.entry.Entry.{Entry}
use Rattle.block_machine.specs.declared.entry.Entry.TheVariants.{Arrived, Started, Ended, Aborted, Asked, Cut}
use Rattle.block_machine.specs.declared.turn.Label.{Label}
use Rattle.block_machine.specs.declared.turn.Label.TheVariants as label
use Rattle.block_machine.specs.State.{State}
use Rattle.block_machine.specs.Steps.{begun, entries_after, entry_after, set_after}
use Rattle.block_machine.specs.Turns.{entries_lawful}
use Rattle.drive_scene.specs.declared.event.Event.TheVariants as event
use Rattle.drive_scene.specs.Scene.{Scene, capacity}
use Rattle.drive_scene.specs.Run.{Run, scene_of}
use Rattle.script_runner.specs.Each.{Each}
use Rattle.script_runner.specs.Phasing.{Happens, MakesTurn}
use Rattle.script_runner.proofs.Beats.{next_turn, scene_next}
use Rattle.script_runner.proofs.Entries.{IsNoArrival, nothing_arrives}

stays_empty : (blocks : ℕ) (h : State) (e : Entry) → IsNoArrival e → h.set ≡ [] → set_after blocks h e ≡ []
stays_empty blocks h (Started c) quiet empty = ap (λ (ms : List Member). with_started ms c) empty
stays_empty blocks h (Ended c reply) quiet empty = ap (λ (ms : List Member). without ms c) empty
stays_empty blocks h (Aborted c) quiet empty = ap (λ (ms : List Member). without ms c) empty
stays_empty blocks h Cut quiet empty = refl
stays_empty blocks h (Arrived c i t a cdb sent) quiet empty = absurd quiet
stays_empty blocks h (Asked i what) quiet empty = absurd quiet
stays_empty blocks h other quiet empty = empty

all_stay_empty : (blocks : ℕ) (l : Label) (h : State) (entries : List Entry) → Each IsNoArrival entries → h.set ≡ [] → (entries_after blocks l h entries).set ≡ []
all_stay_empty blocks l h [] quiet empty = empty
all_stay_empty blocks l h (e ∷ entries) quiet empty = all_stay_empty blocks l (entry_after blocks l h e) entries quiet.1 (stays_empty blocks h e quiet.0 empty)

pub happens : (old new : Run) (w : World) → MakesTurn old (event.World w) new → Happens old w new
happens old new w made =
    let next = next_turn old (event.World w) new made in
    let is_label : label.World w ≡ next.turn.label = cc in
    let h = (scene_of old).hist in
    let blocks = capacity (scene_of old) in
    record {
      turn = next.turn;
      goes = next.goes;
      label = sym is_label;
      idle = λ empty. subst (λ (s : Scene). s.hist.set ≡ []) (sym (scene_next old new next.turn next.goes))
          (subst (λ (l : Label). (entries_after blocks l (begun h l) next.turn.entries).set ≡ []) is_label
          (all_stay_empty blocks (label.World w) h next.turn.entries
          (nothing_arrives blocks (label.World w) h next.turn.entries (λ x. x)
          (subst (λ (l : Label). entries_lawful blocks l (begun h l) next.turn.entries ≡ true) (sym is_label) next.good.tasks)) empty));
      counted = next.counted;
    }
