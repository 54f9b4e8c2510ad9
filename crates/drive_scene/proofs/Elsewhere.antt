-- Other commands than the one that a turn is about stand as before.
use Rattle.std.proofs.Common.{◌≡◌, ◌≢◌, ℕ, Bool, false, List, Option, Some, None, refl, ap, ◌∙◌, [], ◌∷◌, ◌++◌}
use Rattle.std.specs.Option.{option_map_or, option_and_then}
use Rattle.task_set.specs.declared.member.Member.{Member}
use Rattle.task_set.specs.Members.{member_of}
use Rattle.block_machine.specs.Blocks.{is_dirty}
use Rattle.drive_scene.specs.Scene.{Scene, capacity, beat}
use Rattle.drive_scene.specs.After.{scene_after, settings_by, recovered_by, windows_with, window_after}
use Rattle.drive_scene.specs.Holds.{held_by_plan, held_block}
use Rattle.drive_scene.specs.View.{view}
use Rattle.std.proofs.lemmas.List.Sums.{fold_push}
use Rattle.platter_model.specs.declared.op.Op.{Op}
use Rattle.sense_data.specs.declared.reply.Reply.{Reply}
use Rattle.cdb_reader.specs.declared.plan.Plan.{Plan}
use Rattle.block_machine.specs.declared.entry.Entry.{Entry}
use Rattle.block_machine.specs.declared.entry.Entry.TheVariants.{Ended}
use Rattle.block_machine.specs.declared.turn.Label.TheVariants.{Work}
use Rattle.block_machine.specs.State.{State}
use Rattle.block_machine.specs.Steps.{begun, entry_after}
use Rattle.drive_scene.proofs.Tables.{put_at-other}
use Rattle.drive_scene.proofs.Keyed.{find-dropped_other}
use Rattle.drive_scene.specs.Half.{Half}

-- what two scenes have alike of a command
pub record IsAlike (s t : Scene) (q : ℕ) : Type 0 where
  pub size : t.size ≡ s.size
  pub map : t.map ≡ s.map
  pub member : member_of t.hist.set q ≡ member_of s.hist.set q
  pub duty : t.hist.duties q ≡ s.hist.duties q
  pub window : t.windows q ≡ s.windows q
  pub settings : t.settings q ≡ s.settings q
  pub recovered : t.recovered q ≡ s.recovered q
  -- the block that it holds is dirty where it was
  pub dirty : (b : ℕ) → held_block s q ≡ Some b → is_dirty (t.hist.blocks b) ≡ is_dirty (s.hist.blocks b)

pub held-alike : (s t : Scene) (q : ℕ) → IsAlike s t q → held_block t q ≡ held_block s q
held-alike s t q alike =
    λ i. option_and_then (held_by_plan (alike.window i)) (option_and_then (λ (m : Member). (alike.duty i).owes) (alike.member i))

dirty-held : (f g : ℕ → Bool) (o : Option ℕ) → ((b : ℕ) → o ≡ Some b → f b ≡ g b) → option_map_or f o false ≡ option_map_or g o false
dirty-held f g None same = refl
dirty-held f g (Some b) same = same b refl

pub view-alike : (s t : Scene) (q : ℕ) → IsAlike s t q → view t q ≡ view s q
view-alike s t q alike =
    let held : option_map_or (λ b. is_dirty (t.hist.blocks b)) (held_block t q) false ≡ option_map_or (λ b. is_dirty (s.hist.blocks b)) (held_block s q) false =
    ap (λ (o : Option ℕ). option_map_or (λ b. is_dirty (t.hist.blocks b)) o false) (held-alike s t q alike)
    ∙ dirty-held (λ b. is_dirty (t.hist.blocks b)) (λ b. is_dirty (s.hist.blocks b)) (held_block s q) alike.dirty in
    λ i. record {
      size = alike.size i;
      map = alike.map i;
      member = alike.member i;
      duty = alike.duty i;
      window = alike.window i;
      settings = alike.settings i;
      recovered = alike.recovered i;
      holds_dirty = held i;
    }

-- the scene after half a turn
abbrev pub after_half : Scene → ℕ → List Op → List Entry → Scene
after_half s c ops entries = scene_after s (beat (Work c) entries ops)

-- and after the command's end
abbrev pub after_end : Scene → ℕ → List Op → List Entry → Reply → Scene
after_end s c ops entries reply = scene_after s (beat (Work c) (entries ++ Ended c reply ∷ []) ops)

-- other commands after half a turn
pub alike-half : (s : Scene) (c : ℕ) (ops : List Op) (entries : List Entry) (h : State) (plan : Plan) → Half s c ops entries h plan
    → (q : ℕ) → q ≢ c → IsAlike s (after_half s c ops entries) q
alike-half s c ops entries h plan half q other = record {
  size = refl;
  map = refl;
  member = ap (λ (x : State). member_of x.set q) half.reached ∙ ap (λ (set : List Member). member_of set q) half.quiet.set;
  duty = ap (λ (x : State). x.duties q) half.reached ∙ half.quiet.duties q other;
  window = put_at-other c q (window_after c (s.windows c) (beat (Work c) entries ops)) s.windows other;
  settings = ap (λ f. f q) half.settings;
  recovered = half.recovered q other;
  dirty = λ n holds. ap (λ (x : State). is_dirty (x.blocks n)) half.reached ∙ half.undirtied q n other holds;
}

-- the history after the end
pub reached-end : (s : Scene) (c : ℕ) (ops : List Op) (entries : List Entry) (h : State) (plan : Plan) (reply : Reply) → Half s c ops entries h plan
    → (after_end s c ops entries reply).hist ≡ entry_after (capacity s) (Work c) h (Ended c reply)
reached-end s c ops entries h plan reply half =
    fold_push (entry_after (capacity s) (Work c)) (begun s.hist (Work c)) entries (Ended c reply)
    ∙ ap (λ (x : State). entry_after (capacity s) (Work c) x (Ended c reply)) half.reached

pub alike-end : (s : Scene) (c : ℕ) (ops : List Op) (entries : List Entry) (h : State) (plan : Plan) (reply : Reply) → Half s c ops entries h plan
    → (q : ℕ) → q ≢ c → IsAlike s (after_end s c ops entries reply) q
alike-end s c ops entries h plan reply half q other =
    let reached = reached-end s c ops entries h plan reply half in
    record {
      size = refl;
      map = refl;
      member = ap (λ (x : State). member_of x.set q) reached ∙ (find-dropped_other (λ (m : Member). m.task.c) c q h.set other
          ∙ ap (λ (set : List Member). member_of set q) half.quiet.set);
      duty = ap (λ (x : State). x.duties q) reached ∙ (put_at-other c q _ h.duties other ∙ half.quiet.duties q other);
      window = put_at-other c q (window_after c (s.windows c) (beat (Work c) (entries ++ Ended c reply ∷ []) ops)) s.windows other;
      settings = ap (λ f. f q) (fold_push (settings_by s.hist.settings) s.settings entries (Ended c reply) ∙ half.settings);
      recovered = ap (λ f. f q) (fold_push (recovered_by (windows_with (Work c) s.windows ops)) s.recovered entries (Ended c reply)) ∙ half.recovered q other;
      dirty = λ n holds. ap (λ (x : State). is_dirty (x.blocks n)) reached ∙ half.undirtied q n other holds;
    }
