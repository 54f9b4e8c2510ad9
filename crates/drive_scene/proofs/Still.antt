-- A turn that has no operation and is about no block.
use Rattle.std.proofs.Common.{◌≡◌, Bool, false, true≢false, List, [], ◌++◌, sym, ap, ◌∙◌, subst, append-nil, ◌∷◌, Option, refl}
use Rattle.std.specs.Prelude.{◌||◌, ◌==◌}
use Rattle.std.specs.List.{list_any}
use Rattle.std.specs.Option.{option_map_or}
use Rattle.std.proofs.lemmas.List.Elements.{All-nil, All-from_recursion}
use Rattle.platter_model.specs.declared.op.Op.{Op}
use Rattle.block_machine.specs.declared.entry.Entry.{Entry}
use Rattle.block_machine.specs.declared.turn.Label.{Label}
use Rattle.block_machine.specs.Blocks.{Blocks}
use Rattle.geometry_map.specs.DefectMap.{DefectMap}
use Rattle.map_generations.specs.SafeMaps.{IsPresent}
use Rattle.move_jobs.specs.Job as move_job
use Rattle.sector_store.specs.Maps.{MayBeRecovered, meant_on}
use Rattle.drive_scene.specs.Scene.{Scene, beat}
use Rattle.drive_scene.specs.After.{map_committed, scene_after}
use Rattle.drive_scene.specs.Evidence.{lba}
use Rattle.drive_scene.specs.Present.{IsPresentMap}
use Rattle.drive_scene.specs.GoodTurn.{IsStood, WritesBlockData, WritesBlocks, IsAllowed, IsStep, IsPowered, AreTriesShown, is_on}
use Rattle.drive_scene.specs.Still.{IsStanding}
use Rattle.drive_scene.specs.Laws.{StillTurnsAreGood, DamageTurnsAreGood}
use Rattle.platter_model.specs.declared.op.Op.TheVariants.{Damaged}
use Rattle.platter_model.specs.declared.damage.Damage.{Damage}
use Rattle.platter_model.specs.TrueLog.{is_off}
use Rattle.block_machine.specs.declared.turn.Label.TheVariants.{Work, Job, World}
use Rattle.sector_store.specs.Stored.{KeepsBlocks}
use Rattle.drive_scene.proofs.Tries.{no_strays-before}
use Rattle.drive_scene.proofs.Uncommitted.{still_uncommitted}

-- the map is there after no operation, too
pub present_still : (s : Scene) → IsPresentMap s.map s.ops → IsPresentMap s.map (s.ops ++ [])
present_still s present = subst (λ (ops : List Op). IsPresentMap s.map ops) (sym (append-nil s.ops)) present

-- a turn begins with the power on where it is on
powered_own : (s : Scene) (label : Label) → is_off s.ops ≡ false → IsPowered s label
powered_own s (World w) on = tt
powered_own s label on = on

-- no block is tried without an operation
no_tries : (s : Scene) (label : Label) (entries : List Entry) → IsStep s label entries [] → AreTriesShown s label entries []
no_tries s (Work c) [] step = absurd (true≢false (sym step.1))
no_tries s (Work c) (e ∷ entries) step = refl
no_tries s label entries step = tt

-- nothing is written without an operation
nothing_written : (s : Scene) (label : Label) (entries : List Entry) → WritesBlocks s.map label entries []
nothing_written s (Job j) entries = tt
nothing_written s label entries = All-nil (WritesBlockData s.map entries)

-- it is good
pub good_still : StillTurnsAreGood
good_still s label entries standing still =
    let present : IsPresentMap s.map (s.ops ++ []) = present_still s standing.present in
    let stood : IsStood s.map (s.ops ++ []) s.hist.blocks = subst (λ (ops : List Op). IsStood s.map ops s.hist.blocks) (sym (append-nil s.ops)) standing.stands in
    let same : s.map ≡ (scene_after s (beat label entries [])).map =
    sym (ap (λ (o : Option move_job.Job). map_committed o s.map) (still_uncommitted s label entries still.step)) in
    record {
      tasks = still.tasks;
      blocks = λ none. still.blocks;
      shown = still.shown;
      powered = powered_own s label standing.powered;
      step = still.step;
      tries = no_tries s label entries still.step;
      one_block = (lba 0, still.on_one);
      written = nothing_written s label entries;
      own = still.own;
      order = still.order;
      waits = still.waits;
      window = still.windows;
      held = λ b below about. absurd (true≢false (sym about
          ∙ (ap (λ (o : Option move_job.Job). option_map_or (λ job. job.b.0 == b.0) o false || (list_any (is_on b) entries || false)) (still_uncommitted s label entries still.step)
          ∙ ap (λ (t : Bool). t || false) (still.on_none b))));
      stands = subst (λ (m : DefectMap). IsStood m (s.ops ++ []) (scene_after s (beat label entries [])).hist.blocks) same
          (subst (λ (bs : Blocks). IsStood s.map (s.ops ++ []) bs) (sym still.unchanged) stood);
      mapped = λ on readable. subst (λ (m : DefectMap). IsPresent (meant_on (s.ops ++ [])) m × MayBeRecovered m.size (s.ops ++ []) m) same
          (present.there.present, present.may_be);
    }

-- what is stored stands after damage
stood_damaged : (s : Scene) (x : Damage) → IsStanding s → KeepsBlocks s.map s.ops (s.ops ++ Damaged x ∷ []) → IsStood s.map (s.ops ++ Damaged x ∷ []) s.hist.blocks
stood_damaged s x standing kept none taken may q below =
    subst (λ v. IsAllowed s.hist.blocks q v) (sym (kept taken may q))
    (standing.stands (no_strays-before s.ops (Damaged x ∷ []) none) s.map standing.present.may_be q below)

pub good_damage : DamageTurnsAreGood
good_damage s x standing windows kept present = record {
  tasks = refl;
  blocks = λ none. refl;
  shown = tt;
  powered = tt;
  step = (refl, refl);
  tries = tt;
  one_block = (lba 0, refl);
  written = All-from_recursion (WritesBlockData s.map []) (Damaged x ∷ []) (tt, tt);
  own = tt;
  order = refl;
  waits = refl;
  window = windows;
  held = λ q below about. tt;
  stands = stood_damaged s x standing kept;
  mapped = λ on readable. (present.there.present, present.may_be);
}
