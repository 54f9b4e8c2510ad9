-- A script that a fresh drive carried out has a good run.
use Rattle.std.proofs.Common.{◌≡◌, ◌∙◌, ap, sym, subst, refl, ℕ, ◌≤◌, List, [], ◌∷◌, ◌++◌, map, length, arith}
use Rattle.std.specs.Prelude.{Option}
use Rattle.platter_model.specs.declared.op.Op.{Op}
use Rattle.block_machine.specs.declared.turn.Turn.{Turn}
use Rattle.script_text.specs.declared.script.Script.{Script}
use Rattle.script_text.specs.Measures.{Measures}
use Rattle.script_text.specs.Standing as text
use Rattle.geometry_map.specs.Size.{capacity_of}
use Rattle.drive_scene.specs.declared.made.Made.{Made}
use Rattle.drive_scene.specs.Scene.{Scene, Beat, scene_at_start, factory_ops}
use Rattle.drive_scene.specs.After.{scene_after}
use Rattle.drive_scene.specs.Run.{Run, IsGoodRun, beat_of, behind_factory, scene_of, beats_of}
use Rattle.script_runner.specs.CarriedOut.{CarryOut}
use Rattle.script_runner.specs.Leading.{CarriesOut}
use Rattle.script_runner.specs.Phase.{ByOrder}
use Rattle.script_runner.specs.Run.{IsGood, drive_run, factory_count_of}
use Rattle.script_runner.specs.Script.{IsFresh, blocks_of, made_for}
use Rattle.script_runner.specs.Measure.{turns_of_lines}
use Rattle.std.specs.Prelude.{fold}
use Rattle.std.proofs.lemmas.List.{map-append}
use Rattle.std.proofs.lemmas.List.Sums.{fold_push}
use Rattle.disk_base.specs.Along.{Along}
use Rattle.drive_scene.specs.GoodTurn.{GoodTurn, IsStood}
use Rattle.script_runner.proofs.RunLaws.{tasks_along, legal_along, along_at}

-- the first of good turns are good
front_along : (s : Scene) (ops : List Op) (turns front more : List Turn) → turns ≡ front ++ more → Along scene_after GoodTurn s (map (beat_of ops) turns)
    → Along scene_after GoodTurn s (map (beat_of ops) front)
front_along s ops turns front more is all =
    first s (map (beat_of ops) front) (map (beat_of ops) more)
    (subst (λ (bs : List Beat). Along scene_after GoodTurn s bs) (ap (map (beat_of ops)) is ∙ map-append (beat_of ops) front more) all)
  where
    first : (k : Scene) (xs ys : List Beat) → Along scene_after GoodTurn k (xs ++ ys) → Along scene_after GoodTurn k xs
    first k [] ys all = tt
    first k (x ∷ xs) ys all = (all.0, first (scene_after k x) xs ys all.1)

-- what is stored stands behind each
stood_behind : (s : Scene) (ops : List Op) (turns front more : List Turn) (t : Turn) → turns ≡ front ++ t ∷ more → Along scene_after GoodTurn s (map (beat_of ops) turns)
    → let k = fold scene_after s (map (beat_of ops) (front ++ t ∷ [])) in IsStood k.map k.ops k.hist.blocks
stood_behind s ops turns front more t is all =
    let turn : GoodTurn (fold scene_after s (map (beat_of ops) front)) (beat_of ops t) =
    along_at scene_after GoodTurn s (map (beat_of ops) front) (map (beat_of ops) more) (beat_of ops t)
    (subst (λ (bs : List Beat). Along scene_after GoodTurn s bs) (ap (map (beat_of ops)) is ∙ map-append (beat_of ops) front (t ∷ more)) all) in
    let last : fold scene_after s (map (beat_of ops) (front ++ t ∷ [])) ≡ scene_after (fold scene_after s (map (beat_of ops) front)) (beat_of ops t) =
    ap (fold scene_after s) (map-append (beat_of ops) front (t ∷ [])) ∙ fold_push scene_after s (map (beat_of ops) front) (beat_of ops t) in
    subst (λ (k : Scene). IsStood k.map k.ops k.hist.blocks) (sym last) turn.stands

pub good_run : (order : Option ℕ) (script : Script) (start done : Run) (turns : List Turn) (ops : List Op) → IsFresh script start
    → CarriesOut start order script.lines done → IsGoodRun done → turns ≡ done.turns → ops ≡ done.ops
    → (good : IsGood order script turns ops) × (factory_count_of good.size script ≡ length (factory_ops done.made))
good_run order script start done turns ops fresh out good turns_are ops_are =
    let made : done.made ≡ made_for fresh.size script = out.made ∙ ap (λ (r : Run). r.made) fresh.is in
    let from : scene_of start ≡ scene_at_start (made_for fresh.size script) = ap scene_of fresh.is in
    let counted : record { made = done.made; turns = done.turns; ops = done.ops; coming = 0 } ≡ drive_run fresh.size script turns ops =
    (λ i. let r : Run = record { made = made i; turns = sym turns_are i; ops = sym ops_are i; coming = 0 } in r) in
    let own : out.own ≡ beats_of (drive_run fresh.size script turns ops) =
    sym (out.beats ∙ ap (λ (bs : List Beat). bs ++ out.own) (ap beats_of fresh.is)) ∙ ap beats_of counted in
    let history : IsGoodRun (drive_run fresh.size script turns ops) =
    subst IsGoodRun counted (record { follow = good.follow; own = good.own; log = good.log; good = good.good; valid = good.valid }) in
    let behind : List Op = behind_factory (made_for fresh.size script) ops in
    let begin : Scene = scene_at_start (made_for fresh.size script) in (
      record {
        size = fresh.size;
        measures = fresh.measures;
        of_commands = tasks_along behind turns begin (capacity_of fresh.size) refl history.good;
        of_blocks = λ front more is none. legal_along behind front begin (capacity_of fresh.size) refl (front_along begin behind turns front more is history.good) none;
        stands = λ front more t is. stood_behind begin behind turns front more t is history.good;
        history = history;
        carried_out = subst (λ (bs : List Beat). CarryOut ByOrder order (scene_at_start (made_for fresh.size script)) [] script.lines bs) own
            (subst (λ (s : Scene). CarryOut ByOrder order s [] script.lines out.own) from out.carried);
      },
      ap (λ (m : Made). length (factory_ops m)) (sym made),
    )

-- and no more turns than its lines take
pub few_run : (order : Option ℕ) (script : Script) (start done : Run) (turns : List Turn) → IsFresh script start → CarriesOut start order script.lines done → turns ≡ done.turns
    → length turns ≤ turns_of_lines (blocks_of script) script.lines
few_run order script start done turns fresh out turns_are =
    let few = out.few in
    let none : length start.turns ≡ 0 = ap (λ (r : Run). length r.turns) fresh.is in
    let blocks : turns_of_lines (capacity_of start.made.size) script.lines ≡ turns_of_lines (capacity_of fresh.size) script.lines = ap (λ (r : Run). turns_of_lines (capacity_of r.made.size) script.lines) fresh.is in
    let same : turns_of_lines (capacity_of fresh.size) script.lines ≡ turns_of_lines (blocks_of script) script.lines = ap (λ (m : Measures). turns_of_lines (text.capacity_of m) script.lines) fresh.measures in
    let as_many = ap length turns_are in
    omega arith
