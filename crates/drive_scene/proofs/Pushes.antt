-- A run with one turn more.
use Rattle.std.proofs.Common.{◌≡◌, ℕ, ◌+◌, ◌≤◌, List, [], ◌∷◌, ◌++◌, length, Option, refl, sym, ap, ◌∙◌, arith, length-append}
use Rattle.std.specs.Prelude.{fold, map, slice_range}
use Rattle.std.proofs.lemmas.Grind.{common_steps}
use Rattle.platter_model.specs.declared.op.Op.{Op}
use Rattle.block_machine.specs.declared.turn.Turn.{Turn}
use Rattle.drive_scene.specs.Scene.{Scene, Beat, beat}
use Rattle.drive_scene.specs.After.{map_committed, scene_after}
use Rattle.drive_scene.specs.Run.{beat_of, FollowFrom}
use Rattle.drive_scene.specs.Laws.{MapsStay}
use Rattle.drive_scene.proofs.Uncommitted.{stays_flightless, flightless_uncommitted}
use Rattle.move_jobs.specs.Job.{Job}

-- the turns end no earlier than they begin
follow-up : (from to : ℕ) (turns : List Turn) → FollowFrom from turns to → from ≤ to
follow-up from to [] is = omega arith
follow-up from to (t ∷ turns) is = let later : t.ops_to ≤ to = follow-up t.ops_to to turns is.2 in omega (arith, is.1)

-- a range of a beginning is the same range of the whole
range_kept : {X : Type 0} (xs more : List X) (a b : ℕ) → a ≤ b → b ≤ length xs → slice_range (xs ++ more) a b ≡ slice_range xs a b
range_kept xs more a b ab within = grind (arith, common_steps)

range_last : {X : Type 0} (xs more : List X) (b : ℕ) → b ≡ length xs + length more → slice_range (xs ++ more) (length xs) b ≡ more
range_last xs more b is = grind (arith, common_steps)

-- more operations change no turn of before
beats_kept : (ops more : List Op) (from to : ℕ) (turns : List Turn) → FollowFrom from turns to → to ≤ length ops
    → map (beat_of (ops ++ more)) turns ≡ map (beat_of ops) turns
beats_kept ops more from to [] is within = refl
beats_kept ops more from to (t ∷ turns) is within =
    let later : t.ops_to ≤ to = follow-up t.ops_to to turns is.2 in
    let own : slice_range (ops ++ more) t.ops_from t.ops_to ≡ slice_range ops t.ops_from t.ops_to =
    range_kept ops more t.ops_from t.ops_to (omega (arith, is.0, is.1)) (omega arith) in
    let rest = beats_kept ops more t.ops_to to turns is.2 within in
    λ i. record { label = t.label; entries = t.entries; ops = own i } ∷ rest i

map_push : (ops : List Op) (turns : List Turn) (t : Turn) → map (beat_of ops) (turns ++ t ∷ []) ≡ map (beat_of ops) turns ++ beat_of ops t ∷ []
map_push ops [] t = refl
map_push ops (u ∷ turns) t = ap (λ (bs : List Beat). beat_of ops u ∷ bs) (map_push ops turns t)

-- the turns with one more
pub beats_push : (ops more : List Op) (from : ℕ) (turns : List Turn) (t : Turn) → FollowFrom from turns (length ops) → t.ops_from ≡ length ops
    → t.ops_to ≡ length (ops ++ more)
    → map (beat_of (ops ++ more)) (turns ++ t ∷ []) ≡ map (beat_of ops) turns ++ beat t.label t.entries more ∷ []
beats_push ops more from turns t is starts ends =
    let own : slice_range (ops ++ more) t.ops_from t.ops_to ≡ more =
    ap (λ (n : ℕ). slice_range (ops ++ more) n t.ops_to) starts ∙ range_last ops more t.ops_to (ends ∙ length-append ops more) in
    map_push (ops ++ more) turns t
    ∙ (λ i. beats_kept ops more from (length ops) turns is (omega arith) i ++ record { label = t.label; entries = t.entries; ops = own i } ∷ [])

-- they follow each other
pub follow_push : (from to end : ℕ) (turns : List Turn) (t : Turn) → FollowFrom from turns to → t.ops_from ≡ to → t.ops_to ≡ end → to ≤ end
    → FollowFrom from (turns ++ t ∷ []) end
follow_push from to end [] t is starts ends grows = (starts ∙ sym is, omega arith, ends)
follow_push from to end (u ∷ turns) t is starts ends grows = (is.0, is.1, follow_push u.ops_to to end turns t is.2 starts ends grows)

-- turns take no operation away
pub ops_grow : (s : Scene) (turns : List Beat) → length s.ops ≤ length (fold scene_after s turns).ops
ops_grow s [] = omega arith
ops_grow s (t ∷ turns) = let rest = ops_grow (scene_after s t) turns in omega (arith, rest, length-append s.ops t.ops)

pub map_stays : MapsStay
map_stays s [] = ((λ none. (refl, none)), refl)
map_stays s (t ∷ turns) =
    let rest = map_stays (scene_after s t) turns in (
      (λ none.
          let later = rest.0 (stays_flightless s t none) in
          (later.0 ∙ ap (λ (o : Option Job). map_committed o s.map) (flightless_uncommitted s t.label t.ops none), later.1)),
      rest.1,
    )
