-- The turns of a drive with their own operations, and one turn more.
use Rattle.std.proofs.Common.{◌≡◌, ◌∙◌, ap, sym, subst, refl, ℕ, ◌+◌, ◌-◌, ◌≤◌, List, [], ◌∷◌, ◌++◌, map, length, take, drop, arith, length-append, Some}
use Rattle.std.specs.Prelude.{fold, slice_range}
use Rattle.std.proofs.lemmas.List.{map-append, take-append-le, drop-append-le, length-drop, length_push}
use Rattle.std.proofs.lemmas.List.Sums.{fold-append}
use Rattle.disk_base.specs.Along.{Along}
use Rattle.platter_model.specs.declared.op.Op.{Op}
use Rattle.block_machine.specs.declared.turn.Turn.{Turn}
use Rattle.drive_scene.specs.declared.event.Event.{Event}
use Rattle.drive_scene.specs.Scene.{Beat, scene_at_start, factory_ops}
use Rattle.drive_scene.specs.After.{scene_after}
use Rattle.drive_scene.specs.GoodTurn.{GoodTurn}
use Rattle.drive_scene.specs.declared.made.Made.{Made}
use Rattle.drive_scene.specs.Run.{Run, FollowFrom, beat_of, behind_factory, scene_of, beats_of}
use Rattle.drive_scene.specs.Turning.{label_of, arrives_as, BeginsWith}
use Rattle.script_runner.specs.Phasing.{GoesOn, MakesTurn}
use Rattle.script_runner.proofs.RunLaws.{ops_begin}

module _ {S T : Type 0} (step : S → T → S) (P : S → T → Type 0) where
  -- the last of some items, by a rule along all of them
  pub along_last : (s : S) (xs : List T) (y : T) → Along step P s (xs ++ y ∷ []) → P (fold step s xs) y
  along_last s [] y all = all.0
  along_last s (x ∷ xs) y all = along_last (step s x) xs y all.1

  -- one item more
  pub along_more : (s : S) (xs : List T) (y : T) → Along step P s xs → P (fold step s xs) y → Along step P s (xs ++ y ∷ [])
  along_more s [] y all last = (last, tt)
  along_more s (x ∷ xs) y all last = (all.0, along_more (step s x) xs y all.1 last)

-- the operations of turns that follow each other go forward
pub forward : (from : ℕ) (turns : List Turn) (to : ℕ) → FollowFrom from turns to → from ≤ to
forward from [] to h = omega (arith, h)
forward from (t ∷ turns) to h = let later = forward t.ops_to turns to h.2 in omega (arith, h.1, later)

same_range : (ops more : List Op) (i j : ℕ) → i ≤ j → j ≤ length ops → slice_range (ops ++ more) i j ≡ slice_range ops i j
same_range ops more i j le within =
    let behind : i ≤ length ops = omega arith in
    ap (take (j - i)) (drop-append-le i ops more behind) ∙ take-append-le (j - i) (drop i ops) more (rw (length-drop i ops) (omega arith))

-- more operations change nothing of the turns so far
same_beats : (ops more : List Op) (from : ℕ) (turns : List Turn) (to : ℕ) → FollowFrom from turns to → to ≤ length ops
    → map (beat_of (ops ++ more)) turns ≡ map (beat_of ops) turns
same_beats ops more from [] to h le = refl
same_beats ops more from (t ∷ turns) to h le =
    let later = forward t.ops_to turns to h.2 in
    let up : t.ops_from ≤ t.ops_to = omega (arith, h.0, h.1) in
    let range = same_range ops more t.ops_from t.ops_to up (omega (arith, later)) in
    let head : beat_of (ops ++ more) t ≡ beat_of ops t = ap (λ (os : List Op). let b : Beat = record { label = t.label; entries = t.entries; ops = os } in b) range in
    ap (λ (b : Beat). b ∷ map (beat_of (ops ++ more)) turns) head ∙ ap (λ (bs : List Beat). beat_of ops t ∷ bs) (same_beats ops more t.ops_to turns to h.2 le)

-- a turn that was made
pub record NextTurn (old : Run) (e : Event) (new : Run) : Type 0 where
  pub turn : Beat
  pub goes : GoesOn old new turn
  pub good : GoodTurn (scene_of old) turn
  pub label : label_of (scene_of old) e ≡ Some turn.label
  pub arrival : BeginsWith (arrives_as (scene_of old).hist.arrived e) turn.entries
  pub counted : length new.turns ≡ length old.turns + 1

-- what turns have come to is what some of them had, and the others after these
pub scene_on : (old new : Run) (own : List Beat) → beats_of new ≡ beats_of old ++ own → new.made ≡ old.made
    → scene_of new ≡ fold scene_after (scene_of old) own
scene_on old new own beats made =
    ap (λ (bs : List Beat). fold scene_after (scene_at_start new.made) bs) beats
    ∙ ap (λ (m : Made). fold scene_after (scene_at_start m) (beats_of old ++ own)) made
    ∙ fold-append scene_after (scene_at_start old.made) (beats_of old) own

pub scene_next : (old new : Run) (t : Beat) → GoesOn old new t → scene_of new ≡ scene_after (scene_of old) t
scene_next old new t goes = scene_on old new (t ∷ []) goes.beats goes.made

module _ (old : Run) (e : Event) (new : Run) (made : MakesTurn old e new) where
  abbrev own_before : List Op
  own_before = behind_factory old.made old.ops

  abbrev own_after : List Op
  own_after = behind_factory new.made new.ops

  -- the turn's operations come behind those of before
  own_more : own_after ≡ own_before ++ made.adds.ops
  unfolding behind_factory
  own_more =
      let more = ops_begin (scene_at_start old.made) (beats_of old) in
      let first : List Op = factory_ops old.made in
      let all : length old.ops ≡ length first + length more.0 = ap length (sym made.before.own ∙ more.1) ∙ length-append first more.0 in
      (λ i. behind_factory (made.adds.made i) (made.adds.added i)) ∙ drop-append-le (length first) old.ops made.adds.ops (omega (arith, all))

  one_more : beats_of new ≡ beats_of old ++ beat_of own_after made.adds.turn ∷ []
  one_more =
      ap (map (beat_of own_after)) made.adds.turns ∙ map-append (beat_of own_after) old.turns (made.adds.turn ∷ [])
      ∙ ap (λ (bs : List Beat). bs ++ beat_of own_after made.adds.turn ∷ []) (ap (λ (os : List Op). map (beat_of os) old.turns) own_more
      ∙ same_beats own_before made.adds.ops 0 old.turns (length own_before) made.before.follow (omega arith))

  is_good : GoodTurn (scene_of old) (beat_of own_after made.adds.turn)
  is_good =
      let from_made = subst (λ (m : Made). Along scene_after GoodTurn (scene_at_start m) (beats_of new)) made.adds.made made.after.good in
      let all = subst (λ (z : List Beat). Along scene_after GoodTurn (scene_at_start old.made) z) one_more from_made in
      along_last scene_after GoodTurn (scene_at_start old.made) (beats_of old) (beat_of own_after made.adds.turn) all

  pub next_turn : NextTurn old e new
  next_turn = record {
    turn = beat_of own_after made.adds.turn;
    goes = record { beats = one_more; made = made.adds.made };
    good = is_good;
    label = made.adds.label;
    arrival = made.adds.arrival;
    counted = ap length made.adds.turns ∙ length_push old.turns made.adds.turn;
  }
