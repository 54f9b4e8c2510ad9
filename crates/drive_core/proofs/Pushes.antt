-- One turn more keeps what is said of a run.
use Rattle.std.proofs.Common.{◌≡◌, ℕ, ◌≤◌, List, [], ◌∷◌, ◌++◌, length, sym, ap, ◌∙◌, subst, arith, length-append, Option}
use Rattle.std.specs.Prelude.{fold, map}
use Rattle.std.proofs.lemmas.List.{drop-append-le}
use Rattle.std.proofs.lemmas.List.Sums.{fold_push}
use Rattle.disk_base.specs.Along.{Along}
use Rattle.platter_model.specs.declared.op.Op.{Op}
use Rattle.block_machine.specs.declared.turn.Turn.{Turn}
use Rattle.geometry_map.specs.DefectMap.{DefectMap}
use Rattle.drive_scene.specs.declared.answer.Ended.{Ended}
use Rattle.drive_scene.specs.declared.made.Made.{Made}
use Rattle.drive_core.specs.declared.server.Server.{Server}
use Rattle.drive_scene.specs.Scene.{Scene, Beat, scene_at_start, factory_ops, beat}
use Rattle.drive_scene.specs.After.{scene_after}
use Rattle.drive_scene.specs.GoodTurn.{GoodTurn}
use Rattle.drive_scene.specs.Run.{Run, run_of, beat_of, beats_of, behind_factory, FollowFrom, scene_of}
use Rattle.drive_core.specs.Fits.{Fits}
use Rattle.drive_core.specs.Kept.{Kept}
use Rattle.drive_core.specs.Moves.{Moves}
use Rattle.drive_scene.proofs.Tables.{Along-push}
use Rattle.drive_scene.proofs.Pushes.{beats_push, follow_push, ops_grow}

-- the parts of what a type keeps that speak of the operations behind the factory's
record Follows (made : Made) (turns : List Turn) (new : Server) (own : List Op) : Type 0 where
  pub follow : FollowFrom 0 turns (length own)
  pub good : Along scene_after GoodTurn (scene_at_start made) (map (beat_of own) turns)
  pub fits : Fits (fold scene_after (scene_at_start made) (map (beat_of own) turns)) new

-- more operations come behind those of before
behind-more : (made : Made) (ops more : List Op) → length (factory_ops made) ≤ length ops → behind_factory made (ops ++ more) ≡ behind_factory made ops ++ more
unfolding behind_factory
behind-more made ops more begins = drop-append-le (length (factory_ops made)) ops more begins

-- a turn that moves the parts of a drive keeps what its type keeps
pub kept-push : (made : Made) (old new : Server) (turns : List Turn) (coming next : ℕ) (t : Turn) (told : Option Ended) → Kept (run_of made old.store turns coming) old
    → Moves t.label (scene_of (run_of made old.store turns coming)) old new t.entries told
    → t.ops_from ≡ length (behind_factory made old.store.platter.ops) → t.ops_to ≡ length (behind_factory made new.store.platter.ops)
    → Kept (run_of made new.store (turns ++ t ∷ []) next) new
kept-push made old new turns coming next t told kept moves starts ends =
    let r : Run = run_of made old.store turns coming in
    let s : Scene = scene_of (run_of made old.store turns coming) in
    let own : List Op = behind_factory made old.store.platter.ops in
    let size_is : new.store.map.size ≡ old.store.map.size =
    ap (λ (m : DefectMap). m.size) moves.fits.store.map
    ∙ (moves.fits.size ∙ sym (ap (λ (m : DefectMap). m.size) kept.fits.store.map ∙ kept.fits.size)) in
    let begins : length (factory_ops made) ≤ length old.store.platter.ops =
    let grown = ops_grow (scene_at_start made) (beats_of r) in omega (arith, grown, ap length kept.fits.store.ops) in
    let behind : behind_factory made (old.store.platter.ops ++ moves.ops) ≡ own ++ moves.ops =
    behind-more made old.store.platter.ops moves.ops begins in
    let grown : length own ≤ length (own ++ moves.ops) = omega (arith, length-append own moves.ops) in
    let total : t.ops_to ≡ length (own ++ moves.ops) = ends ∙ ap (λ (ops : List Op). length (behind_factory made ops)) moves.added ∙ ap length behind in
    let all : map (beat_of (own ++ moves.ops)) (turns ++ t ∷ []) ≡ beats_of r ++ beat t.label t.entries moves.ops ∷ [] =
    beats_push own moves.ops 0 turns t kept.follow starts total in
    let last : fold scene_after (scene_at_start made) (map (beat_of (own ++ moves.ops)) (turns ++ t ∷ []))
    ≡ scene_after s (beat t.label t.entries moves.ops) =
    ap (fold scene_after (scene_at_start made)) all
    ∙ fold_push scene_after (scene_at_start made) (beats_of r) (beat t.label t.entries moves.ops) in
    let Good : List Beat → Type 0 = λ beats. Along scene_after GoodTurn (scene_at_start made) beats in
    let Fit : Scene → Type 0 = λ x. Fits x new in
    let pushed : Follows made (turns ++ t ∷ []) new (own ++ moves.ops) = record {
      follow = follow_push 0 (length own) (length (own ++ moves.ops)) turns t kept.follow starts total grown;
      good = subst Good (sym all) (Along-push scene_after GoodTurn (scene_at_start made) (beats_of r) (beat t.label t.entries moves.ops) kept.good moves.good);
      fits = subst Fit (sym last) moves.fits;
    } in
    let follows = subst (Follows made (turns ++ t ∷ []) new) (sym behind) pushed in
    let Whole : List Op → Type 0 = λ all_ops. Kept (record { made = made; turns = turns ++ t ∷ []; ops = all_ops; coming = next }) new in
    let whole : Whole (old.store.platter.ops ++ moves.ops) = record {
      size = size_is ∙ kept.size;
      follow = follows.follow;
      good = follows.good;
      fits = follows.fits;
      numbered = omega (arith, kept.numbered, moves.counted, length-append turns (t ∷ []));
    } in
    subst Whole (sym moves.added) whole
