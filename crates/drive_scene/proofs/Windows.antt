-- How long windows become.
use Rattle.std.proofs.Common.{◌≡◌, ℕ, ◌≤◌, Bool, true, false, true≢false, cond, List, [], ◌∷◌, ◌++◌, length, refl, sym, ◌∙◌, subst, arith, length-append, ⊎_elim}
use Rattle.std.specs.List.{list_any}
use Rattle.std.proofs.lemmas.Bool.{cases_eq}
use Rattle.platter_model.specs.declared.op.Op.{Op}
use Rattle.platter_model.specs.declared.op.Op.TheVariants.{Fetched, Tried}
use Rattle.block_machine.specs.declared.entry.Entry.{Entry}
use Rattle.block_machine.specs.declared.turn.Label.TheVariants.{Work}
use Rattle.drive_scene.specs.Scene.{Scene, beat}
use Rattle.drive_scene.specs.After.{scene_after, opens_window, window_after}
use Rattle.drive_scene.specs.GoodTurn.{is_one_step}
use Rattle.drive_scene.proofs.Tables.{put_at-own, put_at-other}

-- one step of a turn is two operations at most
no_more : (before : ℕ) (x y z : Op) (rest : List Op) → is_one_step before (x ∷ y ∷ z ∷ rest) ≡ false
no_more before (Fetched p attempt) (Tried at q stage found) z rest = refl
no_more before (Fetched p attempt) y z rest = refl
no_more before x y z rest = refl

two_at_most : (before : ℕ) (ops : List Op) → is_one_step before ops ≡ true → length ops ≤ 2
two_at_most before [] is = omega arith
two_at_most before (x ∷ []) is = omega arith
two_at_most before (x ∷ y ∷ []) is = omega arith
two_at_most before (x ∷ y ∷ z ∷ rest) is = absurd (true≢false (sym is ∙ no_more before x y z rest))

-- the windows after a turn of work on a command
pub windows_work : (s : Scene) (c : ℕ) (entries : List Entry) (ops : List Op) → length (s.windows c) ≤ 48 → ((q : ℕ) → length (s.windows q) ≤ 50)
    → is_one_step (length s.ops) ops ≡ true → (q : ℕ) → length ((scene_after s (beat (Work c) entries ops)).windows q) ≤ 50
windows_work s c entries ops few all step q =
    let then : List Op = window_after c (s.windows c) (beat (Work c) entries ops) in
    ⊎_elim
    (λ (own : q ≡ c). subst (λ (n : ℕ). length ((scene_after s (beat (Work c) entries ops)).windows n) ≤ 50) (sym own)
    (subst (λ (w : List Op). length w ≤ 50) (sym (put_at-own c then s.windows)) (by (list_any (opens_window c) entries))))
    (λ (other : q ≡ c → ⊥). subst (λ (w : List Op). length w ≤ 50) (sym (put_at-other c q then s.windows other)) (all q))
    (cases_eq q c)
  where
    by : (t : Bool) → length (cond t [] (s.windows c ++ ops)) ≤ 50
    by true = omega arith
    by false = omega (arith, few, two_at_most (length s.ops) ops step, length-append (s.windows c) ops)
