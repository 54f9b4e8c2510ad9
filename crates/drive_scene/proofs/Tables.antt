-- Functions changed at one number, and rules along lists with one item more.
use Rattle.std.proofs.Common.{◌≡◌, ◌≢◌, ℕ, Bool, cond, List, [], ◌∷◌, ◌++◌, refl, ap, ◌<◌, sym, subst}
use Rattle.std.specs.Prelude.{fold}
use Rattle.std.proofs.lemmas.Bool.{eq-eqb, ne_eqb}
use Rattle.disk_base.specs.Along.{Along}
use Rattle.disk_base.specs.At.{put_at}
use Rattle.disk_base.specs.declared.address.Lba.{Lba}
use Rattle.geometry_map.specs.declared.size.Size.{Size}
use Rattle.geometry_map.specs.Size.{capacity_of}
use Rattle.drive_scene.specs.Scene.{Scene, capacity}

module _ {V : Type 0} where
  -- what is put at a number is there
  pub put_at-own : (k : ℕ) (v : V) (f : ℕ → V) → put_at k v f k ≡ v
  put_at-own k v f = ap (λ (t : Bool). cond t v (f k)) (eq-eqb k k refl)

  -- at another number nothing changes
  pub put_at-other : (k n : ℕ) (v : V) (f : ℕ → V) → n ≢ k → put_at k v f n ≡ f n
  put_at-other k n v f other = ap (λ (t : Bool). cond t v (f n)) (ne_eqb n k other)

module _ {S T : Type 0} (step : S → T → S) (P : S → T → Type 0) where
  -- a rule along a list and one item more
  pub Along-push : (s : S) (xs : List T) (x : T) → Along step P s xs → P (fold step s xs) x → Along step P s (xs ++ x ∷ [])
  Along-push s [] x before here = (here, tt)
  Along-push s (y ∷ ys) x before here = (before.0, Along-push (step s y) ys x before.1 here)

-- a block below the capacity is one of the map's, where its measures are the drive's
pub within_map : (s : Scene) (b : Lba) → s.map.size ≡ s.size → b.0 < capacity s → b.0 < capacity_of s.map.size
within_map s b same below = subst (λ (z : Size). b.0 < capacity_of z) (sym same) below
