-- How many stages there are, and when the last one fails.
use Rattle.std.proofs.Common.{◌≡◌, ℕ, zero, suc, ◌+◌, ◌<◌, false, [], ◌∷◌, length, Some, None, refl, arith, length-append}
use Rattle.std.specs.Prelude.{Option, IsSome, is_none, pos, negsuc, slice_get}
use Rattle.std.proofs.lemmas.Option.{slice_get-get_or, slice_get_within}
use Rattle.disk_base.specs.declared.stage.How.TheVariants.{Light, Full, Erased}
use Rattle.disk_base.specs.declared.stage.Stage.{Stage}
use Rattle.read_recovery.specs.Stages.{stage, plain_stages, stages_of, Progress, begun, next_stage, answered}
use Rattle.command_engine.specs.Standing.{IsTried}

length-plain : (n : ℕ) → length (plain_stages n) ≡ n + 1
length-plain zero = refl
length-plain (suc n) = omega (arith, length-append (plain_stages n) (stage (suc n) (suc n) (pos 0) Light ∷ []), length-plain n)

length-stages : (r : ℕ) → length (stages_of r) ≡ r + 5
length-stages r =
    omega (arith, length-append (plain_stages r) (stage (r + 1) r (pos 1) Light ∷ stage (r + 2) r (negsuc 0) Light ∷ stage (r + 3) r (pos 0) Full ∷ stage (r + 4) r (pos 0) Erased ∷ []), length-plain r)

some_there : (r k : ℕ) → k < r + 5 → IsSome (slice_get (stages_of r) k)
some_there r k h = rw (slice_get-get_or (stages_of r) k (stage 0 0 (pos 0) Light) (omega (arith, length-stages r))) refl

-- a stage is left to be tried
pub stage_is_left : (retry : ℕ) (p : Progress) → IsTried retry p → IsSome (next_stage p)
stage_is_left retry p tried = rw tried.unfound (some_there p.retry p.failed (rw tried.by tried.left))

pub begun_is_tried : (retry : ℕ) → IsTried retry (begun retry)
begun_is_tried retry = record { by = refl; unfound = refl; left = omega arith }

within : (r k : ℕ) (o : Option Stage) → slice_get (stages_of r) k ≡ o → is_none o ≡ false → k < r + 5
within r k (Some s) is some = omega (arith, slice_get_within (stages_of r) k s is, length-stages r)
within r k None is some = absurd (cc)

-- after a stage that isn't the last
pub answered_is_tried : (retry : ℕ) (p : Progress) → IsTried retry p → is_none (next_stage (answered p false)) ≡ false → IsTried retry (answered p false)
answered_is_tried retry p tried more =
    let more' : is_none (slice_get (stages_of p.retry) (p.failed + 1)) ≡ false = rw tried.unfound at more in
    record { by = tried.by; unfound = tried.unfound; left = omega (arith, within p.retry (p.failed + 1) (slice_get (stages_of p.retry) (p.failed + 1)) refl more', tried.by) }
