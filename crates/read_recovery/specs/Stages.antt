-- The stages by which a sector is read, and how far a read has come.
use Rattle.std.specs.Prelude.{ℕ, zero, suc, ◌+◌, Bool, true, false, pos, negsuc, ℤ, List, [], ◌∷◌, ◌++◌, Option, None, slice_get, if◌then◌else◌}
use Rattle.disk_base.specs.declared.stage.How.{How}
use Rattle.disk_base.specs.declared.stage.How.TheVariants.{Light, Full, Erased}
use Rattle.disk_base.specs.declared.stage.Stage.{Stage}

-- a stage by its number, how often the sector was read again, the head's offset and the decoding
abbrev pub stage : ℕ → ℕ → ℤ → How → Stage
stage number reread offset how = record { number = number; reread = reread; offset = offset; how = how }

-- the plain read, and so many further reads
abbrev pub plain_stages : ℕ → List Stage
plain_stages zero = stage 0 0 (pos 0) Light ∷ []
plain_stages (suc n) = plain_stages n ++ stage (suc n) (suc n) (pos 0) Light ∷ []

-- the stages of a retry count: plain reads, then the head beside the track's middle on either side, then the two decodings
-- that correct more
abbrev pub stages_of : ℕ → List Stage
stages_of retry = plain_stages retry
    ++ stage (retry + 1) retry (pos 1) Light
    ∷ stage (retry + 2) retry (negsuc 0) Light
    ∷ stage (retry + 3) retry (pos 0) Full
    ∷ stage (retry + 4) retry (pos 0) Erased
    ∷ []

-- a stage is heavy where its decoding corrects more than the light one
abbrev pub is_heavy_decoding : How → Bool
is_heavy_decoding Light = false
is_heavy_decoding Full = true
is_heavy_decoding Erased = true

abbrev pub is_heavy : Stage → Bool
is_heavy s = is_heavy_decoding s.how

-- how far a read has come: its retry count, how many stages failed, and whether the stage behind them found the sector
pub record Progress : Type 0 where
  pub retry : ℕ
  pub failed : ℕ
  pub found : Bool

-- no stage was tried
abbrev pub begun : ℕ → Progress
begun retry = record { retry = retry; failed = 0; found = false }

-- the stage that is tried next; none where one found or all failed
abbrev pub next_stage : Progress → Option Stage
next_stage p = if p.found then None else slice_get (stages_of p.retry) p.failed

-- the stage that found
abbrev pub found_stage : Progress → Option Stage
found_stage p = if p.found then slice_get (stages_of p.retry) p.failed else None

-- the progress after the next stage found or failed
abbrev pub answered : Progress → Bool → Progress
answered p true = record p { found = true }
answered p false = record p { failed = p.failed + 1 }
