-- The limits of a drive's measures.
use Rattle.std.specs.Prelude.{ℕ, ◌+◌, ◌*◌, ◌<◌, ◌≤◌}

-- measures that a drive may have; beside the sixteen sectors of the map and those kept back there is one for a block
pub record IsWithinLimits (cylinders heads sectors reserved : ℕ) : Type 0 where
  pub a_cylinder : 1 ≤ cylinders
  pub few_cylinders : cylinders ≤ 1024
  pub a_head : 1 ≤ heads
  pub few_heads : heads ≤ 16
  pub a_sector : 1 ≤ sectors
  pub short_tracks : sectors ≤ 64
  pub least : 48 ≤ cylinders * heads * sectors
  pub greatest : cylinders * heads * sectors ≤ 4096
  pub a_block : 16 + reserved < cylinders * heads * sectors
