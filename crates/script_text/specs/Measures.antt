-- The measures that a script gives its drive.
use Rattle.std.specs.Prelude.{ℕ, ◌+◌, ◌*◌, ◌&&◌, nat_lt, nat_le, Bool, Option, None, Some}
use Rattle.geometry_map.specs.declared.size.Size.{Size}

-- cylinders, heads, sectors of a track, and sectors kept back for defects
pub record Measures : Type 0 where
  pub cylinders : ℕ
  pub heads : ℕ
  pub sectors : ℕ
  pub reserved : ℕ

abbrev pub measures_of : Size → Measures
measures_of size = record { cylinders = size.cylinders; heads = size.heads; sectors = size.sectors; reserved = size.reserved }

-- sectors in all
abbrev pub total_of : Measures → ℕ
total_of m = m.cylinders * m.heads * m.sectors

-- whether there are drives of these measures
abbrev pub is_within_limits : Measures → Bool
is_within_limits m =
    nat_le 1 m.cylinders && (nat_le m.cylinders 1024 && (nat_le 1 m.heads && (nat_le m.heads 16 && (nat_le 1 m.sectors && (nat_le m.sectors 64
    && (nat_le 48 (total_of m) && (nat_le (total_of m) 4096 && nat_lt (16 + m.reserved) (total_of m))))))))

-- the measures where a script gives none: 16 cylinders, 4 heads, 16 sectors, 96 kept back
abbrev pub default_measures : Measures
default_measures = record { cylinders = 16; heads = 4; sectors = 16; reserved = 96 }

abbrev pub given_or_default : Option Measures → Measures
given_or_default None = default_measures
given_or_default (Some m) = m
