use Rattle.std.proofs.Common.{get_or, ◌+◌, ◌<◌, ◌≤◌, ◌-◌, ℕ, length}
use Rattle.std.specs.List.Sorted.{IsNonDecreasingBy}
use Rattle.geometry_map.proofs.placer.defects_below.Given as goal

-- each defect of a gap before the first bound lies before the sector, and that at the second doesn't
abbrev pub invariant-loop-low : goal.invariant-loop-low
invariant-loop-low l =
    (l.low ≤ l.high) × (l.high ≤ length l.fn.gaps) × (l.low ≤ l.fn.offset)
    × (IsNonDecreasingBy (λ gap. gap) l.fn.gaps → (i : ℕ) → i < l.low → get_or l.fn.gaps i 0 + i < l.fn.offset)
    × (l.high < length l.fn.gaps → l.fn.offset ≤ get_or l.fn.gaps l.high 0 + l.high)

abbrev pub decreases-loop-low : goal.decreases-loop-low
decreases-loop-low l = l.high - l.low
