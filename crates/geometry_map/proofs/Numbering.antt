-- A sector's number and where it lies.
use Rattle.std.proofs.Common.{◌≡◌, ℕ, ◌+◌, ◌*◌, ◌/◌, ◌%◌, ◌<◌, arith, sym}
use Rattle.geometry_map.specs.declared.size.Size.{Size}
use Rattle.geometry_map.specs.Size.{LiesAt}

-- a number from its quotients and remainders by sectors and by heads
number_of : (p h s : ℕ) → 0 < h → 0 < s → p ≡ (p / s / h * h + p / s % h) * s + p % s
number_of p h s some_h some_s =
    let track : p / s / h * h + p / s % h ≡ p / s = omega arith in
    let number : p / s * s + p % s ≡ p = omega arith in
    rw track (sym number)

-- they say where a sector lies
pub LiesAt-divided : (size : Size) (p h s : ℕ) → h ≡ size.heads → s ≡ size.sectors → LiesAt size p (p / s / h) (p / s % h) (p % s)
LiesAt-divided size p h s heads sectors =
    let some_h : 0 < h = omega (arith, size.within_limits.a_head) in
    let some_s : 0 < s = omega (arith, size.within_limits.a_sector) in
    record {
      number = rw (← heads, ← sectors) (number_of p h s some_h some_s);
      on_a_head = omega arith;
      on_a_track = omega arith;
    }
