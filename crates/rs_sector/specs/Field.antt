-- The field of 256 elements: bytes as polynomials over two elements, modulo x^8 + x^4 + x^3 + x^2 + 1.
use Rattle.std.specs.Prelude.{ℕ, zero, suc, ◌+◌, ◌*◌, ◌/◌, ◌%◌, ◌^◌, List, map, bit_xor}
use Rattle.std.specs.List.{range_with_len}

-- the sum over the bits i of b below n of a times x^i; bit i of a number is the coefficient of x^i
unfoldable pub polynomial_product : ℕ → ℕ → ℕ → ℕ
polynomial_product zero a b = 0
polynomial_product (suc n) a b = bit_xor (polynomial_product n a b) (b / 2 ^ n % 2 * (a * 2 ^ n))

-- the remainder of a polynomial of degree below 8 + n: each bit from the highest on is taken away by a multiple of 285, which is x^8 + x^4 + x^3 + x^2 + 1
unfoldable pub polynomial_remainder : ℕ → ℕ → ℕ
polynomial_remainder zero p = p
polynomial_remainder (suc n) p = polynomial_remainder n (bit_xor p (p / 2 ^ (8 + n) % 2 * (285 * 2 ^ n)))

-- the product of two bytes; of greater numbers the low bytes count
unfoldable pub field_product : ℕ → ℕ → ℕ
field_product a b = polynomial_remainder 7 (polynomial_product 8 (a % 256) (b % 256))

-- a to the n
unfoldable pub power : ℕ → ℕ → ℕ
power a zero = 1
power a (suc n) = field_product a (power a n)

-- the sum of f over the numbers below n
unfoldable pub sum_below : (ℕ → ℕ) → ℕ → ℕ
sum_below f zero = 0
sum_below f (suc n) = bit_xor (sum_below f n) (f n)

-- the products of a and 0, step, 2 step, .. 15 step
unfoldable pub multiples : ℕ → ℕ → List ℕ
multiples a step = map (λ n. field_product a (n * step)) (range_with_len 0 16)
