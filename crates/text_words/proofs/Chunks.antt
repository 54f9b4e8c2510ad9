-- The digits of bytes, chunk by chunk.
use Rattle.std.proofs.Common.{◌≡◌, ℕ, ◌+◌, ◌-◌, ◌/◌, ◌%◌, List, [], ◌∷◌, ◌++◌, take, drop, slice_index, refl, sym, ap, ◌∙◌, arith, append_assoc, append-nil}
use Rattle.std.proofs.Math.Seq.{take-add}
use Rattle.hex.specs.Hex.{encode_with, upper_digits}
use Rattle.text_words.specs.Digits.{hex_of}

-- the digits of bytes and of more bytes
encode-append : (t xs ys : List ℕ) → encode_with t (xs ++ ys) ≡ encode_with t xs ++ encode_with t ys
unfolding encode_with
encode-append t [] ys = refl
encode-append t (x ∷ xs) ys = ap (λ ds. slice_index t (x / 16) ∷ slice_index t (x % 16) ∷ ds) (encode-append t xs ys)

-- no digits
pub none_yet : (text : List ℕ) → text ++ hex_of [] ≡ text
unfolding encode_with
none_yet text = append-nil text

-- the digits of a front, and of the bytes that follow it
pub next_digits : (text bytes : List ℕ) (at count : ℕ) → (text ++ hex_of (take at bytes)) ++ hex_of (take (at + count - at) (drop at bytes)) ≡ text ++ hex_of (take (at + count) bytes)
next_digits text bytes at count =
    let some : at + count - at ≡ count = omega arith in
    append_assoc text (hex_of (take at bytes)) _
    ∙ ap (λ n. text ++ (hex_of (take at bytes) ++ hex_of (take n (drop at bytes)))) some
    ∙ ap (λ ds. text ++ ds) (sym (encode-append upper_digits (take at bytes) (take count (drop at bytes))) ∙ ap hex_of (sym (take-add at count bytes)))
