-- Words worked out by hand, and readings of damaged ones.
use Rattle.std.proofs.Common.{◌≡◌, true, false, [], ◌∷◌, refl, ap, sym, get_or, codes}
use Rattle.std.proofs.lemmas.Bool.{false≢true}
use Rattle.rll_code.specs.Bits.{bits, low_bits, octets}
use Rattle.rll_code.specs.Code.{IsCode, row_10, row_11, row_000, row_010, row_011, row_0010}
use Rattle.rll_code.specs.Reading.{sure, unread, reading, reading_after, bytes_read, flags_read}
use Rattle.rll_code.proofs.Codes.{one_code}

code_of_00 : IsCode (0 ∷ []) (bits (codes "0001000001000001001000"))
unfolding low_bits
code_of_00 = record { split = row_000 ∷ row_000 ∷ row_000 ∷ row_11 ∷ []; left = refl; right = refl }

code_of_ff : IsCode (255 ∷ []) (bits (codes "1000100010001000001000"))
unfolding low_bits
code_of_ff = record { split = row_11 ∷ row_11 ∷ row_11 ∷ row_11 ∷ row_011 ∷ []; left = refl; right = refl }

code_of_25 : IsCode (37 ∷ []) (bits (codes "0010010010010001001000"))
unfolding low_bits
code_of_25 = record { split = row_0010 ∷ row_010 ∷ row_10 ∷ row_11 ∷ []; left = refl; right = refl }

-- one bit turned, and it is no code of that byte
turned : IsCode (37 ∷ []) (bits (codes "1010010010010001001000")) → ⊥
turned code =
    let same = one_code (37 ∷ []) (bits (codes "0010010010010001001000")) (bits (codes "1010010010010001001000")) code_of_25 code in
    false≢true (ap (λ l. get_or l 0 false) same)

-- the tail left out
without_tail : IsCode (0 ∷ []) (bits (codes "000100000100")) → ⊥
without_tail code =
    let same = one_code (0 ∷ []) (bits (codes "0001000001000001001000")) (bits (codes "000100000100")) code_of_00 code in
    false≢true (sym (ap (λ l. get_or l 15 false) same))

read_back : bytes_read (bits (codes "0010010010010001001000")) ≡ 37 ∷ []
unfolding reading_after octets
read_back = refl

not_flagged : flags_read (bits (codes "0010010010010001001000")) ≡ false ∷ []
unfolding reading_after octets
not_flagged = refl

-- nothing begins with 11, and two channel bits are used up
nothing_begins : reading (bits (codes "110100")) ≡ unread ∷ sure true ∷ sure false ∷ []
unfolding reading_after
nothing_begins = refl

-- 001000 and 00100100 begin so, and neither is there in full
not_in_full : reading (bits (codes "001001")) ≡ unread ∷ unread ∷ unread ∷ []
unfolding reading_after
not_in_full = refl

-- a flagged 0 in the byte
turned_flagged : flags_read (bits (codes "1010010010010001001000")) ≡ true ∷ []
unfolding reading_after octets
turned_flagged = refl

-- flagged 0s in the last three bits alone
end_not_flagged : flags_read (bits (codes "0001000001000001000000")) ≡ false ∷ []
unfolding reading_after octets
end_not_flagged = refl
