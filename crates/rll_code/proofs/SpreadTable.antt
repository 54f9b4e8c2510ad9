-- The table of bytes' bits holds them, tried at each byte.
use Rattle.std.proofs.Common.{◌≡◌, ℕ, zero, suc, ◌+◌, ◌*◌, ◌%◌, ◌≤◌, Bool, true, List, [], length, take, drop, get_or, refl, sym, subst, ap, ◌∙◌, length-drop, arith}
use Rattle.std.proofs.lemmas.List.{take-append-drop, length-take-le, drop-drop}
use lib.Pointwise.{pointwise}
use Rattle.rll_code.specs.Bits.{same, low_bits, octets}
use Rattle.rll_code.specs.declared.tables.TheConstants.{SPREAD}
use Rattle.rll_code.proofs.BitLists.{low_bits-mod}
use Rattle.rll_code.proofs.Octets.{octets_eight}
use Rattle.rll_code.proofs.TableTests.{same_bits, all_from, entry_passes}

-- one octet of a list
get_or-octets : {X : Type 0} (xs : List X) (n : ℕ) → 8 * n + 8 ≤ length xs → get_or (octets xs) n [] ≡ take 8 (drop (8 * n) xs)
get_or-octets xs zero within =
    ap (λ l. get_or (octets l) 0 []) (sym (take-append-drop 8 xs))
    ∙ ap (λ l. get_or l 0 []) (octets_eight (take 8 xs) (drop 8 xs) (length-take-le 8 xs (omega arith)))
get_or-octets xs (suc n) within =
    let on : 8 + 8 * n ≡ 8 * suc n = omega arith in
    ap (λ l. get_or (octets l) (suc n) []) (sym (take-append-drop 8 xs))
    ∙ ap (λ l. get_or l (suc n) []) (octets_eight (take 8 xs) (drop 8 xs) (length-take-le 8 xs (omega arith)))
    ∙ get_or-octets (drop 8 xs) n (omega (arith, length-drop 8 xs))
    ∙ ap (take 8) (drop-drop (8 * n) 8 xs ∙ ap (λ k. drop k xs) on)

abbrev passes : ℕ → List Bool → Bool
passes byte eight = pointwise same eight (low_bits 8 byte)

table_passes : all_from passes 0 (octets SPREAD) ≡ true
unfolding all_from octets low_bits
table_passes = refl

octets_count : length (octets SPREAD) ≡ 256
unfolding octets
octets_count = refl

spreads : (table : List Bool) → all_from passes 0 (octets table) ≡ true → length (octets table) ≡ 256 → length table ≡ 2048 → (word : ℕ) → take 8 (drop (8 * (word % 256)) table) ≡ low_bits 8 word
spreads table pass count long word =
    let byte = word % 256 in
    let eight = get_or (octets table) byte [] in
    let zero_at : 0 + byte ≡ byte = omega arith in
    let passed : passes byte eight ≡ true = subst (λ n. passes n eight ≡ true) zero_at (entry_passes passes 0 (octets table) pass byte [] (omega arith)) in
    sym (get_or-octets table byte (omega arith)) ∙ same_bits eight (low_bits 8 byte) passed ∙ low_bits-mod 8 8 word (omega arith)

-- what the table holds for the lowest eight bits of a word
pub table_spreads : (word : ℕ) → take 8 (drop (8 * (word % 256)) SPREAD) ≡ low_bits 8 word
table_spreads = spreads SPREAD table_passes octets_count refl
