-- A word written in three pieces.
use Rattle.std.proofs.Common.{◌≡◌, ℕ, ◌/◌, Bool, List, [], ◌++◌, length, take, drop, sym, ap, ◌∙◌, append_assoc, length-append, length-drop, arith}
use Rattle.std.proofs.lemmas.List.{append-nil, take_at, drop_all}
use borrow.Rule.Slice.PartMut.{put_mid}
use Rattle.rll_code.specs.Bits.{low_bits}
use Rattle.rll_code.proofs.BitLists.{take_past, length-low_bits, low_bits-append}

-- the highest 22 of the lowest 24 bits, in pieces of eight, eight and six
pieces : (word : ℕ) → take 22 (low_bits 24 word) ≡ low_bits 8 (word / 65536) ++ (low_bits 8 (word / 256) ++ take 6 (low_bits 8 word))
pieces word =
    let high = low_bits 8 (word / 65536) in
    let middle = low_bits 8 (word / 256) in
    ap (take 22) (low_bits-append 8 16 word ∙ ap (λ l. high ++ l) (low_bits-append 8 8 word))
    ∙ take_past high (middle ++ low_bits 8 word) 8 14 (length-low_bits 8 (word / 65536))
    ∙ ap (λ l. high ++ l) (take_past middle (low_bits 8 word) 8 6 (length-low_bits 8 (word / 256)))

-- three writes in a row, of the pieces
pub pieces_written : (places high middle low : List Bool) (word k : ℕ) → length places ≡ 22 → high ≡ low_bits 8 (word / 65536) → middle ≡ low_bits 8 (word / 256) → low ≡ take 6 (low_bits 8 word) → k ≡ 6 → put_mid 16 k (put_mid 8 8 (high ++ drop 8 places) middle) low ≡ take 22 (low_bits 24 word)
pieces_written places high middle low word k room is_high is_middle is_low six =
    let after = drop 8 (drop 8 (high ++ drop 8 places)) in
    let long_high : length high ≡ 8 = ap length is_high ∙ length-low_bits 8 (word / 65536) in
    let long_middle : length middle ≡ 8 = ap length is_middle ∙ length-low_bits 8 (word / 256) in
    let both : length (high ++ middle) ≡ 16 = omega (arith, length-append high middle) in
    let rest : length after ≡ 6 = omega (arith, length-drop 8 (drop 8 (high ++ drop 8 places)), length-drop 8 (high ++ drop 8 places), length-append high (drop 8 places), length-drop 8 places) in
    let second : put_mid 8 8 (high ++ drop 8 places) middle ≡ (high ++ middle) ++ after =
    ap (λ l. l ++ (middle ++ after)) (take_at high (drop 8 places) 8 long_high) ∙ sym (append_assoc high middle after) in
    let none : drop k (drop 16 ((high ++ middle) ++ after)) ≡ [] =
    drop_all k (drop 16 ((high ++ middle) ++ after)) (omega (arith, length-drop 16 ((high ++ middle) ++ after), length-append (high ++ middle) after)) in
    ap (λ l. put_mid 16 k l low) second
    ∙ ap (λ l. l ++ (low ++ drop k (drop 16 ((high ++ middle) ++ after)))) (take_at (high ++ middle) after 16 both)
    ∙ ap (λ l. (high ++ middle) ++ (low ++ l)) none
    ∙ ap (λ l. (high ++ middle) ++ l) (append-nil low)
    ∙ append_assoc high middle low
    ∙ ap (λ l. l ++ (middle ++ low)) is_high
    ∙ ap (λ l. low_bits 8 (word / 65536) ++ (l ++ low)) is_middle
    ∙ ap (λ l. low_bits 8 (word / 65536) ++ (low_bits 8 (word / 256) ++ l)) is_low
    ∙ sym (pieces word)
