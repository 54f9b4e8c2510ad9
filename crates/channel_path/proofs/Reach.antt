-- Codewords within reach of the four words of a sector.
use Rattle.std.proofs.Common.{◌≡◌, ℕ, zero, suc, ◌<◌, Bool, List, [], ◌∷◌, length, get_or, arith, refl, lit<}
use Rattle.std.specs.Prelude.{Some, None}
use Rattle.std.proofs.lemmas.List.FromFn.{get_or-map-range_with_len}
use Rattle.disk_base.specs.declared.stage.How.{How}
use Rattle.rs_sector.specs.Sector.{word_of, words_of}
use Rattle.channel_path.specs.Sector.{IsInReach, AreInReach, flags_of}

-- a list of four is its four places
four_places : (xs : List (List ℕ)) → length xs ≡ 4 → xs ≡ get_or xs 0 [] ∷ get_or xs 1 [] ∷ get_or xs 2 [] ∷ get_or xs 3 [] ∷ []
four_places (a ∷ b ∷ c ∷ d ∷ []) h = refl
four_places [] h = absurd (omega arith)
four_places (a ∷ []) h = absurd (omega arith)
four_places (a ∷ b ∷ []) h = absurd (omega arith)
four_places (a ∷ b ∷ c ∷ []) h = absurd (omega arith)
four_places (a ∷ b ∷ c ∷ d ∷ e ∷ xs) h = absurd (omega arith)

-- what holds at each of four places
at_four : (P : ℕ → Type 0) → P 0 → P 1 → P 2 → P 3 → (i : ℕ) → i < 4 → P i
at_four P p q r s zero h = p
at_four P p q r s (suc zero) h = q
at_four P p q r s (suc (suc zero)) h = r
at_four P p q r s (suc (suc (suc zero))) h = s
at_four P p q r s (suc (suc (suc (suc i)))) h = absurd (omega arith)

-- word i of the four that bytes are dealt to
word_at : (bytes : List ℕ) (i : ℕ) → i < 4 → get_or (words_of 148 bytes) i [] ≡ word_of 148 bytes i
unfolding words_of
word_at bytes i h = get_or-map-range_with_len (word_of 148 bytes) 0 4 i i [] h (omega arith)

-- the word at a place of the four
pub dealt_word : (bytes : List ℕ) (words : List (List ℕ)) (i : ℕ) → i < 4 → words ≡ words_of 148 bytes → get_or words i [] ≡ word_of 148 bytes i
dealt_word bytes words i h is_words = rw is_words (word_at bytes i h)

-- four codewords in reach
pub four_in_reach : (how : How) (bytes : List ℕ) (flags : List Bool) (a b c d : List ℕ)
    → IsInReach how (word_of 148 bytes 0) (flags_of flags 0) a → IsInReach how (word_of 148 bytes 1) (flags_of flags 1) b
    → IsInReach how (word_of 148 bytes 2) (flags_of flags 2) c → IsInReach how (word_of 148 bytes 3) (flags_of flags 3) d
    → AreInReach how bytes flags (a ∷ b ∷ c ∷ d ∷ [])
four_in_reach how bytes flags a b c d p q r s = record {
  four = refl;
  each = at_four (λ i. IsInReach how (word_of 148 bytes i) (flags_of flags i) (get_or (a ∷ b ∷ c ∷ d ∷ []) i [])) p q r s;
}

-- where a word has no codeword in reach, the four have none
pub none_in_reach : (how : How) (bytes : List ℕ) (flags : List Bool) (i : ℕ) (codewords : List (List ℕ)) → i < 4
    → ((codeword : List ℕ) → IsInReach how (word_of 148 bytes i) (flags_of flags i) codeword → None ≡ Some codeword)
    → AreInReach how bytes flags codewords → ⊥
none_in_reach how bytes flags i codewords h none reach =
    let never : None ≡ Some (get_or codewords i []) = none (get_or codewords i []) (reach.each i h) in cc

-- codewords in reach are those that were found
pub these_in_reach : (how : How) (bytes : List ℕ) (flags : List Bool) (a b c d : List ℕ) (codewords : List (List ℕ))
    → ((codeword : List ℕ) → IsInReach how (word_of 148 bytes 0) (flags_of flags 0) codeword → Some a ≡ Some codeword)
    → ((codeword : List ℕ) → IsInReach how (word_of 148 bytes 1) (flags_of flags 1) codeword → Some b ≡ Some codeword)
    → ((codeword : List ℕ) → IsInReach how (word_of 148 bytes 2) (flags_of flags 2) codeword → Some c ≡ Some codeword)
    → ((codeword : List ℕ) → IsInReach how (word_of 148 bytes 3) (flags_of flags 3) codeword → Some d ≡ Some codeword)
    → AreInReach how bytes flags codewords → Some (a ∷ b ∷ c ∷ d ∷ []) ≡ Some codewords
these_in_reach how bytes flags a b c d codewords p q r s reach =
    let p0 : Some a ≡ Some (get_or codewords 0 []) = p _ (reach.each 0 (lit< tt)) in
    let q0 : Some b ≡ Some (get_or codewords 1 []) = q _ (reach.each 1 (lit< tt)) in
    let r0 : Some c ≡ Some (get_or codewords 2 []) = r _ (reach.each 2 (lit< tt)) in
    let s0 : Some d ≡ Some (get_or codewords 3 []) = s _ (reach.each 3 (lit< tt)) in
    let whole : codewords ≡ get_or codewords 0 [] ∷ get_or codewords 1 [] ∷ get_or codewords 2 [] ∷ get_or codewords 3 [] ∷ [] = four_places codewords reach.four in
    cc
