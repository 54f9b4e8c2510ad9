-- Words after blanks, and a line split at its blanks.
use Rattle.std.proofs.Common.{◌≡◌, ℕ, ◌<◌, ◌==◌, Bool, true, false, cond, List, [], ◌∷◌, ◌++◌, length, refl, sym, ap, ◌∙◌, arith, append_assoc, append-nil}
use Rattle.std.specs.List.{All, slice_split, onto_first, join_with_byte}
use Rattle.std.proofs.lemmas.Bool.{ne_eqb}
use Rattle.std.proofs.lemmas.List.Elements.{All-head, All-tail}
use Rattle.std.proofs.lemmas.List.Splits.{slice_split_none, length-slice_split, join_with_byte-slice_split}
use Rattle.text_words.specs.Line.{HasNoBlank, spaced, words_of, parts_at}

abbrev is_blank : ℕ → Bool
is_blank b = b == 32

-- a character before the first of some parts, where one more part follows
onto_first-append : (x : ℕ) (parts : List (List ℕ)) (word : List ℕ) → 0 < length parts → onto_first x (parts ++ word ∷ []) ≡ onto_first x parts ++ word ∷ []
onto_first-append x [] word some = absurd (omega arith)
onto_first-append x (part ∷ parts) word some = refl

-- a word without a blank is one part
one_word : (word : List ℕ) → HasNoBlank word → slice_split is_blank word ≡ word ∷ []
one_word word free = slice_split_none is_blank word (λ k d lt. ne_eqb _ 32 (free k d lt))

-- a blank and such a word are one part more
one_more : (text word : List ℕ) → HasNoBlank word → slice_split is_blank (text ++ 32 ∷ word) ≡ slice_split is_blank text ++ word ∷ []
one_more [] word free = ap (λ parts. [] ∷ parts) (one_word word free)
one_more (x ∷ text) word free = by_test (is_blank x) (one_more text word free)
  where
    some : 0 < length (slice_split is_blank text)
    some = let count = length-slice_split is_blank text in omega arith

    by_test : (b : Bool) → slice_split is_blank (text ++ 32 ∷ word) ≡ slice_split is_blank text ++ word ∷ []
        → cond b ([] ∷ slice_split is_blank (text ++ 32 ∷ word)) (onto_first x (slice_split is_blank (text ++ 32 ∷ word)))
        ≡ cond b ([] ∷ slice_split is_blank text) (onto_first x (slice_split is_blank text)) ++ word ∷ []
    by_test true rest = ap (λ parts. [] ∷ parts) rest
    by_test false rest = ap (onto_first x) rest ∙ onto_first-append x (slice_split is_blank text) word some

-- words without a blank, after blanks, are as many parts more
more_words : (text : List ℕ) (words : List (List ℕ)) → All HasNoBlank words → slice_split is_blank (spaced text words) ≡ slice_split is_blank text ++ words
more_words text [] free = sym (append-nil (slice_split is_blank text))
more_words text (word ∷ words) free =
    more_words (text ++ 32 ∷ word) words (All-tail HasNoBlank word words free)
    ∙ ap (λ parts. parts ++ words) (one_more text word (All-head HasNoBlank word words free))
    ∙ append_assoc (slice_split is_blank text) (word ∷ []) words

pub words_of-spaced : (first : List ℕ) (words : List (List ℕ)) → All HasNoBlank (first ∷ words) → words_of (spaced first words) ≡ first ∷ words
unfolding parts_at
words_of-spaced first words free = more_words first words (All-tail HasNoBlank first words free) ∙ ap (λ parts. parts ++ words) (one_word first (All-head HasNoBlank first words free))

-- words after blanks are joined by blanks
spaced-join : (text : List ℕ) (words : List (List ℕ)) → spaced text words ≡ join_with_byte 32 (text ∷ words)
spaced-join text [] = refl
spaced-join text (word ∷ words) = spaced-join (text ++ 32 ∷ word) words ∙ join_front text word words
  where
    join_front : (text word : List ℕ) (words : List (List ℕ)) → join_with_byte 32 ((text ++ 32 ∷ word) ∷ words) ≡ text ++ 32 ∷ join_with_byte 32 (word ∷ words)
    join_front text word [] = refl
    join_front text word (w ∷ ws) = append_assoc text (32 ∷ word) (32 ∷ join_with_byte 32 (w ∷ ws))

pub spaced-words_of : (line first : List ℕ) (words : List (List ℕ)) → words_of line ≡ first ∷ words → spaced first words ≡ line
unfolding parts_at
spaced-words_of line first words e = spaced-join first words ∙ ap (join_with_byte 32) (sym e) ∙ join_with_byte-slice_split 32 line
