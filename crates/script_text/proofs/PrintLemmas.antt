-- Lines one after another.
use Rattle.std.proofs.Common.{◌≡◌, ℕ, ◌+◌, ◌<◌, List, [], ◌∷◌, ◌++◌, map, length, get_or, take, refl, sym, ◌∙◌, ap, append_assoc, append-nil}
use Rattle.std.proofs.lemmas.List.{take_more}
use Rattle.text_words.specs.Line.{spaced}
use Rattle.script_text.specs.Spelling.{joined, primary_words, line_words}
use Rattle.script_text.specs.Print.{text_of_lines, disk_lines, print_of}
use Rattle.script_text.specs.Meaning.{Asked}

spaced-append : (a b : List ℕ) (words : List (List ℕ)) → spaced (a ++ b) words ≡ a ++ spaced b words
spaced-append a b [] = refl
spaced-append a b (word ∷ words) = ap (λ t. spaced t words) (append_assoc a b (32 ∷ word)) ∙ spaced-append a (b ++ 32 ∷ word) words

-- words right behind a text are the text and the words
pub joined-append : (text : List ℕ) (words : List (List ℕ)) → joined text words ≡ text ++ joined [] words
joined-append text [] = sym (append-nil text)
joined-append text (first ∷ words) = spaced-append text first words

-- no lines
pub no_lines : (text : List ℕ) → text ++ text_of_lines [] ≡ text
no_lines text = append-nil text

text_of_lines-append : (xs ys : List (List (List ℕ))) → text_of_lines (xs ++ ys) ≡ text_of_lines xs ++ text_of_lines ys
text_of_lines-append [] ys = refl
text_of_lines-append (x ∷ xs) ys = ap (λ t. joined [] x ++ 10 ∷ t) (text_of_lines-append xs ys) ∙ sym (append_assoc (joined [] x) (10 ∷ text_of_lines xs) (text_of_lines ys))

map-append : {A B : Type 0} (f : A → B) (xs ys : List A) → map f (xs ++ ys) ≡ map f xs ++ map f ys
map-append f [] ys = refl
map-append f (x ∷ xs) ys = ap (λ t. f x ∷ t) (map-append f xs ys)

-- one line more
pub next_line : {A : Type 0} (words_of : A → List (List ℕ)) (text : List ℕ) (items : List A) (i : ℕ) (d : A) → i < length items
    → joined (text ++ text_of_lines (map words_of (take i items))) (words_of (get_or items i d)) ++ 10 ∷ [] ≡ text ++ text_of_lines (map words_of (take (i + 1) items))
next_line words_of text items i d within =
    let before : List ℕ = text_of_lines (map words_of (take i items)) in
    let line : List ℕ = joined [] (words_of (get_or items i d)) in
    let more : text_of_lines (map words_of (take (i + 1) items)) ≡ before ++ (line ++ 10 ∷ []) =
    ap (λ xs. text_of_lines (map words_of xs)) (take_more items i d within) ∙ (ap text_of_lines (map-append words_of (take i items) (get_or items i d ∷ [])) ∙ text_of_lines-append (map words_of (take i items)) (words_of (get_or items i d) ∷ [])) in
    ap (λ t. t ++ 10 ∷ []) (joined-append (text ++ before) (words_of (get_or items i d)))
    ∙ (append_assoc (text ++ before) line (10 ∷ [])
    ∙ (append_assoc text before (line ++ 10 ∷ [])
    ∙ ap (λ t. text ++ t) (sym more)))

-- measures, primary list and body one after another are the script
pub script_in_parts : (text : List ℕ) (asked : Asked)
    → ((text ++ text_of_lines (disk_lines asked.measures)) ++ text_of_lines (map primary_words asked.primary)) ++ text_of_lines (map line_words asked.lines) ≡ text ++ print_of asked
unfolding print_of
script_in_parts text asked =
    let disk : List (List (List ℕ)) = disk_lines asked.measures in
    let primary : List (List (List ℕ)) = map primary_words asked.primary in
    let body : List (List (List ℕ)) = map line_words asked.lines in
    append_assoc (text ++ text_of_lines disk) (text_of_lines primary) (text_of_lines body)
    ∙ (append_assoc text (text_of_lines disk) (text_of_lines primary ++ text_of_lines body)
    ∙ ap (λ t. text ++ t) (ap (λ t. text_of_lines disk ++ t) (sym (text_of_lines-append primary body)) ∙ sym (text_of_lines-append disk (primary ++ body))))
