-- Words one after another, and lines.
use Rattle.std.proofs.Common.{◌≡◌, ℕ, ◌+◌, ◌-◌, ◌<◌, List, [], ◌∷◌, ◌++◌, map, length, get_or, take, drop, refl, sym, ap, ◌∙◌, append_assoc, append-nil}
use Rattle.std.specs.List.{flat_map}
use Rattle.std.proofs.lemmas.List.{take_more, take-map, drop-map}
use Rattle.std.proofs.lemmas.Grind.{flat_map-append}
use Rattle.std.proofs.lemmas.List.Folds.{flat_map-map}
use Rattle.block_machine.specs.declared.turn.Turn.{Turn}
use Rattle.text_words.specs.Line.{spaced}
use Rattle.script_text.proofs.PrintLemmas.{joined-append}
use Rattle.report_text.specs.Turns.{part_of}

-- words behind words
pub spaced-more : (text : List ℕ) (xs ys : List (List ℕ)) → spaced text (xs ++ ys) ≡ spaced (spaced text xs) ys
spaced-more text [] ys = refl
spaced-more text (x ∷ xs) ys = spaced-more (text ++ 32 ∷ x) xs ys

-- a text before words
pub spaced-behind : (before first : List ℕ) (words : List (List ℕ)) → spaced (before ++ first) words ≡ before ++ spaced first words
spaced-behind before first words = joined-append before (first ∷ words)

-- the words of one item more
pub next_words : {A : Type 0} (f : A → List (List ℕ)) (text : List ℕ) (items : List A) (i : ℕ) (d : A) → i < length items
    → spaced (spaced text (flat_map f (take i items))) (f (get_or items i d)) ≡ spaced text (flat_map f (take (i + 1) items))
next_words f text items i d within =
    sym (spaced-more text (flat_map f (take i items)) (f (get_or items i d)))
    ∙ ap (spaced text) (sym (ap (flat_map f) (take_more items i d within) ∙ (flat_map-append f (take i items) (get_or items i d ∷ []) ∙ ap (λ ws. flat_map f (take i items) ++ ws) (append-nil (f (get_or items i d))))))

-- the words of what items stand for
pub words-map : {A B : Type 0} (f : B → List (List ℕ)) (g : A → B) (text : List ℕ) (items : List A)
    → spaced text (flat_map (λ x. f (g x)) items) ≡ spaced text (flat_map f (map g items))
words-map f g text items = ap (spaced text) (sym (flat_map-map f g items))

-- a line in its parts
pub turn_in_parts : (text number : List ℕ) (label ops entries : List (List ℕ))
    → spaced (spaced (spaced (text ++ number) label) ops) entries ++ 10 ∷ [] ≡ text ++ (spaced number (label ++ (ops ++ entries)) ++ 10 ∷ [])
turn_in_parts text number label ops entries =
    ap (λ t. t ++ 10 ∷ []) (sym (spaced-more (spaced (text ++ number) label) ops entries) ∙ (sym (spaced-more (text ++ number) label (ops ++ entries)) ∙ spaced-behind text number (label ++ (ops ++ entries))))
    ∙ append_assoc text (spaced number (label ++ (ops ++ entries))) (10 ∷ [])

-- the part that a turn names, of what is shown
pub part_of-map : {A B : Type 0} (f : A → B) (items : List A) (turn : Turn) → map f (part_of items turn) ≡ part_of (map f items) turn
part_of-map f items turn =
    sym (take-map f (turn.ops_to - turn.ops_from) (drop turn.ops_from items)) ∙ ap (take (turn.ops_to - turn.ops_from)) (sym (drop-map f turn.ops_from items))
