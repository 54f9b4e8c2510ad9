-- Tags one after another.
use Rattle.std.proofs.Common.{◌≡◌, ℕ, ◌+◌, ◌<◌, List, [], ◌∷◌, ◌++◌, length, get_or, take, sym, ap, ◌∙◌, append-nil}
use Rattle.std.specs.List.{flat_map}
use Rattle.std.proofs.lemmas.List.{take_more}
use Rattle.std.proofs.lemmas.Grind.{flat_map-append}
use Rattle.std.proofs.lemmas.List.Sums.{fold-append}
use Rattle.run_picture.specs.Tags.{Tag, with_tag, with_tags}

-- tags behind tags
pub tags-more : (text : List ℕ) (xs ys : List Tag) → with_tags text (xs ++ ys) ≡ with_tags (with_tags text xs) ys
tags-more text xs ys = fold-append with_tag text xs ys

-- the tags of one item more
pub next_tags : {A : Type 0} (f : A → List Tag) (text : List ℕ) (items : List A) (i : ℕ) (d : A) → i < length items
    → with_tags (with_tags text (flat_map f (take i items))) (f (get_or items i d)) ≡ with_tags text (flat_map f (take (i + 1) items))
next_tags f text items i d within =
    sym (tags-more text (flat_map f (take i items)) (f (get_or items i d)))
    ∙ ap (with_tags text) (sym (ap (flat_map f) (take_more items i d within) ∙ (flat_map-append f (take i items) (get_or items i d ∷ []) ∙ ap (λ ts. flat_map f (take i items) ++ ts) (append-nil (f (get_or items i d))))))

two_parts : (text : List ℕ) (a b : List Tag) → with_tags (with_tags text a) b ≡ with_tags text (a ++ b)
two_parts text a b = sym (tags-more text a b)

three_parts : (text : List ℕ) (a b c : List Tag) → with_tags (with_tags (with_tags text a) b) c ≡ with_tags text (a ++ b ++ c)
three_parts text a b c = ap (λ t. with_tags t c) (two_parts text a b) ∙ two_parts text (a ++ b) c

pub four_parts : (text : List ℕ) (a b c d : List Tag) → with_tags (with_tags (with_tags (with_tags text a) b) c) d ≡ with_tags text (a ++ b ++ c ++ d)
four_parts text a b c d = ap (λ t. with_tags t d) (three_parts text a b c) ∙ two_parts text (a ++ b ++ c) d

pub five_parts : (text : List ℕ) (a b c d e : List Tag)
    → with_tags (with_tags (with_tags (with_tags (with_tags text a) b) c) d) e ≡ with_tags text (a ++ b ++ c ++ d ++ e)
five_parts text a b c d e = ap (λ t. with_tags t e) (four_parts text a b c d) ∙ two_parts text (a ++ b ++ c ++ d) e
