-- Bytes that one read or write after another moved, where they are known.
use Rattle.std.proofs.Common.{ℕ, ◌+◌, ◌-◌, List, ◌++◌, length, take, drop, Option, Some, None, sym, ap, ◌∙◌, append_assoc}
use Rattle.std.proofs.Math.Seq.{take-add}
use Rattle.std.proofs.lemmas.List.{take_rest}
use Rattle.std.specs.Io.KnownBytes.{Appends, Consumes}

-- two reads
pub Consumes-then : (a b c : Option (List ℕ)) (xs ys : List ℕ) → Consumes a b xs → Consumes b c ys → Consumes a c (xs ++ ys)
Consumes-then None b c xs ys first second = tt
Consumes-then (Some u) None c xs ys first second = absurd first
Consumes-then (Some u) (Some v) None xs ys first second = absurd second
Consumes-then (Some u) (Some v) (Some w) xs ys first second = first ∙ ap (λ t. xs ++ t) second ∙ sym (append_assoc xs ys w)

-- two writes
Appends-then : (a b c : Option (List ℕ)) (xs ys : List ℕ) → Appends a b xs → Appends b c ys → Appends a c (xs ++ ys)
Appends-then None b c xs ys first second = tt
Appends-then (Some u) None c xs ys first second = absurd first
Appends-then (Some u) (Some v) None xs ys first second = absurd second
Appends-then (Some u) (Some v) (Some w) xs ys first second = second ∙ ap (λ t. t ++ ys) first ∙ append_assoc u xs ys

-- a front of a text, and a front of its rest
pub Appends-front : (a b c : Option (List ℕ)) (text : List ℕ) (at n : ℕ) → Appends a b (take at text)
    → Appends b c (take n (take (length text - at) (drop at text))) → Appends a c (take (at + n) text)
Appends-front a b c text at n first second =
    rw (take-add at n text) (Appends-then a b c (take at text) (take n (drop at text)) first (rw (take_rest text at) at second))
