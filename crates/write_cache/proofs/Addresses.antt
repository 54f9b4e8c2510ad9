-- Addresses as keys: equal where their numbers are, and what a put does in the list of the dirty blocks.
use Rattle.std.proofs.Common.{◌≡◌, ℕ, true, List, [], ◌∷◌, ◌++◌, length, get_or, Some, None, ap, ◌∙◌, arith, append-nil}
use Rattle.std.proofs.Math.ListN.{set, length-set}
use Rattle.std.proofs.Math.Seq.{take-length}
use Rattle.std.proofs.lemmas.List.{drop_all}
use Rattle.std.proofs.lemmas.Bool.{eqb-true}
use Rattle.std.specs.Cmp.{IsEquivalence, on_equiv, nat_eq_equiv}
use Rattle.std.specs.List.{position, refill}
use Rattle.std.specs.Map.{lookup, set_value}
use Rattle.disk_base.specs.declared.address.Lba.{Lba}
use Rattle.write_cache.specs.Contents.{is_at, put_data}
use Rattle.write_cache.proofs.Places.{IsFirst-position, lookup-first, set-first}

-- the test of addresses is an equivalence
pub is_at_laws : IsEquivalence is_at
is_at_laws = on_equiv (λ (b : Lba). b.0) nat_eq_equiv

-- addresses that pass the test are one
pub same_address : (b k : Lba) → is_at b k ≡ true → b ≡ k
same_address b k same = let lba : ℕ → Lba = λ n. record { 0 = n } in ap lba (eqb-true b.0 k.0 same)

-- a write of an element through the slice of all elements is a write of that element
pub refill-set : {X : Type 0} (xs : List X) (i : ℕ) (x : X) → refill (length xs) xs (set xs i x) ≡ set xs i x
refill-set xs i x =
    let long : length (set xs i x) ≡ length xs = length-set xs i x in
    rw long (rw (drop_all (length xs) xs (omega arith)) (rw (append-nil (set xs i x)) (rw (← long) (take-length (set xs i x)))))

-- b is put where it stands
pub put_data-there : (b : Lba) (v : List ℕ) (held : List (Lba × List ℕ)) (i : ℕ) → position (λ e. is_at b e.0) held ≡ Some i → set held i (b, v) ≡ put_data b v held
put_data-there b v held i at =
    let first = IsFirst-position (is_at b) held i at (b, v) in
    let there : b ≡ (get_or held i (b, v)).0 = same_address b (get_or held i (b, v)).0 (first.passes (b, v)) in
    let changed : set held i (b, v) ≡ set_value (is_at b) held v = ap (λ (k : Lba). set held i (k, v)) there ∙ set-first (is_at b) held i (b, v) v first in
    rw (lookup-first (is_at b) held i (b, v) first) changed

-- b is put behind all others
pub put_data-new : (b : Lba) (v : List ℕ) (held : List (Lba × List ℕ)) → lookup (is_at b) held ≡ None → put_data b v held ≡ held ++ (b, v) ∷ []
put_data-new b v held none = rw none
