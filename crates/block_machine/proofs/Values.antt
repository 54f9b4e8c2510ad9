-- A block gives what was hardened last, or what was put since.
use Rattle.std.proofs.Common.{◌≡◌, ◌∙◌, ap, sym, refl, ℕ, zero, suc, Bool, true, false, cond, nat_eq, List, [], ◌∷◌, ◌++◌, length}
use Rattle.std.specs.Prelude.{◌||◌, ◌-◌, fold, slice_get, Option, Some, None}
use Rattle.std.specs.List.{list_any}
use Rattle.std.specs.Option.{option_map_or}
use Rattle.disk_base.specs.declared.block.Value.{Value}
use Rattle.disk_base.specs.declared.block.Value.TheVariants.{Data, Lost}
use Rattle.block_machine.specs.declared.array.BlockState.{BlockState}
use Rattle.block_machine.specs.declared.entry.Entry.{Entry}
use Rattle.block_machine.specs.declared.entry.Entry.TheVariants.{Get, Put, Harden, GiveUp, Cut}
use Rattle.block_machine.specs.Blocks.{zeros, same_value, hardened_with, newest, allowed, is_dirty, may_get, after_get, after_put, after_harden}
use Rattle.block_machine.specs.Laws.{OfLegalHistories, last_alone, values_after, values_since_hardened, ReadsGiveHardenedOrNewer}
use Rattle.block_machine.proofs.OneBlock.{block_after, block_allows, kept_along}
use Rattle.block_machine.proofs.BlockLaws.{last_of, same_is, dirty_newest, block_along, allowed_here, all_pass, part_before, part_here}
use Rattle.block_machine.proofs.Booleans.{or_assoc, or_false, or_left, or_right}

-- these data are among some values
abbrev pub among : List ℕ → List Value → Bool
among d values = list_any (same_value (Data d)) values

among_both : (d : List ℕ) (xs ys : List Value) → among d (xs ++ ys) ≡ (among d xs || among d ys)
among_both d [] ys = refl
among_both d (x ∷ xs) ys = ap (λ (t : Bool). same_value (Data d) x || t) (among_both d xs ys) ∙ or_assoc (same_value (Data d) x) (among d xs) (among d ys)

-- what holds of one of three, and of the first two leads to another, holds of that or of the third
third : (x y z w : Bool) → (x || y || z) ≡ true → ((x || y) ≡ true → w ≡ true) → (w || z) ≡ true
third true y z w h k = ap (λ (t : Bool). t || z) (k refl)
third false true z w h k = ap (λ (t : Bool). t || z) (k refl)
third false false true true h k = refl
third false false true false h k = refl
third false false false w h k = absurd (cc)

-- each value of the block is among those that it may have, and the newest is the last of these
pub record Within (s : BlockState) (values : List Value) : Type 0 where
  pub each : (d : List ℕ) → among d (s.base ++ s.newer) ≡ true → among d values ≡ true
  pub last : (v : Value) → newest s ≡ Some v → slice_get values (length values - 1) ≡ Some v

only_data : (f d : List ℕ) → among f (Data d ∷ []) ≡ true → f ≡ d
only_data f d h = let same : Data d ≡ Data f = same_is f (Data d) (or_false (same_value (Data f) (Data d)) h) in cc

-- a block with one value on the medium
pub hardened_within : (v : Value) (values : List Value) → ((d : List ℕ) → among d (v ∷ []) ≡ true → among d values ≡ true) → Within (hardened_with v) values
hardened_within v values h = record { each = h; last = λ w e. absurd (cc) }

-- values with one more behind
three : (d : List ℕ) (base newer : List Value) (w : Value) → among d (base ++ (newer ++ w ∷ [])) ≡ ((among d base || among d newer) || among d (w ∷ []))
three d base newer w =
    among_both d base (newer ++ w ∷ []) ∙ ap (λ (t : Bool). among d base || t) (among_both d newer (w ∷ []))
    ∙ or_assoc (among d base) (among d newer) (among d (w ∷ []))

put_within : (s : BlockState) (values : List Value) (w : Value) → Within s values → Within (after_put s w) (values ++ w ∷ [])
put_within s values w i = record {
  each = λ d h. among_both d values (w ∷ [])
      ∙ third (among d s.base) (among d s.newer) (among d (w ∷ [])) (among d values) (sym (three d s.base s.newer w) ∙ h) (λ k. i.each d (among_both d s.base s.newer ∙ k));
  last = λ v h. last_of values w ∙ sym (last_of s.newer w) ∙ h;
}

put_if : (t : Bool) (s : BlockState) (values : List Value) (w : Value) → Within s values → Within (cond t (after_put s w) s) (cond t (values ++ w ∷ []) values)
put_if true s values w i = put_within s values w i
put_if false s values w i = i

-- a value of the medium is among those of the block
of_base : (s : BlockState) (d : List ℕ) → among d s.base ≡ true → among d (s.base ++ s.newer) ≡ true
of_base s d h = among_both d s.base s.newer ∙ or_left (among d s.base) (among d s.newer) h

-- a clean block that gave these data has nothing else
got_within : (x : Bool) (s : BlockState) (values : List Value) (d : List ℕ) → is_dirty s ≡ x → may_get s (Data d) ≡ true → Within s values
    → Within (cond x s (hardened_with (Data d))) values
got_within true s values d e h i = i
got_within false s values d e h i =
    let is : may_get s (Data d) ≡ among d s.base =
    ap (λ (t : Bool). cond t (option_map_or (same_value (Data d)) (newest s) false) (among d s.base)) e in
    let here : among d values ≡ true = i.each d (of_base s d (sym is ∙ h)) in
    hardened_within (Data d) values (λ f k. ap (λ (g : List ℕ). among g values) (only_data f d k) ∙ here)

get_if : (t : Bool) (s : BlockState) (values : List Value) (w : Value) → cond t (may_get s w) true ≡ true → Within s values → Within (cond t (after_get s w) s) values
get_if false s values w h i = i
get_if true s values (Data d) h i = got_within (is_dirty s) s values d refl h i
get_if true s values Lost h i = i

harden_within : (o : Option Value) (s : BlockState) (values : List Value) → newest s ≡ o → is_dirty s ≡ true → Within s values
    → Within (option_map_or hardened_with o s) (option_map_or (λ v. v ∷ []) (slice_get values (length values - 1)) values)
harden_within None s values e h i = absurd (dirty_newest s h e)
harden_within (Some v) s values e h i = rw (i.last v e) (hardened_within v (v ∷ []) (λ d k. k))

harden_if : (t : Bool) (s : BlockState) (values : List Value) → cond t (is_dirty s) true ≡ true → Within s values → Within (cond t (after_harden s) s) (cond t (last_alone values) values)
harden_if false s values h i = i
harden_if true s values h i = harden_within (newest s) s values refl h i

-- what is lost is no data
without_lost : (d : List ℕ) (base newer : List Value) → among d ((base ++ newer ++ Lost ∷ []) ++ []) ≡ true → among d (base ++ newer) ≡ true
without_lost d base newer h =
    let some : among d (base ++ newer ++ Lost ∷ []) ≡ true = or_false _ (sym (among_both d (base ++ newer ++ Lost ∷ []) []) ∙ h) in
    or_false _ (sym (among_both d (base ++ newer) (Lost ∷ [])) ∙ some)

-- what a dirty block may have
allowed_dirty : (s : BlockState) → is_dirty s ≡ true → allowed s ≡ s.base ++ s.newer ++ Lost ∷ []
allowed_dirty s e = ap (λ (t : Bool). cond t (s.base ++ s.newer ++ Lost ∷ []) s.base) e

cut_within : (x : Bool) (s : BlockState) (values : List Value) → is_dirty s ≡ x → Within s values → Within (cond x (record { base = allowed s; newer = [] }) s) values
cut_within false s values e i = i
cut_within true s values e i = record {
  each = λ d h. i.each d (without_lost d s.base s.newer (ap (λ (vs : List Value). among d (vs ++ [])) (sym (allowed_dirty s e)) ∙ h));
  last = λ v h. absurd (cc);
}

-- each entry keeps that the values of the block are among those
pub keeps_within : (b : ℕ) (s : BlockState) (values : List Value) (e : Entry) → block_allows b s e ≡ true → true ≡ true → Within s values → Within (block_after b s e) (values_after b values e)
keeps_within b s values (Get c a w) h q i = get_if (nat_eq b a.0) s values w h i
keeps_within b s values (Put c a w) h q i = put_if (nat_eq b a.0) s values (Data w) i
keeps_within b s values (GiveUp a) h q i = put_if (nat_eq b a.0) s values Lost i
keeps_within b s values (Harden who a) h q i = harden_if (nat_eq b a.0) s values h i
keeps_within b s values Cut h q i = cut_within (is_dirty s) s values refl i
keeps_within b s values other h q i = i

-- an item at a place is among the items
found : (d : List ℕ) (v : Value) (xs : List Value) (i : ℕ) → slice_get xs i ≡ Some v → same_value (Data d) v ≡ true → among d xs ≡ true
found d v [] i e h = absurd (cc)
found d v (x ∷ xs) zero e h = let is : x ≡ v = cc in or_left (same_value (Data d) x) (among d xs) (ap (λ (w : Value). same_value (Data d) w) is ∙ h)
found d v (x ∷ xs) (suc i) e h = or_right (same_value (Data d) x) (among d xs) (found d v xs i e h)

-- what a dirty block gives is its newest value
dirty_found : (o : Option Value) (s : BlockState) (d : List ℕ) → newest s ≡ o → option_map_or (same_value (Data d)) o false ≡ true → among d s.newer ≡ true
dirty_found None s d e h = absurd (cc)
dirty_found (Some v) s d e h = found d v s.newer (length s.newer - 1) e h

-- what a block gives is among its values
pub given_found : (x : Bool) (s : BlockState) (d : List ℕ) → is_dirty s ≡ x → may_get s (Data d) ≡ true → among d (s.base ++ s.newer) ≡ true
given_found true s d e h =
    let is : may_get s (Data d) ≡ option_map_or (same_value (Data d)) (newest s) false =
    ap (λ (t : Bool). cond t (option_map_or (same_value (Data d)) (newest s) false) (among d s.base)) e in
    among_both d s.base s.newer ∙ or_right (among d s.base) (among d s.newer) (dirty_found (newest s) s d refl (sym is ∙ h))
given_found false s d e h =
    let is : may_get s (Data d) ≡ among d s.base =
    ap (λ (t : Bool). cond t (option_map_or (same_value (Data d)) (newest s) false) (among d s.base)) e in
    of_base s d (sym is ∙ h)

pub reads_give_hardened_or_newer : OfLegalHistories ReadsGiveHardenedOrNewer
reads_give_hardened_or_newer capacity waiting turns legal b get =
    let before : List Entry = get.before in
    let here : Entry = Get get.reader b (Data get.block) in
    let h = block_along capacity waiting turns b.0 (before ++ here ∷ get.behind) legal get.whole in
    let s : BlockState = fold (block_after b.0) (hardened_with zeros) before in
    let i : Within s (values_since_hardened b.0 before) =
    kept_along (block_after b.0) (block_allows b.0) (values_after b.0) (λ e. true) Within (keeps_within b.0) (hardened_with zeros) (zeros ∷ []) before
    (part_before b.0 (hardened_with zeros) before here get.behind h) (all_pass before) (hardened_within zeros (zeros ∷ []) (λ f k. k)) in
    i.each get.block (given_found (is_dirty s) s get.block refl (allowed_here b.0 _ (part_here b.0 (hardened_with zeros) before here get.behind h)))
