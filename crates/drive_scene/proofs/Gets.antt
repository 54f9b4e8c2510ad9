-- What a get leaves of a block, and which gets the blocks allow.
use Rattle.std.proofs.Common.{◌≡◌, ℕ, ◌<◌, ◌-◌, Bool, true, false, not, cond, eqb, List, [], ◌∷◌, ◌++◌, length, Option, Some, None, refl, sym, ap, ◌∙◌, subst, arith}
use Rattle.std.specs.Prelude.{slice_get}
use Rattle.std.specs.List.{list_any}
use Rattle.std.specs.Option.{option_map_or}
use Rattle.std.specs.Str.{bytes_eq}
use Rattle.std.proofs.lemmas.Bool.{ne_eqb, or_left, true≢false}
use Rattle.std.proofs.lemmas.Slice.Eq.{bytes_eq-Decides}
use Rattle.std.proofs.lemmas.Option.{slice_get-get_or}
use Rattle.disk_base.specs.declared.block.Value.{Value}
use Rattle.disk_base.specs.declared.block.Value.TheVariants.{Data, Lost}
use Rattle.block_machine.specs.declared.array.BlockState.{BlockState}
use Rattle.block_machine.specs.Blocks.{is_dirty, newest, allowed, may_get, after_get, same_value, hardened_with}

-- bytes are the same as themselves
pub bytes_eq-own : (xs : List ℕ) → bytes_eq xs xs ≡ true
bytes_eq-own xs = (bytes_eq-Decides xs xs).1 refl

pub same_value-own : (v : Value) → same_value v v ≡ true
same_value-own (Data bytes) = bytes_eq-own bytes
same_value-own Lost = refl

-- a block without a newest value isn't dirty
dirty_by : (newer : List Value) → slice_get newer (length newer - 1) ≡ None → not (eqb (length newer) 0) ≡ false
dirty_by [] none = refl
dirty_by (x ∷ xs) none = absurd (there (x ∷ xs) (length (x ∷ xs) - 1) (omega arith) none)
  where
    there : (ys : List Value) (k : ℕ) → k < length ys → slice_get ys k ≡ None → ⊥
    there ys k below none = let is = slice_get-get_or ys k Lost below in cc

pub undirty_by_newest : (s : BlockState) → newest s ≡ None → is_dirty s ≡ false
undirty_by_newest s none = dirty_by s.newer none

dirty_with : (newer : List Value) (v : Value) → slice_get newer (length newer - 1) ≡ Some v → not (eqb (length newer) 0) ≡ true
dirty_with [] v some = absurd (cc)
dirty_with (x ∷ xs) v some = ap not (ne_eqb (length (x ∷ xs)) 0 (λ none. absurd (omega arith)))

pub dirty_by_newest : (s : BlockState) (v : Value) → newest s ≡ Some v → is_dirty s ≡ true
dirty_by_newest s v some = dirty_with s.newer v some

newest_none : (newer : List Value) → not (eqb (length newer) 0) ≡ false → slice_get newer (length newer - 1) ≡ None
newest_none [] is = refl
newest_none (x ∷ xs) is = absurd (true≢false (sym (ap not (ne_eqb (length (x ∷ xs)) 0 (λ none. absurd (omega arith)))) ∙ is))

pub newest_undirty : (s : BlockState) → is_dirty s ≡ false → newest s ≡ None
newest_undirty s is = newest_none s.newer is

-- a get leaves a block dirty where it was, with its newest value
pub is_dirty-after_get : (s : BlockState) (v : Value) → is_dirty (after_get s v) ≡ is_dirty s
is_dirty-after_get s (Data bytes) = by (is_dirty s) refl
  where
    by : (b : Bool) → is_dirty s ≡ b → is_dirty (cond b s (hardened_with (Data bytes))) ≡ is_dirty s
    by true is = refl
    by false is = sym is
is_dirty-after_get s Lost = refl

pub newest-after_get : (s : BlockState) (v : Value) → newest (after_get s v) ≡ newest s
newest-after_get s (Data bytes) = by (is_dirty s) refl
  where
    by : (b : Bool) → is_dirty s ≡ b → newest (cond b s (hardened_with (Data bytes))) ≡ newest s
    by true is = refl
    by false is = sym (newest_undirty s is)
newest-after_get s Lost = refl

-- the newest value may be got of a dirty block
pub may_get-newest : (s : BlockState) (bytes : List ℕ) → newest s ≡ Some (Data bytes) → may_get s (Data bytes) ≡ true
may_get-newest s bytes is =
    ap (λ (b : Bool). cond b (option_map_or (same_value (Data bytes)) (newest s) false) (list_any (same_value (Data bytes)) s.base)) (dirty_by_newest s (Data bytes) is)
    ∙ (ap (λ (o : Option Value). option_map_or (same_value (Data bytes)) o false) is ∙ bytes_eq-own bytes)

-- a value that a block is allowed may be got of it where it isn't dirty
pub may_get-allowed : (s : BlockState) (v : Value) → is_dirty s ≡ false → list_any (same_value v) (allowed s) ≡ true → may_get s v ≡ true
may_get-allowed s (Data bytes) undirty is =
    ap (λ (b : Bool). cond b (option_map_or (same_value (Data bytes)) (newest s) false) (list_any (same_value (Data bytes)) s.base)) undirty
    ∙ (sym (ap (λ (b : Bool). list_any (same_value (Data bytes)) (cond b (s.base ++ s.newer ++ Lost ∷ []) s.base)) undirty) ∙ is)
may_get-allowed s Lost undirty is = ap not undirty

-- a block that can't be read may be got as lost where it isn't dirty
pub may_get-lost : (s : BlockState) → is_dirty s ≡ false → may_get s Lost ≡ true
may_get-lost s undirty = ap not undirty

-- what is stored stays allowed where it is what is got, or nothing is
pub allowed-after_get : (s : BlockState) (v stored : Value) → ((bytes : List ℕ) → v ≡ Data bytes → is_dirty s ≡ false → v ≡ stored) → list_any (same_value stored) (allowed s) ≡ true
    → list_any (same_value stored) (allowed (after_get s v)) ≡ true
allowed-after_get s (Data bytes) stored is before = by (is_dirty s) refl
  where
    by : (b : Bool) → is_dirty s ≡ b → list_any (same_value stored) (allowed (cond b s (hardened_with (Data bytes)))) ≡ true
    by true dirty = before
    by false undirty = subst (λ (x : Value). list_any (same_value x) (Data bytes ∷ []) ≡ true) (is bytes refl undirty) (or_left (bytes_eq bytes bytes) false (bytes_eq-own bytes))
allowed-after_get s Lost stored is before = before
