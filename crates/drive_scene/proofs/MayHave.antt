-- What a block may have after a put, a harden and a cut.
use Rattle.std.proofs.Common.{◌≡◌, ◌∙◌, ap, sym, refl, subst, ℕ, zero, suc, ◌-◌, Bool, true, false, cond, List, [], ◌∷◌, ◌++◌, length, arith, length-append, Some}
use Rattle.std.specs.Prelude.{◌||◌, slice_get}
use Rattle.std.specs.List.{list_any}
use Rattle.std.proofs.lemmas.List.Folds.{list_any-append}
use Rattle.platter_model.proofs.Lists.{slice_get-last}
use Rattle.disk_base.specs.declared.block.Value.{Value}
use Rattle.disk_base.specs.declared.block.Value.TheVariants.{Lost}
use Rattle.block_machine.specs.declared.array.BlockState.{BlockState}
use Rattle.block_machine.specs.Blocks.{is_dirty, newest, allowed, same_value, after_put, after_harden, after_cut}
use Rattle.drive_scene.proofs.Gets.{same_value-own}
use Rattle.drive_scene.proofs.HardenTurns.{dirty-newest, hardened-newest}

-- the history allows a block of this state this value
abbrev pub May : BlockState → Value → Type 0
May st v = list_any (same_value v) (allowed st) ≡ true

-- what was put is the newest
pub newest-put : (st : BlockState) (v : Value) → newest (after_put st v) ≡ Some v
newest-put st v =
    let last : length (st.newer ++ v ∷ []) - 1 ≡ length st.newer = omega (arith, length-append st.newer (v ∷ [])) in
    ap (slice_get (st.newer ++ v ∷ [])) last ∙ slice_get-last st.newer v

pub dirty-put : (st : BlockState) (v : Value) → is_dirty (after_put st v) ≡ true
dirty-put st v = dirty-newest (after_put st v) v (newest-put st v)

-- once hardened, a block has its newest value
pub may-hardened : (st : BlockState) (v : Value) → newest st ≡ Some v → May (after_harden st) v
may-hardened st v is = ap (λ (h : BlockState). list_any (same_value v) (allowed h)) (hardened-newest st v is) ∙ ap (λ (t : Bool). t || false) (same_value-own v)

-- a value at a place of a list is among its values
among : (xs : List Value) (k : ℕ) (v : Value) → slice_get xs k ≡ Some v → list_any (same_value v) xs ≡ true
among [] k v is = absurd (cc)
among (x ∷ xs) zero v is =
    let same : x ≡ v = cc in
    subst (λ (y : Value). (same_value v y || list_any (same_value v) xs) ≡ true) (sym same) (ap (λ (t : Bool). t || list_any (same_value v) xs) (same_value-own v))
among (x ∷ xs) (suc k) v is = either_right (same_value v x) (list_any (same_value v) xs) (among xs k v is)
  where
    either_right : (a b : Bool) → b ≡ true → (a || b) ≡ true
    either_right true b is = refl
    either_right false b is = is

-- the values of a dirty block: those of the medium, the newer ones, and that it is lost
of_dirty : (p : Value → Bool) (base newer : List Value)
    → list_any p (base ++ newer ++ Lost ∷ []) ≡ ((list_any p base || list_any p newer) || list_any p (Lost ∷ []))
of_dirty p base newer = list_any-append p (base ++ newer) (Lost ∷ []) ∙ ap (λ (t : Bool). t || list_any p (Lost ∷ [])) (list_any-append p base newer)

wider : (a b l : Bool) → b ≡ true → ((a || b) || l) ≡ true
wider true b l is = refl
wider false true l is = refl
wider false false l is = absurd (cc)

-- its newest value is allowed to a dirty block
pub may-newest : (st : BlockState) (v : Value) → newest st ≡ Some v → May st v
may-newest st v is =
    let p : Value → Bool = same_value v in
    ap (λ (t : Bool). list_any p (cond t (st.base ++ st.newer ++ Lost ∷ []) st.base)) (dirty-newest st v is)
    ∙ (of_dirty p st.base st.newer ∙ wider (list_any p st.base) (list_any p st.newer) (list_any p (Lost ∷ [])) (among st.newer (length st.newer - 1) v is))

-- a cut takes nothing from what a block may have
pub may-cut : (st : BlockState) (v : Value) → May st v → May (after_cut st) v
may-cut st v is = by (is_dirty st) refl
  where
    by : (t : Bool) → is_dirty st ≡ t → list_any (same_value v) (allowed (cond t (record { base = allowed st; newer = [] }) st)) ≡ true
    by true dirty = is
    by false clean = is

put_wider : (a b d l : Bool) → ((a || b) || l) ≡ true → ((a || (b || d)) || l) ≡ true
put_wider true b d l is = refl
put_wider false true d l is = refl
put_wider false false true l is = refl
put_wider false false false l is = is

first_alone : (a r l : Bool) → a ≡ true → ((a || r) || l) ≡ true
first_alone true r l is = refl
first_alone false r l is = absurd (cc)

-- nor does a put
pub may-put : (st : BlockState) (u v : Value) → May st v → May (after_put st u) v
may-put st u v is =
    let p : Value → Bool = same_value v in
    let all : list_any p (st.base ++ (st.newer ++ u ∷ []) ++ Lost ∷ []) ≡ ((list_any p st.base || (list_any p st.newer || list_any p (u ∷ []))) || list_any p (Lost ∷ [])) =
    of_dirty p st.base (st.newer ++ u ∷ [])
    ∙ ap (λ (t : Bool). (list_any p st.base || t) || list_any p (Lost ∷ [])) (list_any-append p st.newer (u ∷ [])) in
    ap (λ (t : Bool). list_any p (cond t (st.base ++ (st.newer ++ u ∷ []) ++ Lost ∷ []) st.base)) (dirty-put st u) ∙ (all ∙ by (is_dirty st) is)
  where
    by : (t : Bool) → list_any (same_value v) (cond t (st.base ++ st.newer ++ Lost ∷ []) st.base) ≡ true
        → ((list_any (same_value v) st.base || (list_any (same_value v) st.newer || list_any (same_value v) (u ∷ []))) || list_any (same_value v) (Lost ∷ [])) ≡ true
    by true is =
        put_wider (list_any (same_value v) st.base) (list_any (same_value v) st.newer) (list_any (same_value v) (u ∷ [])) (list_any (same_value v) (Lost ∷ []))
        (sym (of_dirty (same_value v) st.base st.newer) ∙ is)
    by false is = first_alone (list_any (same_value v) st.base) (list_any (same_value v) st.newer || list_any (same_value v) (u ∷ [])) (list_any (same_value v) (Lost ∷ [])) is
