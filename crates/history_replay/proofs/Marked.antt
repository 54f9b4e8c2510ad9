-- The addresses of the dirty blocks are those that are kept.
use Rattle.std.proofs.Common.{◌≡◌, ◌∙◌, ap, sym, refl, ℕ, ◌+◌, ◌-◌, ◌<◌, Bool, true, false, cond, not, List, [], ◌∷◌, ◌++◌, length, length-append, inl, inr, arith}
use Rattle.std.specs.Prelude.{◌==◌, ◌||◌, slice_get, Option, Some, None}
use Rattle.std.specs.List.{list_any}
use Rattle.std.specs.Option.{option_map_or}
use Rattle.std.proofs.lemmas.Bool.Decides.{nat_tests}
use Rattle.std.proofs.lemmas.Option.{slice_get_cases}
use Rattle.disk_base.specs.declared.block.Value.{Value}
use Rattle.disk_base.specs.declared.block.Value.TheVariants.{Data, Lost}
use Rattle.block_machine.specs.declared.array.BlockState.{BlockState}
use Rattle.block_machine.specs.declared.entry.Entry.{Entry}
use Rattle.block_machine.specs.declared.entry.Entry.TheVariants.{Get, Put, Harden, GiveUp, Cut}
use Rattle.block_machine.specs.Blocks.{Blocks, after_cut, allowed, after_get, after_harden, after_put, blocks_after, dirty_after, hardened_with, is_dirty, newest, with_address, without_address}
use Rattle.history_replay.specs.Kept.{AreMarked}
use Rattle.history_replay.proofs.Numbers.{apart, equal, other, turned}

abbrev among : ℕ → List ℕ → Bool
among x xs = list_any (λ a. a == x) xs

or-false : (t : Bool) → (t || false) ≡ t
or-false true = refl
or-false false = refl

or-true : (t : Bool) → (t || true) ≡ true
or-true true = refl
or-true false = refl

among-push : (x b : ℕ) (xs : List ℕ) → among x (xs ++ b ∷ []) ≡ (among x xs || (b == x))
among-push x b [] = or-false (b == x)
among-push x b (a ∷ xs) =
    elim (a == x) as (λ v. (v || among x (xs ++ b ∷ [])) ≡ ((v || among x xs) || (b == x))) [ true ↦ refl | false ↦ among-push x b xs ]

added-step : (x b : ℕ) (xs : List ℕ) (t e : Bool) → among b xs ≡ t → (x == b) ≡ e → among x (cond t xs (xs ++ b ∷ [])) ≡ cond e true (among x xs)
added-step x b xs true true is same = ap (λ (k : ℕ). among k xs) (equal x b same) ∙ is
added-step x b xs true false is same = refl
added-step x b xs false true is same =
    among-push x b xs ∙ ap (λ (v : Bool). among x xs || v) (turned x b true same) ∙ or-true (among x xs)
added-step x b xs false false is same =
    among-push x b xs ∙ ap (λ (v : Bool). among x xs || v) (turned x b false same) ∙ or-false (among x xs)

-- with one more address
added : (x b : ℕ) (xs : List ℕ) → among x (with_address b xs) ≡ cond (x == b) true (among x xs)
added x b xs = added-step x b xs (among b xs) (x == b) refl refl

taken-step : (x b a : ℕ) (xs : List ℕ) (t e : Bool) → (a == b) ≡ t → (x == b) ≡ e
    → among x (without_address b xs) ≡ cond e false (among x xs)
    → among x (cond (not t) (a ∷ without_address b xs) (without_address b xs)) ≡ cond e false ((a == x) || among x xs)
taken-step x b a xs true true at same rest = rest
taken-step x b a xs true false at same rest = rest ∙ ap (λ (v : Bool). v || among x xs) (sym (apart a b x at same))
taken-step x b a xs false true at same rest =
    elim (a == x) as (λ v. (a == x) ≡ v → (v || among x (without_address b xs)) ≡ false) [
      | true ↦ λ here. let no : false ≡ true = sym (other a b x at here) ∙ same in absurd (cc)
      | false ↦ λ here. rest
    ] refl
taken-step x b a xs false false at same rest = ap (λ (v : Bool). (a == x) || v) rest

-- without one
taken : (x b : ℕ) (xs : List ℕ) → among x (without_address b xs) ≡ cond (x == b) false (among x xs)
taken x b [] = elim (x == b) as (λ v. false ≡ cond v false false) [ true ↦ refl | false ↦ refl ]
taken x b (a ∷ xs) = taken-step x b a xs (a == b) (x == b) refl refl (taken x b xs)

above : (n : ℕ) → 0 < n → not (n == 0) ≡ true
above n h = grind (arith, nat_tests)

none-long : (xs : List Value) → slice_get xs (length xs - 1) ≡ None → not (length xs == 0) ≡ false
none-long xs e = elim (slice_get_cases xs (length xs - 1)).1 [
  | inl w ↦ let no : Some w.0 ≡ None = sym w.2 ∙ e in absurd (cc)
  | inr w ↦ let none : length xs ≡ 0 = omega arith in ap (λ (n : ℕ). not (n == 0)) none
]

dirty-put : (s : BlockState) (v : Value) → is_dirty (after_put s v) ≡ true
dirty-put s v =
    let long : length (s.newer ++ v ∷ []) ≡ length s.newer + 1 = length-append s.newer (v ∷ []) in
    above (length (s.newer ++ v ∷ [])) (omega arith)

dirty-get : (s : BlockState) (v : Value) → is_dirty (after_get s v) ≡ is_dirty s
dirty-get s Lost = refl
dirty-get s (Data d) = elim (is_dirty s) as (λ t. is_dirty s ≡ t → is_dirty (cond t s (hardened_with (Data d))) ≡ t) [ true ↦ λ e. e | false ↦ λ e. refl ] refl

newest-none : (s : BlockState) → newest s ≡ None → is_dirty s ≡ false
newest-none s e = none-long s.newer e

harden-step : (o : Option Value) (s : BlockState) → newest s ≡ o → is_dirty (option_map_or hardened_with o s) ≡ false
harden-step (Some v) s e = refl
harden-step None s e = newest-none s e

dirty-harden : (s : BlockState) → is_dirty (after_harden s) ≡ false
dirty-harden s = harden-step (newest s) s refl

dirty-cut : (s : BlockState) → is_dirty (after_cut s) ≡ false
dirty-cut s = elim (is_dirty s) as (λ t. is_dirty s ≡ t → is_dirty (cond t (record { base = allowed s; newer = [] }) s) ≡ false) [
  | true ↦ λ e. refl
  | false ↦ λ e. e
] refl

choice : (t : Bool) (u v : BlockState) (x y : Bool) → is_dirty u ≡ x → is_dirty v ≡ y → is_dirty (cond t u v) ≡ cond t x y
choice true u v x y e f = e
choice false u v x y e f = f

same-choice : (t a : Bool) → cond t a a ≡ a
same-choice true a = refl
same-choice false a = refl

get-choice : (t : Bool) (b x : ℕ) (blocks : Blocks) (v : Value) → (x == b) ≡ t → is_dirty (cond t (after_get (blocks b) v) (blocks x)) ≡ is_dirty (blocks x)
get-choice true b x blocks v e = dirty-get (blocks b) v ∙ ap (λ (k : ℕ). is_dirty (blocks k)) (sym (equal x b e))
get-choice false b x blocks v e = refl

-- they are after an entry
pub marked_after : (blocks : Blocks) (dirty : List ℕ) (e : Entry) → AreMarked blocks dirty → AreMarked (blocks_after blocks e) (dirty_after dirty e)
marked_after blocks dirty (Get c b v) marked = λ x. get-choice (x == b.0) b.0 x blocks v refl ∙ marked x
marked_after blocks dirty (Put c b v) marked = λ x.
    choice (x == b.0) (after_put (blocks b.0) (Data v)) (blocks x) true _ (dirty-put (blocks b.0) (Data v)) (marked x) ∙ sym (added x b.0 dirty)
marked_after blocks dirty (GiveUp b) marked = λ x.
    choice (x == b.0) (after_put (blocks b.0) Lost) (blocks x) true _ (dirty-put (blocks b.0) Lost) (marked x) ∙ sym (added x b.0 dirty)
marked_after blocks dirty (Harden who b) marked = λ x.
    choice (x == b.0) (after_harden (blocks b.0)) (blocks x) false _ (dirty-harden (blocks b.0)) (marked x) ∙ sym (taken x b.0 dirty)
marked_after blocks dirty Cut marked = λ x. dirty-cut (blocks x)
marked_after blocks dirty rest marked = marked
