-- What one of several queues is, and the others, where one of them changed.
use Rattle.std.proofs.Common.{◌≡◌, ◌∙◌, ap, sym, refl, ℕ, ◌+◌, ◌<◌, ◌≤◌, ◌⊎◌, inl, inr, zero, suc, Bool, false, List, [], ◌∷◌, ◌++◌, map, length, get_or, arith, not, Option, Some, None, option_to_list, replicate, take, drop, ◌-◌, append_assoc}
use Rattle.std.specs.Prelude.{slice_set, ◌==◌, MatchOption}
use Rattle.std.proofs.lemmas.List.{get_or-set_same, get_or-set_other, map-set, length-map, length-take-le, take_more, map-append, set_at, take_all, append-nil}
use Rattle.std.proofs.lemmas.Bool.{cases_eq}
use Rattle.std.proofs.lemmas.Bool.Decides.{nat_tests}
use Rattle.disk_base.specs.At.{put_at}
use Rattle.block_machine.specs.Attentions.{initiators}
use Rattle.drive_scene.specs.declared.event.Arrival.{Arrival as Sent}
use Rattle.script_runner.specs.Arrivals.{sends_of, Taken}

pub put_same : {V : Type 0} (k n : ℕ) (v : V) (f : ℕ → V) → n ≡ k → put_at k v f n ≡ v
put_same k n v f e = grind (arith, nat_tests)

pub put_other : {V : Type 0} (k n : ℕ) (v : V) (f : ℕ → V) → (n ≡ k → ⊥) → put_at k v f n ≡ f n
put_other k n v f e = grind (arith, nat_tests)

module _ {A : Type 0} (d : A) where
  -- an item of a list is another one, and the others are as they were
  at_place : (xs : List A) (k : ℕ) (x : A) (j : ℕ) → k < length xs → (j ≡ k) ⊎ (j ≡ k → ⊥) → get_or (slice_set xs k x) j d ≡ put_at k x (λ (n : ℕ). get_or xs n d) j
  at_place xs k x j lt (inl e) = (rw e (get_or-set_same xs k x d lt)) ∙ sym (put_same k j x (λ (n : ℕ). get_or xs n d) e)
  at_place xs k x j lt (inr ne) = get_or-set_other xs k j x d ne ∙ sym (put_other k j x (λ (n : ℕ). get_or xs n d) ne)

  -- the same behind one more item in front
  behind : (xs : List A) (k : ℕ) (x : A) (j n : ℕ) → k + 1 ≡ n → (j ≡ k) ⊎ (j ≡ k → ⊥)
      → put_at k x (λ (m : ℕ). get_or xs m d) j ≡ put_at n x (λ (m : ℕ). get_or (d ∷ xs) m d) (suc j)
  behind xs k x j n e (inl h) = put_same k j x (λ (m : ℕ). get_or xs m d) h ∙ sym (put_same n (suc j) x (λ (m : ℕ). get_or (d ∷ xs) m d) (omega arith))
  behind xs k x j n e (inr ne) = put_other k j x (λ (m : ℕ). get_or xs m d) ne ∙ sym (put_other n (suc j) x (λ (m : ℕ). get_or (d ∷ xs) m d) (λ h. ne (omega arith)))

  pub behind_first : (xs : List A) (k : ℕ) (x : A) (i n : ℕ) → k < length xs → k + 1 ≡ n → get_or (d ∷ slice_set xs k x) i d ≡ put_at n x (λ (m : ℕ). get_or (d ∷ xs) m d) i
  behind_first xs k x zero n lt e = sym (put_other n zero x (λ (m : ℕ). get_or (d ∷ xs) m d) (λ h. omega arith))
  behind_first xs k x (suc j) n lt e = at_place xs k x j lt (cases_eq j k) ∙ behind xs k x j n e (cases_eq j k)

-- one of several queues has other items
pub one_changed : {V A : Type 0} (f : V → List A) (qs : List V) (k : ℕ) (w : V) (xs : List A) (i n : ℕ) → k < length qs → k + 1 ≡ n → f w ≡ xs
    → get_or ([] ∷ map f (slice_set qs k w)) i [] ≡ put_at n xs (λ (m : ℕ). get_or ([] ∷ map f qs) m []) i
one_changed f qs k w xs i n lt e is =
    rw (map-set, is) (behind_first [] (map f qs) k xs i n (rw (length-map qs f) lt) e)

-- the items of one of them
pub one_of : {V A : Type 0} (f : V → List A) (qs : List V) (k : ℕ) (v : V) (n : ℕ) → k < length qs → k + 1 ≡ n → v ≡ get_or qs k v
    → get_or ([] ∷ map f qs) n [] ≡ f v
one_of f [] k v n lt e is = absurd (omega arith)
one_of f (q ∷ qs) zero v n lt e is = rw ((sym e), is) refl
one_of f (q ∷ qs) (suc k) v n lt e is = let at : n ≡ suc (suc k) = omega arith in rw at (one_of f qs k v (suc k) (omega arith) (omega arith) is)

-- none has other items
pub unchanged : {V A : Type 0} (f : V → List A) (qs : List V) (k : ℕ) (v w : V) → k < length qs → v ≡ get_or qs k v → f w ≡ f v → map f (slice_set qs k w) ≡ map f qs
unchanged f [] k v w lt is e = refl
unchanged f (q ∷ qs) zero v w lt is e = ap (λ x. x ∷ map f qs) (e ∙ ap f is)
unchanged f (q ∷ qs) (suc k) v w lt is e = ap (λ xs. f q ∷ xs) (unchanged f qs k v w (omega arith) is e)

shorter : {A : Type 0} (xs : List A) → xs ≡ drop 1 xs → xs ≡ []
shorter [] e = refl
shorter (x ∷ xs) e = absurd (omega (arith, ap length e))

-- the first item of one of several queues is taken
pub taken : {V : Type 0} (f : V → List Sent) (qs : List V) (k : ℕ) (v w : V) (i : ℕ) (o : Option Sent) → k < length qs → k + 1 ≡ i → v ≡ get_or qs k v
    → f v ≡ option_to_list o ++ f w → f w ≡ drop 1 (f v)
    → MatchOption o (sends_of (map f qs) i ≡ []) (Taken (map f qs) (map f (slice_set qs k w)) i)
taken f qs k v w i None lt at is items rest = one_of f qs k v i lt at is ∙ shorter (f v) (items ∙ rest)
taken f qs k v w i (Some a) lt at is items rest = record {
  rest = f w;
  first = one_of f qs k v i lt at is ∙ items;
  left = λ j. one_changed f qs k w (f w) j i lt at refl;
}

-- of eight queues, which have something in them
pub eight : {A : Type 0} (xs : List (List A)) → length xs ≡ 8
    → map (λ q. not (length q == 0)) xs ≡ map (λ i. not (length (get_or ([] ∷ xs) i []) == 0)) initiators
eight (a ∷ b ∷ c ∷ d ∷ e ∷ f ∷ g ∷ h ∷ []) l = refl
eight xs l = absurd (omega arith)

-- one more of eight flags is set
pub one_more : {V : Type 0} (g : V → Bool) (qs : List V) (p : ℕ) (q : V) → p < length qs → length qs ≡ 8 → q ≡ get_or qs p q
    → slice_set (map g (take p qs) ++ replicate (8 - p) false) p (g q) ≡ map g (take (p + 1) qs) ++ replicate (8 - (p + 1)) false
one_more g qs p q lt l is =
    let m = 8 - (p + 1) in
    let front = map g (take p qs) in
    let more : 8 - p ≡ suc m = omega arith in
    let len : length front ≡ p = length-map (take p qs) g ∙ length-take-le p qs (omega arith) in
    let last : map g (take (p + 1) qs) ≡ front ++ g q ∷ [] =
    ap (map g) (take_more qs p q lt) ∙ map-append g (take p qs) (get_or qs p q ∷ []) ∙ ap (λ x. front ++ g x ∷ []) (sym is) in
    rw (more, last) (set_at front false (replicate m false) (g q) p len ∙ sym (append_assoc front (g q ∷ []) (replicate m false)))

map_twice : {A B C : Type 0} (f : A → B) (g : B → C) (xs : List A) → map (λ x. g (f x)) xs ≡ map g (map f xs)
map_twice f g [] = refl
map_twice f g (x ∷ xs) = ap (λ ys. g (f x) ∷ ys) (map_twice f g xs)

-- all of eight flags are set
pub all_set : {V A : Type 0} (f : V → List A) (qs : List V) (p : ℕ) → length qs ≤ p → length qs ≡ 8
    → map (λ q. not (length (f q) == 0)) (take p qs) ++ replicate (8 - p) false ≡ map (λ i. not (length (get_or ([] ∷ map f qs) i []) == 0)) initiators
all_set f qs p le l =
    let none : 8 - p ≡ 0 = omega arith in
    let all : take p qs ≡ qs = take_all p qs le in
    rw (none, all, append-nil) (map_twice f (λ xs. not (length xs == 0)) qs ∙ eight (map f qs) (length-map qs f ∙ l))
