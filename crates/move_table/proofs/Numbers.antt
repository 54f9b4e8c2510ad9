-- Moves in flight by their numbers, which ascend.
use Rattle.std.proofs.Common.{◌≡◌, ℕ, ◌+◌, zero, suc, ◌<◌, ◌≤◌, Bool, true, false, not, cond, List, [], ◌∷◌, ◌++◌, length, Option, Some, None, refl, sym, ap, ◌∙◌, eqb, ltb, subst, set, get_or, take, drop, arith}
use Rattle.std.specs.Prelude.{All, AllPairs, filter, position, slice_get, IsTrue, IsSomeAnd}
use Rattle.std.specs.List.{position_or_len}
use Rattle.std.specs.Option.{option_map, is_some}
use Rattle.std.proofs.lemmas.Bool.{eq-eqb, ne_eqb, eqb-true, ltb-false}
use Rattle.std.proofs.lemmas.Option.{slice_get_past}
use Rattle.std.proofs.lemmas.List.Elements.{All-filter}
use Rattle.std.proofs.lemmas.List.Folds.{find_at}
use Rattle.std.proofs.lemmas.List.Kept.{AllPairs-filter}
use Rattle.std.proofs.lemmas.List.{length-append, length-map}
use Rattle.std.proofs.lemmas.List.Quantifiers.{position-Some}
use Rattle.disk_base.specs.declared.address.Psn.{Psn}
use Rattle.geometry_map.specs.declared.pair.Pair.{Pair}
use Rattle.move_jobs.specs.Job.{Job, fits, result_of}
use Rattle.move_jobs.specs.declared.step.JobResult.{JobResult}
use Rattle.move_jobs.specs.declared.answer.JobAnswer.{JobAnswer}
use Rattle.move_table.specs.declared.flight.Flight.{Flight}
use Rattle.move_table.specs.Table.{IsTable, is_numbered, job_in, with_job, without_job, moves_after, spares_of, taken}

-- one move has a lower number than another
abbrev pub IsEarlier : Flight → Flight → Type 0
IsEarlier f g = f.j < g.j

-- the first has a lower number than all behind it, and these ascend
pub later : (x : Flight) (xs : List Flight) → AllPairs IsEarlier (x ∷ xs) → All (IsEarlier x) xs
later x xs pairs k d within = pairs zero (suc k) d (omega arith) (omega arith)

pub behind : (x : Flight) (xs : List Flight) → AllPairs IsEarlier (x ∷ xs) → AllPairs IsEarlier xs
behind x xs pairs i j d before within = pairs (suc i) (suc j) d (omega arith) (omega arith)

-- each is the one of its number
pub told : (xs : List Flight) (k : ℕ) (d : Flight) → AllPairs IsEarlier xs → k < length xs → job_in xs (get_or xs k d).j ≡ Some (get_or xs k d).job
told [] k d pairs within = absurd (omega arith)
told (x ∷ xs) zero d pairs within = rw (eq-eqb x.j x.j refl) refl
told (x ∷ xs) (suc k) d pairs within =
    let before : x.j < (get_or xs k d).j = later x xs pairs k d (omega arith) in
    rw (ne_eqb x.j (get_or xs k d).j (λ e. absurd (omega (arith, e)))) (told xs k d (behind x xs pairs) (omega arith))

-- those with higher numbers stay as they are, and stay
with-none : (j : ℕ) (y : Job) (xs : List Flight) → All (λ f. j < f.j) xs → with_job j y xs ≡ xs
with-none j y [] above = refl
with-none j y (x ∷ xs) above =
    let before : j < x.j = above zero x (omega arith) in
    rw (ne_eqb x.j j (λ e. absurd (omega (arith, e)))) (ap (λ (ys : List Flight). x ∷ ys) (with-none j y xs (λ k d within. above (suc k) d (omega arith))))

without-none : (j : ℕ) (xs : List Flight) → All (λ f. j < f.j) xs → without_job j xs ≡ xs
without-none j [] above = refl
without-none j (x ∷ xs) above =
    let before : j < x.j = above zero x (omega arith) in
    rw (ne_eqb x.j j (λ e. absurd (omega (arith, e)))) (ap (λ (ys : List Flight). x ∷ ys) (without-none j xs (λ k d within. above (suc k) d (omega arith))))

-- the one at a place stands elsewhere
pub set-with : (j : ℕ) (y : Job) (xs : List Flight) (i : ℕ) (d : Flight) → AllPairs IsEarlier xs → i < length xs → (get_or xs i d).j ≡ j
    → set xs i (record { j = (get_or xs i d).j; job = y }) ≡ with_job j y xs
set-with j y [] i d pairs within is = absurd (omega arith)
set-with j y (x ∷ xs) zero d pairs within is =
    rw (eq-eqb x.j j is) (ap (λ (ys : List Flight). record x { job = y } ∷ ys)
    (sym (with-none j y xs (λ k e below. let before : x.j < (get_or xs k e).j = later x xs pairs k e below in omega (arith, is)))))
set-with j y (x ∷ xs) (suc i) d pairs within is =
    let before : x.j < (get_or xs i d).j = later x xs pairs i d (omega arith) in
    rw (ne_eqb x.j j (λ e. absurd (omega (arith, e, is)))) (ap (λ (ys : List Flight). x ∷ ys) (set-with j y xs i d (behind x xs pairs) (omega arith) is))

-- the one at a place leaves
pub removed : (j : ℕ) (y : Flight) (xs : List Flight) (i : ℕ) (d : Flight) → AllPairs IsEarlier xs → i < length xs → (get_or xs i d).j ≡ j
    → take i (set xs i y) ++ drop (suc i) (set xs i y) ≡ without_job j xs
removed j y [] i d pairs within is = absurd (omega arith)
removed j y (x ∷ xs) zero d pairs within is =
    rw (eq-eqb x.j j is) (sym (without-none j xs (λ k e below. let before : x.j < (get_or xs k e).j = later x xs pairs k e below in omega (arith, is))))
removed j y (x ∷ xs) (suc i) d pairs within is =
    let before : x.j < (get_or xs i d).j = later x xs pairs i d (omega arith) in
    rw (ne_eqb x.j j (λ e. absurd (omega (arith, e, is)))) (ap (λ (ys : List Flight). x ∷ ys) (removed j y xs i d (behind x xs pairs) (omega arith) is))

-- the one that the first place of a number gives
pub numbered : (xs : List Flight) (j i : ℕ) (d : Flight) → position (is_numbered j) xs ≡ Some i → (i < length xs) × ((get_or xs i d).j ≡ j)
numbered xs j i d at =
    let place = position-Some (is_numbered j) xs i d at in
    (place.0, eqb-true (get_or xs i d).j j place.1)

pub there : (xs : List Flight) (j i : ℕ) (d : Flight) → AllPairs IsEarlier xs → position (is_numbered j) xs ≡ Some i → job_in xs j ≡ Some (get_or xs i d).job
there xs j i d pairs at =
    let place = numbered xs j i d at in
    subst (λ (n : ℕ). job_in xs n ≡ Some (get_or xs i d).job) place.1 (told xs i d pairs place.0)

-- none of a number is there where it has no place
pub nowhere : (xs : List Flight) (j : ℕ) → position (is_numbered j) xs ≡ None → job_in xs j ≡ None
nowhere xs j at =
    let p : Flight → Bool = is_numbered j in
    ap (λ (o : Option Flight). option_map (λ f. f.job) o)
    (find_at p xs ∙ by (ltb (position_or_len p xs) (length xs)) (ltb-false (position_or_len p xs) (length xs)) at)
  where
    by : (b : Bool) → (b ≡ false → length xs ≤ position_or_len (is_numbered j) xs) → cond b (Some (position_or_len (is_numbered j) xs)) None ≡ None
        → slice_get xs (position_or_len (is_numbered j) xs) ≡ None
    by true far e = absurd (cc)
    by false far e = slice_get_past xs (position_or_len (is_numbered j) xs) (far refl)

-- a place, by what the call that looks for it says
pub placed : (xs ys : List Flight) (j : ℕ) (r o : Option ℕ) → ys ≡ xs → r ≡ position (is_numbered j) ys → r ≡ o → position (is_numbered j) xs ≡ o
placed xs ys j r o same is at = ap (λ (zs : List Flight). position (is_numbered j) zs) (sym same) ∙ (sym is ∙ at)

-- an answer that fits is to a move that is in flight
pub fits-there : (o : Option Job) (job : Job) (answer : JobAnswer) → o ≡ Some job → IsSomeAnd o (λ x. IsTrue (fits x answer)) → IsTrue (fits job answer)
fits-there None job answer is fit = absurd fit
fits-there (Some x) job answer is fit = let same : x ≡ job = cc in subst (λ (u : Job). IsTrue (fits u answer)) same fit

pub fits-nowhere : (o : Option Job) (answer : JobAnswer) → o ≡ None → IsSomeAnd o (λ x. IsTrue (fits x answer)) → ⊥
fits-nowhere None answer is fit = fit
fits-nowhere (Some x) answer is fit = cc

-- the spares of the moves before a place and of the one there are some of all
pub taken-before : (xs : List Flight) (i : ℕ) (d : Flight) → i < length xs → length (taken (take i xs)) + length (get_or xs i d).job.chain ≤ length (taken xs)
taken-before [] i d within = absurd (omega arith)
taken-before (x ∷ xs) zero d within =
    omega (arith, length-append (spares_of x) (taken xs), length-map x.job.chain (λ (pair : Pair). pair.new))
taken-before (x ∷ xs) (suc i) d within =
    omega (arith, taken-before xs i d (omega arith), length-append (spares_of x) (taken xs), length-append (spares_of x) (taken (take i xs)))

-- the move at the place of a number is the one in flight
pub same_job : (xs : List Flight) (j i : ℕ) (f : Flight) (job : Job) → AllPairs IsEarlier xs → position (is_numbered j) xs ≡ Some i → f ≡ get_or xs i f
    → job_in xs j ≡ Some job → f.job ≡ job
same_job xs j i f job pairs at is in_flight =
    let found : job_in xs j ≡ Some (get_or xs i f).job = there xs j i f pairs at in
    let here : f.job ≡ (get_or xs i f).job = ap (λ (x : Flight). x.job) is in
    cc

-- it goes on, or leaves
pub goes_on : (xs : List Flight) (j i : ℕ) (f : Flight) (y : Job) → AllPairs IsEarlier xs → position (is_numbered j) xs ≡ Some i → f ≡ get_or xs i f
    → result_of y ≡ None → set xs i (record { j = f.j; job = y }) ≡ moves_after j y xs
goes_on xs j i f y pairs at is none =
    let place = numbered xs j i f at in
    rw none (ap (λ (n : ℕ). set xs i (record { j = n; job = y })) (ap (λ (x : Flight). x.j) is) ∙ set-with j y xs i f pairs place.0 place.1)

pub leaves : (xs : List Flight) (j i : ℕ) (f : Flight) (y : Job) (z : Flight) (end : JobResult) → AllPairs IsEarlier xs → position (is_numbered j) xs ≡ Some i
    → result_of y ≡ Some end → take i (set xs i z) ++ drop (suc i) (set xs i z) ≡ moves_after j y xs
leaves xs j i f y z end pairs at some =
    let place = numbered xs j i f at in
    rw some (removed j z xs i f pairs place.0 place.1)

-- a table without a move is one
pub table-without : (opened : ℕ) (xs : List Flight) (j : ℕ) → IsTable opened xs → IsTable opened (without_job j xs)
table-without opened xs j is = record {
  ascend = AllPairs-filter IsEarlier (λ f. not (eqb f.j j)) xs is.ascend;
  numbered = All-filter (λ f. not (eqb f.j j)) (λ f. f.j ≤ opened) xs is.numbered;
  underway = All-filter (λ f. not (eqb f.j j)) (λ f. result_of f.job ≡ None) xs is.underway;
}

-- what a test of an end tells
pub some_where : (o : Option JobResult) → is_some o ≡ true → (end : JobResult) × (o ≡ Some end)
some_where None is = absurd (cc)
some_where (Some end) is = (end, refl)

pub none_where : (o : Option JobResult) → is_some o ≡ false → o ≡ None
none_where None is = refl
none_where (Some end) is = absurd (cc)

-- so the spares of the next one have room where all have
pub next-has_room : (all xs : List Flight) (spares : List Psn) (i : ℕ) (f : Flight) (most : ℕ) → xs ≡ all → spares ≡ taken (take i all) → i < length xs
    → f ≡ get_or xs i f → length (taken all) ≤ most → length spares + length f.job.chain ≤ most
next-has_room all xs spares i f most same before within here few =
    let below : i < length all = subst (λ (ys : List Flight). i < length ys) same within in
    let at : f ≡ get_or all i f = here ∙ ap (λ (ys : List Flight). get_or ys i f) same in
    let one : length f.job.chain ≡ length (get_or all i f).job.chain = ap (λ (x : Flight). length x.job.chain) at in
    omega (arith, taken-before all i f below, ap (length {A = Psn}) before, one)
