-- Lists of moves in flight: the one of a number, where it goes on or leaves, and the others.
use Rattle.std.proofs.Common.{◌≡◌, ◌≢◌, ◌⊎◌, inl, inr, ◌∙◌, ap, sym, refl, subst, ℕ, zero, suc, ◌+◌, ◌<◌, ◌≤◌, Bool, true, false, cond, List, [], ◌∷◌, map, length, get_or, Some, arith, eqb-true, length-append}
use Rattle.std.specs.Prelude.{◌==◌, if◌then◌else◌, not, All, AllPairs, find, filter}
use Rattle.std.specs.Option.{option_map}
use Rattle.std.proofs.lemmas.Bool.{cases_eq, cases_order, eqb-false, ne_eqb}
use Rattle.std.proofs.lemmas.List.{length-map, get_or-map}
use Rattle.std.proofs.lemmas.List.Elements.{All-nil, All-cons, All-map, All-filter, filter_passes}
use Rattle.std.proofs.lemmas.List.Folds.{list_any-append, map_fixed}
use Rattle.disk_base.specs.declared.address.Psn.{Psn}
use Rattle.geometry_map.specs.declared.pair.Pair.{Pair}
use Rattle.geometry_map.specs.DefectMap.{is_listed}
use Rattle.geometry_map.specs.Chains.{IsNoNew}
use Rattle.move_jobs.specs.Job.{Job}
use Rattle.block_machine.proofs.Booleans.{none_of, not_is}
use Rattle.move_table.specs.declared.flight.Flight.{Flight}
use Rattle.move_table.specs.Table.{flight, job_in, taken, with_job, without_job}
use Rattle.drive_scene.proofs.OtherEntries.{fewer_taken}

-- two moves have different numbers
abbrev pub HaveOwnNumbers : Flight → Flight → Type 0
HaveOwnNumbers f g = f.j ≢ g.j

-- one move was opened before another
abbrev pub IsEarlier : Flight → Flight → Type 0
IsEarlier f g = f.j < g.j

-- numbers that ascend differ
pub own_numbers : (flights : List Flight) → AllPairs IsEarlier flights → AllPairs HaveOwnNumbers flights
own_numbers flights ascend i k d below within same = let less = ascend i k d below within in omega (arith, same)

-- a move that stands elsewhere has its number
number_with : (j : ℕ) (x : Job) (f : Flight) → (if f.j == j then record f { job = x } else f).j ≡ f.j
number_with j x f = by (f.j == j)
  where
    by : (t : Bool) → (cond t (record f { job = x }) f).j ≡ f.j
    by true = refl
    by false = refl

pub ascend_with : (j : ℕ) (x : Job) (flights : List Flight) → AllPairs IsEarlier flights → AllPairs IsEarlier (with_job j x flights)
ascend_with j x flights ascend i k d below within =
    let h : Flight → Flight = λ f. if f.j == j then record f { job = x } else f in
    let right : k < length flights = omega (arith, within, length-map flights h) in
    let left : i < length flights = omega arith in
    let less : (get_or flights i d).j < (get_or flights k d).j = ascend i k d below right in
    let first : (get_or (with_job j x flights) i d).j ≡ (get_or flights i d).j =
    ap (λ (f : Flight). f.j) (get_or-map h flights i d d left) ∙ number_with j x (get_or flights i d) in
    let second : (get_or (with_job j x flights) k d).j ≡ (get_or flights k d).j =
    ap (λ (f : Flight). f.j) (get_or-map h flights k d d right) ∙ number_with j x (get_or flights k d) in
    omega (arith, first, second)

-- where the move of a number stands
pub record IsAt (flights : List Flight) (j : ℕ) (job : Job) : Type 0 where
  pub at : ℕ
  pub within : at < length flights
  pub is : (d : Flight) → get_or flights at d ≡ flight j job

pub found : (j : ℕ) (job : Job) (flights : List Flight) → job_in flights j ≡ Some job → IsAt flights j job
found j job [] is = absurd (cc)
found j job (f ∷ fs) is = by (f.j == j) refl is (λ later. found j job fs later)
  where
    by : (t : Bool) → (f.j == j) ≡ t → option_map (λ (g : Flight). g.job) (cond t (Some f) (find (λ g. g.j == j) fs)) ≡ Some job
        → (job_in fs j ≡ Some job → IsAt fs j job) → IsAt (f ∷ fs) j job
    by true own here rest =
        let number : f.j ≡ j = eqb-true f.j j own in
        let same : f.job ≡ job = cc in
        record { at = zero; within = omega arith; is = λ d i. record { j = number i; job = same i } }
    by false own here rest =
        let later = rest here in
        record { at = suc later.at; within = omega (arith, later.within); is = λ d. later.is d }

-- what holds of each two holds of two places in either order
apart_at : (R : Flight → Flight → Type 0) → ((f g : Flight) → R f g → R g f) → (flights : List Flight) → AllPairs R flights
    → (i k : ℕ) (d : Flight) → i < length flights → k < length flights → i ≢ k → R (get_or flights i d) (get_or flights k d)
apart_at R turned flights all i k d left right other = by (cases_order i k)
  where
    by : (i ≡ k) ⊎ ((i < k) ⊎ (k < i)) → R (get_or flights i d) (get_or flights k d)
    by (inl same) = absurd (other same)
    by (inr (inl below)) = all i k d below right
    by (inr (inr above)) = turned (get_or flights k d) (get_or flights i d) (all k i d above left)

module _ (flights : List Flight) (j : ℕ) (job : Job) (numbers : AllPairs HaveOwnNumbers flights) (own : IsAt flights j job) where
  -- the move of the number is this one
  pub own_is : (k : ℕ) (d : Flight) → k < length flights → (get_or flights k d).j ≡ j → get_or flights k d ≡ flight j job
  own_is k d within number = by (cases_eq k own.at)
    where
      by : (k ≡ own.at) ⊎ (k ≢ own.at) → get_or flights k d ≡ flight j job
      by (inl same) = ap (λ (n : ℕ). get_or flights n d) same ∙ own.is d
      by (inr other) =
          absurd (apart_at HaveOwnNumbers (λ f g apart same. apart (sym same)) flights numbers k own.at d within own.within other
          (number ∙ sym (ap (λ (f : Flight). f.j) (own.is d))))

  -- what holds of each two holds of this one and another
  pub own_apart : (R : Flight → Flight → Type 0) → ((f g : Flight) → R f g → R g f) → AllPairs R flights
      → (k : ℕ) (d : Flight) → k < length flights → (get_or flights k d).j ≢ j → R (flight j job) (get_or flights k d)
  own_apart R turned all k d within other =
      subst (λ (f : Flight). R f (get_or flights k d)) (own.is d)
      (apart_at R turned flights all own.at k d own.within within
      (λ same. other (ap (λ (f : Flight). f.j) (ap (λ (n : ℕ). get_or flights n d) (sym same) ∙ own.is d))))

module _ (j : ℕ) (x : Job) where
  -- the move of this number stands elsewhere
  abbrev changed : Flight → Flight
  changed f = if f.j == j then record f { job = x } else f

  pub all_with : (P : Flight → Type 0) (flights : List Flight) → P (flight j x) → All (λ f. f.j ≢ j → P f) flights → All P (with_job j x flights)
  all_with P flights here others =
      All-map P changed flights (λ k d within. by (get_or flights k d) (others k d within) ((get_or flights k d).j == j) refl)
    where
      by : (f : Flight) → (f.j ≢ j → P f) → (t : Bool) → (f.j == j) ≡ t → P (cond t (record f { job = x }) f)
      by f other true own = subst (λ (n : ℕ). P (flight n x)) (sym (eqb-true f.j j own)) here
      by f other false off = other (eqb-false f.j j off)

  pub pairs_with : (R : Flight → Flight → Type 0) (flights : List Flight) → AllPairs HaveOwnNumbers flights → AllPairs R flights
      → All (λ f. f.j ≢ j → R (flight j x) f × R f (flight j x)) flights → AllPairs R (with_job j x flights)
  pairs_with R flights numbers all own i k d below within =
      let right : k < length flights = omega (arith, within, length-map flights changed) in
      let left : i < length flights = omega (arith, below, right) in
      let f : Flight = get_or flights i d in
      let g : Flight = get_or flights k d in
      let core : R (changed (get_or flights i d)) (changed (get_or flights k d)) =
      by f g (numbers i k d below right) (all i k d below right) (own i d left) (own k d right) (f.j == j) refl (g.j == j) refl in
      subst (λ (y : Flight). R y (get_or (map changed flights) k d)) (sym (get_or-map changed flights i d d left))
      (subst (λ (y : Flight). R (changed f) y) (sym (get_or-map changed flights k d d right)) core)
    where
      by : (f g : Flight) → f.j ≢ g.j → R f g → (f.j ≢ j → R (flight j x) f × R f (flight j x)) → (g.j ≢ j → R (flight j x) g × R g (flight j x))
          → (t : Bool) → (f.j == j) ≡ t → (u : Bool) → (g.j == j) ≡ u → R (cond t (record f { job = x }) f) (cond u (record g { job = x }) g)
      by f g other both_are of_f of_g true one true two = absurd (other (eqb-true f.j j one ∙ sym (eqb-true g.j j two)))
      by f g other both_are of_f of_g true one false two =
          subst (λ (n : ℕ). R (flight n x) g) (sym (eqb-true f.j j one)) (of_g (eqb-false g.j j two)).0
      by f g other both_are of_f of_g false one true two =
          subst (λ (n : ℕ). R f (flight n x)) (sym (eqb-true g.j j two)) (of_f (eqb-false f.j j one)).1
      by f g other both_are of_f of_g false one false two = both_are

  -- it changes nothing where none is of this number
  unchanged : (flights : List Flight) → All (λ f. f.j ≢ j) flights → with_job j x flights ≡ flights
  unchanged flights others = map_fixed changed flights (λ k d within. by (get_or flights k d) (ne_eqb (get_or flights k d).j j (others k d within)))
    where
      by : (f : Flight) → (f.j == j) ≡ false → changed f ≡ f
      by f off = ap (λ (t : Bool). cond t (record f { job = x }) f) off

  -- the spares that are taken then
  pub taken_with : (job : Job) (flights : List Flight) → AllPairs HaveOwnNumbers flights → job_in flights j ≡ Some job
      → length (taken (with_job j x flights)) + length job.chain ≡ length (taken flights) + length x.chain
  taken_with job [] numbers is = absurd (cc)
  taken_with job (f ∷ fs) numbers is =
      by (f.j == j) refl is (λ later. taken_with job fs (λ i k d below within. numbers (suc i) (suc k) d (omega arith) (omega arith)) later)
    where
      by : (t : Bool) → (f.j == j) ≡ t → option_map (λ (g : Flight). g.job) (cond t (Some f) (find (λ g. g.j == j) fs)) ≡ Some job
          → (job_in fs j ≡ Some job → length (taken (with_job j x fs)) + length job.chain ≡ length (taken fs) + length x.chain)
          → length (taken (cond t (record f { job = x }) f ∷ with_job j x fs)) + length job.chain ≡ length (taken (f ∷ fs)) + length x.chain
      by true own here rest =
          let same : f.job ≡ job = cc in
          let others : All (λ (g : Flight). g.j ≢ j) fs = λ k d within number. numbers zero (suc k) d (omega arith) (omega arith) (eqb-true f.j j own ∙ sym number) in
          omega (
            arith,
            ap (λ (gs : List Flight). length (taken gs)) (unchanged fs others),
            ap (λ (y : Job). length y.chain) same,
            length-append (map (λ (pair : Pair). pair.new) x.chain) (taken (with_job j x fs)),
            length-append (map (λ (pair : Pair). pair.new) f.job.chain) (taken fs),
            length-map x.chain (λ (pair : Pair). pair.new),
            length-map f.job.chain (λ (pair : Pair). pair.new),
          )
      by false own here rest =
          omega (
            arith,
            rest here,
            length-append (map (λ (pair : Pair). pair.new) f.job.chain) (taken (with_job j x fs)),
            length-append (map (λ (pair : Pair). pair.new) f.job.chain) (taken fs),
          )

-- a move leaves, and its spares with it
pub taken_without : (j : ℕ) (job : Job) (flights : List Flight) → job_in flights j ≡ Some job
    → length (taken (without_job j flights)) + length job.chain ≤ length (taken flights)
taken_without j job [] is = absurd (cc)
taken_without j job (f ∷ fs) is = by (f.j == j) refl is (λ later. taken_without j job fs later)
  where
    by : (t : Bool) → (f.j == j) ≡ t → option_map (λ (g : Flight). g.job) (cond t (Some f) (find (λ g. g.j == j) fs)) ≡ Some job
        → (job_in fs j ≡ Some job → length (taken (without_job j fs)) + length job.chain ≤ length (taken fs))
        → length (taken (cond (not t) (f ∷ without_job j fs) (without_job j fs))) + length job.chain ≤ length (taken (f ∷ fs))
    by true own here rest =
        let same : f.job ≡ job = cc in
        omega (
          arith,
          fewer_taken (λ (g : Flight). not (g.j == j)) fs,
          ap (λ (y : Job). length y.chain) same,
          length-append (map (λ (pair : Pair). pair.new) f.job.chain) (taken fs),
          length-map f.job.chain (λ (pair : Pair). pair.new),
        )
    by false own here rest =
        omega (
          arith,
          rest here,
          length-append (map (λ (pair : Pair). pair.new) f.job.chain) (taken (without_job j fs)),
          length-append (map (λ (pair : Pair). pair.new) f.job.chain) (taken fs),
        )

pub all_without : (j : ℕ) (P : Flight → Type 0) (flights : List Flight) → All (λ f. f.j ≢ j → P f) flights → All P (without_job j flights)
all_without j P flights all =
    let p : Flight → Bool = λ f. not (f.j == j) in
    let left : All (λ (f : Flight). f.j ≢ j → P f) (filter p flights) = All-filter p (λ (f : Flight). f.j ≢ j → P f) flights all in
    let passes : All (λ (f : Flight). p f ≡ true) (filter p flights) = filter_passes p flights in
    λ k d within. left k d within (λ same. eqb-false _ _ (not_is _ (passes k d within)) same)

-- a spare that isn't taken is new of no pair of a move in flight
new_listed : (p : Psn) (chain : List Pair) → is_listed p.0 (map (λ (pair : Pair). pair.new) chain) ≡ false → IsNoNew p chain
new_listed p [] none = All-nil (λ (pair : Pair). pair.new ≢ p)
new_listed p (pair ∷ pairs) none =
    let two = none_of (pair.new.0 == p.0) (is_listed p.0 (map (λ (y : Pair). y.new) pairs)) none in
    All-cons (λ (y : Pair). y.new ≢ p) pair pairs (λ same. eqb-false pair.new.0 p.0 two.0 (ap (λ (q : Psn). q.0) same)) (new_listed p pairs two.1)

pub untaken : (p : Psn) (flights : List Flight) → is_listed p.0 (taken flights) ≡ false → All (λ f. IsNoNew p f.job.chain) flights
untaken p [] none = All-nil (λ (f : Flight). IsNoNew p f.job.chain)
untaken p (f ∷ fs) none =
    let split = list_any-append (λ (q : Psn). q.0 == p.0) (map (λ (pair : Pair). pair.new) f.job.chain) (taken fs) in
    let two = none_of (is_listed p.0 (map (λ (pair : Pair). pair.new) f.job.chain)) (is_listed p.0 (taken fs)) (sym split ∙ none) in
    All-cons (λ (g : Flight). IsNoNew p g.job.chain) f fs (new_listed p f.job.chain two.0) (untaken p fs two.1)
