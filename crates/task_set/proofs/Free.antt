-- In a set that isn't empty some command is kept from running by none: a HEAD OF QUEUE command, else the oldest.
use Rattle.std.proofs.Common.{◌≡◌, ℕ, zero, suc, ◌<◌, ◌==◌, Bool, true, false, List, [], ◌∷◌, length, get_or, find, Some, None, cond, ◌⊎◌, inl, inr, ⊎_elim, refl, ap, ◌∙◌, arith}
use Rattle.std.specs.Option.{is_some, option_map, option_and_then}
use Rattle.std.proofs.lemmas.Bool.{false≢true, cases_Bool, cond-true, cond-false, eq-eqb, ne_eqb, le-ltb, and_left}
use Rattle.disk_base.specs.declared.command.Attribute.{Attribute}
use Rattle.disk_base.specs.declared.command.Attribute.TheVariants.{Simple, Ordered, Head}
use Rattle.task_set.specs.declared.member.Member.{Member}
use Rattle.task_set.specs.declared.task.Task.{Task}
use Rattle.task_set.specs.MayStart.{is_older, forbids_by, forbids}
use Rattle.task_set.specs.Members.{member_of, first_forbidding, blocker_of, IsIn, IsByAge, SomeCommandMayRun}

abbrev is_head : Attribute → Bool
is_head Simple = false
is_head Ordered = false
is_head Head = true

-- nothing keeps a HEAD OF QUEUE command
head-free : (own other : Attribute) (a t : Task) → is_head own ≡ true → forbids_by own other a t ≡ false
head-free Head other a t h = refl
head-free Simple other a t h = absurd (false≢true h)
head-free Ordered other a t h = absurd (false≢true h)

-- a command that is neither HEAD OF QUEUE nor older keeps none
later-free : (own other : Attribute) (a t : Task) → is_head other ≡ false → is_older a t ≡ false → forbids_by own other a t ≡ false
later-free Head other a t plain later = refl
later-free Simple Head a t plain later = absurd (cc plain)
later-free Ordered Head a t plain later = absurd (cc plain)
later-free Ordered Simple a t plain later = later
later-free Ordered Ordered a t plain later = later
later-free Simple Ordered a t plain later = later
later-free Simple Simple a t plain later = and_left _ _ (and_left _ _ later)

-- where no command of the set forbids it, there is no first that does
none-forbids : (set : List Member) (t : Task) → ((k : ℕ) (d : Member) → k < length set → forbids (get_or set k d).task t ≡ false) → first_forbidding set t ≡ None
none-forbids [] t free = refl
none-forbids (x ∷ xs) t free =
    let first : forbids x.task t ≡ false = free 0 x (omega arith) in
    let rest : first_forbidding xs t ≡ None = none-forbids xs t (λ k d inside. free (suc k) d (omega arith)) in
    ap (option_map (λ m. m.task.c)) (cond-false (forbids x.task t) (Some x) (find (λ m. forbids m.task t) xs) first) ∙ rest

-- what holds of ages behind the first command
IsByAge-rest : (x : Member) (xs : List Member) → IsByAge (x ∷ xs) → IsByAge xs
IsByAge-rest x xs by_age i j d below inside = by_age (suc i) (suc j) d (omega arith) (omega arith)

-- the command of a number is the one that has it
member_of-at : (set : List Member) → IsByAge set → (k : ℕ) (d : Member) → k < length set → member_of set (get_or set k d).task.c ≡ Some (get_or set k d)
member_of-at [] by_age k d inside = absurd (omega arith)
member_of-at (x ∷ xs) by_age zero d inside =
    cond-true (x.task.c == x.task.c) (Some x) (member_of xs x.task.c) (eq-eqb x.task.c x.task.c refl)
member_of-at (x ∷ xs) by_age (suc k) d inside =
    let m = get_or xs k d in
    let older : x.task.c < m.task.c = by_age 0 (suc k) d (omega arith) (omega arith) in
    cond-false (x.task.c == m.task.c) (Some x) (member_of xs m.task.c) (ne_eqb x.task.c m.task.c (λ e. absurd (omega arith)))
    ∙ member_of-at xs (IsByAge-rest x xs by_age) k d (omega arith)

-- no head in front and none behind
plain-cons : (x : Member) (xs : List Member) → is_head x.task.attribute ≡ false
    → ((k : ℕ) (d : Member) → k < length xs → is_head (get_or xs k d).task.attribute ≡ false)
    → (k : ℕ) (d : Member) → k < length (x ∷ xs) → is_head (get_or (x ∷ xs) k d).task.attribute ≡ false
plain-cons x xs first rest zero d inside = first
plain-cons x xs first rest (suc k) d inside = rest k d (omega arith)

-- no command is older than the first
first-oldest : (x : Member) (xs : List Member) → IsByAge (x ∷ xs)
    → (k : ℕ) (d : Member) → k < length (x ∷ xs) → is_older (get_or (x ∷ xs) k d).task x.task ≡ false
first-oldest x xs by_age zero d inside = le-ltb x.task.c x.task.c (omega arith)
first-oldest x xs by_age (suc k) d inside =
    let older : x.task.c < (get_or xs k d).task.c = by_age 0 (suc k) d (omega arith) inside in
    le-ltb (get_or xs k d).task.c x.task.c (omega arith)

-- a set has a HEAD OF QUEUE command or has none
heads : (set : List Member) → ((k : ℕ) × (k < length set) × ((d : Member) → is_head (get_or set k d).task.attribute ≡ true))
    ⊎ ((k : ℕ) (d : Member) → k < length set → is_head (get_or set k d).task.attribute ≡ false)
heads [] = inr (λ k d inside. absurd (omega arith))
heads (x ∷ xs) =
    ⊎_elim (λ yes. inl (0, omega arith, λ d. yes))
    (λ no. ⊎_elim (λ w. inl (suc w.0, omega (arith, w.1), λ d. w.2 d)) (λ plain. inr (plain-cons x xs no plain)) (heads xs))
    (cases_Bool (is_head x.task.attribute))

-- a command that none forbids may run
free : (set : List Member) → IsByAge set → (k : ℕ) (d : Member) → k < length set
    → first_forbidding set (get_or set k d).task ≡ None → (c : ℕ) × IsIn set c × (blocker_of set c ≡ None)
free set by_age k d inside none =
    let m = get_or set k d in
    let is : member_of set m.task.c ≡ Some m = member_of-at set by_age k d inside in
    let runs : cond m.started None (first_forbidding set m.task) ≡ None
    = elim m.started as (λ b. cond b None (first_forbidding set m.task) ≡ None) [ true ↦ refl | false ↦ none ] in
    (m.task.c, ap is_some is, ap (option_and_then (λ n. cond n.started None (first_forbidding set n.task))) is ∙ runs)

pub some_command_may_run : SomeCommandMayRun
some_command_may_run [] by_age some = absurd (omega arith)
some_command_may_run (x ∷ xs) by_age some =
    ⊎_elim (λ w. free (x ∷ xs) by_age w.0 x w.1
    (none-forbids (x ∷ xs) (get_or (x ∷ xs) w.0 x).task (λ k d inside. head-free _ _ _ _ (w.2 x))))
    (λ plain. free (x ∷ xs) by_age 0 x (omega arith)
    (none-forbids (x ∷ xs) x.task (λ k d inside. later-free _ _ _ _ (plain k d inside) (first-oldest x xs by_age k d inside))))
    (heads (x ∷ xs))
