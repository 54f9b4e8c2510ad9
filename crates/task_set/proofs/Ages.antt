-- The commands of a set stay by age.
use Rattle.std.proofs.Common.{◌≡◌, ◌≢◌, ℕ, ◌<◌, ◌==◌, true, false, List, length, map, get_or, cond, refl, ap, ◌∙◌, arith}
use Rattle.std.proofs.lemmas.Bool.{eq-eqb, ne_eqb}
use Rattle.std.proofs.lemmas.List.{get_or-map, length-map}
use Rattle.task_set.specs.declared.member.Member.{Member}
use Rattle.task_set.specs.Members.{started_at, with_started, IsByAge}

-- a command that is started keeps its number
started_at-c : (c : ℕ) (m : Member) → (started_at c m).task.c ≡ m.task.c
started_at-c c m = elim (m.task.c == c) as (λ b. (cond b (record m { started = true }) m).task.c ≡ m.task.c) [ true ↦ refl | false ↦ refl ]

-- what a command of the number, or of another, is then
pub started_at-same : (c : ℕ) (m : Member) → m.task.c ≡ c → started_at c m ≡ record m { started = true }
started_at-same c m e = ap (λ b. cond b (record m { started = true }) m) (eq-eqb m.task.c c e)

pub started_at-other : (c : ℕ) (m : Member) → m.task.c ≢ c → started_at c m ≡ m
started_at-other c m ne = ap (λ b. cond b (record m { started = true }) m) (ne_eqb m.task.c c ne)

pub IsByAge-started : (c : ℕ) (xs : List Member) → IsByAge xs → IsByAge (with_started xs c)
IsByAge-started c xs by_age i j d below inside =
    let long : length (map (started_at c) xs) ≡ length xs = length-map xs (started_at c) in
    let before : i < length xs = omega arith in
    let after : j < length xs = omega arith in
    let at_i = ap (λ m. m.task.c) (get_or-map (started_at c) xs i d d before) ∙ started_at-c c (get_or xs i d) in
    let at_j = ap (λ m. m.task.c) (get_or-map (started_at c) xs j d d after) ∙ started_at-c c (get_or xs j d) in
    let older = by_age i j d below after in
    omega arith
