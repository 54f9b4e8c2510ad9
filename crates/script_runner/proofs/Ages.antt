-- The commands of a set by age: their numbers ascend.
use Rattle.std.proofs.Common.{◌≡◌, ◌∙◌, ap, sym, refl, subst, ℕ, ◌<◌, ◌≤◌, Bool, true, false, not, List, [], ◌∷◌, arith, Some, cond, eq-eqb}
use Rattle.std.specs.Prelude.{◌==◌}
use Rattle.std.proofs.lemmas.Bool.{ne_eqb}
use Rattle.task_set.specs.declared.member.Member.{Member}
use Rattle.task_set.specs.declared.task.Task.{Task}
use Rattle.task_set.specs.Members.{member_of, with_arrived, with_started, without, started_at}
use Rattle.script_runner.specs.Each.{Each}
use Rattle.script_runner.specs.Ages.{Between}
use Rattle.script_runner.proofs.Each.{each_weaker}

pub up : (low : ℕ) (ms : List Member) (high : ℕ) → Between low ms high → low ≤ high
up low [] high h = h
up low (m ∷ ms) high h = omega (arith, h.0, up m.task.c ms high h.1)

pub from_lower : (least low : ℕ) (ms : List Member) (high : ℕ) → least ≤ low → Between low ms high → Between least ms high
from_lower least low [] high le h = omega (arith, h)
from_lower least low (m ∷ ms) high le h = (omega (arith, h.0), h.1)

pub to_higher : (low : ℕ) (ms : List Member) (high most : ℕ) → high ≤ most → Between low ms high → Between low ms most
to_higher low [] high most le h = omega (arith, h)
to_higher low (m ∷ ms) high most le h = (h.0, to_higher m.task.c ms high most le h.1)

above : (low : ℕ) (ms : List Member) (high : ℕ) → Between low ms high → Each (λ m. low < m.task.c) ms
above low [] high h = tt
above low (m ∷ ms) high h = (h.0, each_weaker (λ (n : Member). m.task.c < n.task.c) (λ (n : Member). low < n.task.c) ms (λ n lt. omega (arith, h.0, lt)) (above m.task.c ms high h.1))

-- each is the one of its number
elsewhere : (m : Member) (ms : List Member) (xs : List Member) → Each (λ n. m.task.c < n.task.c) xs → Each (λ n. member_of ms n.task.c ≡ Some n) xs → Each (λ n. member_of (m ∷ ms) n.task.c ≡ Some n) xs
elsewhere m ms [] lt h = tt
elsewhere m ms (x ∷ xs) lt h =
    (ap (λ (b : Bool). cond b (Some m) (member_of ms x.task.c)) (ne_eqb m.task.c x.task.c (λ e. omega (arith, lt.0))) ∙ h.0, elsewhere m ms xs lt.1 h.1)

pub own_member : (low : ℕ) (ms : List Member) (high : ℕ) → Between low ms high → Each (λ m. member_of ms m.task.c ≡ Some m) ms
own_member low [] high h = tt
own_member low (m ∷ ms) high h =
    (ap (λ (b : Bool). cond b (Some m) (member_of ms m.task.c)) (eq-eqb m.task.c m.task.c refl), elsewhere m ms ms (above m.task.c ms high h.1) (own_member m.task.c ms high h.1))

pub one_arrived : (low : ℕ) (ms : List Member) (high : ℕ) (t : Task) → Between low ms high → high < t.c → Between low (with_arrived ms t) t.c
one_arrived low [] high t h lt = (omega (arith, h, lt), omega arith)
one_arrived low (m ∷ ms) high t h lt = (h.0, one_arrived m.task.c ms high t h.1 lt)

started_number : (c : ℕ) (m : Member) → (started_at c m).task.c ≡ m.task.c
started_number c m = go (m.task.c == c)
  where
    go : (b : Bool) → (let n : Member = cond b (record m { started = true }) m in n.task.c) ≡ m.task.c
    go true = refl
    go false = refl

pub one_started : (low : ℕ) (ms : List Member) (high c : ℕ) → Between low ms high → Between low (with_started ms c) high
one_started low [] high c h = h
one_started low (m ∷ ms) high c h =
    let n = started_number c m in
    (omega (arith, h.0, n), subst (λ (k : ℕ). Between k (with_started ms c) high) (sym n) (one_started m.task.c ms high c h.1))

pub one_left : (low : ℕ) (ms : List Member) (high c : ℕ) → Between low ms high → Between low (without ms c) high
one_left low [] high c h = h
one_left low (m ∷ ms) high c h = go (one_left m.task.c ms high c h.1) (not (m.task.c == c))
  where
    go : Between m.task.c (without ms c) high → (b : Bool) → Between low (cond b (m ∷ without ms c) (without ms c)) high
    go rest true = (h.0, rest)
    go rest false = from_lower low m.task.c (without ms c) high (omega (arith, h.0)) rest

-- the number of a command that is in
pub within : (low : ℕ) (ms : List Member) (high c : ℕ) (m : Member) → Between low ms high → member_of ms c ≡ Some m → (low < m.task.c) × (m.task.c ≤ high)
within low [] high c m h is = absurd (cc)
within low (n ∷ ns) high c m h is = go (within n.task.c ns high c m h.1) (n.task.c == c) is
  where
    go : (member_of ns c ≡ Some m → (n.task.c < m.task.c) × (m.task.c ≤ high)) → (b : Bool) → cond b (Some n) (member_of ns c) ≡ Some m → (low < m.task.c) × (m.task.c ≤ high)
    go rest true found = let same : n ≡ m = cc in subst (λ (x : Member). (low < x.task.c) × (x.task.c ≤ high)) same (h.0, up n.task.c ns high h.1)
    go rest false found = let r = rest found in (omega (arith, h.0, r.0), r.1)
