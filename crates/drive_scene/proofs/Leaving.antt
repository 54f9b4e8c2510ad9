-- What entries leave by which commands end one after another.
use Rattle.std.proofs.Common.{◌≡◌, ◌≢◌, ◌⊎◌, inl, inr, ℕ, zero, suc, ◌<◌, Bool, true, false, not, cond, eqb, List, [], ◌∷◌, map, filter, Option, None, refl, sym, ap, ◌∙◌, subst, arith}
use Rattle.std.specs.Prelude.{All, fold}
use Rattle.std.proofs.lemmas.Bool.{cases_eq, eq-eqb, ne_eqb}
use Rattle.std.proofs.lemmas.List.Elements.{All-nil, All-cons, All-head, All-tail}
use Rattle.disk_base.specs.Along.{Along, all_along}
use Rattle.disk_base.specs.declared.address.Lba.{Lba}
use Rattle.platter_model.specs.declared.op.Op.{Op}
use Rattle.mode_pages.specs.declared.settings.Settings.{Settings}
use Rattle.task_set.specs.declared.member.Member.{Member}
use Rattle.task_set.specs.Members.{IsByAge, member_of, numbers, without}
use Rattle.command_engine.specs.declared.step.Recovery.{Recovery}
use Rattle.block_machine.specs.declared.entry.Entry.TheVariants.{Aborted}
use Rattle.block_machine.specs.declared.turn.Label.TheVariants.{Arrive}
use Rattle.block_machine.specs.Blocks.{Blocks, blocks_after, block_lawful}
use Rattle.block_machine.specs.State.{State}
use Rattle.block_machine.specs.Steps.{entry_after}
use Rattle.block_machine.specs.Turns.{are_aborted}
use Rattle.block_machine.proofs.Booleans.{and_both}
use Rattle.drive_scene.specs.Scene.{Scene, Beat}
use Rattle.drive_scene.specs.After.{with_arrival, settings_by, recovered_by}
use Rattle.drive_scene.specs.Evidence.{Shows}
use Rattle.drive_scene.specs.GoodTurn.{are_on, is_on, rank, may_follow}
use Rattle.drive_scene.specs.Ending.{ended_in}
use Rattle.drive_scene.proofs.Keyed.{find-dropped_own, find-dropped_other}
use Rattle.std.specs.List.{list_any}

-- none of a number is taken out where all are younger
all_younger : (n : ℕ) (ms : List Member) → All (λ m. n < m.task.c) ms → without ms n ≡ ms
all_younger n [] all = refl
all_younger n (m ∷ ms) all =
    let first : n < m.task.c = All-head (λ (x : Member). n < x.task.c) m ms all in
    ap (λ (b : Bool). cond (not b) (m ∷ without ms n) (without ms n)) (ne_eqb m.task.c n (λ same. absurd (omega arith)))
    ∙ ap (λ (l : List Member). m ∷ l) (all_younger n ms (All-tail (λ (x : Member). n < x.task.c) m ms all))

-- one that is older than all that leave stays in front
stays_ahead : (m : Member) (ms : List Member) (cs : List ℕ) → All (λ c. m.task.c < c) cs → fold without (m ∷ ms) cs ≡ m ∷ fold without ms cs
stays_ahead m ms [] all = refl
stays_ahead m ms (c ∷ cs) all =
    let first : m.task.c < c = All-head (λ (n : ℕ). m.task.c < n) c cs all in
    ap (λ (b : Bool). fold without (cond (not b) (m ∷ without ms c) (without ms c)) cs) (ne_eqb m.task.c c (λ same. absurd (omega arith)))
    ∙ stays_ahead m (without ms c) cs (All-tail (λ (n : ℕ). m.task.c < n) c cs all)

-- numbers of younger ones are greater
younger_more : (n : ℕ) (b : Bool) (m : Member) (ms : List Member) → n < m.task.c → All (λ c. n < c) (numbers ms)
    → All (λ c. n < c) (numbers (cond b (m ∷ ms) ms))
younger_more n true m ms first rest = All-cons (λ (c : ℕ). n < c) m.task.c (numbers ms) first rest
younger_more n false m ms first rest = rest

younger_numbers : (n : ℕ) (p : Member → Bool) (ms : List Member) → All (λ m. n < m.task.c) ms → All (λ c. n < c) (numbers (filter p ms))
younger_numbers n p [] all = All-nil (λ (c : ℕ). n < c)
younger_numbers n p (m ∷ ms) all =
    younger_more n (p m) m (filter p ms) (All-head (λ (x : Member). n < x.task.c) m ms all)
    (younger_numbers n p ms (All-tail (λ (x : Member). n < x.task.c) m ms all))

-- the oldest leaves, or stays in front of those that stay
oldest_in_turn : (b : Bool) (m : Member) (ms going staying : List Member) → All (λ x. m.task.c < x.task.c) ms → All (λ c. m.task.c < c) (numbers going)
    → fold without ms (numbers going) ≡ staying → fold without (m ∷ ms) (numbers (cond b (m ∷ going) going)) ≡ cond (not b) (m ∷ staying) staying
oldest_in_turn true m ms going staying younger later rest =
    ap (λ (l : List Member). fold without l (numbers going))
    (ap (λ (b : Bool). cond (not b) (m ∷ without ms m.task.c) (without ms m.task.c)) (eq-eqb m.task.c m.task.c refl) ∙ all_younger m.task.c ms younger)
    ∙ rest
oldest_in_turn false m ms going staying younger later rest = stays_ahead m ms (numbers going) later ∙ ap (λ (l : List Member). m ∷ l) rest

-- those of a set that pass a test leave it one after another
pub leave_in_turn : (p : Member → Bool) (set : List Member) → IsByAge set → fold without set (numbers (filter p set)) ≡ filter (λ m. not (p m)) set
leave_in_turn p [] by_age = refl
leave_in_turn p (m ∷ ms) by_age =
    let younger : All (λ (x : Member). m.task.c < x.task.c) ms = λ k d within. by_age zero (suc k) d (omega arith) (omega arith) in
    oldest_in_turn (p m) m ms (filter p ms) (filter (λ x. not (p x)) ms) younger (younger_numbers m.task.c p ms younger)
    (leave_in_turn p ms (λ i j d below within. by_age (suc i) (suc j) d (omega arith) (omega arith)))

-- a command left, or is in as before
pub left_or_same : (cs : List ℕ) (set : List Member) (q : ℕ)
    → (member_of (fold without set cs) q ≡ None) ⊎ (member_of (fold without set cs) q ≡ member_of set q)
left_or_same [] set q = inr refl
left_or_same (c ∷ cs) set q = by (left_or_same cs (without set c) q) (cases_eq q c)
  where
    by : (member_of (fold without (without set c) cs) q ≡ None) ⊎ (member_of (fold without (without set c) cs) q ≡ member_of (without set c) q) → (q ≡ c) ⊎ (q ≢ c)
        → (member_of (fold without (without set c) cs) q ≡ None) ⊎ (member_of (fold without (without set c) cs) q ≡ member_of set q)
    by (inl gone) which = inl gone
    by (inr same) (inl own) =
        inl (same ∙ subst (λ (n : ℕ). member_of (without set c) n ≡ None) (sym own) (find-dropped_own (λ (m : Member). m.task.c) c set))
    by (inr same) (inr other) = inr (same ∙ find-dropped_other (λ (m : Member). m.task.c) c q set other)

-- the state after such entries: the set alone is another
pub state_left : (capacity i : ℕ) (h : State) (cs : List ℕ)
    → fold (entry_after capacity (Arrive i)) h (map Aborted cs) ≡ record h { set = fold without h.set cs }
state_left capacity i h [] = refl
state_left capacity i h (c ∷ cs) = state_left capacity i (record h { set = without h.set c }) cs

-- no window begins by them
pub windows_left : (windows : ℕ → List Op) (cs : List ℕ) → fold with_arrival windows (map Aborted cs) ≡ windows
windows_left windows [] = refl
windows_left windows (c ∷ cs) = windows_left windows cs

-- no command starts by them
pub settings_left : (now : Settings) (settings : ℕ → Settings) (cs : List ℕ) → fold (settings_by now) settings (map Aborted cs) ≡ settings
settings_left now settings [] = refl
settings_left now settings (c ∷ cs) = settings_left now settings cs

-- no block is got by them
pub recovered_left : (windows : ℕ → List Op) (recovered : ℕ → Option Recovery) (cs : List ℕ)
    → fold (recovered_by windows) recovered (map Aborted cs) ≡ recovered
recovered_left windows recovered [] = refl
recovered_left windows recovered (c ∷ cs) = recovered_left windows recovered cs

-- they are those that are wanted
pub all_aborted : (cs : List ℕ) → are_aborted cs (map Aborted cs) ≡ true
all_aborted [] = refl
all_aborted (c ∷ cs) = and_both (eqb c c) (are_aborted cs (map Aborted cs)) (eq-eqb c c refl) (all_aborted cs)

-- blocks allow them
pub blocks_allow : (capacity : ℕ) (blocks : Blocks) (cs : List ℕ) → all_along blocks_after (block_lawful capacity) blocks (map Aborted cs) ≡ true
blocks_allow capacity blocks [] = refl
blocks_allow capacity blocks (c ∷ cs) = blocks_allow capacity blocks cs

-- operations have nothing to show of them
pub shown_left : (s : Scene) (t : Beat) (capacity i : ℕ) (h : State) (cs : List ℕ) → Along (entry_after capacity (Arrive i)) (Shows s t) h (map Aborted cs)
shown_left s t capacity i h [] = tt
shown_left s t capacity i h (c ∷ cs) = (tt, shown_left s t capacity i (entry_after capacity (Arrive i) h (Aborted c)) cs)

-- none is on a block
pub on_none : (b : Lba) (cs : List ℕ) → are_on b (map Aborted cs) ≡ true
on_none b [] = refl
on_none b (c ∷ cs) = on_none b cs

pub on_no_block : (b : Lba) (cs : List ℕ) → list_any (is_on b) (map Aborted cs) ≡ false
on_no_block b [] = refl
on_no_block b (c ∷ cs) = on_no_block b cs

-- they are in their order, behind the function that is asked for
pub in_order : (cs : List ℕ) → all_along (λ before e. rank e) may_follow 1 (map Aborted cs) ≡ true
in_order [] = refl
in_order (c ∷ cs) = more cs
  where
    more : (ds : List ℕ) → all_along (λ before e. rank e) may_follow 2 (map Aborted ds) ≡ true
    more [] = refl
    more (d ∷ ds) = more ds

-- no initiator is told of an end
pub none_told : (s : Scene) (cs : List ℕ) → ended_in s (map Aborted cs) ≡ None
none_told s [] = refl
none_told s (c ∷ cs) = none_told s cs
