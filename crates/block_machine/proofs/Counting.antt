-- Each command that came ended, was aborted, was cut off, or is still in.
use Rattle.std.proofs.Common.{◌≡◌, ◌≢◌, ◌∙◌, ap, sym, subst, refl, ℕ, suc, ◌+◌, ◌<◌, ◌≤◌, Bool, true, false, not, cond, nat_eq, nat_le, List, [], ◌∷◌, ◌++◌, map, length, length-append, arith}
use Rattle.std.specs.Prelude.{◌&&◌, ◌||◌, ◌==◌, fold, filter, Option, Some, None}
use Rattle.std.specs.List.{list_all, list_any}
use Rattle.std.specs.Option.{option_and_then, is_some}
use Rattle.std.proofs.lemmas.Bool.{eq-eqb, eqb-true, eqb-false, ne_eqb, le-leb, leb-true}
use Rattle.disk_base.specs.Along.{all_along}
use Rattle.sense_data.specs.declared.reply.Reply.{Reply}
use Rattle.cdb_reader.specs.declared.plan.Plan.{Plan}
use Rattle.task_set.specs.declared.member.Member.{Member}
use Rattle.task_set.specs.Members.{member_of, with_started, without, numbers, is_named}
use Rattle.block_machine.specs.declared.entry.Entry.{Entry}
use Rattle.block_machine.specs.declared.entry.Entry.TheVariants.{Arrived, Started, Ended, Aborted, Asked, Cut}
use Rattle.block_machine.specs.declared.turn.Label.{Label}
use Rattle.block_machine.specs.declared.turn.Label.TheVariants.{Arrive, Work, Job, Scan, Destage, World}
use Rattle.block_machine.specs.declared.turn.Turn.{Turn}
use Rattle.block_machine.specs.State.{State, is_full, state_at_start}
use Rattle.block_machine.specs.Steps.{entry_after, entries_after, begun, task_arrived}
use Rattle.block_machine.specs.Entries.{entry_lawful, is_owed, works_on}
use Rattle.block_machine.specs.Turns.{named_by, are_aborted, is_answered, arrival_lawful, work_lawful, starts_alone, entries_lawful, tasks_lawful, turn_after}
use Rattle.block_machine.specs.History.{task_legal_from, turns_after, entries_of}
use Rattle.block_machine.specs.Laws.{Tally, tally_at_start, tally_after, left_out, CommandsAreAccountedFor}
use Rattle.disk_base.specs.declared.address.Tag.{Tag}
use Rattle.disk_base.specs.declared.command.Attribute.{Attribute}
use Rattle.disk_base.specs.declared.command.DataOut.{DataOut}
use Rattle.block_machine.proofs.Alongs.{fold_both}
use Rattle.block_machine.proofs.Booleans.{and_both, both, neither, none_of, not_is, or_right, true_not_false}

-- a number is among some
unfoldable pub has : ℕ → List ℕ → Bool
has c xs = list_any (λ y. y == c) xs

by_cases : (x y : Bool) → (x ≡ true → y ≡ true) → y ≡ false → x ≡ false
by_cases true y f h = let no : true ≡ false = sym (f refl) ∙ h in absurd (cc)
by_cases false y f h = refl

left_out_one : (t : Bool) (c x : ℕ) (xs : List ℕ) → nat_eq x c ≡ t → left_out c (x ∷ xs) ≡ cond (not t) (x ∷ left_out c xs) (left_out c xs)
left_out_one t c x xs e = ap (λ (u : Bool). cond (not u) (x ∷ left_out c xs) (left_out c xs)) e

-- a number that isn't among some leaves them as they are
absent : (c : ℕ) (xs : List ℕ) → has c xs ≡ false → left_out c xs ≡ xs
unfolding has
absent c [] h = refl
absent c (x ∷ xs) h =
    let now = none_of (x == c) _ h in
    left_out_one false c x xs now.0 ∙ ap (λ (ys : List ℕ). x ∷ ys) (absent c xs now.1)

-- no number stands twice
unfoldable pub distinct : List ℕ → Bool
distinct [] = true
distinct (x ∷ xs) = not (has x xs) && distinct xs

is_not : (x : Bool) → x ≡ false → not x ≡ true
is_not x h = ap not h

-- one that is among them once is one less
present_one : (t : Bool) (c x : ℕ) (xs : List ℕ) → nat_eq x c ≡ t → has x xs ≡ false → (t || has c xs) ≡ true → (has c xs ≡ true → suc (length (left_out c xs)) ≡ length xs)
    → suc (length (left_out c (x ∷ xs))) ≡ suc (length xs)
unfolding has
present_one true c x xs e once h f =
    let is : x ≡ c = eqb-true x c e in
    let gone : left_out c (x ∷ xs) ≡ xs = left_out_one true c x xs e ∙ absent c xs (ap (λ (n : ℕ). has n xs) (sym is) ∙ once) in
    ap (λ (ys : List ℕ). suc (length ys)) gone
present_one false c x xs e once h f = ap (λ (ys : List ℕ). suc (length ys)) (left_out_one false c x xs e) ∙ ap suc (f h)

present : (c : ℕ) (xs : List ℕ) → distinct xs ≡ true → has c xs ≡ true → suc (length (left_out c xs)) ≡ length xs
unfolding has distinct
present c [] d h = absurd (cc)
present c (x ∷ xs) d h =
    let now = both (not (has x xs)) _ d in
    present_one (x == c) c x xs refl (not_is (has x xs) now.0) h (present c xs now.1)

-- leaving one out adds none
has_less_one : (t : Bool) (c d x : ℕ) (xs : List ℕ) → nat_eq x c ≡ t → has d (left_out c xs) ≡ false → (nat_eq x d || false) ≡ false → has d (left_out c (x ∷ xs)) ≡ false
unfolding has
has_less_one true c d x xs e h k = ap (λ (ys : List ℕ). has d ys) (left_out_one true c x xs e) ∙ h
has_less_one false c d x xs e h k = ap (λ (ys : List ℕ). has d ys) (left_out_one false c x xs e) ∙ neither (nat_eq x d) _ (none_of (nat_eq x d) false k).0 h

pub has_less : (c d : ℕ) (xs : List ℕ) → has d xs ≡ false → has d (left_out c xs) ≡ false
unfolding has
has_less c d [] h = refl
has_less c d (x ∷ xs) h = let now = none_of (x == d) _ h in has_less_one (x == c) c d x xs refl (has_less c d xs now.1) (neither (x == d) false now.0 refl)

distinct_less_one : (t : Bool) (c x : ℕ) (xs : List ℕ) → nat_eq x c ≡ t → has x (left_out c xs) ≡ false → distinct (left_out c xs) ≡ true → distinct (left_out c (x ∷ xs)) ≡ true
unfolding distinct
distinct_less_one true c x xs e h k = ap distinct (left_out_one true c x xs e) ∙ k
distinct_less_one false c x xs e h k = ap distinct (left_out_one false c x xs e) ∙ and_both (not (has x (left_out c xs))) _ (is_not _ h) k

distinct_less : (c : ℕ) (xs : List ℕ) → distinct xs ≡ true → distinct (left_out c xs) ≡ true
unfolding distinct
distinct_less c [] d = refl
distinct_less c (x ∷ xs) d =
    let now = both (not (has x xs)) _ d in
    distinct_less_one (x == c) c x xs refl (has_less c x xs (not_is (has x xs) now.0)) (distinct_less c xs now.1)

-- one more
pub has_more : (d : ℕ) (xs : List ℕ) (c : ℕ) → has d xs ≡ false → nat_eq c d ≡ false → has d (xs ++ c ∷ []) ≡ false
unfolding has
has_more d [] c h e = neither (c == d) false e refl
has_more d (x ∷ xs) c h e = let now = none_of (x == d) _ h in neither (x == d) _ now.0 (has_more d xs c now.1 e)

distinct_more : (xs : List ℕ) (c : ℕ) → distinct xs ≡ true → has c xs ≡ false → distinct (xs ++ c ∷ []) ≡ true
unfolding distinct has
distinct_more [] c d h = refl
distinct_more (x ∷ xs) c d h =
    let now = both (not (has x xs)) _ d in
    let apart = none_of (x == c) _ h in
    let other : nat_eq c x ≡ false = ne_eqb c x (λ e. eqb-false x c apart.0 (sym e)) in
    and_both (not (has x (xs ++ c ∷ []))) _ (is_not _ (has_more x xs c (not_is (has x xs) now.0) other)) (distinct_more xs c now.1 apart.1)

-- all are at most this
unfoldable pub below : ℕ → List ℕ → Bool
below k xs = list_all (λ n. nat_le n k) xs

below_absent : (k c : ℕ) (xs : List ℕ) → k < c → below k xs ≡ true → has c xs ≡ false
unfolding below has
below_absent k c [] lt h = refl
below_absent k c (x ∷ xs) lt h =
    let now = both (nat_le x k) _ h in
    let le : x ≤ k = leb-true x k now.0 in
    let ne : x ≢ c = omega arith in
    neither (x == c) _ (ne_eqb x c ne) (below_absent k c xs lt now.1)

below_more : (k l : ℕ) (xs : List ℕ) → k ≤ l → below k xs ≡ true → below l xs ≡ true
unfolding below
below_more k l [] le h = refl
below_more k l (x ∷ xs) le h =
    let now = both (nat_le x k) _ h in
    let x_le : x ≤ k = leb-true x k now.0 in
    and_both (nat_le x l) _ (le-leb x l (omega arith)) (below_more k l xs le now.1)

below_append : (k c : ℕ) (xs : List ℕ) → c ≤ k → below k xs ≡ true → below k (xs ++ c ∷ []) ≡ true
unfolding below
below_append k c [] le h = and_both (nat_le c k) true (le-leb c k le) refl
below_append k c (x ∷ xs) le h = let now = both (nat_le x k) _ h in and_both (nat_le x k) _ now.0 (below_append k c xs le now.1)

below_less_one : (t : Bool) (k c x : ℕ) (xs : List ℕ) → nat_eq x c ≡ t → nat_le x k ≡ true → below k (left_out c xs) ≡ true → below k (left_out c (x ∷ xs)) ≡ true
unfolding below
below_less_one true k c x xs e le h = ap (λ (ys : List ℕ). below k ys) (left_out_one true c x xs e) ∙ h
below_less_one false k c x xs e le h = ap (λ (ys : List ℕ). below k ys) (left_out_one false c x xs e) ∙ and_both (nat_le x k) _ le h

below_less : (k c : ℕ) (xs : List ℕ) → below k xs ≡ true → below k (left_out c xs) ≡ true
unfolding below
below_less k c [] h = refl
below_less k c (x ∷ xs) h = let now = both (nat_le x k) _ h in below_less_one (x == c) k c x xs refl now.0 (below_less k c xs now.1)

-- the numbers of members
numbers_one : (t : Bool) (c : ℕ) (m : Member) (rest : List Member) → map (λ n. n.task.c) (cond t (m ∷ rest) rest) ≡ cond t (m.task.c ∷ map (λ n. n.task.c) rest) (map (λ n. n.task.c) rest)
numbers_one true c m rest = refl
numbers_one false c m rest = refl

pub numbers_without : (c : ℕ) (set : List Member) → numbers (without set c) ≡ left_out c (numbers set)
numbers_without c [] = refl
numbers_without c (m ∷ set) =
    numbers_one (not (m.task.c == c)) c m (without set c)
    ∙ ap (λ (ys : List ℕ). cond (not (m.task.c == c)) (m.task.c ∷ ys) ys) (numbers_without c set)

started_number : (t : Bool) (m : Member) → (cond t (record m { started = true }) m).task.c ≡ m.task.c
started_number true m = refl
started_number false m = refl

pub numbers_started : (c : ℕ) (set : List Member) → numbers (with_started set c) ≡ numbers set
numbers_started c [] = refl
numbers_started c (m ∷ set) =
    ap (λ (n : ℕ). n ∷ numbers (with_started set c)) (started_number (m.task.c == c) m)
    ∙ ap (λ (ns : List ℕ). m.task.c ∷ ns) (numbers_started c set)

pub numbers_append : (set : List Member) (m : Member) → numbers (set ++ m ∷ []) ≡ numbers set ++ m.task.c ∷ []
numbers_append [] m = refl
numbers_append (n ∷ set) m = ap (λ (ns : List ℕ). n.task.c ∷ ns) (numbers_append set m)

-- a member that is found has its number among them
found_has : (t : Bool) (c : ℕ) (n m : Member) (rest : Option Member) (numbers_rest : List ℕ) → nat_eq n.task.c c ≡ t → cond t (Some n) rest ≡ Some m → (rest ≡ Some m → has c numbers_rest ≡ true)
    → (t || has c numbers_rest) ≡ true
found_has true c n m rest ns e h f = refl
found_has false c n m rest ns e h f = f h

pub member_has : (c : ℕ) (set : List Member) (m : Member) → member_of set c ≡ Some m → has c (numbers set) ≡ true
unfolding has
member_has c [] m h = absurd (cc)
member_has c (n ∷ set) m h = found_has (n.task.c == c) c n m (member_of set c) (numbers set) refl h (member_has c set m)

-- some of the members
filter_numbers : (t : Bool) (m : Member) (rest : List Member) → numbers (cond t (m ∷ rest) rest) ≡ cond t (m.task.c ∷ numbers rest) (numbers rest)
filter_numbers true m rest = refl
filter_numbers false m rest = refl

some_has_one : (t u : Bool) (x c : ℕ) (ns all : List ℕ) → (has x ns ≡ true → has x all ≡ true) → has x (cond t (c ∷ ns) ns) ≡ true → nat_eq c x ≡ u → (u || has x all) ≡ true
unfolding has
some_has_one t true x c ns all f h e = refl
some_has_one false false x c ns all f h e = f h
some_has_one true false x c ns all f h e = f (ap (λ (b : Bool). b || has x ns) (sym e) ∙ h)

pub some_has : (p : Member → Bool) (set : List Member) (x : ℕ) → has x (numbers (filter p set)) ≡ true → has x (numbers set) ≡ true
unfolding has
some_has p [] x h = h
some_has p (m ∷ set) x h =
    some_has_one (p m) (m.task.c == x) x m.task.c (numbers (filter p set)) (numbers set) (some_has p set x)
    (ap (λ (ns : List ℕ). has x ns) (sym (filter_numbers (p m) m (filter p set))) ∙ h) refl

some_distinct_one : (t : Bool) (c : ℕ) (ns : List ℕ) → has c ns ≡ false → distinct ns ≡ true → distinct (cond t (c ∷ ns) ns) ≡ true
unfolding distinct
some_distinct_one true c ns h d = and_both (not (has c ns)) _ (is_not _ h) d
some_distinct_one false c ns h d = d

not_has : (x : ℕ) (few all : List ℕ) → (has x few ≡ true → has x all ≡ true) → has x all ≡ false → has x few ≡ false
not_has x few all f h = by_cases (has x few) (has x all) f h

pub some_distinct : (p : Member → Bool) (set : List Member) → distinct (numbers set) ≡ true → distinct (numbers (filter p set)) ≡ true
unfolding distinct
some_distinct p [] d = refl
some_distinct p (m ∷ set) d =
    let now = both (not (has m.task.c (numbers set))) _ d in
    ap distinct (filter_numbers (p m) m (filter p set))
    ∙ some_distinct_one (p m) m.task.c (numbers (filter p set))
    (not_has m.task.c (numbers (filter p set)) (numbers set) (some_has p set m.task.c) (not_is (has m.task.c (numbers set)) now.0)) (some_distinct p set now.1)

pub first_has : (x c : ℕ) (cs : List ℕ) → nat_eq c x ≡ true → has x (c ∷ cs) ≡ true
unfolding has
first_has x c cs e = ap (λ (b : Bool). b || has x cs) e

pub later_has : (c x : ℕ) (cs : List ℕ) → has x cs ≡ true → has x (c ∷ cs) ≡ true
unfolding has
later_has c x cs h = or_right (c == x) _ h

-- what is left still has the others
has_left_one : (t u : Bool) (c x n : ℕ) (xs : List ℕ) → nat_eq n c ≡ t → nat_eq n x ≡ u → (x ≡ c → ⊥) → (u || has x xs) ≡ true → (has x xs ≡ true → has x (left_out c xs) ≡ true) → has x (left_out c (n ∷ xs)) ≡ true
unfolding has
has_left_one true true c x n xs e f ne h k = absurd (ne (sym (eqb-true n x f) ∙ eqb-true n c e))
has_left_one true false c x n xs e f ne h k = ap (λ (ys : List ℕ). has x ys) (left_out_one true c n xs e) ∙ k h
has_left_one false true c x n xs e f ne h k = ap (λ (ys : List ℕ). has x ys) (left_out_one false c n xs e) ∙ ap (λ (b : Bool). b || has x (left_out c xs)) f
has_left_one false false c x n xs e f ne h k = ap (λ (ys : List ℕ). has x ys) (left_out_one false c n xs e) ∙ ap (λ (b : Bool). b || has x (left_out c xs)) f ∙ k h

pub has_left : (c x : ℕ) (xs : List ℕ) → (x ≡ c → ⊥) → has x xs ≡ true → has x (left_out c xs) ≡ true
unfolding has
has_left c x [] ne h = h
has_left c x (n ∷ xs) ne h = has_left_one (n == c) (n == x) c x n xs refl refl ne h (has_left c x xs ne)

left_last : (c : ℕ) (xs : List ℕ) → has c xs ≡ false → left_out c (xs ++ c ∷ []) ≡ xs
unfolding has
left_last c [] h = left_out_one true c c [] (eq-eqb c c refl)
left_last c (x ∷ xs) h =
    let now = none_of (x == c) _ h in
    left_out_one false c x (xs ++ c ∷ []) now.0 ∙ ap (λ (ys : List ℕ). x ∷ ys) (left_last c xs now.1)

left_absent_one : (t : Bool) (c x : ℕ) (xs : List ℕ) → nat_eq x c ≡ t → has c (left_out c xs) ≡ false → has c (left_out c (x ∷ xs)) ≡ false
unfolding has
left_absent_one true c x xs e h = ap (λ (ys : List ℕ). has c ys) (left_out_one true c x xs e) ∙ h
left_absent_one false c x xs e h = ap (λ (ys : List ℕ). has c ys) (left_out_one false c x xs e) ∙ neither (x == c) _ e h

-- one that is left out isn't among the rest
pub left_absent : (c : ℕ) (xs : List ℕ) → has c (left_out c xs) ≡ false
unfolding has
left_absent c [] = refl
left_absent c (x ∷ xs) = left_absent_one (x == c) c x xs refl (left_absent c xs)

-- the commands inside are those of the set, none twice, and all are accounted for
pub record Good (s : State) (t : Tally) : Type 0 where
  pub inside : t.inside ≡ numbers s.set
  pub once : distinct t.inside ≡ true
  pub low : below s.arrived t.inside ≡ true
  pub sum : t.came ≡ t.ended + t.aborted + t.cut + length t.inside

same_good : (s u : State) (t : Tally) → numbers u.set ≡ numbers s.set → u.arrived ≡ s.arrived → Good s t → Good u t
same_good s u t set arrived g = record {
  inside = g.inside ∙ sym set;
  once = g.once;
  low = ap (λ (k : ℕ). below k t.inside) arrived ∙ g.low;
  sum = g.sum;
}

ended_good : (s u : State) (t : Tally) (c : ℕ) (reply : Reply) → numbers u.set ≡ left_out c (numbers s.set) → u.arrived ≡ s.arrived → has c t.inside ≡ true → Good s t → Good u (tally_after t (Ended c reply))
ended_good s u t c reply set arrived here g =
    let one : suc (length (left_out c t.inside)) ≡ length t.inside = present c t.inside g.once here in
    let sum : t.came ≡ t.ended + t.aborted + t.cut + length t.inside = g.sum in
    record {
      inside = ap (left_out c) g.inside ∙ sym set;
      once = distinct_less c t.inside g.once;
      low = ap (λ (k : ℕ). below k (left_out c t.inside)) arrived ∙ below_less s.arrived c t.inside g.low;
      sum = omega arith;
    }

aborted_good : (s u : State) (t : Tally) (c : ℕ) → numbers u.set ≡ left_out c (numbers s.set) → u.arrived ≡ s.arrived → has c t.inside ≡ true → Good s t → Good u (tally_after t (Aborted c))
aborted_good s u t c set arrived here g =
    let one : suc (length (left_out c t.inside)) ≡ length t.inside = present c t.inside g.once here in
    let sum : t.came ≡ t.ended + t.aborted + t.cut + length t.inside = g.sum in
    record {
      inside = ap (left_out c) g.inside ∙ sym set;
      once = distinct_less c t.inside g.once;
      low = ap (λ (k : ℕ). below k (left_out c t.inside)) arrived ∙ below_less s.arrived c t.inside g.low;
      sum = omega arith;
    }

-- a command that owes something is in
pub owes_in : (o : Option Member) (s : State) (c : ℕ) (f : Plan → Option Plan) → member_of s.set c ≡ o → is_some (option_and_then f (option_and_then (λ m. (s.duties c).owes) o)) ≡ true → has c (numbers s.set) ≡ true
owes_in None s c f e h = absurd (cc)
owes_in (Some m) s c f e h = member_has c s.set m e

good_work : (capacity : ℕ) (label : Label) (s : State) (e : Entry) (t : Tally) → entry_lawful capacity label s e ≡ true → Good s t → Good (entry_after capacity label s e) (tally_after t e)
unfolding distinct below has
good_work capacity label s (Started c) t h g = same_good s (entry_after capacity label s (Started c)) t (numbers_started c s.set) refl g
good_work capacity label s (Ended c reply) t h g =
    let owes = (both (works_on label c) _ (both (works_on label c && is_owed label s (Ended c reply)) _ h).0).1 in
    ended_good s (entry_after capacity label s (Ended c reply)) t c reply (numbers_without c s.set) refl
    (ap (λ (ns : List ℕ). has c ns) g.inside ∙ owes_in (member_of s.set c) s c _ refl owes) g
good_work capacity label s Cut t h g =
    let sum : t.came ≡ t.ended + t.aborted + t.cut + length t.inside = g.sum in
    record { inside = refl; once = refl; low = refl; sum = omega arith }
good_work capacity label s (Arrived c i m a cdb sent) t h g = absurd (cc)
good_work capacity label s (Aborted c) t h g = absurd (cc)
good_work capacity label s other t h g = same_good s _ t refl refl g

good_works : (capacity : ℕ) (label : Label) (s : State) (entries : List Entry) (t : Tally) → all_along (entry_after capacity label) (entry_lawful capacity label) s entries ≡ true → Good s t
    → Good (entries_after capacity label s entries) (fold tally_after t entries)
good_works capacity label s [] t h g = g
good_works capacity label s (e ∷ entries) t h g =
    let now = both (entry_lawful capacity label s e) _ h in
    good_works capacity label (entry_after capacity label s e) entries (tally_after t e) now.1 (good_work capacity label s e t now.0 g)

-- commands that a function ends
good_aborts : (capacity i : ℕ) (s : State) (cs : List ℕ) (entries : List Entry) (t : Tally) → are_aborted cs entries ≡ true → distinct cs ≡ true
    → ((x : ℕ) → has x cs ≡ true → has x t.inside ≡ true) → Good s t → Good (entries_after capacity (Arrive i) s entries) (fold tally_after t entries)
unfolding distinct has
good_aborts capacity i s [] [] t h d f g = g
good_aborts capacity i s (c ∷ cs) (Aborted k ∷ entries) t h d f g =
    let now = both (c == k) _ h in
    let is : c ≡ k = eqb-true c k now.0 in
    let apart = both (not (has c cs)) _ d in
    let absent_c : has c cs ≡ false = not_is (has c cs) apart.0 in
    let here : has k t.inside ≡ true = f k (first_has k c cs now.0) in
    good_aborts capacity i (entry_after capacity (Arrive i) s (Aborted k)) cs entries (tally_after t (Aborted k)) now.1 apart.1
    (λ x hx. has_left k x t.inside (λ e. true_not_false hx (ap (λ (n : ℕ). has n cs) (e ∙ sym is) ∙ absent_c)) (f x (later_has c x cs hx)))
    (aborted_good s (entry_after capacity (Arrive i) s (Aborted k)) t k (numbers_without k s.set) refl here g)
good_aborts capacity i s cs entries t h d f g = absurd (cc)

-- a command that comes
good_arrival : (capacity i : ℕ) (s : State) (full : Bool) (c : ℕ) (entries : List Entry) (t : Tally) → is_full s ≡ full → c ≡ s.arrived + 1 → is_answered full c entries ≡ true → Good s t
    → (j : ℕ) (m : Tag) (a : Attribute) (cdb : List ℕ) (sent : DataOut)
    → Good (entries_after capacity (Arrive i) s (Arrived c j m a cdb sent ∷ entries)) (fold tally_after t (Arrived c j m a cdb sent ∷ entries))
good_arrival capacity i s false c [] t f is h g j m a cdb sent =
    let sum : t.came ≡ t.ended + t.aborted + t.cut + length t.inside = g.sum in
    let long : length (t.inside ++ c ∷ []) ≡ length t.inside + 1 = length-append t.inside (c ∷ []) in
    let absent_c : has c t.inside ≡ false = below_absent s.arrived c t.inside (omega arith) g.low in
    let set : numbers (entry_after capacity (Arrive i) s (Arrived c j m a cdb sent)).set ≡ numbers s.set ++ c ∷ [] =
    ap (λ (u : Bool). numbers (cond u s.set (s.set ++ record { task = task_arrived capacity c j m a cdb sent; started = false } ∷ []))) f
    ∙ numbers_append s.set (record { task = task_arrived capacity c j m a cdb sent; started = false }) in
    record {
      inside = ap (λ (ns : List ℕ). ns ++ c ∷ []) g.inside ∙ sym set;
      once = distinct_more t.inside c g.once absent_c;
      low = below_append (s.arrived + 1) c t.inside (omega arith) (below_more s.arrived (s.arrived + 1) t.inside (omega arith) g.low);
      sum = omega arith;
    }
good_arrival capacity i s true c (Ended k reply ∷ []) t f is h g j m a cdb sent =
    let sum : t.came ≡ t.ended + t.aborted + t.cut + length t.inside = g.sum in
    let same : k ≡ c = eqb-true k c (both (k == c) _ h).0 in
    let absent_c : has c t.inside ≡ false = below_absent s.arrived c t.inside (omega arith) g.low in
    let back : left_out k (t.inside ++ c ∷ []) ≡ t.inside = ap (λ (n : ℕ). left_out n (t.inside ++ c ∷ [])) same ∙ left_last c t.inside absent_c in
    let set : numbers (entries_after capacity (Arrive i) s (Arrived c j m a cdb sent ∷ Ended k reply ∷ [])).set ≡ t.inside =
    ap (λ (u : Bool). numbers (without (cond u s.set (s.set ++ record { task = task_arrived capacity c j m a cdb sent; started = false } ∷ [])) k)) f
    ∙ numbers_without k s.set ∙ ap (left_out k) (sym g.inside) ∙ ap (λ (n : ℕ). left_out n t.inside) same ∙ absent c t.inside absent_c in
    record {
      inside = back ∙ sym set;
      once = ap distinct back ∙ g.once;
      low = ap (λ (ns : List ℕ). below (s.arrived + 1) ns) back ∙ below_more s.arrived (s.arrived + 1) t.inside (omega arith) g.low;
      sum = let long : length (left_out k (t.inside ++ c ∷ [])) ≡ length t.inside = ap length back in omega arith;
    }
good_arrival capacity i s full c entries t f is h g j m a cdb sent = absurd (cc)

arrival_good : (capacity i : ℕ) (s : State) (entries : List Entry) (t : Tally) → arrival_lawful s i entries ≡ true → Good s t → Good (entries_after capacity (Arrive i) s entries) (fold tally_after t entries)
unfolding distinct has
arrival_good capacity i s (Arrived c j m a cdb sent ∷ entries) t h g =
    let now = both (j == i && c == s.arrived + 1) _ h in
    good_arrival capacity i s (is_full s) c entries t refl (eqb-true c (s.arrived + 1) (both (j == i) _ now.0).1) now.1 g j m a cdb sent
arrival_good capacity i s (Asked j what ∷ entries) t h g =
    let named = is_named (named_by i what) in
    good_aborts capacity i (entry_after capacity (Arrive i) s (Asked j what)) (numbers (filter named s.set)) entries t (both (j == i) _ h).1
    (some_distinct named s.set (ap distinct (sym g.inside) ∙ g.once))
    (λ x hx. ap (λ (ns : List ℕ). has x ns) g.inside ∙ some_has named s.set x hx)
    (same_good s (entry_after capacity (Arrive i) s (Asked j what)) t refl refl g)
arrival_good capacity i s entries t h g = absurd (cc)

work_good : (capacity : ℕ) (label : Label) (s : State) (entries : List Entry) (t : Tally) → work_lawful capacity label s entries ≡ true → Good s t
    → Good (entries_after capacity label s entries) (fold tally_after t entries)
work_good capacity label s entries t h g =
    good_works capacity label s entries t (both (starts_alone entries) _ (both (starts_alone entries && all_along (entry_after capacity label) (entry_lawful capacity label) s entries) _ h).0).1 g

pub label_good : (capacity : ℕ) (label : Label) (s : State) (entries : List Entry) (t : Tally) → entries_lawful capacity label s entries ≡ true → Good s t
    → Good (entries_after capacity label s entries) (fold tally_after t entries)
label_good capacity (Arrive i) s entries t h g = arrival_good capacity i s entries t h g
label_good capacity (Work c) s entries t h g = work_good capacity (Work c) s entries t h g
label_good capacity (Job j) s entries t h g = work_good capacity (Job j) s entries t h g
label_good capacity Scan s entries t h g = work_good capacity Scan s entries t h g
label_good capacity Destage s entries t h g = work_good capacity Destage s entries t h g
label_good capacity (World w) s entries t h g = work_good capacity (World w) s entries t h g

pub begun_good : (label : Label) (s : State) (t : Tally) → Good s t → Good (begun s label) t
begun_good (Work c) s t g = same_good s (begun s (Work c)) t refl refl g
begun_good (Arrive i) s t g = g
begun_good (Job j) s t g = g
begun_good Scan s t g = g
begun_good Destage s t g = g
begun_good (World w) s t g = g

turns_good : (capacity : ℕ) (s : State) (turns : List Turn) (t : Tally) → task_legal_from capacity s turns ≡ true → Good s t → Good (turns_after capacity s turns) (fold tally_after t (entries_of turns))
turns_good capacity s [] t h g = g
turns_good capacity s (turn ∷ turns) t h g =
    let now = both (tasks_lawful capacity s turn) _ h in
    let here = label_good capacity turn.label (begun s turn.label) turn.entries t now.0 (begun_good turn.label s t g) in
    subst (λ (x : Tally). Good (turns_after capacity (turn_after capacity s turn) turns) x) (sym (fold_both tally_after t turn.entries (entries_of turns)))
    (turns_good capacity (turn_after capacity s turn) turns (fold tally_after t turn.entries) now.1 here)

pub commands_are_accounted_for : CommandsAreAccountedFor
unfolding distinct below has
commands_are_accounted_for capacity waiting turns legal =
    let start : Good (state_at_start waiting) tally_at_start = record { inside = refl; once = refl; low = refl; sum = refl } in
    let g = turns_good capacity (state_at_start waiting) turns tally_at_start legal start in
    (g.sum, g.inside)
