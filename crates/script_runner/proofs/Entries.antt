-- Which entries the turns of a good run have.
use Rattle.std.proofs.Common.{◌≡◌, refl, subst, ℕ, ◌+◌, Bool, true, false, List, [], ◌∷◌, arith, cond, eqb-true}
use Rattle.std.specs.Prelude.{filter_map, ◌==◌, ◌&&◌}
use Rattle.disk_base.specs.Along.{all_along}
use Rattle.disk_base.specs.declared.address.Tag.{Tag}
use Rattle.disk_base.specs.declared.command.Attribute.{Attribute}
use Rattle.disk_base.specs.declared.command.DataOut.{DataOut}
use Rattle.task_set.specs.Members.{with_arrived}
use Rattle.block_machine.specs.declared.entry.Entry.{Entry}
use Rattle.block_machine.specs.declared.entry.Entry.TheVariants.{Arrived, Started, Ended, Aborted, Asked, Cut}
use Rattle.block_machine.specs.declared.turn.Label.{Label}
use Rattle.block_machine.specs.declared.turn.Label.TheVariants.{Arrive, Work, Job, Scan, Destage, World}
use Rattle.block_machine.specs.Entries.{entry_lawful}
use Rattle.block_machine.specs.State.{State, is_full}
use Rattle.block_machine.specs.Steps.{entry_after, entries_after, set_after, arrived_after, task_arrived}
use Rattle.block_machine.specs.Turns.{entries_lawful, arrival_lawful, work_lawful, is_answered, are_aborted, starts_alone, is_settled}
use Rattle.block_machine.proofs.Booleans.{both}
use Rattle.script_runner.specs.Each.{Each}
use Rattle.script_runner.specs.Ages.{Between}
use Rattle.script_runner.specs.Arrivals.{arrival_of_entry}
use Rattle.script_runner.proofs.Ages.{one_arrived, one_started, one_left, to_higher}

-- nothing arrives by an entry
abbrev pub IsNoArrival : Entry → Type 0
IsNoArrival (Arrived c i t a cdb sent) = ⊥
IsNoArrival (Asked i what) = ⊥
IsNoArrival other = Unit {0}

no_arrival : (capacity : ℕ) (label : Label) (h : State) (e : Entry) → entry_lawful capacity label h e ≡ true → IsNoArrival e
no_arrival capacity label h (Arrived c i t a cdb sent) e = absurd (cc)
no_arrival capacity label h (Asked i what) e = absurd (cc)
no_arrival capacity label h other e = tt

along_no_arrival : (capacity : ℕ) (label : Label) (h : State) (entries : List Entry)
    → all_along (entry_after capacity label) (entry_lawful capacity label) h entries ≡ true → Each IsNoArrival entries
along_no_arrival capacity label h [] e = tt
along_no_arrival capacity label h (x ∷ xs) e =
    let now = both (entry_lawful capacity label h x) _ e in
    (no_arrival capacity label h x now.0, along_no_arrival capacity label (entry_after capacity label h x) xs now.1)

abbrev pub IsArrive : Label → Type 0
IsArrive (Arrive i) = Unit {0}
IsArrive other = ⊥

pub working : (capacity : ℕ) (label : Label) (h : State) (entries : List Entry) → work_lawful capacity label h entries ≡ true
    → all_along (entry_after capacity label) (entry_lawful capacity label) h entries ≡ true
working capacity label h entries e =
    let first = both (starts_alone entries && all_along (entry_after capacity label) (entry_lawful capacity label) h entries) (is_settled label (entries_after capacity label h entries)) e in
    (both (starts_alone entries) (all_along (entry_after capacity label) (entry_lawful capacity label) h entries) first.0).1

-- nothing arrives in a turn that isn't an arrival's
pub nothing_arrives : (capacity : ℕ) (label : Label) (h : State) (entries : List Entry) → (IsArrive label → ⊥) → entries_lawful capacity label h entries ≡ true → Each IsNoArrival entries
nothing_arrives capacity (Arrive i) h entries quiet e = absurd (quiet tt)
nothing_arrives capacity (Work c) h entries quiet e = along_no_arrival capacity (Work c) h entries (working capacity (Work c) h entries e)
nothing_arrives capacity (Job j) h entries quiet e = along_no_arrival capacity (Job j) h entries (working capacity (Job j) h entries e)
nothing_arrives capacity Scan h entries quiet e = along_no_arrival capacity Scan h entries (working capacity Scan h entries e)
nothing_arrives capacity Destage h entries quiet e = along_no_arrival capacity Destage h entries (working capacity Destage h entries e)
nothing_arrives capacity (World w) h entries quiet e = along_no_arrival capacity (World w) h entries (working capacity (World w) h entries e)

pub answered : (full : Bool) (c : ℕ) (rest : List Entry) → is_answered full c rest ≡ true → Each IsNoArrival rest
answered full c [] e = tt
answered true c (Ended d reply ∷ []) e = (tt, tt)
answered full c rest e = absurd (cc)

pub aborted : (cs : List ℕ) (rest : List Entry) → are_aborted cs rest ≡ true → Each IsNoArrival rest
aborted [] [] e = tt
aborted (c ∷ cs) (Aborted d ∷ rest) e = (tt, aborted cs rest (both (c == d) _ e).1)
aborted cs rest e = absurd (cc)

-- the turn of an arrival: the command that comes has the next number, and nothing else arrives
pub record Arrives (h : State) (i : ℕ) (entries : List Entry) (c j : ℕ) (t : Tag) (a : Attribute) (cdb : List ℕ) (sent : DataOut) (rest : List Entry) : Type 0 where
  pub is : entries ≡ Arrived c j t a cdb sent ∷ rest
  pub sender : j ≡ i
  pub next : c ≡ h.arrived + 1
  pub nothing_else : Each IsNoArrival rest
  pub answered : is_answered (is_full h) c rest ≡ true

pub arrives : (capacity : ℕ) (h : State) (i c j : ℕ) (t : Tag) (a : Attribute) (cdb : List ℕ) (sent : DataOut) (rest : List Entry)
    → arrival_lawful h i (Arrived c j t a cdb sent ∷ rest) ≡ true → Arrives h i (Arrived c j t a cdb sent ∷ rest) c j t a cdb sent rest
arrives capacity h i c j t a cdb sent rest e =
    let all = both (j == i && c == h.arrived + 1) (is_answered (is_full h) c rest) e in
    let first = both (j == i) (c == h.arrived + 1) all.0 in
    record { is = refl; sender = eqb-true j i first.0; next = eqb-true c (h.arrived + 1) first.1; nothing_else = answered (is_full h) c rest all.1; answered = all.1 }

-- what arrived by entries by which nothing arrives
pub none_arrived : (entries : List Entry) → Each IsNoArrival entries → filter_map arrival_of_entry entries ≡ []
none_arrived [] h = refl
none_arrived (Arrived c i t a cdb sent ∷ rest) h = absurd h.0
none_arrived (Asked i what ∷ rest) h = absurd h.0
none_arrived (e ∷ rest) h = none_arrived rest h.1

-- numbers ascend after an entry by which nothing arrives
age_after : (capacity : ℕ) (label : Label) (h : State) (e : Entry) → IsNoArrival e → Between 0 h.set h.arrived
    → Between 0 (set_after capacity h e) (arrived_after h.arrived e)
age_after capacity label h (Started c) quiet ages = one_started 0 h.set h.arrived c ages
age_after capacity label h (Ended c reply) quiet ages = one_left 0 h.set h.arrived c ages
age_after capacity label h (Aborted c) quiet ages = one_left 0 h.set h.arrived c ages
age_after capacity label h Cut quiet ages = omega arith
age_after capacity label h (Arrived c i t a cdb sent) quiet ages = absurd quiet
age_after capacity label h (Asked i what) quiet ages = absurd quiet
age_after capacity label h other quiet ages = ages

pub ages_after : (capacity : ℕ) (label : Label) (h : State) (entries : List Entry) → Each IsNoArrival entries → Between 0 h.set h.arrived
    → Between 0 (entries_after capacity label h entries).set (entries_after capacity label h entries).arrived
ages_after capacity label h [] quiet ages = ages
ages_after capacity label h (e ∷ entries) quiet ages = ages_after capacity label (entry_after capacity label h e) entries quiet.1 (age_after capacity label h e quiet.0 ages)

pub age_arrived : (capacity : ℕ) (h : State) (c j : ℕ) (t : Tag) (a : Attribute) (cdb : List ℕ) (sent : DataOut) → c ≡ h.arrived + 1 → Between 0 h.set h.arrived
    → Between 0 (set_after capacity h (Arrived c j t a cdb sent)) (h.arrived + 1)
age_arrived capacity h c j t a cdb sent next ages = go (is_full h)
  where
    go : (b : Bool) → Between 0 (cond b h.set (with_arrived h.set (task_arrived capacity c j t a cdb sent))) (h.arrived + 1)
    go true = to_higher 0 h.set h.arrived (h.arrived + 1) (omega arith) ages
    go false = subst (λ (k : ℕ). Between 0 (with_arrived h.set (task_arrived capacity c j t a cdb sent)) k) next (one_arrived 0 h.set h.arrived (task_arrived capacity c j t a cdb sent) ages (omega arith))

-- no command more came
pub arrived_same : (capacity : ℕ) (label : Label) (h : State) (entries : List Entry) → Each IsNoArrival entries → (entries_after capacity label h entries).arrived ≡ h.arrived
arrived_same capacity label h [] quiet = refl
arrived_same capacity label h (Arrived c i t a cdb sent ∷ entries) quiet = absurd quiet.0
arrived_same capacity label h (e ∷ entries) quiet = arrived_same capacity label (entry_after capacity label h e) entries quiet.1
