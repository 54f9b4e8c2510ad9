-- A command that ends with success started.
use Rattle.std.proofs.Common.{◌≡◌, ◌∙◌, ap, sym, refl, ℕ, Bool, true, false, cond, nat_eq, List, [], ◌∷◌, ◌++◌}
use Rattle.std.specs.Prelude.{◌||◌, fold, Option, Some, None}
use Rattle.std.specs.List.{list_any}
use Rattle.std.proofs.lemmas.Bool.{eqb-true}
use Rattle.disk_base.specs.Along.{all_along}
use Rattle.sense_data.specs.declared.reply.Reply.{Reply}
use Rattle.block_machine.specs.declared.entry.Entry.{Entry}
use Rattle.block_machine.specs.declared.entry.Entry.TheVariants.{Arrived, Started, Ended}
use Rattle.block_machine.specs.declared.turn.Label.{Label}
use Rattle.block_machine.specs.declared.turn.Label.TheVariants.{Arrive, Work, Job, Scan, Destage, World}
use Rattle.block_machine.specs.State.{State, Duty, state_at_start}
use Rattle.block_machine.specs.Steps.{entry_after, duties_after, duties_done, begun}
use Rattle.block_machine.specs.Deeds.{Done, done_by, owed_after}
use Rattle.block_machine.specs.Parts.{arrival}
use Rattle.block_machine.specs.Laws.{OfTaskLegalHistories, SuccessesFollowStarts}
use Rattle.block_machine.proofs.Alongs.{along_second}
use Rattle.block_machine.proofs.Stepwise.{Step, Begins, Does, step_after, step_ok, entry_ok, entries_in, steps_of, steps_ok, parted, entries_of_steps, put_there}
use Rattle.block_machine.proofs.OneCommand.{ok_cases, nothing_after}
use Rattle.block_machine.proofs.ReadLaw.{end_owed}
use Rattle.block_machine.proofs.Booleans.{both, none_of}

-- an entry starts this command
unfoldable pub starts : ℕ → Entry → Bool
starts c (Started d) = nat_eq c d
starts c other = false

-- a change of one command, seen at another or the same
changed_one : (t : Bool) (d e : Duty) → (t ≡ true → d.owes ≡ None) → e.owes ≡ None → (cond t d e).owes ≡ None
changed_one true d e h k = h refl
changed_one false d e h k = k

done_quiet : (c : ℕ) (s : State) (o : Option Done) → (s.duties c).owes ≡ None → (duties_done s o c).owes ≡ None
done_quiet c s None h = h
done_quiet c s (Some d) h =
    changed_one (nat_eq c d.c) (record (s.duties d.c) { owes = owed_after s d }) (s.duties c)
    (λ e. nothing_after s d.c d.what (ap (λ (n : ℕ). (s.duties n).owes) (sym (eqb-true c d.c e)) ∙ h)) h

other_started : (t : Bool) (d e : Duty) → t ≡ false → e.owes ≡ None → (cond t d e).owes ≡ None
other_started true d e h k = absurd (cc)
other_started false d e h k = k

-- a command that owes nothing owes nothing until it starts
pub quiet : (capacity c : ℕ) (label : Label) (s : State) (e : Entry) → starts c e ≡ false → (s.duties c).owes ≡ None → (duties_after capacity label s e c).owes ≡ None
unfolding starts
quiet capacity c label s (Arrived d i t a cdb sent) q h = changed_one (nat_eq c d) _ (s.duties c) (λ e. refl) h
quiet capacity c label s (Started d) q h = other_started (nat_eq c d) _ (s.duties c) q h
quiet capacity c label s other q h = done_quiet c s (done_by label s other) h

pub begun_quiet : (c : ℕ) (label : Label) (s : State) → (s.duties c).owes ≡ None → ((begun s label).duties c).owes ≡ None
begun_quiet c (Work d) s h =
    changed_one (nat_eq c d) (record (s.duties d) { dirty_then = s.dirty }) (s.duties c) (λ e. ap (λ (n : ℕ). (s.duties n).owes) (sym (eqb-true c d e)) ∙ h) h
begun_quiet c (Arrive i) s h = h
begun_quiet c (Job j) s h = h
begun_quiet c Scan s h = h
begun_quiet c Destage s h = h
begun_quiet c (World w) s h = h

steps_quiet : (capacity c : ℕ) (s : State) (steps : List Step) → list_any (starts c) (entries_in steps) ≡ false → (s.duties c).owes ≡ None
    → ((fold (step_after capacity) s steps).duties c).owes ≡ None
steps_quiet capacity c s [] q h = h
steps_quiet capacity c s (Begins label ∷ steps) q h = steps_quiet capacity c (begun s label) steps q (begun_quiet c label s h)
steps_quiet capacity c s (Does label e ∷ steps) q h =
    let now = none_of (starts c e) _ q in
    steps_quiet capacity c (entry_after capacity label s e) steps now.1 (quiet capacity c label s e now.0 h)

-- entries parted at the start
record StartedAt (c : ℕ) (entries : List Entry) : Type 0 where
  queued : List Entry
  rest : List Entry
  whole : entries ≡ queued ++ Started c ∷ rest

start_is : (c : ℕ) (e : Entry) → starts c e ≡ true → e ≡ Started c
unfolding starts
start_is c (Started d) h = ap (λ (n : ℕ). Started n) (sym (eqb-true c d h))
start_is c other h = absurd (cc)

one_starts : (t : Bool) (c : ℕ) (e : Entry) (entries : List Entry) → starts c e ≡ t → (t || list_any (starts c) entries) ≡ true
    → (list_any (starts c) entries ≡ true → StartedAt c entries) → StartedAt c (e ∷ entries)
one_starts true c e entries is h f = record { queued = []; rest = entries; whole = ap (λ (x : Entry). x ∷ entries) (start_is c e is) }
one_starts false c e entries is h f =
    let later = f h in
    record { queued = e ∷ later.queued; rest = later.rest; whole = ap (λ (es : List Entry). e ∷ es) later.whole }

started_at_one : (c : ℕ) (entries : List Entry) → list_any (starts c) entries ≡ true → StartedAt c entries
started_at_one c [] h = absurd (cc)
started_at_one c (e ∷ entries) h = one_starts (starts c e) c e entries refl h (started_at_one c entries)

started_unless : (t : Bool) (c : ℕ) (entries : List Entry) → list_any (starts c) entries ≡ t → (list_any (starts c) entries ≡ false → ⊥) → StartedAt c entries
started_unless true c entries h never = started_at_one c entries h
started_unless false c entries h never = absurd (never h)

pub successes_follow_starts : OfTaskLegalHistories SuccessesFollowStarts
successes_follow_starts capacity waiting turns legal done success =
    let start : State = state_at_start waiting in
    let x = done.command in
    let c : ℕ = x.number in
    let reply : Reply = done.reply in
    let first : List Entry = done.before in
    let between : List Entry = done.between in
    let after : List Entry = done.behind in
    let comes : Entry = arrival x in
    let p = parted (steps_of turns) first comes (between ++ Ended c reply ∷ after) (entries_of_steps turns ∙ done.whole) in
    let q = parted p.behind between (Ended c reply) after p.last in
    let h0 : all_along (step_after capacity) (step_ok capacity) start (p.before ++ Does p.label comes ∷ p.behind) ≡ true =
    ap (λ (x : List Step). all_along (step_after capacity) (step_ok capacity) start x) (sym p.whole) ∙ steps_ok capacity start turns legal in
    let s : State = fold (step_after capacity) start p.before in
    let h1 = both (entry_ok capacity p.label s comes) _ (along_second (step_after capacity) (step_ok capacity) start p.before (Does p.label comes ∷ p.behind) h0) in
    let u : State = entry_after capacity p.label s comes in
    let h2 : all_along (step_after capacity) (step_ok capacity) u (q.before ++ Does q.label (Ended c reply) ∷ q.behind) ≡ true =
    ap (λ (x : List Step). all_along (step_after capacity) (step_ok capacity) u x) (sym q.whole) ∙ h1.1 in
    let v : State = fold (step_after capacity) u q.before in
    let h3 = both (entry_ok capacity q.label v (Ended c reply)) _ (along_second (step_after capacity) (step_ok capacity) u q.before (Does q.label (Ended c reply) ∷ q.behind) h2) in
    let o = end_owed capacity c q.label v reply (ok_cases capacity q.label v (Ended c reply) h3.0) success in
    let new : (u.duties c).owes ≡ None = ap (λ (d : Duty). d.owes) (put_there c _ s.duties) in
    let at = started_unless (list_any (starts c) between) c between refl (λ none.
    let owes : (v.duties c).owes ≡ None =
    steps_quiet capacity c u q.before (ap (λ (es : List Entry). list_any (starts c) es) q.first ∙ none) new in
    let no : None ≡ Some o.before = sym owes ∙ o.owes in
    absurd (cc)) in
    (at.queued, at.rest, at.whole)
