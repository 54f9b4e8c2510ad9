-- What a legal history says of a single command from its start on.
use Rattle.std.proofs.Common.{◌≡◌, ◌∙◌, ap, sym, subst, refl, ℕ, ◌≤◌, true, List, [], ◌∷◌, ◌++◌}
use Rattle.std.specs.Prelude.{fold, Option, Some, None, Result}
use Rattle.std.proofs.lemmas.Bool.{eq-eqb}
use Rattle.disk_base.specs.Along.{all_along}
use Rattle.disk_base.specs.declared.address.Tag.{Tag}
use Rattle.disk_base.specs.declared.command.Attribute.{Attribute}
use Rattle.disk_base.specs.declared.command.DataOut.{DataOut}
use Rattle.sense_data.specs.declared.sense.Sense.{Sense}
use Rattle.sense_data.specs.declared.reply.Reply.{Reply}
use Rattle.sense_data.specs.Attentions.{Waiting}
use Rattle.mode_pages.specs.declared.settings.Settings.{Settings}
use Rattle.mode_pages.specs.Settings.{default_settings}
use Rattle.task_set.specs.Members.{member_of}
use Rattle.cdb_reader.specs.declared.plan.Plan.{Plan}
use Rattle.cdb_reader.specs.declared.plan.Deed.{Deed}
use Rattle.cdb_reader.specs.Plan.{next}
use Rattle.cdb_reader.specs.Read.{read_of}
use Rattle.cdb_reader.specs.Request.{Request}
use Rattle.block_machine.specs.declared.entry.Entry.{Entry}
use Rattle.block_machine.specs.declared.entry.Entry.TheVariants.{Arrived, Started, Ended}
use Rattle.block_machine.specs.declared.turn.Label.{Label}
use Rattle.block_machine.specs.declared.turn.Label.TheVariants.{Arrive, Work, Job, Scan, Destage, World}
use Rattle.block_machine.specs.declared.turn.Turn.{Turn}
use Rattle.block_machine.specs.State.{State, Duty, initiator_of, state_at_start}
use Rattle.block_machine.specs.Steps.{entry_after, begun, settings_after}
use Rattle.block_machine.specs.Entries.{entry_lawful, may_start, works_on}
use Rattle.block_machine.specs.Plans.{first_plan}
use Rattle.block_machine.specs.Deeds.{done_by}
use Rattle.block_machine.specs.History.{task_legal_from, entries_of}
use Rattle.block_machine.specs.Laws.{settings_left}
use Rattle.block_machine.proofs.Alongs.{along_first, along_second, fold_both}
use Rattle.block_machine.proofs.Stepwise.{Step, Begins, Does, step_after, step_ok, entry_ok, entries_in, steps_of, steps_ok, parted, entries_of_steps}
use Rattle.block_machine.proofs.OneCommand.{NotBy, Flag, OkCases, arriving, working, ok_cases, Inv, AtEnd, put_here, start_started, found_started, no_restart, steps_kept, arrived_inv}
use Rattle.block_machine.proofs.Booleans.{both}

-- a turn that begins changes no mode value
settings_begun : (s : State) (label : Label) → (begun s label).settings ≡ s.settings
settings_begun s (Arrive i) = refl
settings_begun s (Work c) = refl
settings_begun s (Job j) = refl
settings_begun s Scan = refl
settings_begun s Destage = refl
settings_begun s (World w) = refl

-- the mode values after steps are those after their entries
settings_along : (capacity : ℕ) (s : State) (steps : List Step) → (fold (step_after capacity) s steps).settings ≡ fold settings_after s.settings (entries_in steps)
settings_along capacity s [] = refl
settings_along capacity s (Begins label ∷ steps) =
    settings_along capacity (begun s label) steps ∙ ap (λ (x : Settings). fold settings_after x (entries_in steps)) (settings_begun s label)
settings_along capacity s (Does label e ∷ steps) = settings_along capacity (entry_after capacity label s e) steps

-- a start that may come
start_ok : (capacity c : ℕ) (label : Label) (s : State) → OkCases capacity label s (Started c) → may_start s c ≡ true
start_ok capacity c label s (arriving h) = absurd (cc)
start_ok capacity c label s (working h) = (both (works_on label c) _ h).1

-- a command that may start owes nothing yet
owes_none : (c : ℕ) (o : Option Plan) (s : State) → Flag c o s.set → may_start s c ≡ true → o ≡ None
unfolding Flag
owes_none c None s flag may = refl
owes_none c (Some plan) s flag may = absurd (no_restart (member_of s.set c) s (λ m f. found_started c s.set m flag f) may)

-- until its start nothing was counted for a command
abbrev Waits : {G : Type 0} → G → Option Plan → G → Type 0
Waits g None h = h ≡ g
Waits g (Some plan) h = Unit {0}

-- from then on what was counted fits what it owes
abbrev pub Runs : {G : Type 0} → (Plan → G → Type 0) → Option Plan → G → Type 0
Runs J None g = ⊥
Runs J (Some plan) g = J plan g

module _ {G : Type 0} (capacity c : ℕ) (asks : Result Request Sense) (sent : DataOut) (count : G → Entry → G) (J : Plan → G → Type 0)
    (idle : (label : Label) (s : State) (e : Entry) (g : G) → NotBy c (done_by label s e) → count g e ≡ g)
    (goes_on : (label : Label) (s : State) (e : Entry) (g : G) (what : Deed) (plan after : Plan) → done_by label s e ≡ Some (record { c = c; what = what })
    → entry_lawful capacity label s e ≡ true → next plan what ≡ Some after → J plan g → J after (count g e))
    (ends : (d : ℕ) (reply : Reply) (g : G) → count g (Ended d reply) ≡ g) where
  -- right after the start
  started_inv : (label : Label) (s : State) (g : G) → c ≤ s.arrived → (s.duties c).asks ≡ asks → (s.duties c).sent ≡ sent
      → J (first_plan capacity s (initiator_of s c) (s.duties c)) g → Inv c asks sent (Runs J) (entry_after capacity label s (Started c)) g
  unfolding Flag
  started_inv label s g came asked given fits =
      let same : (entry_after capacity label s (Started c)).duties c ≡ record (s.duties c) { owes = Some (first_plan capacity s (initiator_of s c) (s.duties c)) } =
      put_here c c _ s.duties (eq-eqb c c refl) in
      record {
        came = came;
        asked = ap (λ (x : Duty). x.asks) same ∙ asked;
        given = ap (λ (x : Duty). x.sent) same ∙ given;
        flag = subst (λ (x : Duty). Flag c x.owes (entry_after capacity label s (Started c)).set) (sym same) (start_started c s.set);
        plan = subst (λ (x : Duty). Runs J x.owes g) (sym same) fits;
      }

  -- when it ends, and that nothing was counted until it started
  pub from_its_start : (waiting : Waiting) (turns : List Turn) (first queued between after : List Entry) (j : ℕ) (t : Tag) (a : Attribute) (cdb : List ℕ) (reply : Reply) (g : G)
      → task_legal_from capacity (state_at_start waiting) turns ≡ true
      → entries_of turns ≡ first ++ Arrived c j t a cdb sent ∷ (queued ++ Started c ∷ (between ++ Ended c reply ∷ after))
      → read_of cdb sent capacity ≡ asks
      → ((s : State) (duty : Duty) → s.settings ≡ settings_left (first ++ Arrived c j t a cdb sent ∷ queued) → duty.asks ≡ asks → duty.sent ≡ sent
      → J (first_plan capacity s (initiator_of s c) duty) g)
      → AtEnd capacity c asks sent (Runs J) reply (fold count g between) × (fold count g (queued ++ Started c ∷ between) ≡ fold count g between)
  from_its_start waiting turns first queued between after j t a cdb reply g legal is e begins =
      let start : State = state_at_start waiting in
      let arrival : Entry = Arrived c j t a cdb sent in
      let all = steps_ok capacity start turns legal in
      let p = parted (steps_of turns) first arrival (queued ++ Started c ∷ (between ++ Ended c reply ∷ after)) (entries_of_steps turns ∙ is) in
      let q = parted p.behind queued (Started c) (between ++ Ended c reply ∷ after) p.last in
      let r = parted q.behind between (Ended c reply) after q.last in
      let h0 : all_along (step_after capacity) (step_ok capacity) start (p.before ++ Does p.label arrival ∷ p.behind) ≡ true =
      ap (λ (x : List Step). all_along (step_after capacity) (step_ok capacity) start x) (sym p.whole) ∙ all in
      let s : State = fold (step_after capacity) start p.before in
      let h1 = both (entry_ok capacity p.label s arrival) _ (along_second (step_after capacity) (step_ok capacity) start p.before (Does p.label arrival ∷ p.behind) h0) in
      let u : State = entry_after capacity p.label s arrival in
      let i1 = arrived_inv capacity c asks sent count (Waits g) idle (λ s duty g e f none. tt) (λ label s e g what plan after by lawful follows so_far. tt) ends
      p.label s j t a cdb g (ok_cases capacity p.label s arrival h1.0) e refl in
      let h2 : all_along (step_after capacity) (step_ok capacity) u (q.before ++ Does q.label (Started c) ∷ q.behind) ≡ true =
      ap (λ (x : List Step). all_along (step_after capacity) (step_ok capacity) u x) (sym q.whole) ∙ h1.1 in
      let v : State = fold (step_after capacity) u q.before in
      let h3 = both (entry_ok capacity q.label v (Started c)) _ (along_second (step_after capacity) (step_ok capacity) u q.before (Does q.label (Started c) ∷ q.behind) h2) in
      let i2 = steps_kept capacity c asks sent count (Waits g) idle (λ s duty g e f none. tt) (λ label s e g what plan after by lawful follows so_far. tt) ends
      u g q.before (along_first (step_after capacity) (step_ok capacity) u q.before (Does q.label (Started c) ∷ q.behind) h2) i1 in
      let none : (v.duties c).owes ≡ None = owes_none c (v.duties c).owes v i2.flag (start_ok capacity c q.label v (ok_cases capacity q.label v (Started c) h3.0)) in
      let waited : fold count g (entries_in q.before) ≡ g = subst (λ (o : Option Plan). Waits g o (fold count g (entries_in q.before))) none i2.plan in
      let settings : v.settings ≡ settings_left (first ++ arrival ∷ queued) =
      settings_along capacity u q.before
      ∙ ap (λ (x : Settings). fold settings_after x (entries_in q.before)) (settings_along capacity start p.before)
      ∙ ap (λ (es : List Entry). fold settings_after (fold settings_after default_settings (entries_in p.before)) es) q.first
      ∙ ap (λ (es : List Entry). fold settings_after (fold settings_after default_settings es) queued) p.first
      ∙ sym (fold_both settings_after default_settings first (arrival ∷ queued)) in
      let w : State = entry_after capacity q.label v (Started c) in
      let i3 = started_inv q.label v g i2.came i2.asked i2.given (begins v (v.duties c) settings i2.asked i2.given) in
      let h4 : all_along (step_after capacity) (step_ok capacity) w (r.before ++ Does r.label (Ended c reply) ∷ r.behind) ≡ true =
      ap (λ (x : List Step). all_along (step_after capacity) (step_ok capacity) w x) (sym r.whole) ∙ h3.1 in
      let x : State = fold (step_after capacity) w r.before in
      let h5 = both (entry_ok capacity r.label x (Ended c reply)) _ (along_second (step_after capacity) (step_ok capacity) w r.before (Does r.label (Ended c reply) ∷ r.behind) h4) in
      let i4 = steps_kept capacity c asks sent count (Runs J) idle (λ s duty g e f none. absurd none) goes_on ends
      w g r.before (along_first (step_after capacity) (step_ok capacity) w r.before (Does r.label (Ended c reply) ∷ r.behind) h4) i3 in (
        record {
          state = x;
          label = r.label;
          ok = ok_cases capacity r.label x (Ended c reply) h5.0;
          inv = subst (λ (es : List Entry). Inv c asks sent (Runs J) x (fold count g es)) r.first i4;
        },
        fold_both count g queued (Started c ∷ between)
            ∙ ap (λ (es : List Entry). fold count (fold count g es) (Started c ∷ between)) (sym q.first)
            ∙ ap (λ (k : G). fold count k (Started c ∷ between)) waited
            ∙ ap (λ (k : G). fold count k between) (idle q.label v (Started c) g tt),
      )
