-- The turn of a MODE SELECT that changes mode values: it starts, changes them and ends.
use Rattle.std.proofs.Common.{◌≡◌, ℕ, zero, suc, ◌-◌, ◌≤◌, length, Bool, true, false, cond, ◌==◌, List, [], ◌∷◌, Option, Some, None, refl, sym, ap, ◌∙◌, subst}
use Rattle.std.specs.Prelude.{slice_index, Result, Ok, Err}
use Rattle.std.specs.Option.{option_and_then, is_some}
use Rattle.std.proofs.lemmas.Bool.{eq-eqb, leb-true, and_parts}
use Rattle.disk_base.specs.declared.command.DataOut.{DataOut}
use Rattle.sense_data.specs.declared.sense.Sense.{Sense}
use Rattle.sense_data.specs.declared.reply.Reply.{Reply}
use Rattle.sense_data.specs.Attentions.{Waiting}
use Rattle.mode_pages.specs.declared.settings.Settings.{Settings}
use Rattle.mode_pages.specs.declared.page.Page.{Page}
use Rattle.mode_pages.specs.declared.page.Page.TheVariants.{ErrorRecovery, Caching, BackgroundControl}
use Rattle.mode_pages.specs.Refusals.{invalid_field_in_list}
use Rattle.mode_pages.specs.ModeSelect.{and_then, front_page, known_page_taken, may_be_taken, page_length, page_named, page_taken, pages_part, pages_taken, retries_allowed, selected, with_page}
use Rattle.task_set.specs.declared.member.Member.{Member}
use Rattle.task_set.specs.Members.{member_of, with_started, without}
use Rattle.cdb_reader.specs.declared.plan.Plan.{Plan}
use Rattle.cdb_reader.specs.declared.plan.Plan.TheVariants.{Ending, Changing}
use Rattle.cdb_reader.specs.declared.plan.Deed.TheVariants as deed
use Rattle.cdb_reader.specs.Plan.{next}
use Rattle.cdb_reader.specs.Replies.{good}
use Rattle.cdb_reader.specs.Request.{Request}
use Rattle.block_machine.specs.declared.entry.Entry.{Entry}
use Rattle.block_machine.specs.declared.entry.Entry.TheVariants.{Started, Mode, Ended}
use Rattle.block_machine.specs.declared.turn.Label.TheVariants.{Work}
use Rattle.block_machine.specs.Attentions.{after_mode_change}
use Rattle.block_machine.specs.Deeds.{owed_after}
use Rattle.block_machine.specs.Entries.{are_asked, entry_lawful, makes}
use Rattle.block_machine.specs.Plans.{first_plan, plan_unless_refused}
use Rattle.block_machine.specs.Settings.{parameter_list, same_flag, same_settings, settings_made}
use Rattle.block_machine.specs.State.{State, Duty, initiator_of, owed_by}
use Rattle.block_machine.specs.Steps.{begun, entry_after, with_owed}
use Rattle.block_machine.proofs.Booleans.{and_both}
use Rattle.history_replay.specs.declared.known.Known.{Known}
use Rattle.history_replay.specs.Known.{duty_of, with_set}
use Rattle.history_replay.proofs.KnownWaiting.{known_after}
use Rattle.drive_scene.specs.declared.answer.Ended as told_end
use Rattle.drive_core.specs.declared.server.Server.{Server}
use Rattle.drive_core.specs.Accepting.{Drops}
use Rattle.drive_scene.specs.Ending.{ended_of_member}
use Rattle.drive_core.specs.Fits.{Fits}
use Rattle.drive_scene.specs.Scene.{Scene, capacity}
use Rattle.drive_scene.specs.Laws.{StillTurnsAreGood}
use Rattle.drive_core.specs.Moves.{Moves}
use Rattle.drive_core.specs.Starting.{IsSelected}
use Rattle.drive_scene.proofs.Tables.{put_at-own}
use Rattle.drive_scene.proofs.FirstPlans.{IsNoEnding, plan_unmet}
use Rattle.drive_scene.proofs.GetTurns.{begun-duty}
use Rattle.drive_core.proofs.StartTurns.{MayStart, IsBegun, plan_of_start, start-asks, start-owes, started_state, told-warned, waiting_told, waiting_then}
use Rattle.drive_core.proofs.StartDeeds.{IsDeed, starts_and_does}

-- a command whose plan is to change mode values meets no attention and isn't refused
pub plan_changes : (capacity i : ℕ) (h : State) (code : ℕ) (asks given : Result Request Sense) (sent : DataOut) (plan : Plan)
    → plan ≡ first_plan capacity h i (duty_of code asks sent) → plan ≡ Changing → given ≡ asks → plan_unless_refused capacity h i sent given ≡ Changing
plan_changes capacity i h code asks given sent plan is changes same =
    let first : first_plan capacity h i (duty_of code asks sent) ≡ Changing = sym is ∙ changes in
    ap (plan_unless_refused capacity h i sent) same
    ∙ (sym (plan_unmet capacity i h (duty_of code asks sent) (subst IsNoEnding (sym first) tt)) ∙ first)

-- no MODE SELECT sets more than 20 retries
page_few : (page : Page) (s : Settings) (given : List ℕ) → s.retry ≤ 20 → retries_allowed page given ≡ true → (with_page page s given).retry ≤ 20
page_few ErrorRecovery s given few allowed = leb-true (slice_index given 3) 20 allowed
page_few Caching s given few allowed = few
page_few BackgroundControl s given few allowed = few

known_few : (s t : Settings) (given : List ℕ) (page : Option Page) → s.retry ≤ 20 → known_page_taken s given page ≡ Ok t → t.retry ≤ 20
known_few s t given None few is = absurd (cc)
known_few s t given (Some page) few is = by (may_be_taken s page given) refl is
  where
    by : (b : Bool) → may_be_taken s page given ≡ b → cond b (Ok (with_page page s given)) (Err invalid_field_in_list) ≡ Ok t → t.retry ≤ 20
    by true allowed same =
        let made : with_page page s given ≡ t = cc in
        subst (λ (x : Settings). x.retry ≤ 20) made (page_few page s given few (and_parts _ (retries_allowed page given) allowed).1)
    by false refused same = absurd (cc)

front_few : (s t : Settings) (front : Result (List ℕ) Sense) → s.retry ≤ 20 → and_then front (page_taken s) ≡ Ok t → t.retry ≤ 20
front_few s t (Ok given) few is = known_few s t given (page_named (slice_index given 0) (slice_index given 1)) few is
front_few s t (Err sense) few is = absurd (cc)

pages_few : (passed : ℕ) (s t : Settings) (list : List ℕ) → s.retry ≤ 20 → pages_taken passed s list ≡ Ok t → t.retry ≤ 20
pages_few passed s t [] few is = let same : s ≡ t = cc in subst (λ (x : Settings). x.retry ≤ 20) same few
pages_few zero s t (b ∷ list) few is =
    by (λ u less rest. pages_few (page_length (b ∷ list) - 1) u t list less rest) (and_then (front_page (b ∷ list)) (page_taken s)) refl is
  where
    by : ((u : Settings) → u.retry ≤ 20 → pages_taken (page_length (b ∷ list) - 1) u list ≡ Ok t → t.retry ≤ 20) → (taken : Result Settings Sense) → and_then (front_page (b ∷ list)) (page_taken s) ≡ taken
        → and_then taken (λ u. pages_taken (page_length (b ∷ list) - 1) u list) ≡ Ok t → t.retry ≤ 20
    by later (Ok u) front rest = later u (front_few s u (front_page (b ∷ list)) few front) rest
    by later (Err sense) front rest = absurd (cc)
pages_few (suc passed) s t (b ∷ list) few is = pages_few passed s t list few is

part_few : (s t : Settings) (part : Result (List ℕ) Sense) → s.retry ≤ 20 → and_then part (pages_taken 0 s) ≡ Ok t → t.retry ≤ 20
part_few s t (Ok list) few is = pages_few 0 s t list few is
part_few s t (Err sense) few is = absurd (cc)

selected_few : (s t : Settings) (capacity : ℕ) (ten : Bool) (list : List ℕ) → s.retry ≤ 20 → selected s capacity ten list ≡ Ok t → t.retry ≤ 20
selected_few s t capacity ten list few is = by (length list == 0) is
  where
    by : (b : Bool) → cond b (Ok s) (and_then (pages_part capacity ten list) (pages_taken 0 s)) ≡ Ok t → t.retry ≤ 20
    by true same = let one : s ≡ t = cc in subst (λ (x : Settings). x.retry ≤ 20) one few
    by false rest = part_few s t (pages_part capacity ten list) few rest

-- mode values are the same as themselves
same_flag-own : (b : Bool) → same_flag b b ≡ true
same_flag-own true = refl
same_flag-own false = refl

same_settings-own : (s : Settings) → same_settings s s ≡ true
same_settings-own s =
    and_both _ _ (and_both _ _ (and_both _ _ (and_both _ _ (and_both _ _ (and_both _ _ (same_flag-own s.awre) (same_flag-own s.arre)) (same_flag-own s.per))
    (eq-eqb s.retry s.retry refl)) (same_flag-own s.wce)) (same_flag-own s.rcd)) (same_flag-own s.bms)

pub good_is : (r : Reply) → r.status ≡ 0 → r.sense ≡ None → r ≡ good
good_is r status sense = λ j. record { status = status j; sense = sense j }

start-sent : (s : Scene) (c : ℕ) → ((started_state s c).duties c).sent ≡ (s.hist.duties c).sent
start-sent s c = ap (λ (x : Duty). x.sent) (put_at-own c _ (begun s.hist (Work c)).duties) ∙ ap (λ (x : Duty). x.sent) (begun-duty s.hist c)

-- the attentions that wait once all other initiators are to be told
abbrev pub waiting_changed : Scene → Server → ℕ → Waiting
waiting_changed s d c = after_mode_change (initiator_of (with_set (with_started d.set c)) c) (waiting_told s c)

pub known_changed : (s : Scene) (d : Server) (c : ℕ) (made : Settings) (told changed : Known) (set : List Member) → told ≡ record d.known { waiting = waiting_told s c }
    → set ≡ with_started d.set c
    → changed ≡ record told { settings = made; waiting = after_mode_change (initiator_of (with_set set) c) told.waiting }
    → changed ≡ record d.known { settings = made; waiting = waiting_changed s d c }
known_changed s d c made told changed set told_is set_is is =
    is ∙ (λ j. record (told_is j) { settings = made; waiting = after_mode_change (initiator_of (with_set (set_is j)) c) (told_is j).waiting })

-- a command that begins with new mode values, and what it leaves as it was
pub record Changes (s : Scene) (d e : Server) (c : ℕ) (made : Settings) : Type 0 where
  pub plan_is : plan_of_start s c ≡ Changing
  pub is_selected : IsSelected (capacity s) s.hist.settings (s.hist.duties c).asks (s.hist.duties c).sent made
  pub leaves : IsBegun s d e c made (waiting_changed s d c)

pub changes : (s : Scene) (d e : Server) (c : ℕ) (made : Settings) → Fits s d → MayStart s d c
    → (plan_of_start s c ≡ Changing) × IsSelected (capacity s) s.hist.settings (s.hist.duties c).asks (s.hist.duties c).sent made
    → e.store ≡ d.store → e.arrived ≡ d.arrived → e.known ≡ record d.known { settings = made; waiting = waiting_changed s d c } → Changes s d e c made
changes s d e c made fits may begins store arrived known = record {
  plan_is = begins.0;
  is_selected = begins.1;
  leaves = record {
    fits = fits;
    may = may;
    store = store;
    arrived = arrived;
    known = known;
    few = selected_few s.hist.settings made (capacity s) begins.1.ten (parameter_list (s.hist.duties c).sent begins.1.count) fits.known.retry begins.1.selected;
    warned = known_after (Work c) (record (with_set (with_started d.set c)) { waiting = waiting_told s c }) (Mode made) (told-warned s d c fits);
  };
}

module _ (s : Scene) (d e : Server) (c : ℕ) (made : Settings) (is : Changes s d e c made) (still : StillTurnsAreGood) where
  -- the history before the change, and after it
  abbrev h : State
  h = started_state s c

  abbrev after : State
  after = entry_after (capacity s) (Work c) h (Mode made)

  owes : owed_by h c ≡ Some Changing
  owes = start-owes s c is.leaves.may.m is.leaves.may.is_in ∙ ap Some is.plan_is

  -- the change is owed, and then GOOD
  left : owed_after h (record { c = c; what = deed.Mode }) ≡ Some (Ending good)
  left = ap (λ (o : Option Plan). option_and_then (λ (p : Plan). next p deed.Mode) o) owes

  asked : are_asked (capacity s) h (h.duties c) (h.duties c).asks made ≡ true
  asked =
      ap (λ (x : Result Request Sense). are_asked (capacity s) h (h.duties c) x made) (start-asks s c ∙ is.is_selected.asked)
      ∙ (ap (λ (x : DataOut). makes (settings_made (capacity s) s.hist.settings is.is_selected.ten is.is_selected.count x) made) (start-sent s c)
      ∙ (ap (λ (r : Result Settings Sense). makes r made) is.is_selected.selected ∙ same_settings-own made))

  change_lawful : entry_lawful (capacity s) (Work c) h (Mode made) ≡ true
  change_lawful = and_both _ _ (ap is_some left) asked

  duties_then : after.duties ≡ with_owed h.duties c (Some (Ending good))
  duties_then = ap (λ (o : Option Plan). with_owed h.duties c o) left

  -- all other initiators are to be told
  warned : after.waiting ≡ waiting_changed s d c
  warned =
      ap (λ (w : Waiting). after_mode_change (initiator_of h c) w) (waiting_then s c)
      ∙ sym (ap (λ (ms : List Member). after_mode_change (initiator_of (with_set (with_started ms c)) c) (waiting_told s c)) is.leaves.fits.tasks.set)

  does : IsDeed s c (Mode made) good made (waiting_changed s d c)
  does = record {
    lawful = change_lawful;
    shown = tt;
    own = refl;
    duties = duties_then;
    modes = refl;
    waits = warned;
    quiet = (refl, refl, refl, refl, λ b. refl, refl, refl, refl);
  }

  -- it starts, changes them and ends
  pub starts_and_changes : (entries : List Entry) (told : Option told_end.Ended) → e.set ≡ without (with_started d.set c) c
      → Drops d.commands.items e.commands.items c → entries ≡ Started c ∷ Mode made ∷ Ended c good ∷ []
      → told ≡ ended_of_member (member_of (with_started d.set c) c) good → Moves (Work c) s d e entries told
  starts_and_changes entries told set_is drops entries_are told_is =
      starts_and_does s d e c (Mode made) good is.leaves does still entries told set_is drops entries_are told_is
