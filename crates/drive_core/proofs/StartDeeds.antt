-- The turn of a command that starts, does one thing about no block, and ends.
use Rattle.std.proofs.Common.{◌≡◌, ◌≢◌, ℕ, Bool, true, false, cond, List, [], ◌∷◌, Option, Some, None, refl, sym, ap, ◌∙◌, subst, arith}
use Rattle.std.specs.List.{list_any}
use Rattle.std.specs.Option.{option_and_then}
use Rattle.std.proofs.lemmas.Bool.{eq-eqb}
use Rattle.disk_base.specs.At.{put_at}
use Rattle.disk_base.specs.declared.address.Lba.{Lba}
use Rattle.sense_data.specs.Attentions.{Waiting}
use Rattle.sense_data.specs.declared.reply.Reply.{Reply}
use Rattle.mode_pages.specs.declared.settings.Settings.{Settings}
use Rattle.task_set.specs.declared.member.Member.{Member}
use Rattle.task_set.specs.Members.{member_of, with_started, without}
use Rattle.cdb_reader.specs.declared.plan.Plan.{Plan}
use Rattle.cdb_reader.specs.declared.plan.Plan.TheVariants.{Ending, Over}
use Rattle.block_machine.specs.declared.entry.Entry.{Entry}
use Rattle.block_machine.specs.declared.entry.Entry.TheVariants.{Started, Ended}
use Rattle.block_machine.specs.declared.turn.Label.TheVariants.{Work}
use Rattle.block_machine.specs.Entries.{entry_lawful}
use Rattle.block_machine.specs.State.{State, Duty, owed_by}
use Rattle.block_machine.specs.Steps.{begun, entry_after, with_owed}
use Rattle.block_machine.specs.Turns.{blocks_lawful, owes_nothing_now, starts_alone}
use Rattle.block_machine.proofs.Booleans.{and_both}
use Rattle.drive_scene.specs.declared.answer.Ended as told_end
use Rattle.drive_scene.specs.Ending.{ended_in, ended_of_member}
use Rattle.drive_scene.specs.Evidence.{IsEndShown, Shows, lba}
use Rattle.drive_scene.specs.GoodTurn.{are_in_order, are_on, is_entry_of, is_on}
use Rattle.drive_scene.specs.Scene.{beat, Beat, Scene, capacity}
use Rattle.drive_scene.specs.After.{scene_after}
use Rattle.drive_scene.specs.Laws.{StillTurnsAreGood}
use Rattle.drive_scene.proofs.Tables.{put_at-own, put_at-other}
use Rattle.drive_scene.proofs.Keyed.{find-dropped_other}
use Rattle.drive_scene.proofs.Elsewhere.{IsAlike}
use Rattle.drive_scene.proofs.FirstPlans.{same_reply-own}
use Rattle.drive_scene.proofs.Halves.{end_lawful, over_owes}
use Rattle.drive_core.specs.declared.server.Server.{Server}
use Rattle.drive_core.specs.Accepting.{Drops}
use Rattle.drive_core.specs.Fits.{Fits}
use Rattle.drive_core.specs.Moves.{Moves}
use Rattle.drive_core.proofs.Unmoved.{none_added, standing}
use Rattle.drive_core.proofs.StartTurns.{IsBegun, ended_scene, find-started_own, find-started_other, fits_ended, start_lawful, started_state, told_as_in, windows}
use Rattle.drive_core.proofs.Flightless.{waits_alone}

-- its entries, and the history behind what it does
abbrev pub deed_entries : ℕ → Entry → Reply → List Entry
deed_entries c did reply = Started c ∷ did ∷ Ended c reply ∷ []

abbrev pub deed_turn : ℕ → Entry → Reply → Beat
deed_turn c did reply = beat (Work c) (deed_entries c did reply) []

abbrev pub state_behind : Scene → ℕ → Entry → State
state_behind s c did = entry_after (capacity s) (Work c) (started_state s c) did

-- the scene after it, where what it did left all but what it owes, the mode values and the attentions that wait
abbrev pub scene_behind : Scene → ℕ → Entry → Reply → Scene
scene_behind s c did reply =
    ended_scene s c (state_behind s c did).settings (state_behind s c did).waiting (deed_entries c did reply)
    (entry_after (capacity s) (Work c) (state_behind s c did) (Ended c reply)).duties
    (scene_after s (deed_turn c did reply)).windows (put_at c s.hist.settings s.settings) s.recovered

-- what it does is about no block, stands in its place between start and end, and leaves all else
abbrev pub IsQuiet : Scene → ℕ → Entry → Reply → Type 0
IsQuiet s c did reply =
    ((state_behind s c did).set ≡ with_started s.hist.set c)
    × (scene_after s (deed_turn c did reply) ≡ scene_behind s c did reply)
    × (starts_alone (deed_entries c did reply) ≡ true)
    × (blocks_lawful (capacity s) s.hist.blocks (deed_entries c did reply) ≡ true)
    × ((b : Lba) → list_any (is_on b) (deed_entries c did reply) ≡ false)
    × (are_on (lba 0) (deed_entries c did reply) ≡ true)
    × (are_in_order (deed_entries c did reply) ≡ true)
    × (ended_in s (deed_entries c did reply) ≡ ended_of_member (member_of s.hist.set c) reply)

-- it may do that, and owes the reply then
pub record IsDeed (s : Scene) (c : ℕ) (did : Entry) (reply : Reply) (settings : Settings) (waiting : Waiting) : Type 0 where
  pub lawful : entry_lawful (capacity s) (Work c) (started_state s c) did ≡ true
  pub shown : Shows s (deed_turn c did reply) (started_state s c) did
  pub own : is_entry_of c did ≡ true
  pub duties : (state_behind s c did).duties ≡ with_owed (started_state s c).duties c (Some (Ending reply))
  pub modes : (state_behind s c did).settings ≡ settings
  pub waits : (state_behind s c did).waiting ≡ waiting
  pub quiet : IsQuiet s c did reply

module _ (s : Scene) (d e : Server) (c : ℕ) (did : Entry) (reply : Reply) {settings : Settings} {waiting : Waiting} (is : IsBegun s d e c settings waiting)
    (deed : IsDeed s c did reply settings waiting) (still : StillTurnsAreGood) where
  -- the history behind it
  abbrev after : State
  after = state_behind s c did

  owes_then : owed_by after c ≡ Some (Ending reply)
  owes_then =
      ap (λ (ms : List Member). option_and_then (λ (x : Member). (after.duties c).owes) (member_of ms c)) deed.quiet.0
      ∙ (ap (λ (o : Option Member). option_and_then (λ (x : Member). (after.duties c).owes) o) (find-started_own c s.hist.set is.may.m is.may.is_in)
      ∙ (ap (λ (f : ℕ → Duty). (f c).owes) deed.duties ∙ ap (λ (x : Duty). x.owes) (put_at-own c _ (started_state s c).duties)))

  end_is_lawful : entry_lawful (capacity s) (Work c) after (Ended c reply) ≡ true
  end_is_lawful = end_lawful (capacity s) after c (Ending reply) Over reply owes_then
      (ap (λ (b : Bool). cond b (Some Over) None) (same_reply-own reply)) refl

  alike : (q : ℕ) → q ≢ c → IsAlike s (scene_behind s c did reply) q
  alike q other = record {
    size = refl;
    map = refl;
    member = find-dropped_other (λ (m : Member). m.task.c) c q (with_started s.hist.set c) other ∙ find-started_other c q s.hist.set other;
    duty = put_at-other c q _ after.duties other ∙ (ap (λ (f : ℕ → Duty). f q) deed.duties ∙ (put_at-other c q _ (started_state s c).duties other
        ∙ (put_at-other c q _ (begun s.hist (Work c)).duties other ∙ put_at-other c q _ s.hist.duties other)));
    window = put_at-other c q _ s.windows other;
    settings = put_at-other c q s.hist.settings s.settings other;
    recovered = refl;
    dirty = λ n holds. refl;
  }

  -- it starts, does it and ends
  pub starts_and_does : (entries : List Entry) (told : Option told_end.Ended) → e.set ≡ without (with_started d.set c) c
      → Drops d.commands.items e.commands.items c → entries ≡ deed_entries c did reply
      → told ≡ ended_of_member (member_of (with_started d.set c) c) reply → Moves (Work c) s d e entries told
  starts_and_does entries told set_is drops entries_are told_is =
      let t : Scene = scene_behind s c did reply in
      let M : List Entry → Option told_end.Ended → Type 0 = λ es o. Moves (Work c) s d e es o in
      let moves : M (deed_entries c did reply) (ended_of_member (member_of s.hist.set c) reply) = record {
        ops = [];
        added = none_added s d e is.fits is.store;
        good = still s (Work c) (deed_entries c did reply) (standing s d e is.fits is.store) (record {
          tasks = and_both _ _ (and_both _ _ deed.quiet.2 (and_both _ _ (start_lawful s d c is.may) (and_both _ _ deed.lawful (and_both _ true end_is_lawful refl))))
              (ap owes_nothing_now (over_owes (capacity s) after c reply));
          blocks = deed.quiet.3;
          shown = (
            tt,
            (
              deed.shown,
              (subst (λ (o : Option Plan). IsEndShown s (deed_turn c did reply) c o reply) (sym owes_then) tt, tt),
            ),
          );
          step = (refl, refl);
          on_none = deed.quiet.4;
          on_one = deed.quiet.5;
          own = and_both _ _ (eq-eqb c c refl) (and_both _ _ deed.own (and_both _ _ (eq-eqb c c refl) refl));
          order = deed.quiet.6;
          waits = waits_alone s c is.fits.flightless;
          windows = windows s d e c is (deed_entries c did reply);
          unchanged = ap (λ (x : Scene). x.hist.blocks) deed.quiet.1;
        });
        fits = subst (λ (x : Scene). Fits x e) (sym deed.quiet.1)
            (fits_ended s d e c is after.settings after.waiting deed.modes deed.waits (deed_entries c did reply)
            t.hist.duties t.windows t.settings t.recovered alike (windows s d e c is (deed_entries c did reply)) set_is drops);
        counted = omega (arith, is.arrived);
        ended = sym deed.quiet.7;
      } in
      subst (λ (o : Option told_end.Ended). M entries o) (sym (told_as_in s d e c is reply told told_is))
      (subst (λ (es : List Entry). M es (ended_of_member (member_of s.hist.set c) reply)) (sym entries_are) moves)
