-- How the turns of a sync move the drive.
use Rattle.std.proofs.Common.{◌≡◌, ℕ, ◌+◌, ◌<◌, ◌≤◌, Bool, true, false, cond, ltb, List, [], ◌∷◌, ◌++◌, Option, Some, None, refl, sym, ap, ◌∙◌, subst, arith, ⊎_elim}
use Rattle.std.specs.Prelude.{◌||◌, Result}
use Rattle.std.proofs.lemmas.Bool.{eq-eqb, lt-ltb, le-leb, ltb-true, ltb-false, cases_Bool}
use Rattle.disk_base.specs.declared.address.Lba.{Lba}
use Rattle.platter_model.specs.declared.op.Op.{Op}
use Rattle.mode_pages.specs.declared.settings.Settings.{Settings}
use Rattle.sense_data.specs.declared.reply.Reply.{Reply}
use Rattle.sense_data.specs.declared.sense.Sense.{Sense}
use Rattle.task_set.specs.declared.member.Member.{Member}
use Rattle.task_set.specs.Members.{member_of}
use Rattle.read_recovery.specs.Stages.{Progress, begun}
use Rattle.cdb_reader.specs.Request.{Request}
use Rattle.cdb_reader.specs.Replies.{good}
use Rattle.cdb_reader.specs.declared.plan.Syncing as syncing
use Rattle.cdb_reader.specs.declared.plan.Plan.TheVariants.{Syncing, Over}
use Rattle.cdb_reader.specs.declared.plan.Deed.TheVariants as deed
use Rattle.cdb_reader.specs.Plan.{next}
use Rattle.command_engine.specs.declared.step.Recovery.{Recovery}
use Rattle.command_engine.specs.declared.step.Step.TheVariants.{Trying}
use Rattle.command_engine.specs.Course.{Course}
use Rattle.command_engine.specs.Ending.{ending_of}
use Rattle.block_machine.specs.declared.entry.Entry.{Entry}
use Rattle.block_machine.specs.declared.entry.Entry.TheVariants.{Harden, Passed, Ended}
use Rattle.block_machine.specs.declared.entry.Who.TheVariants.{Command}
use Rattle.block_machine.specs.declared.turn.Label.TheVariants.{Work}
use Rattle.block_machine.specs.Blocks.{without_address, none_dirty}
use Rattle.block_machine.specs.State.{State, Duty, owed_by}
use Rattle.block_machine.specs.Steps as steps
use Rattle.block_machine.specs.Deeds.{names_dirty}
use Rattle.block_machine.proofs.Booleans.{and_both, or_left}
use Rattle.drive_core.specs.declared.accepted.Accepted.{Accepted}
use Rattle.drive_core.specs.declared.server.Server.{Server}
use Rattle.drive_scene.specs.declared.answer.Ended as told_end
use Rattle.drive_scene.specs.Scene.{Scene, capacity, beat}
use Rattle.drive_scene.specs.After.{window_after}
use Rattle.drive_scene.specs.View.{view}
use Rattle.drive_core.specs.Commands.{IsWorking, IsCommand, IsOwnRecovery}
use Rattle.drive_scene.specs.Ending.{ended_in, ended_of_member}
use Rattle.drive_scene.specs.Evidence.{lba}
use Rattle.drive_core.specs.Hardening.{hardened_at}
use Rattle.drive_core.specs.Moves.{Moves}
use Rattle.drive_scene.proofs.Tables.{put_at-own}
use Rattle.drive_scene.specs.Half.{Half}
use Rattle.drive_scene.proofs.Apart.{holds_none, unheld_sync}
use Rattle.drive_scene.proofs.Elsewhere.{after_half}
use Rattle.drive_core.proofs.Closing.{Goes, Stops}
use Rattle.drive_scene.proofs.Doing.{owed-begun, passed_owes, hardened_duty}
use Rattle.drive_scene.specs.Kinds.{hardened_blocks, passed_state}
use Rattle.drive_core.proofs.HardenMoves.{IsHardenTurn, harden_on, harden_ends}
use Rattle.drive_core.proofs.WrittenOut.{op_of}
use Rattle.drive_core.proofs.MetMoves.{met_course, owed_is}

-- a sync passes over blocks, or hardens the next one
pub next-passed : (y : syncing.Syncing) (from to : Lba) → from.0 ≡ y.at → y.at < to.0 → to.0 ≤ y.end
    → next (Syncing y) (deed.Passed from to) ≡ Some (Syncing (record y { at = to.0 }))
next-passed y from to at further within =
    ap (λ (t : Bool). cond t (Some (Syncing (record y { at = to.0 }))) None)
    (and_both _ _ (and_both _ _ (eq-eqb from.0 y.at at) (lt-ltb y.at to.0 further)) (le-leb to.0 y.end within))

pub next-hardened : (y : syncing.Syncing) (b : Lba) → b.0 ≡ y.at → y.at < y.end → next (Syncing y) (deed.Hardened b) ≡ Some (Syncing (record y { at = y.at + 1 }))
next-hardened y b at left =
    ap (λ (t : Bool). cond t (Some (Syncing (record y { at = y.at + 1 }))) None) (and_both _ _ (eq-eqb b.0 y.at at) (lt-ltb y.at y.end left))

-- a sync whose range is behind it ends
pub next-synced : (y : syncing.Syncing) (dirty : Bool) → y.at ≡ y.end → next (Syncing y) (deed.Ended good dirty) ≡ Some Over
next-synced y dirty over = ap (λ (t : Bool). cond t (Some Over) None) (or_left _ _ (and_both _ _ (eq-eqb y.at y.end over) refl))

-- the range behind a block
abbrev pub behind : syncing.Syncing → ℕ → syncing.Syncing
behind y at = record { at = at; end = y.end }

module _ (s : Scene) (c : ℕ) (m : Member) (settings : Settings) (gives : Bool) (moved : ℕ) (rec : Option Recovery) (p : Progress) (y : syncing.Syncing) (at : ℕ)
    (is_in : member_of s.hist.set c ≡ Some m) (working : IsWorking (view s c) m (met_course s c m settings gives moved rec p (record { 0 = at }) [] (Syncing y)))
    (ops : List Op) (half : List Entry) (h : State) (is : Half s c ops half h (Syncing (behind y at))) (owes : (h.duties c).owes ≡ Some (Syncing (behind y at)))
    (window : (after_half s c ops half).windows c ≡ []) (recovered : (after_half s c ops half).recovered c ≡ s.recovered c) where
  -- where it stands before the rest of its range
  pub staged_sync : (a : Accepted) → at < y.end
      → IsCommand (view (after_half s c ops half) c) (record a { work = Some (record { settings = settings; gives = gives; moved = moved; plan = Syncing (behind y at); step = Trying (begun settings.retry); recovered = rec }) })
  staged_sync a left =
      let t : Scene = after_half s c ops half in
      let duty : t.hist.duties c ≡ h.duties c = ap (λ (x : State). x.duties c) is.reached in
      let asks : (t.hist.duties c).asks ≡ (s.hist.duties c).asks = ap (λ (d : Duty). d.asks) duty ∙ is.quiet.asks in
      record {
        member = m;
        is_in = ap (λ (x : State). member_of x.set c) is.reached ∙ (ap (λ (ms : List Member). member_of ms c) is.quiet.set ∙ is_in);
        under_way = record {
          started = working.started;
          owes = ap (λ (d : Duty). d.owes) duty ∙ owes;
          settings = ap (λ f. f c) is.settings ∙ working.settings;
          retry = working.retry;
          recovered = recovered ∙ working.recovered;
          at_block = (window, left);
          range = working.range;
          own_recovery = subst (λ (x : Result Request Sense). IsOwnRecovery x rec) (sym asks) working.own_recovery;
          own_range = tt;
          served = working.served;
        };
      }

module _ (s : Scene) (c : ℕ) (m : Member) (settings : Settings) (gives : Bool) (moved : ℕ) (rec : Option Recovery) (p : Progress) (b : Lba) (bytes : List ℕ) (y : syncing.Syncing)
    (d e : Server) (a : Accepted) (entries : List Entry) (reply : Option Reply) (told : Option told_end.Ended) (turn : IsHardenTurn s d e c b bytes)
    (is_in : member_of s.hist.set c ≡ Some m) (working : IsWorking (view s c) m (met_course s c m settings gives moved rec p b bytes (Syncing y))) (below : b.0 < y.end)
    (reply_is : reply ≡ ending_of (hardened_at b (met_course s c m settings gives moved rec p b bytes (Syncing y)))) where
  abbrev then_course : Course
  then_course = hardened_at b (met_course s c m settings gives moved rec p b bytes (Syncing y))

  -- once the block is hardened, whatever came before it in the turn
  synced : (half : List Entry) (h : State) → Half s c (op_of s b bytes ∷ []) half h (Syncing (behind y (b.0 + 1))) → h.blocks ≡ hardened_blocks s b
      → h.dirty ≡ without_address b.0 s.hist.dirty → (h.duties c).owes ≡ Some (Syncing (behind y (b.0 + 1)))
      → (after_half s c (op_of s b bytes ∷ []) half).windows c ≡ [] → (after_half s c (op_of s b bytes ∷ []) half).recovered c ≡ s.recovered c
      → None ≡ ended_in s half → ((r : Reply) → ended_of_member (member_of s.hist.set c) r ≡ ended_in s (half ++ Ended c r ∷ []))
      → (reply ≡ None → Goes d e c (record a { work = Some then_course }) half entries told)
      → ((r : Reply) → reply ≡ Some r → Stops d e c r half entries told) → Moves (Work c) s d e entries told
  synced half h is blocks_are order owes window recovered none ended goes stops =
      ⊎_elim
      (λ (left : ltb (b.0 + 1) y.end ≡ true).
      let on : reply ≡ None = reply_is ∙ ap (λ (t : Bool). cond t None (Some good)) left in
      harden_on s d e c b bytes turn half entries h (Syncing (behind y (b.0 + 1))) told is blocks_are order (record a { work = Some then_course }) refl none
      (staged_sync s c m settings gives moved rec p y (b.0 + 1) is_in working (op_of s b bytes ∷ []) half h is owes window recovered a (ltb-true (b.0 + 1) y.end left))
      (holds_none s c ((after_half s c (op_of s b bytes ∷ []) half).windows c) (Syncing (behind y (b.0 + 1))) (unheld_sync _ (behind y (b.0 + 1)) window)) (goes on))
      (λ (last : ltb (b.0 + 1) y.end ≡ false).
      let end_is : b.0 + 1 ≡ y.end = omega (arith, below, ltb-false (b.0 + 1) y.end last) in
      let off : reply ≡ Some good = reply_is ∙ ap (λ (t : Bool). cond t None (Some good)) last in
      harden_ends s d e c b bytes turn half entries h (Syncing (behind y (b.0 + 1))) told is blocks_are order good
      (next-synced (behind y (b.0 + 1)) (names_dirty h good) end_is) refl (λ more. absurd (omega (arith, more, end_is))) (ended good) (stops good off))
      (cases_Bool (ltb (b.0 + 1) y.end))

  -- the block is the next one
  pub sync_hardens : b.0 ≡ y.at → (reply ≡ None → Goes d e c (record a { work = Some then_course }) (Harden (Command c) b ∷ []) entries told)
      → ((r : Reply) → reply ≡ Some r → Stops d e c r (Harden (Command c) b ∷ []) entries told) → Moves (Work c) s d e entries told
  sync_hardens at goes stops =
      let g : State = steps.begun s.hist (Work c) in
      let left : y.at < y.end = omega (arith, at, below) in
      let may : next (Syncing y) (deed.Hardened b) ≡ Some (Syncing (behind y (b.0 + 1))) =
      next-hardened y b at left ∙ ap (λ (n : ℕ). Some (Syncing (behind y (n + 1)))) (sym at) in
      let owed = owed_is s c m (Syncing y) is_in working.owes in
      synced (Harden (Command c) b ∷ []) (steps.entry_after (capacity s) (Work c) (steps.begun s.hist (Work c)) (Harden (Command c) b))
      (turn.laws.hardens s c b bytes (Syncing y) (Syncing (behind y (b.0 + 1))) turn.is owed may) refl refl
      (hardened_duty (capacity s) g c b (Syncing y) (Syncing (behind y (b.0 + 1))) (owed-begun s.hist c ∙ owed) may)
      (put_at-own c (window_after c (s.windows c) (beat (Work c) (Harden (Command c) b ∷ []) (op_of s b bytes ∷ []))) s.windows
      ∙ ap (λ (t : Bool). cond (t || false) [] (s.windows c ++ op_of s b bytes ∷ [])) (eq-eqb c c refl))
      refl refl (λ r. refl) goes stops

  -- there are blocks before it
  pub sync_passes : y.at < b.0 → none_dirty s.hist.blocks y.at b.0 ≡ true
      → (reply ≡ None → Goes d e c (record a { work = Some then_course }) (Passed c (lba y.at) b ∷ Harden (Command c) b ∷ []) entries told)
      → ((r : Reply) → reply ≡ Some r → Stops d e c r (Passed c (lba y.at) b ∷ Harden (Command c) b ∷ []) entries told) → Moves (Work c) s d e entries told
  sync_passes before clean goes stops =
      let g : State = steps.begun s.hist (Work c) in
      let owed : owed_by s.hist c ≡ Some (Syncing y) = owed_is s c m (Syncing y) is_in working.owes in
      let may_pass = next-passed y (lba y.at) b refl before (omega (arith, below)) in
      let may : next (Syncing (record y { at = b.0 })) (deed.Hardened b) ≡ Some (Syncing (behind y (b.0 + 1))) = next-hardened (record y { at = b.0 }) b refl below in
      let passed : owed_by (passed_state s c (lba y.at) b) c ≡ Some (Syncing (record y { at = b.0 })) =
      passed_owes (capacity s) g c (lba y.at) b (Syncing y) (Syncing (record y { at = b.0 })) (owed-begun s.hist c ∙ owed) may_pass in
      synced (Passed c (lba y.at) b ∷ Harden (Command c) b ∷ []) (steps.entry_after (capacity s) (Work c) (passed_state s c (lba y.at) b) (Harden (Command c) b))
      (turn.laws.passes s c (lba y.at) b bytes (Syncing y) (Syncing (record y { at = b.0 })) (Syncing (behind y (b.0 + 1))) turn.is owed may_pass may clean)
      refl refl (hardened_duty (capacity s) (passed_state s c (lba y.at) b) c b (Syncing (record y { at = b.0 })) (Syncing (behind y (b.0 + 1))) passed may)
      (put_at-own c (window_after c (s.windows c) (beat (Work c) (Passed c (lba y.at) b ∷ Harden (Command c) b ∷ []) (op_of s b bytes ∷ []))) s.windows
      ∙ ap (λ (t : Bool). cond (t || false) [] (s.windows c ++ op_of s b bytes ∷ [])) (eq-eqb c c refl))
      refl refl (λ r. refl) goes stops
