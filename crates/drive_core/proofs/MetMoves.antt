-- What a command that met a dirty block stands at once the block is hardened, and how its turn moves the drive.
use Rattle.std.proofs.Common.{◌≡◌, ℕ, ◌<◌, Bool, true, false, not, cond, List, [], ◌∷◌, ◌++◌, Option, Some, None, refl, sym, ap, ◌∙◌, subst}
use Rattle.std.specs.Prelude.{◌||◌, Result}
use Rattle.std.specs.Option.{option_and_then, option_map_or}
use Rattle.std.proofs.lemmas.Bool.{eq-eqb, lt-ltb}
use Rattle.disk_base.specs.declared.address.Lba.{Lba}
use Rattle.disk_base.specs.declared.block.Value.TheVariants.{Data}
use Rattle.platter_model.specs.declared.op.Op.{Op}
use Rattle.mode_pages.specs.declared.settings.Settings.{Settings}
use Rattle.sense_data.specs.declared.reply.Reply.{Reply}
use Rattle.sense_data.specs.declared.sense.Sense.{Sense}
use Rattle.task_set.specs.declared.member.Member.{Member}
use Rattle.task_set.specs.Members.{member_of}
use Rattle.read_recovery.specs.Stages.{Progress}
use Rattle.cdb_reader.specs.Request.{Request}
use Rattle.cdb_reader.specs.declared.plan.Reading as reading
use Rattle.cdb_reader.specs.declared.plan.Plan.{Plan}
use Rattle.cdb_reader.specs.declared.plan.Plan.TheVariants.{Reading}
use Rattle.cdb_reader.specs.declared.plan.Deed.TheVariants as deed
use Rattle.cdb_reader.specs.Plan.{next}
use Rattle.command_engine.specs.declared.step.Recovery.{Recovery}
use Rattle.command_engine.specs.declared.step.Step.TheVariants.{Trying}
use Rattle.command_engine.specs.Course.{Course}
use Rattle.command_engine.specs.Ending.{ending_of, report_of}
use Rattle.block_machine.specs.declared.entry.Entry.{Entry}
use Rattle.block_machine.specs.declared.entry.Entry.TheVariants.{Harden}
use Rattle.block_machine.specs.declared.entry.Who.TheVariants.{Command}
use Rattle.block_machine.specs.declared.turn.Label.TheVariants.{Work}
use Rattle.block_machine.specs.Blocks.{is_dirty}
use Rattle.block_machine.specs.State.{State, Duty, owed_by}
use Rattle.block_machine.specs.Steps as steps
use Rattle.block_machine.proofs.Booleans.{and_both}
use Rattle.drive_core.specs.declared.accepted.Accepted.{Accepted}
use Rattle.drive_core.specs.declared.server.Server.{Server}
use Rattle.drive_scene.specs.declared.answer.Ended as told_end
use Rattle.drive_scene.specs.Scene.{Scene, capacity, beat}
use Rattle.drive_scene.specs.After.{window_after}
use Rattle.drive_scene.specs.Holds.{held_by_plan, held_block, holder_besides}
use Rattle.drive_scene.specs.View.{view}
use Rattle.drive_core.specs.Commands.{IsWorking, IsCommand, IsOwnRange, IsOwnRecovery}
use Rattle.drive_core.specs.Hardening.{hardened_at}
use Rattle.drive_core.specs.Moves.{Moves}
use Rattle.drive_core.proofs.AtBlock.{first_read}
use Rattle.drive_scene.proofs.Tables.{put_at-own}
use Rattle.drive_scene.specs.Half.{Half}
use Rattle.drive_scene.proofs.Apart.{holds_next}
use Rattle.drive_scene.proofs.Elsewhere.{after_half}
use Rattle.drive_core.proofs.Closing.{Goes}
use Rattle.drive_scene.proofs.Doing.{owed-begun, hardened_duty}
use Rattle.drive_scene.specs.Kinds.{IsHarden}
use Rattle.drive_scene.proofs.HardenTurns.{hardened-newest}
use Rattle.drive_core.proofs.HardenMoves.{IsHardenTurn, harden_on}
use Rattle.drive_core.proofs.WrittenOut.{op_of}

-- a command in the set owes its plan
pub owed_is : (s : Scene) (c : ℕ) (m : Member) (plan : Plan) → member_of s.hist.set c ≡ Some m → (s.hist.duties c).owes ≡ Some plan → owed_by s.hist c ≡ Some plan
owed_is s c m plan is_in owes = ap (λ (o : Option Member). option_and_then (λ (x : Member). (s.hist.duties c).owes) o) is_in ∙ owes

-- a read that goes through hardens its next block
pub next-through : (r : reading.Reading) (b : Lba) → r.at < r.end → r.through ≡ true → r.hardened ≡ false → b.0 ≡ r.at
    → next (Reading r) (deed.Hardened b) ≡ Some (Reading (record r { hardened = true }))
next-through r b left through fresh at =
    ap (λ (t : Bool). cond t (Some (Reading (record r { hardened = true }))) None)
    (and_both _ _ (and_both _ _ (and_both _ _ through (ap not fresh)) (eq-eqb b.0 r.at at)) (lt-ltb r.at r.end left))

module _ (s : Scene) (c : ℕ) (m : Member) (settings : Settings) (gives : Bool) (moved : ℕ) (rec : Option Recovery) (p : Progress) (b : Lba) (bytes : List ℕ) where
  -- where a command stands
  abbrev pub met_course : Plan → Course
  met_course plan = record { settings = settings; gives = gives; moved = moved; plan = plan; step = Trying p; recovered = rec }

  -- the window of the command is empty behind a harden
  window-hardened : (ops : List Op) → (after_half s c ops (Harden (Command c) b ∷ [])).windows c ≡ []
  window-hardened ops =
      put_at-own c (window_after c (s.windows c) (beat (Work c) (Harden (Command c) b ∷ []) ops)) s.windows
      ∙ ap (λ (t : Bool). cond (t || false) [] (s.windows c ++ ops)) (eq-eqb c c refl)

  -- a read that goes through stands before the tries of its block
  pub staged_through : (r : reading.Reading) (a : Accepted) (ops : List Op) → member_of s.hist.set c ≡ Some m → IsWorking (view s c) m (met_course (Reading r))
      → IsHarden s c b bytes → r.at < r.end → r.through ≡ true → r.hardened ≡ false → b.0 ≡ r.at
      → IsCommand (view (after_half s c ops (Harden (Command c) b ∷ [])) c) (record a { work = Some (hardened_at b (met_course (Reading r))) })
  staged_through r a ops is_in working is left through fresh at =
      let t : Scene = after_half s c ops (Harden (Command c) b ∷ []) in
      let g : State = steps.begun s.hist (Work c) in
      let owing : owed_by (steps.begun s.hist (Work c)) c ≡ Some (Reading r) = owed-begun s.hist c ∙ owed_is s c m (Reading r) is_in working.owes in
      let duty : (t.hist.duties c).owes ≡ Some (Reading (record r { hardened = true })) =
      hardened_duty (capacity s) g c b (Reading r) (Reading (record r { hardened = true })) owing (next-through r b left through fresh at) in
      let owes : owed_by t.hist c ≡ Some (Reading (record r { hardened = true })) =
      ap (λ (o : Option Member). option_and_then (λ (x : Member). (t.hist.duties c).owes) o) is_in ∙ duty in
      let window : t.windows c ≡ [] = window-hardened ops in
      let held : held_block t c ≡ Some r.at = λ i. option_and_then (held_by_plan (window i)) (owes i) in
      let asks : (t.hist.duties c).asks ≡ (s.hist.duties c).asks =
      ap (λ (d : Duty). d.asks) (put_at-own c _ g.duties) ∙ ap (λ (d : Duty). d.asks) (put_at-own c _ s.hist.duties) in
      let clean_there : is_dirty (t.hist.blocks r.at) ≡ false =
      ap (λ (n : ℕ). is_dirty (t.hist.blocks n)) (sym at)
      ∙ ap is_dirty (put_at-own b.0 _ s.hist.blocks ∙ hardened-newest (s.hist.blocks b.0) (Data bytes) is.newest) in
      record {
        member = m;
        is_in = is_in;
        under_way = record {
          started = working.started;
          owes = duty;
          settings = working.settings;
          retry = working.retry;
          recovered = working.recovered;
          at_block = first_read (view t c) (record r { hardened = true }) settings left window working.settings
              (ap (λ (o : Option ℕ). option_map_or (λ k. is_dirty (t.hist.blocks k)) o false) held ∙ clean_there);
          range = working.range;
          own_recovery = subst (λ (x : Result Request Sense). IsOwnRecovery x rec) (sym asks) working.own_recovery;
          own_range = subst (λ (x : Result Request Sense). IsOwnRange x (Reading (record r { hardened = true }))) (sym asks) working.own_range;
          served = working.served;
        };
      }

  -- its turn moves the drive
  pub through_moves : (d e : Server) (r : reading.Reading) (a : Accepted) (entries : List Entry) (reply : Option Reply) (told : Option told_end.Ended)
      → IsHardenTurn s d e c b bytes → member_of s.hist.set c ≡ Some m → IsWorking (view s c) m (met_course (Reading r))
      → r.at < r.end → r.through ≡ true → r.hardened ≡ false → b.0 ≡ r.at → reply ≡ ending_of (hardened_at b (met_course (Reading r)))
      → (reply ≡ None → Goes d e c (record a { work = Some (hardened_at b (met_course (Reading r))) }) (Harden (Command c) b ∷ []) entries told)
      → Moves (Work c) s d e entries told
  through_moves d e r a entries reply told turn is_in working left through fresh at reply_is goes =
      let plan : Plan = Reading r in
      let later : Plan = Reading (record r { hardened = true }) in
      let on : reply ≡ None = reply_is ∙ ap (λ (t : Bool). cond t None (Some (report_of r.reports rec))) (lt-ltb r.at r.end left) in
      let half : Half s c (op_of s b bytes ∷ []) (Harden (Command c) b ∷ []) (steps.entry_after (capacity s) (Work c) (steps.begun s.hist (Work c)) (Harden (Command c) b)) (Reading (record r { hardened = true })) =
      turn.laws.hardens s c b bytes (Reading r) (Reading (record r { hardened = true })) turn.is (owed_is s c m (Reading r) is_in working.owes) (next-through r b left through fresh at) in
      harden_on s d e c b bytes turn (Harden (Command c) b ∷ []) entries (steps.entry_after (capacity s) (Work c) (steps.begun s.hist (Work c)) (Harden (Command c) b))
      (Reading (record r { hardened = true })) told half refl refl (record a { work = Some (hardened_at b (met_course (Reading r))) }) refl refl
      (staged_through r a (op_of s b bytes ∷ []) is_in working turn.is left through fresh at)
      (holds_next s c ((after_half s c (op_of s b bytes ∷ []) (Harden (Command c) b ∷ [])).windows c) (record r { hardened = true })
      (ap (holder_besides s (Work c)) (sym at) ∙ turn.is.free))
      (goes on)
