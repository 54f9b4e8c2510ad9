-- A turn of a read, whatever it finds.
use Rattle.std.proofs.Common.{◌≡◌, ℕ, ◌+◌, ◌<◌, Bool, true, false, not, cond, eqb, ltb, List, [], ◌∷◌, ◌++◌, length, Option, Some, None, refl, sym, ap, ◌∙◌, subst, arith, ⊎_elim, ◌⊎◌}
use Rattle.std.specs.Prelude.{◌&&◌, ◌||◌, slice_get, Result}
use Rattle.sense_data.specs.declared.sense.Sense.{Sense}
use Rattle.cdb_reader.specs.Request.{Request}
use Rattle.std.specs.Option.{option_and_then, option_map_or, is_none, is_some}
use Rattle.std.proofs.lemmas.Bool.{eq-eqb, lt-ltb}
use Rattle.disk_base.specs.declared.block.Value.{Value}
use Rattle.disk_base.specs.declared.block.Value.TheVariants.{Data, Lost}
use Rattle.disk_base.specs.declared.stage.Stage.{Stage}
use Rattle.platter_model.specs.declared.op.Op.{Op}
use Rattle.mode_pages.specs.declared.settings.Settings.{Settings}
use Rattle.task_set.specs.declared.member.Member.{Member}
use Rattle.task_set.specs.Members.{member_of}
use Rattle.read_recovery.specs.Stages.{Progress, begun, next_stage, answered, stages_of}
use Rattle.cdb_reader.specs.declared.plan.Reading as reading
use Rattle.cdb_reader.specs.declared.plan.Plan.{Plan}
use Rattle.cdb_reader.specs.declared.plan.Plan.TheVariants.{Reading, Unread}
use Rattle.cdb_reader.specs.declared.plan.Deed.TheVariants as deed
use Rattle.cdb_reader.specs.Plan.{next}
use Rattle.command_engine.specs.declared.answer.Answer.TheVariants.{Got, Missed}
use Rattle.command_engine.specs.declared.step.Recovery.{Recovery}
use Rattle.command_engine.specs.declared.step.Step.TheVariants.{Trying}
use Rattle.command_engine.specs.Course.{Course}
use Rattle.command_engine.specs.Answers.{after, found_by}
use Rattle.block_machine.specs.declared.entry.Entry.TheVariants.{Get}
use Rattle.block_machine.specs.declared.turn.Label.TheVariants.{Work}
use Rattle.block_machine.specs.Blocks.{is_dirty}
use Rattle.block_machine.specs.State.{Duty, owed_by}
use Rattle.block_machine.specs.Steps as steps
use Rattle.block_machine.proofs.Booleans.{and_both}
use Rattle.drive_core.specs.declared.accepted.Accepted.{Accepted}
use Rattle.drive_scene.specs.Scene.{Scene, beat}
use Rattle.drive_scene.specs.After.{last_found, past_plain_read, window_after}
use Rattle.drive_scene.specs.Holds.{held_by_plan, held_block}
use Rattle.geometry_map.specs.DefectMap.{place_of}
use Rattle.sector_store.specs.Shapes.{try_of}
use Rattle.drive_scene.specs.Evidence.{lba, FailedBelow}
use Rattle.drive_scene.specs.View.{view}
use Rattle.drive_core.specs.Commands.{IsTrying, IsWorking, IsCommand, IsOwnRange, IsOwnRecovery}
use Rattle.drive_core.proofs.AtBlock.{first_read}
use Rattle.drive_scene.proofs.Tables.{put_at-own}
use Rattle.drive_scene.proofs.Tries.{last_found-try, length-try, failed-next, next_stage-at}
use Rattle.drive_scene.proofs.GetTurns.{recovered-got, got-duty, begun-owes, begun-duty}
use Rattle.drive_scene.proofs.Elsewhere.{after_half}

some_left : {X : Type 0} (o : Option X) → is_none o ≡ false → is_some o ≡ true
some_left None is = absurd (cc)
some_left (Some x) is = refl

-- a get may come by the plan of a read
pub next-got : (r : reading.Reading) (bytes : List ℕ) (dirty : Bool) → r.at < r.end → (r.through && dirty) ≡ false
    → next (Reading r) (deed.Got (lba r.at) (Data bytes) dirty) ≡ Some (Reading (record r { at = r.at + 1; hardened = false }))
next-got r bytes dirty left clean =
    ap (λ (b : Bool). cond b (Some (Reading (record r { at = r.at + 1; hardened = false }))) None)
    (and_both (eqb r.at r.at && ltb r.at r.end) (not (r.through && dirty)) (and_both (eqb r.at r.at) (ltb r.at r.end) (eq-eqb r.at r.at refl) (lt-ltb r.at r.end left)) (ap not clean))

pub next-lost : (r : reading.Reading) (dirty : Bool) → r.at < r.end → (r.through && dirty) ≡ false
    → next (Reading r) (deed.Got (lba r.at) Lost dirty) ≡ Some (Unread r.at)
next-lost r dirty left clean =
    ap (λ (b : Bool). cond b (Some (Unread r.at)) None)
    (and_both (eqb r.at r.at && ltb r.at r.end) (not (r.through && dirty)) (and_both (eqb r.at r.at) (ltb r.at r.end) (eq-eqb r.at r.at refl) (lt-ltb r.at r.end left)) (ap not clean))

module _ (s : Scene) (c : ℕ) (m : Member) (settings : Settings) (gives : Bool) (moved : ℕ) (r : reading.Reading) (p : Progress) (rec : Option Recovery) (stage : Stage) where
  -- where the read stands
  abbrev pub course : Course
  course = record { settings = settings; gives = gives; moved = moved; plan = Reading r; step = Trying p; recovered = rec }

  -- a member is in after half a turn too
  -- the window of the command is empty behind a get
  pub window-got : (v : Value) (ops : List Op) → (after_half s c ops (Get c (lba r.at) v ∷ [])).windows c ≡ []
  window-got v ops =
      put_at-own c (window_after c (s.windows c) (beat (Work c) (Get c (lba r.at) v ∷ []) ops)) s.windows
      ∙ ap (λ (b : Bool). cond (b || false) [] (s.windows c ++ ops)) (eq-eqb c c refl)

  -- and has the turn's operations without one
  window-none : (ops : List Op) → (after_half s c ops []).windows c ≡ s.windows c ++ ops
  window-none ops = put_at-own c (window_after c (s.windows c) (beat (Work c) [] ops)) s.windows

  -- what was recovered of the block
  recovered-found : (bytes : List ℕ) (ops : List Op) → last_found (s.windows c ++ ops) ≡ Some stage
      → recovered-got s c (lba r.at) (Data bytes) ops c ≡ past_plain_read (lba r.at) (s.recovered c) stage
  recovered-found bytes ops found =
      put_at-own c _ s.recovered
      ∙ (ap (λ (w : List Op). option_map_or (past_plain_read (lba r.at) (s.recovered c)) (last_found w) (s.recovered c)) (put_at-own c (s.windows c ++ ops) s.windows)
      ∙ ap (λ (o : Option Stage). option_map_or (past_plain_read (lba r.at) (s.recovered c)) o (s.recovered c)) found)

  recovered-cached : (bytes : List ℕ) (ops : List Op) → last_found (s.windows c ++ ops) ≡ None
      → recovered-got s c (lba r.at) (Data bytes) ops c ≡ s.recovered c
  recovered-cached bytes ops found =
      put_at-own c _ s.recovered
      ∙ (ap (λ (w : List Op). option_map_or (past_plain_read (lba r.at) (s.recovered c)) (last_found w) (s.recovered c)) (put_at-own c (s.windows c ++ ops) s.windows)
      ∙ ap (λ (o : Option Stage). option_map_or (past_plain_read (lba r.at) (s.recovered c)) o (s.recovered c)) found)

  -- the engine's recovery is the history's
  pub recovered-is : (bytes : List ℕ) (ops : List Op) → next_stage p ≡ Some stage → s.recovered c ≡ rec
      → (last_found (s.windows c ++ ops) ≡ Some stage) ⊎ ((last_found (s.windows c ++ ops) ≡ None) × (stage.number ≡ 0))
      → recovered-got s c (lba r.at) (Data bytes) ops c ≡ (after course (Got (Data bytes))).recovered
  recovered-is bytes ops next_is was by =
      ⊎_elim (λ found. recovered-found bytes ops found ∙ (ap (λ (o : Option Recovery). past_plain_read (lba r.at) o stage) was ∙ ap (λ (o : Option Stage). found_by r.at o rec) (sym next_is)))
      (λ cached. recovered-cached bytes ops cached.0 ∙ (was
      ∙ (sym (ap (λ (b : Bool). cond b rec (Some (record { b = lba r.at; stage = stage }))) (eq-eqb stage.number 0 cached.1))
      ∙ ap (λ (o : Option Stage). found_by r.at o rec) (sym next_is)))) by

  -- the new recovery is told of one of the command's own blocks
  pub own-recovered : (bytes : List ℕ) (asks : Result Request Sense) → r.at < r.end → next_stage p ≡ Some stage → IsOwnRange asks (Reading r) → IsOwnRecovery asks rec
      → IsOwnRecovery asks (after course (Got (Data bytes))).recovered
  own-recovered bytes asks left next_is range own =
      subst (λ (o : Option Stage). IsOwnRecovery asks (found_by r.at o rec)) (sym next_is) (by (eqb stage.number 0))
    where
      by : (b : Bool) → IsOwnRecovery asks (cond b rec (Some (record { b = lba r.at; stage = stage })))
      by true = own
      by false = range (record { b = lba r.at; stage = stage }) (omega arith) left

  -- a try or a get is of a block that no newer value waits for
  no_dirty_held : (t : Scene) (o : Bool) → is_dirty (t.hist.blocks r.at) ≡ false
      → option_map_or (λ b. is_dirty (t.hist.blocks b)) (cond o (Some r.at) None) false ≡ false
  no_dirty_held t true undirty = undirty
  no_dirty_held t false undirty = refl

  -- the read goes on to the next block
  pub staged-got : (a : Accepted) (bytes : List ℕ) (ops : List Op) → member_of s.hist.set c ≡ Some m → IsWorking (view s c) m course → next_stage p ≡ Some stage
      → r.at < r.end → (r.through && is_dirty (s.hist.blocks r.at)) ≡ false
      → (last_found (s.windows c ++ ops) ≡ Some stage) ⊎ ((last_found (s.windows c ++ ops) ≡ None) × (stage.number ≡ 0))
      → r.at + 1 < r.end
      → IsCommand (view (after_half s c ops (Get c (lba r.at) (Data bytes) ∷ [])) c) (record a { work = Some (after course (Got (Data bytes))) })
  staged-got a bytes ops is_in working next_is left clean by more =
      let t : Scene = after_half s c ops (Get c (lba r.at) (Data bytes) ∷ []) in
      let next_plan : Plan = Reading (record r { at = r.at + 1; hardened = false }) in
      let owing : owed_by (steps.begun s.hist (Work c)) c ≡ Some (Reading r) = begun-owes s.hist c m (Reading r) is_in working.owes in
      let duty : (t.hist.duties c).owes ≡ Some (Reading (record r { at = r.at + 1; hardened = false })) =
      got-duty s c (lba r.at) (Data bytes) (Reading r) (Reading (record r { at = r.at + 1; hardened = false })) owing
      (next-got r bytes (is_dirty (s.hist.blocks r.at)) left clean) in
      let owes : owed_by t.hist c ≡ Some (Reading (record r { at = r.at + 1; hardened = false })) =
      ap (λ (o : Option Member). option_and_then (λ (x : Member). (t.hist.duties c).owes) o) is_in ∙ duty in
      let window : t.windows c ≡ [] = window-got (Data bytes) ops in
      let held : held_block t c ≡ None =
      λ i. option_and_then (held_by_plan (window i)) (owes i) in
      let asks : (t.hist.duties c).asks ≡ (s.hist.duties c).asks =
      ap (λ (d : Duty). d.asks) (put_at-own c _ (steps.begun s.hist (Work c)).duties) ∙ ap (λ (d : Duty). d.asks) (begun-duty s.hist c) in
      record {
        member = m;
        is_in = is_in;
        under_way = record {
          started = working.started;
          owes = duty;
          settings = working.settings;
          retry = working.retry;
          recovered = recovered-is bytes ops next_is working.recovered by;
          at_block = first_read (view t c) (record r { at = r.at + 1; hardened = false }) settings more window working.settings
              (ap (λ (o : Option ℕ). option_map_or (λ b. is_dirty (t.hist.blocks b)) o false) held);
          range = working.range;
          own_recovery = subst (λ (x : Result Request Sense). IsOwnRecovery x (after course (Got (Data bytes))).recovered) (sym asks)
              (own-recovered bytes (s.hist.duties c).asks left next_is working.own_range working.own_recovery);
          own_range = subst (λ (x : Result Request Sense). IsOwnRange x (Reading (record r { at = r.at + 1; hardened = false }))) (sym asks)
              (λ recovery low high. working.own_range recovery (omega arith) high);
          served = working.served;
        };
      }

  -- the read goes on to the next stage
  pub staged-none : (a : Accepted) (before : ℕ) → member_of s.hist.set c ≡ Some m → IsWorking (view s c) m course → next_stage p ≡ Some stage
      → is_dirty (s.hist.blocks r.at) ≡ false → is_none (next_stage (answered p false)) ≡ false
      → IsCommand (view (after_half s c (try_of before (place_of s.map (lba r.at)) stage None) []) c) (record a { work = Some (after course Missed) })
  staged-none a before is_in working next_is undirty one_left =
      let ops : List Op = try_of before (place_of s.map (lba r.at)) stage None in
      let t : Scene = after_half s c (try_of before (place_of s.map (lba r.at)) stage None) [] in
      let trying : IsTrying (view s c) r p = working.at_block in
      let window : t.windows c ≡ s.windows c ++ try_of before (place_of s.map (lba r.at)) stage None = window-none (try_of before (place_of s.map (lba r.at)) stage None) in
      let long : length (t.windows c) ≡ length (s.windows c) + 2 = ap length window ∙ length-try (s.windows c) before (place_of s.map (lba r.at)) stage None in
      let owes : owed_by t.hist c ≡ Some (Reading r) = begun-owes s.hist c m (Reading r) is_in working.owes in
      let at : slice_get (stages_of p.retry) p.failed ≡ Some stage = (next_stage-at p stage next_is).1 in
      let held : held_block t c ≡ cond (not (eqb (length (s.windows c ++ ops)) 0) || r.hardened) (Some r.at) None =
      λ i. option_and_then (held_by_plan (window i)) (owes i) in
      let asks : (t.hist.duties c).asks ≡ (s.hist.duties c).asks = ap (λ (d : Duty). d.asks) (begun-duty s.hist c) in
      let next : Course = record course { step = Trying (answered p false) } in
      let is : after course Missed ≡ record course { step = Trying (answered p false) } =
      ap (λ (b : Bool). record {
        settings = settings;
        gives = gives;
        moved = moved;
        plan = cond b (Unread r.at) (Reading r);
        step = cond b (Trying (begun settings.retry)) (Trying (answered p false));
        recovered = rec;
      }) one_left in
      let work : IsWorking (view (after_half s c (try_of before (place_of s.map (lba r.at)) stage None) []) c) m (record course { step = Trying (answered p false) }) = record {
        started = working.started;
        owes = ap (λ (d : Duty). d.owes) (begun-duty s.hist c) ∙ working.owes;
        settings = working.settings;
        retry = working.retry;
        recovered = working.recovered;
        at_block = record {
          left = trying.left;
          next = some_left (next_stage (answered p false)) one_left;
          retry = trying.retry;
          failed = subst (λ (w : List Op). FailedBelow w (place_of s.map (lba r.at)) p.retry (p.failed + 1)) (sym window)
              (failed-next (s.windows c) before (place_of s.map (lba r.at)) p.retry p.failed stage at trying.failed);
          unfound = ap last_found window ∙ last_found-try (s.windows c) before (place_of s.map (lba r.at)) stage None;
          tried = omega (arith, long, trying.tried);
          clean = ap (λ (o : Option ℕ). option_map_or (λ b. is_dirty (t.hist.blocks b)) o false) held
              ∙ no_dirty_held t (not (eqb (length (s.windows c ++ ops)) 0) || r.hardened) undirty;
        };
        range = working.range;
        own_recovery = subst (λ (x : Result Request Sense). IsOwnRecovery x rec) (sym asks) working.own_recovery;
        own_range = subst (λ (x : Result Request Sense). IsOwnRange x (Reading r)) (sym asks) working.own_range;
        served = working.served;
      } in
      record {
        member = m;
        is_in = is_in;
        under_way = subst (λ (w : Course). IsWorking (view (after_half s c (try_of before (place_of s.map (lba r.at)) stage None) []) c) m w) (sym is) work;
      }
