-- The parts of a drive fit again after a turn of work.
use Rattle.std.proofs.Common.{◌≡◌, ◌≢◌, ℕ, ◌≤◌, List, [], ◌∷◌, ◌++◌, Option, Some, None, refl, sym, ap, ◌∙◌, subst}
use Rattle.std.specs.Prelude.{All}
use Rattle.std.proofs.lemmas.List.Elements.{All-filter}
use Rattle.platter_model.specs.declared.op.Op.{Op}
use Rattle.sense_data.specs.declared.reply.Reply.{Reply}
use Rattle.task_set.specs.declared.member.Member.{Member}
use Rattle.task_set.specs.Members.{member_of, without}
use Rattle.cdb_reader.specs.declared.plan.Plan.{Plan}
use Rattle.sense_data.specs.Attentions.{Waiting}
use Rattle.mode_pages.specs.declared.settings.Settings.{Settings}
use Rattle.history_replay.specs.declared.known.Known.{Known}
use Rattle.history_replay.specs.Warning.{KnownWait}
use Rattle.block_machine.specs.declared.entry.Entry.{Entry}
use Rattle.block_machine.specs.declared.entry.Entry.TheVariants.{Ended}
use Rattle.block_machine.specs.declared.turn.Label.TheVariants.{Work}
use Rattle.block_machine.specs.State.{State, owed_by}
use Rattle.block_machine.specs.Steps.{entry_after}
use Rattle.drive_core.specs.declared.accepted.Accepted.{Accepted}
use Rattle.drive_core.specs.declared.server.Server.{Server}
use Rattle.drive_scene.specs.Scene.{Scene, capacity, beat}
use Rattle.drive_scene.proofs.DestageTurns.{quiet_back}
use Rattle.drive_scene.specs.Holds.{held_by_plan, held_block}
use Rattle.drive_core.specs.Accepting.{accepted_of, Replaces}
use Rattle.drive_scene.specs.View.{view}
use Rattle.drive_core.specs.Commands.{IsStaged}
use Rattle.drive_scene.specs.GoodTurn.{IsStood}
use Rattle.drive_core.specs.Fits.{HasOps, IsCached, KnowsHistory, Fits}
use Rattle.drive_scene.proofs.Keyed.{find-dropped_own}
use Rattle.drive_scene.proofs.Elsewhere.{held-alike, after_half, after_end, alike-half, reached-end, alike-end}
use Rattle.drive_scene.proofs.Uncommitted.{stays_flightless}
use Rattle.drive_core.proofs.Flightless.{same_flights}
use Rattle.drive_core.proofs.Elsewhere.{staged-alike, all_staged}
use Rattle.drive_scene.specs.Half.{Half}
use Rattle.drive_scene.proofs.Halves.{windows_then}
use Rattle.drive_scene.proofs.Apart.{HoldsAlone, held_of, held_out, apart_on, apart_none}
use Rattle.drive_core.proofs.Windows.{room_of}
use Rattle.geometry_map.specs.Size.{capacity_of}

-- the scan stays known where the history keeps it, and the mode values and the attentions that wait then are known
pub known-told : (s t : Scene) (known : Known) (settings : Settings) (waiting : Waiting) → t.size ≡ s.size → t.hist.settings ≡ settings → settings.retry ≤ 20
    → t.hist.waiting ≡ waiting → KnownWait waiting → t.hist.corrupt ≡ s.hist.corrupt → t.hist.scan ≡ s.hist.scan → KnowsHistory s known
    → KnowsHistory t (record known { settings = settings; waiting = waiting })
known-told s t known settings waiting size holds few waits warned corrupt scan k = record {
  capacity = k.capacity ∙ ap capacity_of (sym size);
  settings = sym holds;
  retry = subst (λ (x : Settings). x.retry ≤ 20) (sym holds) few;
  waiting = sym waits;
  warned = warned;
  corrupt = k.corrupt ∙ sym corrupt;
  readable = corrupt ∙ k.readable;
  scan = k.scan ∙ sym scan;
}

-- the mode values of the history are those that the drive knows
pub retry-known : (s : Scene) (known : Known) → KnowsHistory s known → known.settings.retry ≤ 20
retry-known s known k = subst (λ (x : Settings). x.retry ≤ 20) (sym k.settings) k.retry

-- all stay known where the history keeps them
pub known-quiet : (s t : Scene) (known : Known) → t.size ≡ s.size → t.hist.settings ≡ s.hist.settings → t.hist.waiting ≡ s.hist.waiting → t.hist.corrupt ≡ s.hist.corrupt
    → t.hist.scan ≡ s.hist.scan → KnowsHistory s known → KnowsHistory t known
known-quiet s t known size settings waits corrupt scan k =
    known-told s t known known.settings known.waiting size (settings ∙ sym k.settings) (retry-known s known k) (waits ∙ sym k.waiting) k.warned corrupt scan k

-- what a half turn's scene has of the history
pub fits_on : (s : Scene) (c : ℕ) (ops : List Op) (entries : List Entry) (h : State) (plan : Plan) (d e : Server) (a : Accepted) → Half s c ops entries h plan
    → Fits s d → e.set ≡ d.set → e.arrived ≡ d.arrived → e.known ≡ d.known → Replaces d.commands.items e.commands.items c a
    → HasOps (after_half s c ops entries) e.store → IsCached (after_half s c ops entries) e.store.cache → IsStaged (view (after_half s c ops entries) c) (Some a)
    → HoldsAlone s c ((after_half s c ops entries).windows c) plan → Fits (after_half s c ops entries) e
fits_on s c ops entries h plan d e a half fits set_is arrived_is known_is replaces has_ops cached own alone =
    let t : Scene = after_half s c ops entries in
    let set : t.hist.set ≡ s.hist.set = ap (λ (x : State). x.set) half.reached ∙ half.quiet.set in
    let arrived : t.hist.arrived ≡ s.hist.arrived = ap (λ (x : State). x.arrived) half.reached ∙ half.quiet.arrived in
    let held : held_block t c ≡ held_by_plan (t.windows c) plan = held_of t c plan (ap (λ (x : State). owed_by x c) half.reached ∙ half.owes) in
    record {
      size = fits.size;
      store = has_ops;
      cached = cached;
      known = subst (λ (k : Known). KnowsHistory (after_half s c ops entries) k) (sym known_is) (known-quiet s (after_half s c ops entries) d.known refl
          (ap (λ (x : State). x.settings) half.reached ∙ half.quiet.settings) (ap (λ (x : State). x.waiting) half.reached ∙ half.quiet.waiting)
          (ap (λ (x : State). x.corrupt) half.reached ∙ half.quiet.corrupt) (ap (λ (x : State). x.scan) half.reached ∙ half.quiet.scan) fits.known);
      tasks = record {
        set = set_is ∙ (fits.tasks.set ∙ sym set);
        arrived = arrived_is ∙ (fits.tasks.arrived ∙ sym arrived);
        came = subst (λ (n : ℕ). All (λ (m : Member). m.task.c ≤ n) t.hist.set) (sym arrived)
            (subst (λ (ms : List Member). All (λ (m : Member). m.task.c ≤ s.hist.arrived) ms) (sym set) fits.tasks.came);
      };
      staged = all_staged (after_half s c ops entries) e.commands.items c
          (subst (λ (o : Option Accepted). IsStaged (view (after_half s c ops entries) c) o) (sym replaces.own) own)
          (λ q other. staged-alike s (after_half s c ops entries) q (accepted_of d.commands.items q) (accepted_of e.commands.items q)
          (alike-half s c ops entries h plan half q other) (replaces.others q other) (fits.staged q));
      apart = apart_on s (after_half s c ops entries) c fits.apart (same_flights s (beat (Work c) entries ops) fits.flightless)
          (λ q other. held-alike s (after_half s c ops entries) q (alike-half s c ops entries h plan half q other)) (λ b holds. alone b (sym held ∙ holds));
      windows = windows_then s c ops entries h plan (room_of s c d fits) half entries;
      stands = subst (λ (x : State). IsStood s.map (s.ops ++ ops) x.blocks) (sym half.reached) half.stands;
      unstuck = quiet_back s (beat (Work c) entries ops) fits.unstuck;
      flightless = stays_flightless s (beat (Work c) entries ops) fits.flightless;
    }

-- a drive without a command that ended
pub record IsLeft (d e : Server) (c : ℕ) : Type 0 where
  pub set : e.set ≡ without d.set c
  pub own : accepted_of e.commands.items c ≡ None
  pub others : (q : ℕ) → q ≢ c → accepted_of e.commands.items q ≡ accepted_of d.commands.items q
  pub arrived : e.arrived ≡ d.arrived
  pub known : e.known ≡ d.known

pub fits_end : (s : Scene) (c : ℕ) (ops : List Op) (entries : List Entry) (h : State) (plan : Plan) (reply : Reply) (d e : Server) → Half s c ops entries h plan
    → Fits s d → IsLeft d e c → HasOps (after_end s c ops entries reply) e.store → IsCached (after_end s c ops entries reply) e.store.cache
    → Fits (after_end s c ops entries reply) e
fits_end s c ops entries h plan reply d e half fits left has_ops cached =
    let t : Scene = after_end s c ops entries reply in
    let reached : t.hist ≡ entry_after (capacity s) (Work c) h (Ended c reply) = reached-end s c ops entries h plan reply half in
    let set : t.hist.set ≡ without s.hist.set c = ap (λ (x : State). x.set) reached ∙ ap (λ (ms : List Member). without ms c) half.quiet.set in
    let arrived : t.hist.arrived ≡ s.hist.arrived = ap (λ (x : State). x.arrived) reached ∙ half.quiet.arrived in
    let gone : member_of t.hist.set c ≡ None = ap (λ (ms : List Member). member_of ms c) set ∙ find-dropped_own (λ (m : Member). m.task.c) c s.hist.set in
    record {
      size = fits.size;
      store = has_ops;
      cached = cached;
      known = subst (λ (k : Known). KnowsHistory (after_end s c ops entries reply) k) (sym left.known) (known-quiet s (after_end s c ops entries reply) d.known refl
          (ap (λ (x : State). x.settings) reached ∙ half.quiet.settings) (ap (λ (x : State). x.waiting) reached ∙ half.quiet.waiting)
          (ap (λ (x : State). x.corrupt) reached ∙ half.quiet.corrupt) (ap (λ (x : State). x.scan) reached ∙ half.quiet.scan) fits.known);
      tasks = record {
        set = left.set ∙ (ap (λ (ms : List Member). without ms c) fits.tasks.set ∙ sym set);
        arrived = left.arrived ∙ (fits.tasks.arrived ∙ sym arrived);
        came = subst (λ (n : ℕ). All (λ (m : Member). m.task.c ≤ n) t.hist.set) (sym arrived)
            (subst (λ (ms : List Member). All (λ (m : Member). m.task.c ≤ s.hist.arrived) ms) (sym set)
            (All-filter _ (λ (m : Member). m.task.c ≤ s.hist.arrived) s.hist.set fits.tasks.came));
      };
      staged = all_staged (after_end s c ops entries reply) e.commands.items c
          (subst (λ (o : Option Accepted). IsStaged (view (after_end s c ops entries reply) c) o) (sym left.own) gone)
          (λ q other. staged-alike s (after_end s c ops entries reply) q (accepted_of d.commands.items q) (accepted_of e.commands.items q)
          (alike-end s c ops entries h plan reply half q other) (left.others q other) (fits.staged q));
      apart = apart_none s (after_end s c ops entries reply) c fits.apart (same_flights s (beat (Work c) (entries ++ Ended c reply ∷ []) ops) fits.flightless)
          (λ q other. held-alike s (after_end s c ops entries reply) q (alike-end s c ops entries h plan reply half q other)) (held_out t c gone);
      windows = windows_then s c ops entries h plan (room_of s c d fits) half (entries ++ Ended c reply ∷ []);
      stands = subst (λ (x : State). IsStood s.map (s.ops ++ ops) x.blocks) (sym reached) half.stands;
      unstuck = quiet_back s (beat (Work c) (entries ++ Ended c reply ∷ []) ops) fits.unstuck;
      flightless = stays_flightless s (beat (Work c) (entries ++ Ended c reply ∷ []) ops) fits.flightless;
    }
