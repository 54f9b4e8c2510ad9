-- A turn in which a command hardens the dirty block that it needs.
use Rattle.std.proofs.Common.{◌≡◌, ℕ, ◌<◌, ◌≤◌, ◌^◌, Bool, true, false, cond, ltb, List, [], ◌∷◌, ◌++◌, Option, Some, None, IsSome, refl, sym, ap, ◌∙◌, subst, arith, ⊎_elim}
use Rattle.std.specs.Prelude.{IsTrue, IsSomeAnd, ◌&&◌}
use Rattle.std.specs.Option.{option_map, option_and_then}
use Rattle.std.proofs.lemmas.Bool.{ltb-true, ltb-false, cases_Bool}
use Rattle.disk_base.specs.declared.address.Lba.{Lba}
use Rattle.disk_base.specs.declared.block.Value.TheVariants.{Data}
use Rattle.platter_model.specs.declared.op.Op.{Op}
use Rattle.platter_model.specs.declared.op.Op.TheVariants.{Wrote}
use Rattle.platter_model.specs.Sector.{is_faulty}
use Rattle.platter_model.specs.TrueLog.{is_off}
use Rattle.geometry_map.specs.Size.{capacity_of}
use Rattle.mode_pages.specs.declared.settings.Settings.{Settings}
use Rattle.sense_data.specs.declared.reply.Reply.{Reply}
use Rattle.geometry_map.specs.DefectMap.{DefectMap, place_of}
use Rattle.geometry_map.specs.Laws.{BlocksHaveOwnSectors}
use Rattle.task_set.specs.declared.member.Member.{Member}
use Rattle.task_set.specs.Members.{member_of, without}
use Rattle.write_cache.specs.Contents.{newest}
use Rattle.sector_store.specs.State.{Contained, IsStore, placed}
use Rattle.sector_store.specs.Maps.{MayBeRecovered}
use Rattle.sector_store.specs.Stored.{StoresAt, KeepsBlocks, KeepsOthers}
use Rattle.cdb_reader.specs.declared.plan.Syncing as syncing
use Rattle.cdb_reader.specs.declared.plan.Plan.{Plan}
use Rattle.cdb_reader.specs.declared.plan.Plan.TheVariants.{Reading, Syncing}
use Rattle.command_engine.specs.declared.answer.Answer.TheVariants.{NextDirty}
use Rattle.command_engine.specs.declared.step.Recovery.{Recovery}
use Rattle.command_engine.specs.declared.step.Step.{Step}
use Rattle.command_engine.specs.Course.{Course}
use Rattle.command_engine.specs.Need.{end_of}
use Rattle.command_engine.specs.Ending.{ending_of}
use Rattle.command_engine.specs.Answers.{fits}
use Rattle.block_machine.proofs.Booleans.{and_both}
use Rattle.block_machine.specs.declared.entry.Entry.{Entry}
use Rattle.block_machine.specs.declared.entry.Entry.TheVariants.{Harden, Passed, Ended}
use Rattle.block_machine.specs.declared.entry.Who.TheVariants.{Command}
use Rattle.block_machine.specs.declared.turn.Label.TheVariants.{Work}
use Rattle.block_machine.specs.Blocks.{none_dirty}
use Rattle.drive_core.specs.declared.accepted.Accepted.{Accepted}
use Rattle.drive_core.specs.declared.server.Server.{Server}
use Rattle.drive_scene.specs.declared.answer.Ended as told_end
use Rattle.drive_scene.specs.Scene.{Scene, capacity}
use Rattle.drive_scene.specs.Holds.{holder_besides, needed_block, needed_by_plan}
use Rattle.drive_core.specs.Accepting.{accepted_of, under_way, Replaces}
use Rattle.drive_scene.specs.Evidence.{lba}
use Rattle.drive_scene.specs.View.{view}
use Rattle.drive_core.specs.Commands.{IsWorking}
use Rattle.drive_core.specs.Fits.{Fits}
use Rattle.sector_store.specs.Caching.{Hardens}
use Rattle.drive_core.specs.Hardening.{MayHardenFor, hardened_at, done_before}
use Rattle.drive_scene.specs.Ending.{ended_of_member}
use Rattle.drive_core.specs.Moves.{Moves, Leaves}
use Rattle.drive_core.proofs.Closing.{Goes, Stops, present_after}
use Rattle.drive_core.proofs.FirstDirty.{none_before_first}
use Rattle.drive_core.proofs.Hardened.{IsMet, met_dirty, read, sync}
use Rattle.drive_scene.specs.Kinds.{IsHarden}
use Rattle.drive_core.proofs.HardenMoves.{HardenLaws, IsHardenTurn}
use Rattle.drive_core.proofs.MetMoves.{met_course, owed_is, through_moves}
use Rattle.drive_core.proofs.SyncMoves.{sync_hardens, sync_passes}
use Rattle.drive_core.proofs.TakeTurns.{WorksAt, works_at, StandsAt, stands_in, free_block}
use Rattle.drive_core.proofs.Written.{MayStore}
use Rattle.drive_scene.specs.Present.{IsPresentMap}
use Rattle.drive_scene.proofs.Tables.{within_map}
use Rattle.drive_core.specs.Served.{is_served_plan}

-- what a turn that hardens a block is made of
pub record IsHardened (s : Scene) (d e : Server) (c : ℕ) (b : Lba) (bytes : List ℕ) (w : Course) (m : Member) (a : Accepted) (before entries : List Entry)
    (reply : Option Reply) (told : Option told_end.Ended) : Type 0 where
  pub turn : IsHardenTurn s d e c b bytes
  pub is_in : member_of s.hist.set c ≡ Some m
  pub working : IsWorking (view s c) m w
  pub needed : needed_block s c ≡ Some b.0
  pub before_is : before ≡ done_before c b w.plan
  pub reply_is : reply ≡ ending_of (hardened_at b w)
  pub goes : reply ≡ None → Goes d e c (record a { work = Some (hardened_at b w) }) (before ++ Harden (Command c) b ∷ []) entries told
  pub stops : (x : Reply) → reply ≡ Some x → Stops d e c x (before ++ Harden (Command c) b ∷ []) entries told

-- the block that a sync needs next is the first dirty one
sync_first : (s : Scene) (c : ℕ) (m : Member) (y : syncing.Syncing) (b : Lba) → member_of s.hist.set c ≡ Some m → (s.hist.duties c).owes ≡ Some (Syncing y)
    → needed_block s c ≡ Some b.0 → none_dirty s.hist.blocks y.at b.0 ≡ true
sync_first s c m y b is_in owes needed =
    none_before_first s.hist.blocks y.at y.end b.0
    (sym (ap (option_and_then (needed_by_plan s.hist.blocks)) (owed_is s c m (Syncing y) is_in owes)) ∙ needed)

moves_by : (s : Scene) (d e : Server) (c : ℕ) (b : Lba) (bytes : List ℕ) (settings : Settings) (gives : Bool) (moved : ℕ) (rec : Option Recovery) (plan : Plan) (step : Step)
    (m : Member) (a : Accepted) (before entries : List Entry) (reply : Option Reply) (told : Option told_end.Ended) → IsMet b plan step
    → IsHardened s d e c b bytes (record { settings = settings; gives = gives; moved = moved; plan = plan; step = step; recovered = rec }) m a before entries reply told
    → Moves (Work c) s d e entries told
moves_by s d e c b bytes settings gives moved rec plan step m a before entries reply told (read r p left through fresh at) is =
    let Going : List Entry → Type 0 = λ es. Goes d e c (record a { work = Some (hardened_at b (met_course s c m settings gives moved rec p b bytes (Reading r))) }) (es ++ Harden (Command c) b ∷ []) entries told in
    through_moves s c m settings gives moved rec p b bytes d e r a entries reply told is.turn is.is_in is.working left through fresh at is.reply_is
    (λ on. subst Going is.before_is (is.goes on))
moves_by s d e c b bytes settings gives moved rec plan step m a before entries reply told (sync y p low high) is =
    let w : Course = met_course s c m settings gives moved rec p b bytes (Syncing y) in
    let Going : List Entry → Type 0 = λ es. Goes d e c (record a { work = Some (hardened_at b (met_course s c m settings gives moved rec p b bytes (Syncing y))) }) (es ++ Harden (Command c) b ∷ []) entries told in
    let Stopping : Reply → List Entry → Type 0 = λ x es. Stops d e c x (es ++ Harden (Command c) b ∷ []) entries told in
    ⊎_elim
    (λ (further : ltb y.at b.0 ≡ true).
    let is_before : before ≡ Passed c (lba y.at) b ∷ [] = is.before_is ∙ ap (λ (t : Bool). cond t (Passed c (lba y.at) b ∷ []) []) further in
    sync_passes s c m settings gives moved rec p b bytes y d e a entries reply told is.turn is.is_in is.working high is.reply_is (ltb-true y.at b.0 further)
    (sync_first s c m y b is.is_in is.working.owes is.needed) (λ on. subst Going is_before (is.goes on)) (λ x over. subst (Stopping x) is_before (is.stops x over)))
    (λ (next : ltb y.at b.0 ≡ false).
    let is_before : before ≡ [] = is.before_is ∙ ap (λ (t : Bool). cond t (Passed c (lba y.at) b ∷ []) []) next in
    let at : b.0 ≡ y.at = omega (arith, low, ltb-false y.at b.0 next) in
    sync_hardens s c m settings gives moved rec p b bytes y d e a entries reply told is.turn is.is_in is.working high is.reply_is at
    (λ on. subst Going is_before (is.goes on)) (λ x over. subst (Stopping x) is_before (is.stops x over)))
    (cases_Bool (ltb y.at b.0))

pub hardened_moves : (s : Scene) (d e : Server) (c : ℕ) (b : Lba) (bytes : List ℕ) (w : Course) (m : Member) (a : Accepted) (before entries : List Entry)
    (reply : Option Reply) (told : Option told_end.Ended) → IsTrue (fits w (NextDirty (Some b))) → IsHardened s d e c b bytes w m a before entries reply told
    → Moves (Work c) s d e entries told
hardened_moves s d e c b bytes w m a before entries reply told fit is =
    moves_by s d e c b bytes w.settings w.gives w.moved w.recovered w.plan w.step m a before entries reply told (met_dirty w b is.working.served fit) is

-- the store at the end of a turn is what it was before the command went on or ended
pub store_closed : (mid e : Server) (c : ℕ) (reply : Option Reply) → (reply ≡ None → e ≡ mid) → ((x : Reply) → reply ≡ Some x → Leaves mid e c) → e.store ≡ mid.store
store_closed mid e c None goes leaves = ap (λ (x : Server). x.store) (goes refl)
store_closed mid e c (Some x) goes leaves = (leaves x refl).store

-- what a turn leaves where the command goes on, and where it ends
pub goes_of : (d mid e : Server) (c : ℕ) (a : Accepted) (half entries : List Entry) (told : Option told_end.Ended) → mid.set ≡ d.set → mid.arrived ≡ d.arrived
    → mid.known ≡ d.known → Replaces d.commands.items mid.commands.items c a → e ≡ mid → entries ≡ half → told ≡ None → Goes d e c a half entries told
goes_of d mid e c a half entries told set arrived known replaces same entries_are nothing = record {
  set = ap (λ (x : Server). x.set) same ∙ set;
  arrived = ap (λ (x : Server). x.arrived) same ∙ arrived;
  known = ap (λ (x : Server). x.known) same ∙ known;
  replaces = subst (λ (x : Server). Replaces d.commands.items x.commands.items c a) (sym same) replaces;
  entries_are = entries_are;
  nothing_told = nothing;
}

pub stops_of : (d mid e : Server) (c : ℕ) (a : Accepted) (reply : Reply) (half entries : List Entry) (told : Option told_end.Ended) → mid.set ≡ d.set
    → mid.arrived ≡ d.arrived → mid.known ≡ d.known → Replaces d.commands.items mid.commands.items c a → Leaves mid e c → entries ≡ half ++ Ended c reply ∷ []
    → told ≡ ended_of_member (member_of mid.set c) reply → Stops d e c reply half entries told
stops_of d mid e c a reply half entries told set arrived known replaces leaves entries_are ended = record {
  left = record {
    set = leaves.set ∙ ap (λ (ms : List Member). without ms c) set;
    own = leaves.commands.own;
    others = λ q other. leaves.commands.others q other ∙ replaces.others q other;
    arrived = leaves.arrived ∙ arrived;
    known = leaves.known ∙ known;
  };
  entries_are = entries_are;
  ended = ended ∙ ap (λ (ms : List Member). ended_of_member (member_of ms c) reply) set;
}

some_of : (o : Option (List ℕ)) → IsSome o → (bytes : List ℕ) × (o ≡ Some bytes)
some_of None is = absurd (cc)
some_of (Some bytes) is = (bytes, refl)

below_met : (b : Lba) (plan : Plan) (step : Step) (high : ℕ) → IsMet b plan step → end_of plan ≤ high → b.0 < high
below_met b plan step high (read r p left through fresh at) range = omega (arith, left, at, range)
below_met b plan step high (sync y p low before) range = omega (arith, before, range)

-- the command meets it
pub meets_dirty : (s : Scene) (d : Server) (c : ℕ) (b : Lba) (before : List Entry) → MayHardenFor s d c b before
    → IsSomeAnd (under_way d.commands.items c) (λ w. IsTrue (is_served_plan w.plan && fits w (NextDirty (Some b))))
meets_dirty s d c b before may =
    let stands : StandsAt s c may.course = stands_in s d c may.course may.may.fits may.under_way in
    subst (λ (o : Option Course). IsSomeAnd o (λ w. IsTrue (is_served_plan w.plan && fits w (NextDirty (Some b))))) (sym may.under_way)
    (and_both (is_served_plan may.course.plan) (fits may.course (NextDirty (Some b))) stands.working.served may.fit)

-- a write to the block's place is carried out
pub may_harden : (s : Scene) (d : Server) (c : ℕ) (b : Lba) (before : List Entry) → MayHardenFor s d c b before → MayStore d.store b
may_harden s d c b before may =
    let w : Course = may.course in
    let fits : Fits s d = may.may.fits in
    let stands : StandsAt s c may.course = stands_in s d c may.course may.may.fits may.under_way in
    let below : b.0 < capacity s = below_met b w.plan w.step (capacity s) (met_dirty w b stands.working.served may.fit) stands.working.range in
    record {
      below = subst (λ (m : DefectMap). b.0 < capacity_of m.size) (sym fits.store.map) (within_map s b fits.size below);
      powered = ap is_off fits.store.ops ∙ fits.store.powered;
      sound = ap (is_faulty (place_of d.store.map b)) fits.store.ops ∙ fits.store.sound (place_of d.store.map b);
      unarmed = fits.store.unarmed;
    }

-- all that a turn which hardens a block was made of
pub record IsTurn (d mid e : Server) (c : ℕ) (b : Lba) (before entries : List Entry) (reply : Option Reply) (told : Option told_end.Ended) : Type 0 where
  pub own : BlocksHaveOwnSectors
  pub laws : HardenLaws
  pub hardens : (bytes : List ℕ) → newest b d.store.cache ≡ Some bytes → Hardens d.store b bytes mid.store
  pub stores : (bytes : List ℕ) → newest b d.store.cache ≡ Some bytes → StoresAt d.store.map mid.store.platter.ops b (Data bytes)
  pub keeps : KeepsOthers d.store.map d.store.platter.ops mid.store.platter.ops b
  pub store : IsStore mid.store
  pub finds : mid.store.ready ≡ true → KeepsBlocks mid.store.map mid.store.platter.ops mid.store.platter.ops
  pub may_be : mid.store.ready ≡ true → mid.store.map.number < 2 ^ 63 → MayBeRecovered mid.store.map.size mid.store.platter.ops mid.store.map
  pub set : mid.set ≡ d.set
  pub arrived : mid.arrived ≡ d.arrived
  pub known : mid.known ≡ d.known
  pub reply_is : (w : Course) → under_way d.commands.items c ≡ Some w → reply ≡ ending_of (hardened_at b w)
  pub replaces : (a : Accepted) (w : Course) → accepted_of d.commands.items c ≡ Some a → a.work ≡ Some w
      → Replaces d.commands.items mid.commands.items c (record a { work = Some (hardened_at b w) })
  pub goes : reply ≡ None → (e ≡ mid) × (entries ≡ before ++ Harden (Command c) b ∷ []) × (told ≡ None)
  pub ends : (x : Reply) → reply ≡ Some x → Leaves mid e c × (entries ≡ before ++ Harden (Command c) b ∷ [] ++ Ended c x ∷ [])
      × (told ≡ ended_of_member (member_of mid.set c) x)

pub turn_moves : (s : Scene) (d mid e : Server) (c : ℕ) (b : Lba) (before entries : List Entry) (reply : Option Reply) (told : Option told_end.Ended)
    → MayHardenFor s d c b before → IsTurn d mid e c b before entries reply told → Moves (Work c) s d e entries told
turn_moves s d mid e c b before entries reply told may is =
    let w : Course = may.course in
    let fits : Fits s d = may.may.fits in
    let at : WorksAt (accepted_of d.commands.items c) may.course = works_at (accepted_of d.commands.items c) may.course may.under_way in
    let stands : StandsAt s c may.course = stands_in s d c may.course may.may.fits may.under_way in
    let free : holder_besides s (Work c) b.0 ≡ None = free_block s c stands.m b.0 stands.is_in stands.working.started may.needed may.may.free in
    let held = some_of (newest b d.store.cache) may.dirty in
    let bytes : List ℕ = held.0 in
    let closed : e.store ≡ mid.store = store_closed mid e c reply (λ none. (is.goes none).0) (λ x some. (is.ends x some).0) in
    let P : Contained → Type 0 = λ x. Hardens d.store b held.0 x × StoresAt d.store.map x.platter.ops b (Data held.0)
    × KeepsOthers d.store.map d.store.platter.ops x.platter.ops b × IsPresentMap x.map x.platter.ops in
    let there : IsPresentMap mid.store.map mid.store.platter.ops =
    present_after s d.store mid.store fits.store (ap (λ (x : Contained). x.map) (is.hardens held.0 held.1).after)
    (ap (λ (x : Contained). x.ready) (is.hardens held.0 held.1).after) is.store is.finds is.may_be in
    let all : P e.store = subst P (sym closed) (is.hardens held.0 held.1, is.stores held.0 held.1, is.keeps, there) in
    let hardens : Hardens d.store b held.0 e.store = all.0 in
    let below : b.0 < capacity s = below_met b w.plan w.step (capacity s) (met_dirty w b stands.working.served may.fit) stands.working.range in
    let ops : e.store.platter.ops ≡ s.ops ++ Wrote (placed s.map b held.0) ∷ [] =
    ap (λ (x : Contained). x.platter.ops) hardens.after
    ∙ (λ i. fits.store.ops i ++ Wrote (placed (fits.store.map i) b held.0) ∷ []) in
    let harden : IsHarden s c b held.0 = record {
      size = fits.size;
      below = below;
      newest = fits.cached.dirty b ∙ ap (option_map Data) held.1;
      own_sector = λ q within same. is.own s.map fits.store.present.there.valid q b (within_map s q fits.size within) (within_map s b fits.size below) same;
      free = free;
      stood = fits.stands;
      may_be = fits.store.present.may_be;
      stores = subst (λ (xs : List Op). StoresAt s.map xs b (Data held.0)) ops
          (subst (λ (m : DefectMap). StoresAt m e.store.platter.ops b (Data held.0)) fits.store.map all.1);
      keeps = subst (λ (xs : List Op). KeepsOthers s.map s.ops xs b) ops
          (subst (λ (xs : List Op). KeepsOthers s.map xs e.store.platter.ops b) fits.store.ops
          (subst (λ (m : DefectMap). KeepsOthers m d.store.platter.ops e.store.platter.ops b) fits.store.map all.2));
    } in
    hardened_moves s d e c b held.0 w stands.m at.a before entries reply told may.fit (record {
      turn = record { fits = fits; is = harden; held = held.1; hardens = hardens; present = all.3; laws = is.laws };
      is_in = stands.is_in;
      working = stands.working;
      needed = may.needed;
      before_is = may.before;
      reply_is = is.reply_is w may.under_way;
      goes = λ none. let g = is.goes none in
          goes_of d mid e c (record at.a { work = Some (hardened_at b w) }) (before ++ Harden (Command c) b ∷ []) entries told is.set is.arrived is.known
          (is.replaces at.a w at.is at.works) g.0 g.1 g.2;
      stops = λ x some. let g = is.ends x some in
          stops_of d mid e c (record at.a { work = Some (hardened_at b w) }) x (before ++ Harden (Command c) b ∷ []) entries told is.set is.arrived is.known
          (is.replaces at.a w at.is at.works) g.0 g.1 g.2;
    })
