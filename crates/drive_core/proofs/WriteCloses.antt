-- A turn of a write, from what is required of its function to the parts of the drive after it.
use Rattle.std.proofs.Common.{◌≡◌, ℕ, ◌^◌, ◌<◌, ◌≤◌, Bool, true, false, cond, List, [], ◌∷◌, ◌++◌, Option, Some, None, IsSome, refl, sym, ap, ◌∙◌, subst, arith, ⊎_elim}
use Rattle.std.specs.Prelude.{IsTrue, IsSomeAnd, ◌||◌}
use Rattle.std.specs.Option.{option_and_then}
use Rattle.std.proofs.lemmas.Bool.{lt-ltb}
use Rattle.disk_base.specs.declared.address.Lba.{Lba}
use Rattle.disk_base.specs.declared.block.Value.TheVariants.{Data}
use Rattle.platter_model.specs.Sector.{is_faulty}
use Rattle.platter_model.specs.TrueLog.{is_off}
use Rattle.mode_pages.specs.declared.settings.Settings.{Settings}
use Rattle.sense_data.specs.declared.reply.Reply.{Reply}
use Rattle.geometry_map.specs.Size.{capacity_of}
use Rattle.geometry_map.specs.DefectMap.{DefectMap, place_of}
use Rattle.geometry_map.specs.Laws.{BlocksHaveOwnSectors}
use Rattle.sector_store.specs.Maps.{MayBeRecovered}
use Rattle.sector_store.specs.Stored.{StoresAt, KeepsOthers, KeepsBlocks}
use Rattle.sector_store.specs.State.{Contained, IsStore, placed}
use Rattle.platter_model.specs.declared.op.Op.TheVariants.{Wrote}
use Rattle.task_set.specs.declared.member.Member.{Member}
use Rattle.task_set.specs.Members.{member_of, without, IsIn}
use Rattle.read_recovery.specs.Stages.{Progress}
use Rattle.write_cache.specs.Contents.{IsCache, IsFullFor}
use Rattle.write_cache.specs.Laws.{SettlesOne}
use Rattle.cdb_reader.specs.declared.plan.Writing as writing
use Rattle.cdb_reader.specs.declared.plan.Plan.TheVariants.{Reading, Writing}
use Rattle.command_engine.specs.declared.answer.Answer.{Answer}
use Rattle.command_engine.specs.declared.answer.Answer.TheVariants as answer
use Rattle.command_engine.specs.declared.need.Need.{Need}
use Rattle.command_engine.specs.declared.need.Need.TheVariants as need
use Rattle.command_engine.specs.declared.step.Recovery.{Recovery}
use Rattle.command_engine.specs.declared.step.Step.TheVariants.{Trying}
use Rattle.command_engine.specs.Course.{Course, next_block}
use Rattle.command_engine.specs.Need.{need_of}
use Rattle.command_engine.specs.Ending.{ending_of}
use Rattle.command_engine.specs.Standing.{IsCourse, IsUnderWay}
use Rattle.command_engine.specs.Answers.{fits, fits_need, is_hardened, after}
use Rattle.block_machine.specs.declared.entry.Entry.{Entry}
use Rattle.block_machine.specs.declared.entry.Entry.TheVariants.{Put, Harden, Ended}
use Rattle.block_machine.specs.declared.entry.Who.TheVariants.{Command}
use Rattle.block_machine.specs.declared.turn.Label.TheVariants.{Work}
use Rattle.drive_core.specs.declared.accepted.Accepted.{Accepted}
use Rattle.drive_core.specs.declared.server.Server.{Server}
use Rattle.drive_scene.specs.declared.answer.Ended as told_end
use Rattle.drive_scene.specs.Scene.{Scene}
use Rattle.drive_scene.specs.Holds.{needed_by_plan, needed_block}
use Rattle.drive_core.specs.Served.{is_served_plan}
use Rattle.drive_scene.specs.Evidence.{lba}
use Rattle.drive_scene.specs.Ending.{ended_of_member}
use Rattle.drive_core.specs.Accepting.{accepted_of, under_way, Replaces}
use Rattle.drive_scene.specs.View.{view}
use Rattle.drive_core.specs.Commands.{IsWorking}
use Rattle.block_machine.specs.Deeds.{is_crowded}
use Rattle.block_machine.specs.Steps.{begun}
use Rattle.drive_scene.specs.Present.{IsPresentMap}
use Rattle.drive_core.specs.Moves.{Moves, MayWork, Leaves}
use Rattle.sector_store.specs.Caching.{IsInCache, IsAtPlace}
use Rattle.drive_core.specs.Putting.{NeedsPut, GoesThrough}
use Rattle.drive_core.proofs.Written.{MayStore}
use Rattle.drive_core.proofs.Closing.{Goes, Stops}
use Rattle.drive_core.proofs.TakeTurns.{WorksAt, works_at, StandsAt, stands_at, stands_in, free_block, owed_at}
use Rattle.drive_scene.specs.Kinds.{put_state, through_state}
use Rattle.drive_scene.specs.Laws.{HalvesAreGood, PutsAreHalves, PutsThroughAreHalves}
use Rattle.drive_core.proofs.PutParts.{crowded, uncrowded}
use Rattle.drive_core.proofs.WriteTurns.{course, written, IsWriteNeed, put_need, write_need, wrote, verifying}
use Rattle.drive_core.proofs.WriteKinds.{IsAtWrite, turn_kept, turn_through}
use Rattle.drive_scene.proofs.Tables.{within_map}

-- what conclude says of a command that goes on, and of one that ends
pub record Concludes (mid e : Server) (c : ℕ) (reply : Option Reply) (before entries : List Entry) (told : Option told_end.Ended) : Type 0 where
  pub goes : reply ≡ None → (e ≡ mid) × (entries ≡ before) × (told ≡ None)
  pub ends : (r : Reply) → reply ≡ Some r → Leaves mid e c × (entries ≡ before ++ Ended c r ∷ []) × (told ≡ ended_of_member (member_of mid.set c) r)

-- the drive with another store, and with a command that stands otherwise
pub record IsAnswered (d mid : Server) (c : ℕ) (a : Accepted) : Type 0 where
  pub set : mid.set ≡ d.set
  pub arrived : mid.arrived ≡ d.arrived
  pub known : mid.known ≡ d.known
  pub replaces : Replaces d.commands.items mid.commands.items c a

pub goes_from : (d mid e : Server) (c : ℕ) (a : Accepted) (reply : Option Reply) (half before entries : List Entry) (told : Option told_end.Ended)
    → IsAnswered d mid c a → Concludes mid e c reply before entries told → before ≡ half → reply ≡ None → Goes d e c a half entries told
goes_from d mid e c a reply half before entries told answered concludes is none =
    let on = concludes.goes none in
    let from : Server → Type 0 = λ x. Replaces d.commands.items x.commands.items c a in
    record {
      set = ap (λ (x : Server). x.set) on.0 ∙ answered.set;
      arrived = ap (λ (x : Server). x.arrived) on.0 ∙ answered.arrived;
      known = ap (λ (x : Server). x.known) on.0 ∙ answered.known;
      replaces = subst from (sym on.0) answered.replaces;
      entries_are = on.1 ∙ is;
      nothing_told = on.2;
    }

pub stops_from : (d mid e : Server) (c : ℕ) (a : Accepted) (reply : Option Reply) (half before entries : List Entry) (told : Option told_end.Ended)
    → IsAnswered d mid c a → Concludes mid e c reply before entries told → before ≡ half → (x : Reply) → reply ≡ Some x → Stops d e c x half entries told
stops_from d mid e c a reply half before entries told answered concludes is x some =
    let over = concludes.ends x some in
    let leaves : Leaves mid e c = over.0 in
    record {
      left = record {
        set = leaves.set ∙ ap (λ (ms : List Member). without ms c) answered.set;
        own = leaves.commands.own;
        others = λ q other. leaves.commands.others q other ∙ answered.replaces.others q other;
        arrived = leaves.arrived ∙ answered.arrived;
        known = leaves.known ∙ answered.known;
      };
      entries_are = over.1 ∙ ap (λ (es : List Entry). es ++ Ended c x ∷ []) is;
      ended = over.2 ∙ ap (λ (ms : List Member). ended_of_member (member_of ms c) x) answered.set;
    }

-- the store is as it was before the command's end
pub same_store : (mid e : Server) (c : ℕ) (reply : Option Reply) (before entries : List Entry) (told : Option told_end.Ended) → Concludes mid e c reply before entries told
    → e.store ≡ mid.store
same_store mid e c reply before entries told concludes = by reply refl
  where
    by : (o : Option Reply) → reply ≡ o → e.store ≡ mid.store
    by None is = ap (λ (x : Server). x.store) (concludes.goes is).0
    by (Some r) is = (concludes.ends r is).0.store

-- what is known of a write that needs its next block to be put
record IsWriting (s : Scene) (d : Server) (c : ℕ) (b : Lba) (bytes : List ℕ) (through : Bool) : Type 0 where
  settings : Settings
  gives : Bool
  moved : ℕ
  w : writing.Writing
  p : Progress
  rec : Option Recovery
  m : Member
  a : Accepted
  there : accepted_of d.commands.items c ≡ Some a
  works : a.work ≡ Some (course settings gives moved w p rec)
  under_way : under_way d.commands.items c ≡ Some (course settings gives moved w p rec)
  at : IsAtWrite s d c m settings gives moved w p rec bytes
  reached : w.from ≤ w.at
  through_is : w.through ≡ through
  b_is : b ≡ lba w.at

writing_of : (s : Scene) (d : Server) (c : ℕ) (b : Lba) (bytes : List ℕ) (through : Bool) → MayWork s d c → NeedsPut d.commands.items c (put_need through b) bytes
    → IsWriting s d c b bytes through
writing_of s d c b bytes through may needs =
    let work : Course = needs.work in
    let here : WorksAt (accepted_of d.commands.items c) needs.work = works_at (accepted_of d.commands.items c) needs.work needs.under_way in
    let stands : StandsAt s c needs.work = stands_in s d c needs.work may.fits needs.under_way in
    let write : IsWriteNeed needs.work.plan needs.work.step b through = write_need needs.work.plan needs.work.moved needs.work.step through b needs.need_is in
    let w_is : needs.work ≡ course needs.work.settings needs.work.gives needs.work.moved write.w write.p needs.work.recovered =
    λ i. record { settings = needs.work.settings; gives = needs.work.gives; moved = needs.work.moved; plan = write.plan_is i; step = write.step_is i; recovered = needs.work.recovered } in
    let stood : IsUnderWay needs.work.settings.retry (Writing write.w) needs.work.moved (Trying write.p) =
    (subst (λ (x : Course). IsCourse x) w_is needs.stands).under_way in
    let needed : needed_block s c ≡ Some write.w.at =
    ap (option_and_then (needed_by_plan s.hist.blocks)) (owed_at s c needs.work stands ∙ ap Some write.plan_is)
    ∙ ap (λ (t : Bool). cond t (Some write.w.at) None) (lt-ltb write.w.at write.w.end write.left) in
    record {
      settings = needs.work.settings;
      gives = needs.work.gives;
      moved = needs.work.moved;
      w = write.w;
      p = write.p;
      rec = needs.work.recovered;
      m = stands.m;
      a = here.a;
      there = here.is;
      works = here.works ∙ ap Some w_is;
      under_way = needs.under_way ∙ ap Some w_is;
      at = record {
        fits = may.fits;
        is_in = stands.is_in;
        working = subst (λ (x : Course). IsWorking (view s c) stands.m x) w_is stands.working;
        left = write.left;
        unhardened = stood.hardened;
        free = free_block s c stands.m write.w.at stands.is_in stands.working.started needed may.free;
        block = sym needs.block ∙ ap next_block write.plan_is;
      };
      reached = stood.reached;
      through_is = write.through_is;
      b_is = write.at;
    }

-- the verifying part is served where the write is
verify_served : (w : writing.Writing) → IsTrue (is_served_plan (Writing w)) → w.verifies ≡ true → IsTrue (is_served_plan (Reading (verifying w)))
verify_served w served verifies = refl

-- a block went into the cache
pub kept_moves : (s : Scene) (d mid e : Server) (c : ℕ) (b : Lba) (bytes : List ℕ) (reply : Option Reply) (before entries : List Entry) (told : Option told_end.Ended)
    → HalvesAreGood → PutsAreHalves → MayWork s d c → NeedsPut d.commands.items c (need.Put b) bytes → IsCache d.store.cache → SettlesOne → (IsFullFor b d.store.cache → ⊥)
    → IsInCache b bytes d.store mid.store → mid.set ≡ d.set → mid.arrived ≡ d.arrived → mid.known ≡ d.known
    → ((w : Course) → under_way d.commands.items c ≡ Some w → reply ≡ ending_of (after w answer.Put))
    → ((a : Accepted) (w : Course) → accepted_of d.commands.items c ≡ Some a → a.work ≡ Some w
    → Replaces d.commands.items mid.commands.items c (record a { work = Some (after w answer.Put) }))
    → before ≡ Put c b bytes ∷ [] → Concludes mid e c reply before entries told → Moves (Work c) s d e entries told
kept_moves s d mid e c b bytes reply before entries told halves puts may needs once settles room kept set arrived known reply_is replaces before_is concludes =
    let is : IsWriting s d c b bytes false = writing_of s d c b bytes false may needs in
    let a : Accepted = is.a in
    let store : e.store ≡ mid.store = same_store mid e c reply before entries told concludes in
    let kept_at : IsInCache (lba is.w.at) bytes d.store e.store =
    subst (λ (x : Contained). IsInCache (lba is.w.at) bytes d.store x) (sym store) (subst (λ (k : Lba). IsInCache k bytes d.store mid.store) is.b_is kept) in
    let room_at : is_crowded (begun s.hist (Work c)) c is.w.at ≡ false =
    ap (λ (k : Lba). is_crowded (begun s.hist (Work c)) c k.0) (sym is.b_is) ∙ uncrowded s c b d.store.cache is.at.fits.cached once settles room in
    let half_is : before ≡ Put c (lba is.w.at) bytes ∷ [] = before_is ∙ ap (λ (k : Lba). Put c k bytes ∷ []) is.b_is in
    let answered : IsAnswered d mid c (record is.a { work = Some (written is.settings is.gives is.moved is.w is.p is.rec) }) = record {
      set = set;
      arrived = arrived;
      known = known;
      replaces = replaces is.a (course is.settings is.gives is.moved is.w is.p is.rec) is.there is.works;
    } in
    wrote s d e c is.m is.settings is.gives is.moved is.w is.p is.rec [] (Put c (lba is.w.at) bytes ∷ []) (put_state s c (lba is.w.at) bytes)
    (turn_kept s d e c is.m is.settings is.gives is.moved is.w is.p is.rec bytes is.at halves puts is.through_is room_at kept_at)
    is.a entries reply told is.at.left is.reached (verify_served is.w is.at.working.served)
    (reply_is (course is.settings is.gives is.moved is.w is.p is.rec) is.under_way)
    (goes_from d mid e c (record is.a { work = Some (written is.settings is.gives is.moved is.w is.p is.rec) }) reply (Put c (lba is.w.at) bytes ∷ []) before entries told answered concludes half_is)
    (stops_from d mid e c (record is.a { work = Some (written is.settings is.gives is.moved is.w is.p is.rec) }) reply (Put c (lba is.w.at) bytes ∷ []) before entries told answered concludes half_is)

-- a block went to its place, because the command writes through, or the cache was full
through_moves : (s : Scene) (d mid e : Server) (c : ℕ) (b : Lba) (bytes : List ℕ) (reply : Option Reply) (before entries : List Entry) (told : Option told_end.Ended)
    (is : (t : Bool) × IsWriting s d c b bytes t × ((t || is_crowded (begun s.hist (Work c)) c b.0) ≡ true))
    → HalvesAreGood → PutsThroughAreHalves → IsAtPlace b bytes d.store mid.store → BlocksHaveOwnSectors
    → StoresAt d.store.map mid.store.platter.ops b (Data bytes) → KeepsOthers d.store.map d.store.platter.ops mid.store.platter.ops b → IsPresentMap mid.store.map mid.store.platter.ops
    → mid.set ≡ d.set → mid.arrived ≡ d.arrived → mid.known ≡ d.known
    → ((w : Course) → under_way d.commands.items c ≡ Some w → reply ≡ ending_of (after w answer.Hardened))
    → ((a : Accepted) (w : Course) → accepted_of d.commands.items c ≡ Some a → a.work ≡ Some w
    → Replaces d.commands.items mid.commands.items c (record a { work = Some (after w answer.Hardened) }))
    → before ≡ Put c b bytes ∷ Harden (Command c) b ∷ [] → Concludes mid e c reply before entries told → Moves (Work c) s d e entries told
through_moves s d mid e c b bytes reply before entries told (t, is, forced) halves puts stored own_sectors stores keeps present set arrived known reply_is replaces before_is concludes =
    let store : e.store ≡ mid.store = same_store mid e c reply before entries told concludes in
    let P : Lba → Contained → Type 0 = λ k x. IsAtPlace k bytes d.store x × StoresAt d.store.map x.platter.ops k (Data bytes)
    × KeepsOthers d.store.map d.store.platter.ops x.platter.ops k × IsPresentMap x.map x.platter.ops in
    let all : P (lba is.w.at) e.store = subst (λ (x : Contained). P (lba is.w.at) x) (sym store)
    (subst (λ (k : Lba). P k mid.store) is.b_is (stored, stores, keeps, present)) in
    let forced_at : (is.w.through || is_crowded (begun s.hist (Work c)) c is.w.at) ≡ true =
    ap (λ (x : Bool). x || is_crowded (begun s.hist (Work c)) c is.w.at) is.through_is
    ∙ (ap (λ (k : Lba). t || is_crowded (begun s.hist (Work c)) c k.0) (sym is.b_is) ∙ forced) in
    let half_is : before ≡ Put c (lba is.w.at) bytes ∷ Harden (Command c) (lba is.w.at) ∷ [] =
    before_is ∙ ap (λ (k : Lba). Put c k bytes ∷ Harden (Command c) k ∷ []) is.b_is in
    let answered : IsAnswered d mid c (record is.a { work = Some (written is.settings is.gives is.moved is.w is.p is.rec) }) = record {
      set = set;
      arrived = arrived;
      known = known;
      replaces = replaces is.a (course is.settings is.gives is.moved is.w is.p is.rec) is.there is.works;
    } in
    wrote s d e c is.m is.settings is.gives is.moved is.w is.p is.rec (Wrote (placed s.map (lba is.w.at) bytes) ∷ [])
    (Put c (lba is.w.at) bytes ∷ Harden (Command c) (lba is.w.at) ∷ []) (through_state s c (lba is.w.at) bytes)
    (turn_through s d e c is.m is.settings is.gives is.moved is.w is.p is.rec bytes is.at halves puts forced_at all.0 own_sectors all.1 all.2 all.3)
    is.a entries reply told is.at.left is.reached (verify_served is.w is.at.working.served)
    (reply_is (course is.settings is.gives is.moved is.w is.p is.rec) is.under_way)
    (goes_from d mid e c (record is.a { work = Some (written is.settings is.gives is.moved is.w is.p is.rec) }) reply
    (Put c (lba is.w.at) bytes ∷ Harden (Command c) (lba is.w.at) ∷ []) before entries told answered concludes half_is)
    (stops_from d mid e c (record is.a { work = Some (written is.settings is.gives is.moved is.w is.p is.rec) }) reply
    (Put c (lba is.w.at) bytes ∷ Harden (Command c) (lba is.w.at) ∷ []) before entries told answered concludes half_is)

forced_by : (s : Scene) (d : Server) (c : ℕ) (b : Lba) (bytes : List ℕ) → MayWork s d c → GoesThrough d c b bytes
    → (t : Bool) × IsWriting s d c b bytes t × ((t || is_crowded (begun s.hist (Work c)) c b.0) ≡ true)
forced_by s d c b bytes may by =
    ⊎_elim
    (λ needs. (true, writing_of s d c b bytes true may needs, refl))
    (λ full. (false, writing_of s d c b bytes false may full.0, crowded s c b d.store.cache may.fits.cached full.1)) by

-- the same, from what is required
pub through_moves_by : (s : Scene) (d mid e : Server) (c : ℕ) (b : Lba) (bytes : List ℕ) (reply : Option Reply) (before entries : List Entry) (told : Option told_end.Ended)
    → HalvesAreGood → PutsThroughAreHalves → MayWork s d c → GoesThrough d c b bytes
    → IsAtPlace b bytes d.store mid.store → BlocksHaveOwnSectors → StoresAt d.store.map mid.store.platter.ops b (Data bytes)
    → KeepsOthers d.store.map d.store.platter.ops mid.store.platter.ops b
    → IsStore mid.store → (mid.store.ready ≡ true → KeepsBlocks mid.store.map mid.store.platter.ops mid.store.platter.ops)
    → (mid.store.ready ≡ true → mid.store.map.number < 2 ^ 63 → MayBeRecovered mid.store.map.size mid.store.platter.ops mid.store.map)
    → mid.set ≡ d.set → mid.arrived ≡ d.arrived → mid.known ≡ d.known
    → ((w : Course) → under_way d.commands.items c ≡ Some w → reply ≡ ending_of (after w answer.Hardened))
    → ((a : Accepted) (w : Course) → accepted_of d.commands.items c ≡ Some a → a.work ≡ Some w
    → Replaces d.commands.items mid.commands.items c (record a { work = Some (after w answer.Hardened) }))
    → before ≡ Put c b bytes ∷ Harden (Command c) b ∷ [] → Concludes mid e c reply before entries told → Moves (Work c) s d e entries told
through_moves_by s d mid e c b bytes reply before entries told halves puts may by stored own_sectors stores keeps store finds may_be =
    let ready : mid.store.ready ≡ true = ap (λ (x : Contained). x.ready) stored.after ∙ may.fits.store.ready in
    let number : mid.store.map.number < 2 ^ 63 =
    subst (λ (n : DefectMap). n.number < 2 ^ 63) (sym (ap (λ (x : Contained). x.map) stored.after ∙ may.fits.store.map)) may.fits.store.present.number in
    through_moves s d mid e c b bytes reply before entries told (forced_by s d c b bytes may by) halves puts stored own_sectors stores keeps
    (record { there = store.there ready; number = number; may_be = may_be ready number; finds = finds ready })

pub may_store : (s : Scene) (d : Server) (c : ℕ) (b : Lba) (bytes : List ℕ) → MayWork s d c → GoesThrough d c b bytes → MayStore d.store b
may_store s d c b bytes may by =
    let forced = forced_by s d c b bytes may by in
    let is : IsWriting s d c b bytes forced.0 = forced.1 in
    let below : (lba is.w.at).0 < capacity_of s.map.size = within_map s (lba is.w.at) may.fits.size (omega (arith, is.at.left, is.at.working.range)) in
    record {
      below = subst (λ (n : DefectMap). b.0 < capacity_of n.size) (sym may.fits.store.map) (subst (λ (k : Lba). k.0 < capacity_of s.map.size) (sym is.b_is) below);
      powered = ap is_off may.fits.store.ops ∙ may.fits.store.powered;
      sound = ap (is_faulty (place_of d.store.map b)) may.fits.store.ops ∙ may.fits.store.sound (place_of d.store.map b);
      unarmed = may.fits.store.unarmed;
    }

-- the answers fit
fits_kept : (w : Course) (b : Lba) → need_of w ≡ need.Put b → IsTrue (fits w answer.Put)
fits_kept w b is = ap (λ (n : Need). fits_need w.settings.awre (is_hardened w.plan) n answer.Put) is

fits_through : (w : Course) (through : Bool) (b : Lba) → need_of w ≡ put_need through b → IsTrue (fits w answer.Hardened)
fits_through w true b is = ap (λ (n : Need). fits_need w.settings.awre (is_hardened w.plan) n answer.Hardened) is
fits_through w false b is = ap (λ (n : Need). fits_need w.settings.awre (is_hardened w.plan) n answer.Hardened) is

some_fits : (o : Option Course) (w : Course) (a : Answer) → o ≡ Some w → IsTrue (fits w a) → IsSomeAnd o (λ x. IsTrue (fits x a))
some_fits o w a is fit = subst (λ (p : Option Course). IsSomeAnd p (λ x. IsTrue (fits x a))) (sym is) fit

pub answer_kept : (commands : List Accepted) (c : ℕ) (b : Lba) (bytes : List ℕ) → NeedsPut commands c (need.Put b) bytes
    → IsSomeAnd (under_way commands c) (λ w. IsTrue (fits w answer.Put))
answer_kept commands c b bytes needs = some_fits (under_way commands c) needs.work answer.Put needs.under_way (fits_kept needs.work b needs.need_is)

pub answer_through : (d : Server) (c : ℕ) (b : Lba) (bytes : List ℕ) → GoesThrough d c b bytes
    → IsSomeAnd (under_way d.commands.items c) (λ w. IsTrue (fits w answer.Hardened))
answer_through d c b bytes by =
    ⊎_elim
    (λ needs. some_fits (under_way d.commands.items c) needs.work answer.Hardened needs.under_way (fits_through needs.work true b needs.need_is))
    (λ full. some_fits (under_way d.commands.items c) full.0.work answer.Hardened full.0.under_way (fits_through full.0.work false b full.0.need_is)) by

-- a command that is under way is in the set
pub in_set : (s : Scene) (d : Server) (c : ℕ) (commands : List Accepted) (n : Need) (bytes : List ℕ) → MayWork s d c → commands ≡ d.commands.items
    → NeedsPut commands c n bytes → IsIn d.set c
in_set s d c commands n bytes may same needs =
    let here : WorksAt (accepted_of d.commands.items c) needs.work =
    works_at (accepted_of d.commands.items c) needs.work (sym (ap (λ (xs : List Accepted). under_way xs c) same) ∙ needs.under_way) in
    let stands : StandsAt s c needs.work = stands_at s c (accepted_of d.commands.items c) here.a needs.work here.is here.works (may.fits.staged c) in
    let there : member_of d.set c ≡ Some stands.m = ap (λ (ms : List Member). member_of ms c) may.fits.tasks.set ∙ stands.is_in in
    subst IsSome (sym there) refl

pub in_set_through : (s : Scene) (d : Server) (c : ℕ) (b : Lba) (bytes : List ℕ) → MayWork s d c → GoesThrough d c b bytes → IsIn d.set c
in_set_through s d c b bytes may by =
    ⊎_elim (λ needs. in_set s d c d.commands.items (need.PutThrough b) bytes may refl needs)
    (λ full. in_set s d c d.commands.items (need.Put b) bytes may refl full.0) by

-- where the cache was full the drive is as before the turn
pub same_drive : (d : Server) (store : Contained) → store ≡ d.store → record d { store = store } ≡ d
same_drive d store same = λ i. record d { store = same i }
