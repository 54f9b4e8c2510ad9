-- The turns of moves are good.
use Rattle.std.proofs.Common.{◌≡◌, ◌≢◌, ◌∙◌, ◌⊎◌, inl, inr, ap, sym, refl, subst, ℕ, ◌<◌, ◌≤◌, Bool, true, false, true≢false, cond, eqb, List, [], ◌∷◌, ◌++◌, take, length, Option, Some, None, arith, append-nil, append_assoc}
use Rattle.std.specs.Prelude.{All, map, ◌||◌, ◌==◌}
use Rattle.std.specs.List.{list_any}
use Rattle.std.specs.Option.{is_none, option_map_or, option_and_then}
use Rattle.std.proofs.lemmas.Bool.{ne_eqb, eqb-true}
use Rattle.std.proofs.lemmas.List.Elements.{All-head, All-tail}
use Rattle.disk_base.specs.Along.{Along, all_along}
use Rattle.disk_base.specs.declared.address.Lba.{Lba}
use Rattle.disk_base.specs.declared.address.Psn.{Psn}
use Rattle.disk_base.specs.declared.block.Value.{Value}
use Rattle.disk_base.specs.declared.payload.Payload.{Payload}
use Rattle.platter_model.specs.declared.op.Op.{Op}
use Rattle.platter_model.specs.declared.op.Op.TheVariants.{Wrote}
use Rattle.platter_model.specs.Sector.{meant}
use Rattle.platter_model.specs.TrueLog.{strays}
use Rattle.geometry_map.specs.declared.size.Size.{Size}
use Rattle.geometry_map.specs.Size.{capacity_of}
use Rattle.geometry_map.specs.DefectMap.{DefectMap, IsValidMap, place_of, sector}
use Rattle.geometry_map.specs.Chains.{IsFreeSpare}
use Rattle.move_jobs.specs.declared.step.JobResult.TheVariants.{Moved, NoSpare}
use Rattle.move_jobs.specs.declared.step.JobStep.{JobStep}
use Rattle.move_jobs.specs.declared.step.JobStep.TheVariants.{Writing, Checking, Committing, Over}
use Rattle.move_jobs.specs.Job as move_job
use Rattle.move_jobs.specs.Job.{spare_of}
use Rattle.sector_store.specs.Maps.{next_map, records_of}
use Rattle.sector_store.specs.Shapes.{IsCommit}
use Rattle.sector_store.specs.Stored.{stored, value_in}
use Rattle.sector_store.proofs.Made.{records_within}
use Rattle.block_machine.specs.declared.entry.Entry.{Entry}
use Rattle.block_machine.specs.declared.entry.Entry.TheVariants.{Cut}
use Rattle.block_machine.specs.declared.turn.Label.TheVariants.{Job}
use Rattle.block_machine.specs.Blocks.{Blocks, blocks_after, block_lawful}
use Rattle.block_machine.specs.State.{State}
use Rattle.block_machine.specs.Steps.{entry_after, entries_after}
use Rattle.block_machine.specs.Turns.{entries_lawful, blocks_lawful}
use Rattle.block_machine.proofs.Alongs.{along_both}
use Rattle.block_machine.proofs.Booleans.{neither, and_both}
use Rattle.move_table.specs.declared.flight.Flight.{Flight}
use Rattle.move_table.specs.Table.{job_in}
use Rattle.drive_scene.specs.Scene.{Scene, capacity}
use Rattle.drive_scene.specs.After.{if_committing, committed_by, map_committed, window_of_owner, windows_committed, scene_after}
use Rattle.drive_scene.specs.Holds.{holder_besides}
use Rattle.drive_scene.specs.Evidence.{Shows}
use Rattle.drive_scene.specs.Carried.{commit_entries, cut_entries}
use Rattle.drive_scene.specs.MoveTurn.{IsMoveWork, job_after, is_cut_off, present_owner, if_scans, end_entries, logged_moved, logged_unmoved, move_entries}
use Rattle.drive_scene.specs.GoodTurn.{GoodTurn, IsAllowed, is_on, are_on, is_at_sector, are_in_order, rank, may_follow}
use Rattle.drive_scene.specs.CommitTurn.{IsReadyToCommit, StandsAfter, blocks_committed}
use Rattle.drive_scene.specs.MoveLaws.{turn_of_move, MayMove, MovesAreGood}
use Rattle.drive_scene.proofs.Tables.{within_map}
use Rattle.drive_scene.proofs.Tries.{no_strays-before}
use Rattle.drive_scene.proofs.CommitTurns.{Below, end_among, commit_turns_stand}
use Rattle.drive_scene.proofs.CommitTasks.{commits_may_be_told}
use Rattle.drive_scene.proofs.CommitTold.{on_same, on_block, in_order, same_blocks, shown}
use Rattle.drive_scene.proofs.Uncommitted.{LeavesMap, ends_cut, uncommitted, committed, leaves_map}
use Rattle.drive_scene.proofs.MovesGoOn.{other_write}
use Rattle.drive_scene.proofs.Flights.{flights_are_ready, owner_is_in}
use Rattle.drive_scene.proofs.OtherFlights.{AreAt, work_at}

-- writes below a sector leave what is meant there, and none is at it
meant_past : (p : Psn) (ops : List Op) (payloads : List Payload) → 16 ≤ p.0 → All (λ x. x.psn.0 < 16) payloads → meant p (ops ++ map Wrote payloads) ≡ meant p ops
meant_past p ops [] past low = ap (meant p) (append-nil ops)
meant_past p ops (x ∷ xs) past low =
    let here : x.psn.0 < 16 = All-head (λ (y : Payload). y.psn.0 < 16) x xs low in
    ap (meant p) (sym (append_assoc ops (Wrote x ∷ []) (map Wrote xs)))
    ∙ (meant_past p (ops ++ Wrote x ∷ []) xs past (All-tail (λ (y : Payload). y.psn.0 < 16) x xs low) ∙ other_write p ops x (λ same. absurd (omega arith)))

none_at : (p : Psn) (payloads : List Payload) → 16 ≤ p.0 → All (λ x. x.psn.0 < 16) payloads → list_any (is_at_sector p) (map Wrote payloads) ≡ false
none_at p [] past low = refl
none_at p (x ∷ xs) past low =
    let here : x.psn.0 < 16 = All-head (λ (y : Payload). y.psn.0 < 16) x xs low in
    neither _ _ (ne_eqb x.psn.0 p.0 (λ same. absurd (omega arith))) (none_at p xs past (All-tail (λ (y : Payload). y.psn.0 < 16) x xs low))

-- no window is longer after a commit
short_window : (o : Option ℕ) (windows : ℕ → List Op) (q : ℕ) → length (windows q) ≤ 50 → length (window_of_owner o windows q) ≤ 50
short_window None windows q short = short
short_window (Some c) windows q short = by (eqb q c)
  where
    by : (t : Bool) → length (cond t [] (windows q)) ≤ 50
    by true = omega arith
    by false = short

short_windows : (o : Option move_job.Job) (windows : ℕ → List Op) (q : ℕ) → length (windows q) ≤ 50 → length (windows_committed o windows q) ≤ 50
short_windows None windows q short = short
short_windows (Some job) windows q short = short_window job.owner windows q short

-- nor is the map of other measures
same_size : (o : Option move_job.Job) (m : DefectMap) → (map_committed o m).size ≡ m.size
same_size None m = refl
same_size (Some job) m = refl

-- what is said of a turn of a move beside its step
record Parts (s : Scene) (f : Flight) (entries : List Entry) (ops : List Op) : Type 0 where
  tasks : entries_lawful (capacity s) (Job f.j) s.hist entries ≡ true
  blocks : strays (s.ops ++ ops) ≡ 0 → blocks_lawful (capacity s) s.hist.blocks entries ≡ true
  shows : Along (entry_after (capacity s) (Job f.j)) (Shows s (turn_of_move f entries ops)) s.hist entries
  on_one : are_on f.job.b entries ≡ true
  ordered : are_in_order entries ≡ true
  off : (q : Lba) → q.0 < capacity s → list_any (is_at_sector (place_of s.map q)) ops ≡ false
  stores : strays (s.ops ++ ops) ≡ 0 → (q : Lba) → q.0 < capacity s
      → IsAllowed (scene_after s (turn_of_move f entries ops)).hist.blocks q (stored (scene_after s (turn_of_move f entries ops)).map (s.ops ++ ops) q)

-- a move that a turn commits is the one in flight of its number
abbrev pub OnlyOwn : move_job.Job → Option move_job.Job → Type 0
OnlyOwn job None = Unit {0}
OnlyOwn job (Some other) = other ≡ job

commits_own : (s : Scene) (j : ℕ) (job : move_job.Job) (ops : List Op) → job_in s.back.flights j ≡ Some job → OnlyOwn job (committed_by s (Job j) ops)
commits_own s j job ops is =
    subst (λ (o : Option move_job.Job). OnlyOwn job (cond (is_cut_off ops) None (option_and_then (λ x. if_committing x x.step) o))) (sym is) (by (is_cut_off ops))
  where
    step_by : (step : JobStep) → OnlyOwn job (if_committing job step)
    step_by Writing = tt
    step_by Checking = tt
    step_by Committing = refl
    step_by (Over end) = tt

    by : (t : Bool) → OnlyOwn job (cond t None (if_committing job job.step))
    by true = tt
    by false = step_by job.step

-- then it is good
good_by : (s : Scene) (f : Flight) (entries : List Entry) (ops : List Op) → MayMove s f entries ops → Parts s f entries ops → GoodTurn s (turn_of_move f entries ops)
good_by s f entries ops may parts =
    let o : Option move_job.Job = committed_by s (Job f.j) ops in
    let size : (map_committed o s.map).size ≡ s.size = same_size o s.map ∙ may.size in
    record {
      tasks = parts.tasks;
      blocks = parts.blocks;
      shown = parts.shows;
      powered = may.standing.powered;
      step = (may.turn, may.powered);
      tries = tt;
      one_block = (f.job.b, parts.on_one);
      written = tt;
      own = tt;
      order = parts.ordered;
      waits = refl;
      window = λ q. short_windows o s.windows q (may.windows q);
      held = λ q below about. ap (λ (n : ℕ). holder_besides s (Job f.j) n) (moved q below (committed_by s (Job f.j) ops) (commits_own s f.j f.job ops may.in_flight) about) ∙ may.free;
      stands = λ none taken may_be q below. subst (λ (v : Value). IsAllowed (scene_after s (turn_of_move f entries ops)).hist.blocks q v)
          (sym (may.present.finds taken may_be q)) (parts.stores none q (subst (λ (z : Size). q.0 < capacity_of z) size below));
      mapped = λ on readable. (may.present.there.present, may.present.may_be);
    }
  where
    at : (q : Lba) → q.0 < capacity s → (t : Bool) → list_any (is_on q) entries ≡ t → (t || list_any (is_at_sector (place_of s.map q)) ops) ≡ true → q.0 ≡ f.job.b.0
    at q below true on about = on_same f.job.b q entries parts.on_one on
    at q below false on about = absurd (true≢false (sym about ∙ parts.off q below))

    moved : (q : Lba) → q.0 < capacity s → (o : Option move_job.Job) → OnlyOwn f.job o
        → (option_map_or (λ (job : move_job.Job). job.b.0 == q.0) o false || (list_any (is_on q) entries || list_any (is_at_sector (place_of s.map q)) ops)) ≡ true → q.0 ≡ f.job.b.0
    moved q below None own about = at q below (list_any (is_on q) entries) refl about
    moved q below (Some job) own about = there (job.b.0 == q.0) refl about
      where
        there : (t : Bool) → (job.b.0 == q.0) ≡ t → (t || (list_any (is_on q) entries || list_any (is_at_sector (place_of s.map q)) ops)) ≡ true → q.0 ≡ f.job.b.0
        there true same about = sym (eqb-true job.b.0 q.0 same) ∙ ap (λ (x : move_job.Job). x.b.0) own
        there false same about = at q below (list_any (is_on q) entries) refl about

-- a turn before the commit leaves the map and what is stored
module _ (laws : Below) (s : Scene) (f : Flight) (ops : List Op) where
  valid : {entries : List Entry} → MayMove s f entries ops → IsValidMap s.map
  valid may = may.standing.present.there.valid

  -- a block isn't at the spare
  elsewhere : {entries : List Entry} → MayMove s f entries ops → (q : Lba) → q.0 < capacity s → place_of s.map q ≢ spare_of f.job
  elsewhere may q below =
      laws.no_places s.map (valid may) (spare_of f.job) (end_among (IsFreeSpare s.map) (sector 0) f.job.chain may.flight.begun may.flight.spares) q
      (within_map s q may.size below)

  still_stored : {entries : List Entry} → MayMove s f entries ops → AreAt (spare_of f.job) s.ops ops → f.job.step ≢ Committing
      → strays (s.ops ++ ops) ≡ 0 → (q : Lba) → q.0 < capacity s → IsAllowed s.hist.blocks q (stored (scene_after s (turn_of_move f entries ops)).map (s.ops ++ ops) q)
  still_stored {entries} may at other none q below =
      let leaves : LeavesMap s (turn_of_move f entries ops) = leaves_map s f.j entries ops (uncommitted s f.j f.job ops may.in_flight other) in
      let same : stored (scene_after s (turn_of_move f entries ops)).map (s.ops ++ ops) q ≡ stored s.map s.ops q =
      ap (λ (m : DefectMap). stored m (s.ops ++ ops) q) leaves.map ∙ ap (value_in q) (at.others (place_of s.map q) (elsewhere may q below)) in
      subst (λ (v : Value). IsAllowed s.hist.blocks q v) (sym same)
      (may.standing.stands (no_strays-before s.ops ops none) s.map may.standing.present.may_be q (within_map s q may.size below))

  -- it tells nothing, or that the scan's move found no spare
  quiet : MayMove s f [] ops → AreAt (spare_of f.job) s.ops ops → f.job.step ≢ Committing → GoodTurn s (turn_of_move f [] ops)
  quiet may at other = good_by s f [] ops may (record {
    tasks = refl;
    blocks = λ none. refl;
    shows = tt;
    on_one = refl;
    ordered = refl;
    off = λ q below. at.about (place_of s.map q) (elsewhere may q below);
    stores = still_stored may at other;
  })

  quiet_end : MayMove s f (logged_unmoved s f.job.b ∷ []) ops → AreAt (spare_of f.job) s.ops ops → f.job.step ≢ Committing
      → GoodTurn s (turn_of_move f (logged_unmoved s f.job.b ∷ []) ops)
  quiet_end may at other = good_by s f (logged_unmoved s f.job.b ∷ []) ops may (record {
    tasks = refl;
    blocks = λ none. refl;
    shows = (tt, tt);
    on_one = refl;
    ordered = refl;
    off = λ q below. at.about (place_of s.map q) (elsewhere may q below);
    stores = still_stored may at other;
  })

  either : (entries : List Entry) → MayMove s f entries ops → AreAt (spare_of f.job) s.ops ops → f.job.step ≢ Committing
      → (entries ≡ []) ⊎ (entries ≡ logged_unmoved s f.job.b ∷ []) → GoodTurn s (turn_of_move f entries ops)
  either entries may at other (inl e) =
      subst (λ (es : List Entry). MayMove s f es ops → GoodTurn s (turn_of_move f es ops)) (sym e) (λ m. quiet m at other) may
  either entries may at other (inr e) =
      subst (λ (es : List Entry). MayMove s f es ops → GoodTurn s (turn_of_move f es ops)) (sym e) (λ m. quiet_end m at other) may

  -- a commit is written whole
  whole : IsCommit s.map f.job.chain ops → is_cut_off ops ≡ false → ops ≡ map Wrote (records_of (next_map s.map f.job.chain))
  whole (inl e) on = e
  whole (inr torn) on =
      absurd (true≢false (sym (ap is_cut_off torn.4 ∙ ends_cut (map Wrote (take torn.0 (records_of (next_map s.map f.job.chain)))) torn.1 torn.2) ∙ on))

  low : All (λ x. x.psn.0 < 16) (records_of (next_map s.map f.job.chain))
  low = records_within 16 (next_map s.map f.job.chain) (omega arith) (omega arith)

  -- a commit, with what follows its entries: that is about no block, and may stand behind a harden
  record Follows (rest : List Entry) : Type 0 where
    on_one : are_on f.job.b rest ≡ true
    alone : all_along (λ before e. rank e) may_follow 0 rest ≡ true
    behind : all_along (λ before e. rank e) may_follow 6 rest ≡ true
    keeps : (g : State) → (entries_after (capacity s) (Job f.j) g rest).blocks ≡ g.blocks
    lawful : (blocks : Blocks) → blocks_lawful (capacity s) blocks rest ≡ true
    shows : (all : List Entry) (h : State) → Along (entry_after (capacity s) (Job f.j)) (Shows s (turn_of_move f all ops)) h rest

  abbrev told : List Entry → List Entry
  told rest = commit_entries f.job.why (present_owner s f.job) f.job.b f.job.value ++ rest

  reserved : ops ≡ map Wrote (records_of (next_map s.map f.job.chain)) → (p : Psn) → 16 ≤ p.0 → meant p (s.ops ++ ops) ≡ meant p s.ops
  reserved written p past = ap (λ (os : List Op). meant p (s.ops ++ os)) written ∙ meant_past p s.ops (records_of (next_map s.map f.job.chain)) past low

  -- what stands after it
  after_commit : (rest : List Entry) → MayMove s f (told rest) ops → ops ≡ map Wrote (records_of (next_map s.map f.job.chain)) → f.job.step ≡ Committing
      → strays (s.ops ++ ops) ≡ 0 → StandsAfter s.map (s.ops ++ ops) s.hist.blocks (present_owner s f.job) f.job
  after_commit rest may written committing none =
      let ready : IsReadyToCommit s.map s.ops s.hist.blocks (present_owner s f.job) f.job =
      flights_are_ready s f may.size may.standing (no_strays-before s.ops ops none) may.flight committing in
      commit_turns_stand laws s.map s.ops (s.ops ++ ops) s.hist.blocks (present_owner s f.job) f.job (reserved written) ready

  stores_committed : (rest : List Entry) → Follows rest → MayMove s f (told rest) ops → f.job.step ≡ Committing
      → StandsAfter s.map (s.ops ++ ops) s.hist.blocks (present_owner s f.job) f.job → (q : Lba) → q.0 < capacity s
      → IsAllowed (scene_after s (turn_of_move f (told rest) ops)).hist.blocks q (stored (scene_after s (turn_of_move f (told rest) ops)).map (s.ops ++ ops) q)
  stores_committed rest follows may committing stands q below =
      let blocks : (scene_after s (turn_of_move f (told rest) ops)).hist.blocks ≡ blocks_committed s.hist.blocks (present_owner s f.job) f.job =
      same_blocks f.job.b rest (capacity s) f.j s.hist follows.keeps f.job.why (present_owner s f.job) f.job.value in
      let next : (scene_after s (turn_of_move f (told rest) ops)).map ≡ next_map s.map f.job.chain =
      ap (λ (o : Option move_job.Job). map_committed o s.map) (committed s f.j f.job ops may.in_flight committing may.powered) in
      subst (λ (m : DefectMap). IsAllowed (scene_after s (turn_of_move f (told rest) ops)).hist.blocks q (stored m (s.ops ++ ops) q)) (sym next)
      (subst (λ (bs : Blocks). IsAllowed bs q (stored (next_map s.map f.job.chain) (s.ops ++ ops) q)) (sym blocks) (stands.done q (within_map s q may.size below)))

  good_commit : (rest : List Entry) → Follows rest → MayMove s f (told rest) ops → ops ≡ map Wrote (records_of (next_map s.map f.job.chain))
      → f.job.step ≡ Committing → entries_lawful (capacity s) (Job f.j) s.hist (told rest) ≡ true → GoodTurn s (turn_of_move f (told rest) ops)
  good_commit rest follows may written committing tasks =
      let owner : Option ℕ = present_owner s f.job in
      let first : strays (s.ops ++ ops) ≡ 0 → blocks_lawful (capacity s) s.hist.blocks (commit_entries f.job.why owner f.job.b f.job.value) ≡ true =
      λ none. subst (λ (z : Size). blocks_lawful (capacity_of z) s.hist.blocks (commit_entries f.job.why owner f.job.b f.job.value) ≡ true) may.size
      (after_commit rest may written committing none).lawful in
      good_by s f (told rest) ops may (record {
        tasks = tasks;
        blocks = λ none. along_both blocks_after (block_lawful (capacity s)) s.hist.blocks (commit_entries f.job.why owner f.job.b f.job.value) rest
            ∙ and_both _ _ (first none) (follows.lawful _);
        shows = shown s f ops (told rest) rest may.in_flight committing (follows.shows (told rest)) f.job.why owner f.job.value may.flight.value
            (owner_is_in s f f.job.why f.job.owner may.flight.owned) may.flight.owned refl;
        on_one = on_block f.job.b rest follows.on_one f.job.why owner f.job.value;
        ordered = in_order f.job.b rest follows.alone follows.behind f.job.why owner f.job.value;
        off = λ q below. ap (list_any (is_at_sector (place_of s.map q))) written ∙ none_at (place_of s.map q) (records_of (next_map s.map f.job.chain))
            (laws.on_user s.map (valid may) q (within_map s q may.size below)).0 low;
        stores = λ none. stores_committed rest follows may committing (after_commit rest may written committing none);
      })

  -- a move of the scan is logged
  of_scan : (t : Bool) → MayMove s f (told (cond t (logged_moved s f.job.b ∷ []) [])) ops → ops ≡ map Wrote (records_of (next_map s.map f.job.chain))
      → f.job.step ≡ Committing → entries_lawful (capacity s) (Job f.j) s.hist (told (cond t (logged_moved s f.job.b ∷ []) [])) ≡ true
      → GoodTurn s (turn_of_move f (told (cond t (logged_moved s f.job.b ∷ []) [])) ops)
  of_scan true may written committing tasks =
      good_commit (logged_moved s f.job.b ∷ [])
      (record { on_one = refl; alone = refl; behind = refl; keeps = λ g. refl; lawful = λ bs. refl; shows = λ all h. (tt, tt) })
      may written committing tasks
  of_scan false may written committing tasks =
      good_commit [] (record { on_one = refl; alone = refl; behind = refl; keeps = λ g. refl; lawful = λ bs. refl; shows = λ all h. tt })
      may written committing tasks

-- what the end of a move tells
ends_with : (s : Scene) (job : move_job.Job) (step : JobStep)
    → (end_entries s job step ≡ []) ⊎ (end_entries s job step ≡ logged_unmoved s job.b ∷ [])
ends_with s job Writing = inl refl
ends_with s job Checking = inl refl
ends_with s job Committing = inl refl
ends_with s job (Over Moved) = inl refl
ends_with s job (Over NoSpare) = by (is_none job.owner)
  where
    by : (t : Bool) → (cond t (logged_unmoved s job.b ∷ []) [] ≡ []) ⊎ (cond t (logged_unmoved s job.b ∷ []) [] ≡ logged_unmoved s job.b ∷ [])
    by true = inr refl
    by false = inl refl

-- what the turn of a move tells before its commit
tells : (s : Scene) (job : move_job.Job) (step : JobStep) (ops : List Op) → is_cut_off ops ≡ false → step ≢ Committing → IsMoveWork s job step ops
    → move_entries s job step ops ≡ end_entries s job (job_after s job ops).step
tells s job Writing ops on other work = ap (λ (t : Bool). cond t (Cut ∷ []) (end_entries s job (job_after s job ops).step)) on
tells s job Checking ops on other work = ap (λ (t : Bool). cond t (Cut ∷ []) (end_entries s job (job_after s job ops).step)) on
tells s job Committing ops on other work = absurd (other refl)
tells s job (Over end) ops on other work = absurd work

-- it is before its commit, or at it
at_commit : (step : JobStep) → (step ≡ Committing) ⊎ (step ≢ Committing)
at_commit Writing = inr (λ same. cc)
at_commit Checking = inr (λ same. cc)
at_commit Committing = inl refl
at_commit (Over end) = inr (λ same. cc)

pub moves_are_good : Below → MovesAreGood
moves_are_good laws s f entries ops may = by (at_commit f.job.step)
  where
    same : may.turn.job ≡ f.job
    same = let one : Some may.turn.job ≡ Some f.job = sym may.turn.in_flight ∙ may.in_flight in cc

    work : IsMoveWork s f.job f.job.step ops
    work = subst (λ (x : move_job.Job). IsMoveWork s x x.step ops) same may.turn.work

    told_is : entries ≡ move_entries s f.job f.job.step ops
    told_is = may.turn.told ∙ ap (λ (x : move_job.Job). move_entries s x x.step ops) same

    commit_is : f.job.step ≡ Committing → entries ≡ told laws s f ops (if_scans f.job (logged_moved s f.job.b))
    commit_is committing =
        told_is ∙ (ap (λ (step : JobStep). move_entries s f.job step ops) committing
        ∙ ap (λ (t : Bool). cond t (cut_entries f.job.why (present_owner s f.job) f.job.b f.job.value)
        (told laws s f ops (if_scans f.job (logged_moved s f.job.b)))) may.powered)

    by : (f.job.step ≡ Committing) ⊎ (f.job.step ≢ Committing) → GoodTurn s (turn_of_move f entries ops)
    by (inl committing) =
        let tasks : entries_lawful (capacity s) (Job f.j) s.hist (told laws s f ops (if_scans f.job (logged_moved s f.job.b))) ≡ true =
        (commits_may_be_told s f may.flight (may.taken committing)).done in
        let commit : IsCommit s.map f.job.chain ops = subst (λ (step : JobStep). IsMoveWork s f.job step ops) committing work in
        subst (λ (es : List Entry). MayMove s f es ops → GoodTurn s (turn_of_move f es ops)) (sym (commit_is committing))
        (λ m. of_scan laws s f ops (is_none f.job.owner) m (whole laws s f ops commit may.powered) committing tasks) may
    by (inr other) =
        let at : AreAt (spare_of f.job) s.ops ops = work_at s f.job f.job.step ops work may.powered other in
        let is : entries ≡ end_entries s f.job (job_after s f.job ops).step = told_is ∙ tells s f.job f.job.step ops may.powered other work in
        either laws s f ops entries may at other (or_end is (ends_with s f.job (job_after s f.job ops).step))
      where
        or_end : entries ≡ end_entries s f.job (job_after s f.job ops).step
            → (end_entries s f.job (job_after s f.job ops).step ≡ []) ⊎ (end_entries s f.job (job_after s f.job ops).step ≡ logged_unmoved s f.job.b ∷ [])
            → (entries ≡ []) ⊎ (entries ≡ logged_unmoved s f.job.b ∷ [])
        or_end is (inl none) = inl (is ∙ none)
        or_end is (inr one) = inr (is ∙ one)
