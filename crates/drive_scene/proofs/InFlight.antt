-- Turns of anything but moves leave the moves in flight alone.
use Rattle.std.proofs.Common.{◌≡◌, ◌≢◌, ◌∙◌, ap, sym, refl, subst, ℕ, ◌+◌, ◌<◌, ◌≤◌, Bool, true, false, List, [], ◌∷◌, map, length, get_or, Some, arith, eq-eqb, eqb-true}
use Rattle.std.specs.Prelude.{◌==◌, ◌&&◌, All, AllPairs, fold, filter}
use Rattle.std.specs.List.{list_any}
use Rattle.std.proofs.lemmas.Bool.{true≢false, false_from_ne_true, and_from}
use Rattle.std.proofs.lemmas.List.Elements.{All-same}
use Rattle.std.proofs.lemmas.List.Folds.{list_any_at}
use Rattle.disk_base.specs.declared.address.Tag.{Tag}
use Rattle.disk_base.specs.declared.command.Attribute.{Attribute}
use Rattle.disk_base.specs.declared.command.DataOut.{DataOut}
use Rattle.disk_base.specs.declared.command.Function.{Function}
use Rattle.mode_pages.specs.declared.settings.Settings.{Settings}
use Rattle.platter_model.specs.declared.op.Op.{Op}
use Rattle.platter_model.specs.declared.world.World.{World}
use Rattle.platter_model.specs.Sector.{writes}
use Rattle.platter_model.specs.TrueLog.{is_off}
use Rattle.geometry_map.specs.DefectMap.{DefectMap, IsValidMap, HaveOwnSpares, place_of, sector}
use Rattle.geometry_map.specs.Chains.{IsFreeSpare}
use Rattle.geometry_map.specs.Laws.{BlocksHaveOwnSectors, FreeSparesAreNoPlaces}
use Rattle.move_jobs.specs.Job.{spare_of}
use Rattle.task_set.specs.Members.{member_of, numbers}
use Rattle.block_machine.specs.declared.entry.Entry.{Entry}
use Rattle.block_machine.specs.declared.entry.Entry.TheVariants.{Arrived, Aborted, Asked}
use Rattle.block_machine.specs.declared.turn.Label.{Label}
use Rattle.block_machine.specs.declared.turn.Label.TheVariants.{Arrive, Work, Job, Scan, Destage}
use Rattle.block_machine.specs.declared.turn.Label.TheVariants as label
use Rattle.block_machine.specs.State.{State, owed_by, is_full}
use Rattle.block_machine.specs.Steps.{begun, entry_after, entries_after}
use Rattle.block_machine.specs.Turns.{is_answered, are_aborted, named_by}
use Rattle.task_set.specs.Members.{is_named}
use Rattle.block_machine.proofs.Booleans.{both, or_left}
use Rattle.move_table.specs.declared.flight.Flight.{Flight}
use Rattle.move_table.specs.Table.{is_of_write, is_owned_by, taken}
use Rattle.drive_scene.specs.Background.{flights_by}
use Rattle.drive_scene.specs.Scene.{Scene, Beat, capacity, beat}
use Rattle.drive_scene.specs.After.{scene_after, with_arrival, settings_by}
use Rattle.drive_scene.specs.Flights.{IsFlight, LeavesFlight, AreApart}
use Rattle.drive_scene.specs.GoodTurn.{GoodTurn, is_on}
use Rattle.drive_scene.specs.InFlight.{AreInFlight, HasCome, HaveOwnOwners, HasValidFlights, is_of_move, OthersLeaveFlights}
use Rattle.drive_scene.proofs.Tables.{put_at-other, within_map}
use Rattle.drive_scene.proofs.CommitTurns.{end_among}
use Rattle.drive_scene.proofs.Flights.{flights_stay}
use Rattle.drive_scene.proofs.Leaving.{state_left}
use Rattle.drive_scene.proofs.OtherEntries.{same_owed, untouched_then, entries_other, begun_other, settings_other, is_cut, own_uncut, blocks_off, arrived_more, is_dropped, all_left, pairs_left, taken_left, are_aborts, drops_aborted, stays_in, arrives_other}
use Rattle.drive_scene.proofs.OtherOps.{off_place, off_spare}
use Rattle.drive_scene.proofs.LeftAlone.{leaves_owner, alone, ticked, ticked_blocks, ticked_settings, from_outside, IsMere, answered, aborts, flights_hold}
use Rattle.drive_scene.proofs.MoveLists.{IsEarlier}

module _ (own_sectors : BlocksHaveOwnSectors) (no_places : FreeSparesAreNoPlaces) (s : Scene) (size : s.map.size ≡ s.size) (valid : IsValidMap s.map)
    (all : AreInFlight s) where
  -- the scene after a turn
  abbrev after : Label → List Entry → List Op → Scene
  after l entries ops = scene_after s (beat l entries ops)

  spare_is_free : (f : Flight) → IsFlight s f → IsFreeSpare s.map (spare_of f.job)
  spare_is_free f is = end_among (IsFreeSpare s.map) (sector 0) f.job.chain is.begun is.spares

  -- the command at work opened none of them
  not_at_work : (c : ℕ) → list_any (λ f. is_owned_by c f.job.owner) s.back.flights ≡ false → (k : ℕ) (d : Flight) → k < length s.back.flights
      → (q : ℕ) → (get_or s.back.flights k d).job.owner ≡ Some q → q ≢ c
  not_at_work c waits k d within q opened same =
      true≢false (sym (list_any_at (λ (f : Flight). is_owned_by c f.job.owner) s.back.flights k d within
      (ap (is_owned_by c) opened ∙ eq-eqb q c same)) ∙ waits)

  -- a turn of work
  worked : (c : ℕ) (entries : List Entry) (ops : List Op) → GoodTurn s (beat (Work c) entries ops)
      → All (LeavesFlight s (after (Work c) entries ops)) s.back.flights
  worked c entries ops good k d within =
      let f : Flight = get_or s.back.flights k d in
      let is : IsFlight s f = all.flights k d within in
      let start : State = begun s.hist (Work c) in
      let off : list_any (is_on f.job.b) entries ≡ false =
      false_from_ne_true (list_any (is_on f.job.b) entries) (λ on. flights_hold s (Work c) refl k d within (good.held f.job.b is.below (or_left _ _ on))) in
      let others : (q : ℕ) → f.job.owner ≡ Some q → q ≢ c = not_at_work c good.waits k d within in
      alone s (after (Work c) entries ops) ops f refl refl refl refl is (record {
        block = blocks_off (capacity s) (Work c) start f.job.b entries off (own_uncut c entries good.own);
        at_place = off_place own_sectors s.map valid entries ops good.written f.job.b (within_map s f.job.b size is.below) off;
        at_spare = off_spare no_places s.map valid entries ops good.written (spare_of f.job) (spare_is_free f is);
        owner = leaves_owner s (after (Work c) entries ops) f.job.why f.job.owner
            (λ q opened. (put_at-other c q _ s.windows (others q opened), settings_other c q (others q opened) s.hist.settings s.settings entries good.own))
            (λ q new opened. same_owed s.hist (entries_after (capacity s) (Work c) start entries) q
            (untouched_then s.hist start (entries_after (capacity s) (Work c) start entries) q (begun_other c q (others q opened) s.hist)
            (entries_other c q (others q opened) (capacity s) start entries good.own)));
      })

  -- a destage
  destages : (entries : List Entry) (ops : List Op) → GoodTurn s (beat Destage entries ops) → All (LeavesFlight s (after Destage entries ops)) s.back.flights
  destages entries ops good k d within =
      let f : Flight = get_or s.back.flights k d in
      let is : IsFlight s f = all.flights k d within in
      let told = good.step.told in
      let off : list_any (is_on f.job.b) entries ≡ false =
      false_from_ne_true (list_any (is_on f.job.b) entries) (λ on. flights_hold s Destage refl k d within (good.held f.job.b is.below (or_left _ _ on))) in
      alone s (after Destage entries ops) ops f refl refl refl refl is (record {
        block = blocks_off (capacity s) Destage s.hist f.job.b entries off (ap (list_any is_cut) told);
        at_place = off_place own_sectors s.map valid entries ops good.written f.job.b (within_map s f.job.b size is.below) off;
        at_spare = off_spare no_places s.map valid entries ops good.written (spare_of f.job) (spare_is_free f is);
        owner = leaves_owner s (after Destage entries ops) f.job.why f.job.owner
            (λ q opened. (refl, ap (λ (es : List Entry). fold (settings_by s.hist.settings) s.settings es q) told))
            (λ q new opened. ap (λ (es : List Entry). owed_by (entries_after (capacity s) Destage s.hist es) q) told);
      })

  -- what happens from outside
  outside : (w : World) (entries : List Entry) (ops : List Op) → GoodTurn s (beat (label.World w) entries ops)
      → All (LeavesFlight s (after (label.World w) entries ops)) s.back.flights
  outside w entries ops good k d within =
      let f : Flight = get_or s.back.flights k d in
      let is : IsFlight s f = all.flights k d within in
      let facts = from_outside (is_off s.ops) w entries ops good.step in
      alone s (after (label.World w) entries ops) ops f refl refl refl refl is (record {
        block = ticked_blocks (capacity s) w s.hist f.job.b.0 entries facts.0;
        at_place = facts.1 (place_of s.map f.job.b);
        at_spare = facts.1 (spare_of f.job);
        owner = leaves_owner s (after (label.World w) entries ops) f.job.why f.job.owner
            (λ q opened. (refl, ap (λ (each : ℕ → Settings). each q) (ticked_settings s.hist.settings s.settings entries facts.0)))
            (λ q new opened. same_owed s.hist (entries_after (capacity s) (label.World w) s.hist entries) q (ticked (capacity s) w s.hist q entries facts.0));
      })

  -- a command comes
  comes : (i c j : ℕ) (t : Tag) (a : Attribute) (cdb : List ℕ) (sent : DataOut) (rest : List Entry) (ops : List Op) → ops ≡ [] → c ≡ s.hist.arrived + 1
      → is_answered (is_full s.hist) c rest ≡ true → All (LeavesFlight s (after (Arrive i) (Arrived c j t a cdb sent ∷ rest) ops)) s.back.flights
  comes i c j t a cdb sent rest ops none next told k d within =
      let f : Flight = get_or s.back.flights k d in
      let is : IsFlight s f = all.flights k d within in
      let entries : List Entry = Arrived c j t a cdb sent ∷ rest in
      let mere : IsMere rest = answered (is_full s.hist) c rest told in
      let older : (q : ℕ) → f.job.owner ≡ Some q → q ≢ c =
      λ q opened same. absurd (let before = all.came k d within q opened in omega (arith, before, next, same)) in
      alone s (after (Arrive i) (Arrived c j t a cdb sent ∷ rest) ops) ops f refl refl refl refl is (record {
        block = blocks_off (capacity s) (Arrive i) s.hist f.job.b (Arrived c j t a cdb sent ∷ rest) (mere.off f.job.b) mere.uncut;
        at_place = ap (list_any (writes (place_of s.map f.job.b))) none;
        at_spare = ap (list_any (writes (spare_of f.job))) none;
        owner = leaves_owner s (after (Arrive i) (Arrived c j t a cdb sent ∷ rest) ops) f.job.why f.job.owner
            (λ q opened. (
              ap (λ (each : ℕ → List Op). each q) (mere.windows (with_arrival s.windows (Arrived c j t a cdb sent)))
                  ∙ put_at-other c q _ s.windows (older q opened),
              ap (λ (each : ℕ → Settings). each q) (mere.settings s.hist.settings s.settings),
            ))
            (λ q new opened. same_owed s.hist (entries_after (capacity s) (Arrive i) s.hist (Arrived c j t a cdb sent ∷ rest)) q
            (arrives_other (capacity s) i c j q t a cdb sent (older q opened) s.hist (is_full s.hist) rest told));
      })

  -- a function is asked for, and ends commands
  asked : (i j : ℕ) (what : Function) (cs : List ℕ) (ops : List Op) → ops ≡ []
      → All (LeavesFlight s (after (Arrive i) (Asked j what ∷ map Aborted cs) ops)) (fold flights_by s.back.flights (map Aborted cs))
  asked i j what cs ops none k d within =
      let f : Flight = get_or (fold flights_by s.back.flights (map Aborted cs)) k d in
      let is : IsFlight s f = all_left (IsFlight s) s.back.flights (map Aborted cs) all.flights k d within in
      let mere : IsMere (map Aborted cs) = aborts cs in
      alone s (after (Arrive i) (Asked j what ∷ map Aborted cs) ops) ops f refl refl refl refl is (record {
        block = blocks_off (capacity s) (Arrive i) s.hist f.job.b (Asked j what ∷ map Aborted cs) (mere.off f.job.b) mere.uncut;
        at_place = ap (list_any (writes (place_of s.map f.job.b))) none;
        at_spare = ap (list_any (writes (spare_of f.job))) none;
        owner = leaves_owner s (after (Arrive i) (Asked j what ∷ map Aborted cs) ops) f.job.why f.job.owner
            (λ q opened. (
              ap (λ (each : ℕ → List Op). each q) (mere.windows s.windows),
              ap (λ (each : ℕ → Settings). each q) (mere.settings s.hist.settings s.settings),
            ))
            (λ q new opened. stays q (list_any (λ n. n == q) cs) refl (λ here. dropped q new opened (drops_aborted q s.back.flights cs here k d within)));
      })
    where
      dropped : (q : ℕ) → is_of_write (get_or (fold flights_by s.back.flights (map Aborted cs)) k d).job.why ≡ true
          → (get_or (fold flights_by s.back.flights (map Aborted cs)) k d).job.owner ≡ Some q
          → is_dropped q (get_or (fold flights_by s.back.flights (map Aborted cs)) k d) ≡ false → ⊥
      dropped q new opened kept =
          let f : Flight = get_or (fold flights_by s.back.flights (map Aborted cs)) k d in
          true≢false (sym (and_from (is_of_write f.job.why) (is_owned_by q f.job.owner) new (ap (is_owned_by q) opened ∙ eq-eqb q q refl)) ∙ kept)

      stays : (q : ℕ) (t : Bool) → list_any (λ n. n == q) cs ≡ t → (list_any (λ n. n == q) cs ≡ true → ⊥)
          → owed_by (entries_after (capacity s) (Arrive i) s.hist (Asked j what ∷ map Aborted cs)) q ≡ owed_by s.hist q
      stays q true among never = absurd (never among)
      stays q false among never =
          let first : State = entry_after (capacity s) (Arrive i) s.hist (Asked j what) in
          let left = state_left (capacity s) i first cs in
          same_owed s.hist (entries_after (capacity s) (Arrive i) s.hist (Asked j what ∷ map Aborted cs)) q (record {
            member = ap (λ (x : State). member_of x.set q) left ∙ stays_in q cs s.hist.set among;
            duty = ap (λ (x : State). x.duties q) left;
          })

  arrives : (i : ℕ) (entries : List Entry) (ops : List Op) → GoodTurn s (beat (Arrive i) entries ops)
      → All (LeavesFlight s (after (Arrive i) entries ops)) (fold flights_by s.back.flights entries)
  arrives i [] ops good = absurd (true≢false (sym good.tasks))
  arrives i (Arrived c j t a cdb sent ∷ rest) ops good =
      let two = both (j == i && c == s.hist.arrived + 1) (is_answered (is_full s.hist) c rest) good.tasks in
      let next : c ≡ s.hist.arrived + 1 = eqb-true c (s.hist.arrived + 1) (both (j == i) (c == s.hist.arrived + 1) two.0).1 in
      all_left (LeavesFlight s (after (Arrive i) (Arrived c j t a cdb sent ∷ rest) ops)) s.back.flights (Arrived c j t a cdb sent ∷ rest)
      (comes i c j t a cdb sent rest ops good.step next two.1)
  arrives i (Asked j what ∷ rest) ops good =
      let cs : List ℕ = numbers (filter (is_named (named_by i what)) s.hist.set) in
      let are : rest ≡ map Aborted cs = are_aborts cs rest (both (j == i) (are_aborted cs rest) good.tasks).1 in
      subst (λ (es : List Entry). All (LeavesFlight s (after (Arrive i) (Asked j what ∷ es) ops)) (fold flights_by s.back.flights es)) (sym are)
      (asked i j what cs ops good.step)
  arrives i (e ∷ rest) ops good = absurd (true≢false (sym good.tasks))

  leave : (l : Label) (entries : List Entry) (ops : List Op) → GoodTurn s (beat l entries ops) → is_of_move l ≡ false
      → All (LeavesFlight s (after l entries ops)) (after l entries ops).back.flights
  leave (Arrive i) entries ops good other = arrives i entries ops good
  leave (Work c) entries ops good other =
      all_left (LeavesFlight s (after (Work c) entries ops)) s.back.flights entries (worked c entries ops good)
  leave Destage entries ops good other = all_left (LeavesFlight s (after Destage entries ops)) s.back.flights entries (destages entries ops good)
  leave (label.World w) entries ops good other =
      all_left (LeavesFlight s (after (label.World w) entries ops)) s.back.flights entries (outside w entries ops good)
  leave (Job j) entries ops good other = absurd (true≢false other)
  leave Scan entries ops good other = absurd good.step

  -- what is in flight after it, by what was
  record IsLeft (u : Scene) (l : Label) (entries : List Entry) : Type 0 where
    flights : u.back.flights ≡ fold flights_by s.back.flights entries
    map : u.map ≡ s.map
    arrived : s.hist.arrived ≤ u.hist.arrived

  left : (l : Label) (entries : List Entry) (ops : List Op) → is_of_move l ≡ false → IsLeft (after l entries ops) l entries
  left (Arrive i) entries ops other = record { flights = refl; map = refl; arrived = arrived_more (capacity s) (Arrive i) s.hist entries }
  left (Work c) entries ops other =
      record { flights = refl; map = refl; arrived = arrived_more (capacity s) (Work c) (begun s.hist (Work c)) entries }
  left Destage entries ops other = record { flights = refl; map = refl; arrived = arrived_more (capacity s) Destage s.hist entries }
  left (label.World w) entries ops other = record { flights = refl; map = refl; arrived = arrived_more (capacity s) (label.World w) s.hist entries }
  left Scan entries ops other = record { flights = refl; map = refl; arrived = arrived_more (capacity s) Scan s.hist entries }
  left (Job j) entries ops other = absurd (true≢false other)

  keep : (l : Label) (entries : List Entry) (ops : List Op) → GoodTurn s (beat l entries ops) → is_of_move l ≡ false → AreInFlight (after l entries ops)
  keep l entries ops good other =
      let u : Scene = after l entries ops in
      let rest : List Flight = fold flights_by s.back.flights entries in
      let is : IsLeft (after l entries ops) l entries = left l entries ops other in
      let were : All (IsFlight s) (after l entries ops).back.flights =
      All-same (IsFlight s) u.back.flights rest is.flights (all_left (IsFlight s) s.back.flights entries all.flights) in
      let were_here : All (λ (f : Flight). HasCome s.hist.arrived f.job.owner) (after l entries ops).back.flights =
      All-same (λ (f : Flight). HasCome s.hist.arrived f.job.owner) u.back.flights rest is.flights
      (all_left (λ (f : Flight). HasCome s.hist.arrived f.job.owner) s.back.flights entries all.came) in
      let pairs : (R : Flight → Flight → Type 0) → AllPairs R s.back.flights → AllPairs R (after l entries ops).back.flights =
      λ R before. subst (λ (fs : List Flight). AllPairs R fs) (sym is.flights) (pairs_left R s.back.flights entries before) in
      record {
        flights = λ k d within. flights_stay s u (get_or u.back.flights k d) (were k d within) (leave l entries ops good other k d within);
        ascend = pairs IsEarlier all.ascend;
        apart = pairs AreApart all.apart;
        owners = pairs HaveOwnOwners all.owners;
        chains = All-same (λ (f : Flight). AllPairs HaveOwnSpares f.job.chain) u.back.flights rest is.flights
            (all_left (λ (f : Flight). AllPairs HaveOwnSpares f.job.chain) s.back.flights entries all.chains);
        came = λ k d within c opened. omega (arith, were_here k d within c opened, is.arrived);
        room = omega (
          arith,
          all.room,
          taken_left s.back.flights entries,
          ap (λ (fs : List Flight). length (taken fs)) is.flights,
          ap (λ (m : DefectMap). length m.grown) is.map,
        );
      }

pub others_leave : BlocksHaveOwnSectors → FreeSparesAreNoPlaces → OthersLeaveFlights
others_leave own_sectors no_places s t has good other =
    leave own_sectors no_places s has.size has.valid has.in_flight t.label t.entries t.ops good other

pub others_keep : BlocksHaveOwnSectors → FreeSparesAreNoPlaces → (s : Scene) (t : Beat) → HasValidFlights s → GoodTurn s t → is_of_move t.label ≡ false
    → HasValidFlights (scene_after s t)
others_keep own_sectors no_places s t has good other =
    let map : (scene_after s t).map ≡ s.map = (left own_sectors no_places s has.size has.valid has.in_flight t.label t.entries t.ops other).map in
    record {
      size = ap (λ (m : DefectMap). m.size) map ∙ has.size;
      valid = subst (λ (m : DefectMap). IsValidMap m) (sym map) has.valid;
      in_flight = keep own_sectors no_places s has.size has.valid has.in_flight t.label t.entries t.ops good other;
    }
