-- The turn of a move keeps the moves in flight: its own goes on or is over, and it leaves the others alone.
use Rattle.std.proofs.Common.{◌≡◌, ◌≢◌, ◌⊎◌, inl, inr, ◌∙◌, ap, sym, refl, subst, ℕ, ◌+◌, ◌<◌, ◌≤◌, Bool, true, false, not, List, [], ◌∷◌, ◌++◌, length, get_or, Option, Some, None, arith, length-append}
use Rattle.std.specs.Prelude.{◌==◌, All, AllPairs, fold}
use Rattle.std.specs.List.{list_all}
use Rattle.std.specs.Option.{option_map, option_map_or, option_and_then}
use Rattle.std.proofs.lemmas.List.Elements.{All-nil, All-cons, All-append, All-filter}
use Rattle.std.proofs.lemmas.List.Kept.{AllPairs-filter}
use Rattle.std.proofs.lemmas.List.Quantifiers.{all_pairs_push}
use Rattle.disk_base.specs.declared.address.Lba.{Lba}
use Rattle.disk_base.specs.declared.address.Psn.{Psn}
use Rattle.platter_model.specs.declared.op.Op.{Op}
use Rattle.geometry_map.specs.declared.limits.TheConstants.{PAIRS_MAX}
use Rattle.geometry_map.specs.declared.pair.Pair.{Pair}
use Rattle.geometry_map.specs.DefectMap.{DefectMap, IsValidMap, IsGrownList, HaveOwnSpares, place_of, sector}
use Rattle.geometry_map.specs.Chains.{IsFreeSpare, IsNoNew}
use Rattle.geometry_map.specs.Laws.{BlocksHaveOwnSectors, BlocksLieOnUserSectors, ChainsMoveOneBlock, FreeSparesAreNoPlaces, GivenSparesAreNext, ChainsOfFreeSparesFit}
use Rattle.move_jobs.specs.declared.step.JobResult.TheVariants.{Moved, NoSpare}
use Rattle.move_jobs.specs.declared.step.JobStep.{JobStep}
use Rattle.move_jobs.specs.declared.step.JobStep.TheVariants.{Writing, Checking, Committing, Over}
use Rattle.move_jobs.specs.Job.{Job, pair, spare_of, answered, result_at, step_done}
use Rattle.move_jobs.specs.Laws.{AnswersKeepTheChain}
use Rattle.sector_store.specs.Maps.{next_map}
use Rattle.sector_store.specs.Shapes.{IsCommit}
use Rattle.sector_store.specs.Spares.{SparesAreUserSectors}
use Rattle.block_machine.specs.declared.entry.Entry.{Entry}
use Rattle.block_machine.specs.declared.turn.Label.{Label}
use Rattle.block_machine.specs.declared.turn.Label.TheVariants as label
use Rattle.block_machine.specs.Steps.{entries_after}
use Rattle.mode_pages.specs.declared.settings.Settings.{Settings}
use Rattle.task_set.specs.declared.member.Member.{Member}
use Rattle.task_set.specs.Members.{member_of}
use Rattle.move_table.specs.declared.flight.Flight.{Flight}
use Rattle.move_table.specs.Table.{flight, job_in, taken, with_job, without_job}
use Rattle.drive_scene.specs.Background.{flights_by}
use Rattle.drive_scene.specs.Scene.{Scene, capacity, beat}
use Rattle.drive_scene.specs.After.{scene_after, map_committed, windows_committed}
use Rattle.drive_scene.specs.MoveTurn.{IsMoveWork, job_after, answer_at, last_of, next_spare, move_entries, present_owner, is_cut_off, back_by_step, back_after_job}
use Rattle.drive_scene.specs.Flights.{IsFlight, LeavesFlight, LeavesOwner, AreApart, IsCommitted, GoesOn}
use Rattle.drive_scene.specs.GoodTurn.{GoodTurn}
use Rattle.drive_scene.specs.InFlight.{AreInFlight, HasCome, HaveOwnOwners, HasValidFlights, TurnsKeepFlights}
use Rattle.drive_scene.proofs.Tables.{within_map}
use Rattle.drive_scene.proofs.Uncommitted.{uncommitted, committed, opened_by_move}
use Rattle.drive_scene.proofs.CommitTurns.{end_among}
use Rattle.drive_scene.proofs.Flights.{flights_stay}
use Rattle.drive_scene.proofs.MovesGoOn.{one_sector, moves_go_on}
use Rattle.drive_scene.proofs.OtherFlights.{commits_leave_others}
use Rattle.drive_scene.proofs.OtherEntries.{same_owed, blocks_off, arrived_more, fewer_taken}
use Rattle.drive_scene.proofs.OtherOps.{meant_stays, strays_more, off_spare_alone, off_maps}
use Rattle.drive_scene.proofs.InFlight.{others_keep}
use Rattle.drive_scene.proofs.LeftAlone.{leaves_owner, alone}
use Rattle.drive_scene.proofs.FlightsFit.{flights_fit}
use Rattle.drive_scene.proofs.MoveLists.{IsEarlier, own_numbers, ascend_with, IsAt, found, own_apart, all_with, pairs_with, taken_with, taken_without, all_without, untaken}
use Rattle.drive_scene.proofs.MoveEntries.{is_of_move_on, moves_are, moves_off, moves_uncut, moves_settings, moves_untouched}
use Rattle.drive_scene.proofs.MovesOnward.{apart_turned, owners_turned, other_spare, window_other, IsOnward, onward, these_left}

-- the laws below
pub record Below : Type 0 where
  pub own_sectors : BlocksHaveOwnSectors
  pub on_user : BlocksLieOnUserSectors
  pub moves_one : ChainsMoveOneBlock
  pub no_places : FreeSparesAreNoPlaces
  pub user_spares : SparesAreUserSectors
  pub next_is_free : GivenSparesAreNext
  pub keep_chain : AnswersKeepTheChain
  pub chains_fit : ChainsOfFreeSparesFit

module _ (laws : Below) (s : Scene) (has : HasValidFlights s) (j : ℕ) (entries : List Entry) (ops : List Op) (job : Job)
    (in_flight : job_in s.back.flights j ≡ Some job) (work : IsMoveWork s job job.step ops) (told : entries ≡ move_entries s job job.step ops)
    (on : is_cut_off ops ≡ false) where
  size : s.map.size ≡ s.size
  size = has.size

  valid : IsValidMap s.map
  valid = has.valid

  all : AreInFlight s
  all = has.in_flight

  abbrev after : Scene
  after = scene_after s (beat (label.Job j) entries ops)

  own : IsAt s.back.flights j job
  own = found j job s.back.flights in_flight

  own_flight : IsFlight s (flight j job)
  own_flight = subst (λ (f : Flight). IsFlight s f) (own.is (flight j job)) (all.flights own.at (flight j job) own.within)

  -- what all have, it has
  own_of : (P : Job → Type 0) → All (λ f. P f.job) s.back.flights → P job
  own_of P each = subst (λ (f : Flight). P f.job) (own.is (flight j job)) (each own.at (flight j job) own.within)

  parts : list_all (is_of_move_on (present_owner s job) job.b) entries ≡ true
  parts = ap (list_all (is_of_move_on (present_owner s job) job.b)) told ∙ moves_are s job job.step ops on

  -- another move in flight
  abbrev IsElse : Flight → Type 0
  IsElse f = f.j ≢ j

  apart_from : (k : ℕ) (d : Flight) → k < length s.back.flights → IsElse (get_or s.back.flights k d) → AreApart (flight j job) (get_or s.back.flights k d)
  apart_from k d within other = own_apart s.back.flights j job (own_numbers s.back.flights all.ascend) own AreApart apart_turned all.apart k d within other

  owners_from : (k : ℕ) (d : Flight) → k < length s.back.flights → IsElse (get_or s.back.flights k d)
      → HaveOwnOwners (flight j job) (get_or s.back.flights k d)
  owners_from k d within other = own_apart s.back.flights j job (own_numbers s.back.flights all.ascend) own HaveOwnOwners owners_turned all.owners k d within other

  -- the blocks of others
  block_left : (q : Lba) → q ≢ job.b → after.hist.blocks q.0 ≡ s.hist.blocks q.0
  block_left q other =
      blocks_off (capacity s) (label.Job j) s.hist q entries
      (moves_off (present_owner s job) job.b q (λ same. other (λ i. record { 0 = same i })) entries parts) (moves_uncut (present_owner s job) job.b entries parts)

  -- and their owners
  present_is : (c : ℕ) → present_owner s job ≡ Some c → job.owner ≡ Some c
  present_is c is = by job.owner is
    where
      in_set : (n : ℕ) (o : Option Member) → option_map (λ (m : Member). n) o ≡ Some c → Some n ≡ Some c
      in_set n None none = absurd (cc)
      in_set n (Some m) some = some

      by : (o : Option ℕ) → option_and_then (λ n. option_map (λ m. n) (member_of s.hist.set n)) o ≡ Some c → o ≡ Some c
      by None none = absurd (cc)
      by (Some n) some = in_set n (member_of s.hist.set n) some

  windows_left : (step : JobStep) → job.step ≡ step → (q : ℕ) → ((c : ℕ) → job.owner ≡ Some c → q ≢ c) → after.windows q ≡ s.windows q
  windows_left Committing is q other =
      ap (λ (o : Option Job). windows_committed o s.windows q) (committed s j job ops in_flight is on) ∙ window_other job.owner s.windows q other
  windows_left Writing is q other =
      ap (λ (o : Option Job). windows_committed o s.windows q)
      (uncommitted s j job ops in_flight (λ same. let never : Writing ≡ Committing = sym is ∙ same in cc))
  windows_left Checking is q other =
      ap (λ (o : Option Job). windows_committed o s.windows q)
      (uncommitted s j job ops in_flight (λ same. let never : Checking ≡ Committing = sym is ∙ same in cc))
  windows_left (Over end) is q other =
      ap (λ (o : Option Job). windows_committed o s.windows q)
      (uncommitted s j job ops in_flight (λ same. let never : Over end ≡ Committing = sym is ∙ same in cc))

  owner_left : (k : ℕ) (d : Flight) → k < length s.back.flights → IsElse (get_or s.back.flights k d)
      → LeavesOwner s after (get_or s.back.flights k d).job.why (get_or s.back.flights k d).job.owner
  owner_left k d within other =
      let g : Flight = get_or s.back.flights k d in
      let another : (q : ℕ) → g.job.owner ≡ Some q → (c : ℕ) → job.owner ≡ Some c → q ≢ c =
      λ q opened c of_job same. owners_from k d within other c of_job (opened ∙ ap Some same) in
      leaves_owner s after g.job.why g.job.owner
      (λ q opened. (
        windows_left job.step refl q (another q opened),
        ap (λ (each : ℕ → Settings). each q) (moves_settings (present_owner s job) job.b s.hist.settings s.settings entries parts),
      ))
      (λ q new opened. same_owed s.hist (entries_after (capacity s) (label.Job j) s.hist entries) q
      (moves_untouched (present_owner s job) job.b q (λ c present. another q opened c (present_is c present)) (capacity s) j s.hist entries parts))

  opened_same : after.back.opened ≡ s.back.opened
  opened_same = opened_by_move s ops (label.Job j)

  came_more : s.hist.arrived ≤ after.hist.arrived
  came_more = arrived_more (capacity s) (label.Job j) s.hist entries

  -- what is in flight then, before the entries act
  flights_then : (step : JobStep) → (job_after s job ops).step ≡ step
      → after.back.flights ≡ fold flights_by (back_by_step j (job_after s job ops) step s.back).flights entries
  flights_then step is =
      ap (λ (o : Option Job). fold flights_by (option_map_or (λ x. back_after_job s j x ops) o s.back).flights entries) in_flight
      ∙ ap (λ (st : JobStep). fold flights_by (back_by_step j (job_after s job ops) st s.back).flights entries) is

  -- the move is over
  ends : ((k : ℕ) (d : Flight) → k < length s.back.flights → IsElse (get_or s.back.flights k d) → LeavesFlight s after (get_or s.back.flights k d))
      → after.back.flights ≡ fold flights_by (without_job j s.back.flights) entries
      → length after.map.grown + length (taken (without_job j s.back.flights)) ≤ PAIRS_MAX → AreInFlight after
  ends leaves is room =
      let p : Flight → Bool = λ f. not (f.j == j) in
      these_left s after (without_job j s.back.flights) entries is came_more (record {
        each = all_without j (IsFlight after) s.back.flights
            (λ k d within other. flights_stay s after (get_or s.back.flights k d) (all.flights k d within) (leaves k d within other));
        ascend = AllPairs-filter IsEarlier p s.back.flights all.ascend;
        apart = AllPairs-filter AreApart p s.back.flights all.apart;
        owners = AllPairs-filter HaveOwnOwners p s.back.flights all.owners;
        chains = All-filter p (λ (f : Flight). AllPairs HaveOwnSpares f.job.chain) s.back.flights all.chains;
        came = All-filter p (λ (f : Flight). HasCome s.hist.arrived f.job.owner) s.back.flights all.came;
        room = room;
      })

  -- the move isn't committed
  module _ (going : job.step ≢ Committing) where
    map_same : after.map ≡ s.map
    map_same = ap (λ (o : Option Job). map_committed o s.map) (uncommitted s j job ops in_flight going)

    leaves : (k : ℕ) (d : Flight) → k < length s.back.flights → IsElse (get_or s.back.flights k d) → LeavesFlight s after (get_or s.back.flights k d)
    leaves k d within other =
        let g : Flight = get_or s.back.flights k d in
        let is : IsFlight s g = all.flights k d within in
        let apart : AreApart (flight j job) (get_or s.back.flights k d) = apart_from k d within other in
        let free : IsFreeSpare s.map (spare_of job) = end_among (IsFreeSpare s.map) (sector 0) job.chain own_flight.begun own_flight.spares in
        alone s after ops g refl map_same opened_same refl is (record {
          block = block_left g.job.b apart.blocks;
          at_place = off_spare_alone s job job.step ops work on going (place_of s.map g.job.b)
              (laws.no_places s.map valid (spare_of job) free g.job.b (within_map s g.job.b size is.below));
          at_spare = off_spare_alone s job job.step ops work on going (spare_of g.job) (other_spare (flight j job) g own_flight.begun is.begun apart);
          owner = owner_left k d within other;
        })

    -- and is over
    ends_unmoved : after.back.flights ≡ fold flights_by (without_job j s.back.flights) entries → AreInFlight after
    ends_unmoved is =
        ends leaves is (omega (
          arith,
          all.room,
          ap (λ (m : DefectMap). length m.grown) map_same,
          fewer_taken (λ (f : Flight). not (f.j == j)) s.back.flights,
        ))

    -- or goes on
    x_is : IsOnward s job (job_after s job ops)
    x_is = onward s job job.step (last_of ops)

    goes : result_at (job_after s job ops).step ≡ None → GoesOn s (flight j job) ops
    goes more = moves_go_on laws.no_places laws.next_is_free laws.keep_chain s (flight j job) ops (record {
      size = size;
      valid = valid;
      in_flight = in_flight;
      flight = own_flight;
      work = work;
      powered = on;
      goes_on = more;
    })

    own_then : result_at (job_after s job ops).step ≡ None → IsFlight after (flight j (job_after s job ops))
    own_then more =
        let it : GoesOn s (flight j job) ops = goes more in
        let same : it.turn.job ≡ job = (let both : Some it.turn.job ≡ Some job = sym it.turn.in_flight ∙ in_flight in cc) in
        let empty : entries ≡ [] = told ∙ (ap (λ (y : Job). move_entries s y y.step ops) (sym same) ∙ sym it.turn.told) in
        subst (λ (es : List Entry). IsFlight (scene_after s (beat (label.Job j) es ops)) (flight j (job_after s job ops))) (sym empty) it.flight

    -- a spare more
    apart_then : (x : Job) → IsOnward s job x → (k : ℕ) (d : Flight) → k < length s.back.flights → IsElse (get_or s.back.flights k d)
        → AreApart (flight j x) (get_or s.back.flights k d)
    apart_then x is k d within other = record {
      blocks = λ same. apart.blocks (same ∙ is.block);
      spares = λ i e inside. by (get_or (get_or s.back.flights k d).job.chain i e).new (apart.spares i e inside)
          (λ p next same. untaken p s.back.flights (laws.next_is_free s.map (taken s.back.flights) p next).not_taken k d within i e inside same) is.chain;
    }
      where
        apart : AreApart (flight j job) (get_or s.back.flights k d)
        apart = apart_from k d within other

        by : (q : Psn) → IsNoNew q job.chain → ((p : Psn) → next_spare s ≡ Some p → q ≢ p)
            → (x.chain ≡ job.chain) ⊎ ((p : Psn) × (next_spare s ≡ Some p) × (x.chain ≡ job.chain ++ pair (spare_of job) p ∷ [])) → IsNoNew q x.chain
        by q none untaken_by (inl same) = subst (λ (chain : List Pair). IsNoNew q chain) (sym same) none
        by q none untaken_by (inr more) =
            let P : Pair → Type 0 = λ y. y.new ≢ q in
            let last : Pair = pair (spare_of job) more.0 in
            subst (λ (chain : List Pair). IsNoNew q chain) (sym more.2)
            (All-append P job.chain (last ∷ []) none (All-cons P last [] (λ same. untaken_by more.0 more.1 (sym same)) (All-nil P)))

    -- which its chain hasn't
    chain_then : (x : Job) → IsOnward s job x → AllPairs HaveOwnSpares x.chain
    chain_then x is = by is.chain
      where
        before : AllPairs HaveOwnSpares job.chain
        before = own_of (λ (y : Job). AllPairs HaveOwnSpares y.chain) all.chains

        by : (x.chain ≡ job.chain) ⊎ ((p : Psn) × (next_spare s ≡ Some p) × (x.chain ≡ job.chain ++ pair (spare_of job) p ∷ []))
            → AllPairs HaveOwnSpares x.chain
        by (inl same) = subst (λ (chain : List Pair). AllPairs HaveOwnSpares chain) (sym same) before
        by (inr more) =
            let none : IsNoNew more.0 job.chain =
            own_of (λ (y : Job). IsNoNew more.0 y.chain)
            (untaken more.0 s.back.flights (laws.next_is_free s.map (taken s.back.flights) more.0 more.1).not_taken) in
            subst (λ (chain : List Pair). AllPairs HaveOwnSpares chain) (sym more.2)
            (all_pairs_push HaveOwnSpares job.chain (pair (spare_of job) more.0) before
            (λ k d within same. none k d within (one_sector (get_or job.chain k d).new more.0 same)))

    room_then : (x : Job) → IsOnward s job x → length s.map.grown + length (taken (with_job j x s.back.flights)) ≤ PAIRS_MAX
    room_then x is = by is.chain
      where
        by : (x.chain ≡ job.chain) ⊎ ((p : Psn) × (next_spare s ≡ Some p) × (x.chain ≡ job.chain ++ pair (spare_of job) p ∷ []))
            → length s.map.grown + length (taken (with_job j x s.back.flights)) ≤ PAIRS_MAX
        by (inl same) =
            omega (arith, all.room, taken_with j x job s.back.flights (own_numbers s.back.flights all.ascend) in_flight, ap (λ (chain : List Pair). length chain) same)
        by (inr more) =
            omega (
              arith,
              (laws.next_is_free s.map (taken s.back.flights) more.0 more.1).few,
              taken_with j x job s.back.flights (own_numbers s.back.flights all.ascend) in_flight,
              ap (λ (chain : List Pair). length chain) more.2,
              length-append job.chain (pair (spare_of job) more.0 ∷ []),
            )

    goes_on : result_at (job_after s job ops).step ≡ None
        → after.back.flights ≡ fold flights_by (with_job j (job_after s job ops) s.back.flights) entries → AreInFlight after
    goes_on more is =
        let x : Job = job_after s job ops in
        let owners : (k : ℕ) (d : Flight) → k < length s.back.flights → IsElse (get_or s.back.flights k d)
        → HaveOwnOwners (flight j (job_after s job ops)) (get_or s.back.flights k d) =
        λ k d within other c of_x of_g. owners_from k d within other c (sym x_is.owner ∙ of_x) of_g in
        these_left s after (with_job j x s.back.flights) entries is came_more (record {
          each = all_with j x (IsFlight after) s.back.flights (own_then more)
              (λ k d within other. flights_stay s after (get_or s.back.flights k d) (all.flights k d within) (leaves k d within other));
          ascend = ascend_with j x s.back.flights all.ascend;
          apart = pairs_with j x AreApart s.back.flights (own_numbers s.back.flights all.ascend) all.apart
              (λ k d within other. (apart_then x x_is k d within other, apart_turned (flight j x) (get_or s.back.flights k d) (apart_then x x_is k d within other)));
          owners = pairs_with j x HaveOwnOwners s.back.flights (own_numbers s.back.flights all.ascend) all.owners
              (λ k d within other. (owners k d within other, owners_turned (flight j x) (get_or s.back.flights k d) (owners k d within other)));
          chains = all_with j x (λ (f : Flight). AllPairs HaveOwnSpares f.job.chain) s.back.flights (chain_then x x_is)
              (λ k d within other. all.chains k d within);
          came = all_with j x (λ (f : Flight). HasCome s.hist.arrived f.job.owner) s.back.flights
              (subst (λ (o : Option ℕ). HasCome s.hist.arrived o) (sym x_is.owner) (own_of (λ (y : Job). HasCome s.hist.arrived y.owner) all.came)) (λ k d within other. all.came k d within);
          room = subst (λ (m : DefectMap). length m.grown + length (taken (with_job j x s.back.flights)) ≤ PAIRS_MAX) (sym map_same) (room_then x x_is);
        })

    unmoved_keep : (step : JobStep) → (job_after s job ops).step ≡ step → AreInFlight after
    unmoved_keep Writing is = goes_on (ap result_at is) (flights_then Writing is)
    unmoved_keep Checking is = goes_on (ap result_at is) (flights_then Checking is)
    unmoved_keep Committing is = goes_on (ap result_at is) (flights_then Committing is)
    unmoved_keep (Over Moved) is = ends_unmoved (flights_then (Over Moved) is)
    unmoved_keep (Over NoSpare) is = ends_unmoved (flights_then (Over NoSpare) is)

    uncommitted_keep : HasValidFlights after
    uncommitted_keep = record {
      size = ap (λ (m : DefectMap). m.size) map_same ∙ size;
      valid = subst (λ (m : DefectMap). IsValidMap m) (sym map_same) valid;
      in_flight = unmoved_keep (job_after s job ops).step refl;
    }

  -- the move is committed
  module _ (committing : job.step ≡ Committing) where
    map_next : after.map ≡ next_map s.map job.chain
    map_next = ap (λ (o : Option Job). map_committed o s.map) (committed s j job ops in_flight committing on)

    over : (job_after s job ops).step ≡ Over Moved
    over = ap (λ (step : JobStep). (answered job (answer_at s job step (last_of ops))).step) committing ∙ ap step_done committing

    commits : IsCommitted s after (flight j job)
    commits =
        let commit : IsCommit s.map job.chain ops = subst (λ (step : JobStep). IsMoveWork s job step ops) committing work in
        record {
          size = refl;
          map = map_next;
          opened = omega (arith, opened_same);
          no_fewer = strays_more s.ops ops;
          reserved = λ p user. meant_stays p s.ops ops (off_maps s.map job.chain ops commit on p user);
          blocks = block_left;
        }

    moved_keep : AreInFlight after
    moved_keep =
        ends (λ k d within other. commits_leave_others laws.own_sectors laws.on_user laws.moves_one laws.no_places laws.user_spares s after (flight j job)
        (get_or s.back.flights k d) size valid own_flight (all.flights k d within) (apart_from k d within other) commits (owner_left k d within other))
        (flights_then (Over Moved) over)
        (omega (
          arith,
          all.room,
          ap (λ (m : DefectMap). length m.grown) map_next,
          length-append s.map.grown job.chain,
          taken_without j job s.back.flights in_flight,
        ))

    committed_keep : HasValidFlights after
    committed_keep =
        let fits : IsGrownList s.map.size s.map.primary (s.map.grown ++ job.chain) =
        own_of (λ (y : Job). IsGrownList s.map.size s.map.primary (s.map.grown ++ y.chain)) (flights_fit laws.on_user laws.chains_fit s has) in
        record {
          size = ap (λ (m : DefectMap). m.size) map_next ∙ size;
          valid = subst (λ (m : DefectMap). IsValidMap m) (sym map_next) (record { primary = valid.primary; grown = fits });
          in_flight = moved_keep;
        }

  move_keeps : (step : JobStep) → job.step ≡ step → HasValidFlights after
  move_keeps Committing is = committed_keep is
  move_keeps Writing is = uncommitted_keep (λ same. let never : Writing ≡ Committing = sym is ∙ same in cc)
  move_keeps Checking is = uncommitted_keep (λ same. let never : Checking ≡ Committing = sym is ∙ same in cc)
  move_keeps (Over end) is = uncommitted_keep (λ same. let never : Over end ≡ Committing = sym is ∙ same in cc)

-- each turn
pub turns_keep : Below → TurnsKeepFlights
turns_keep laws s t has good = by t.label t.entries t.ops good
  where
    by : (l : Label) (entries : List Entry) (ops : List Op) → GoodTurn s (beat l entries ops) → HasValidFlights (scene_after s (beat l entries ops))
    by (label.Job j) entries ops good =
        let turn = good.step.0 in
        move_keeps laws s has j entries ops turn.job turn.in_flight turn.work turn.told good.step.1 turn.job.step refl
    by l entries ops good = others_keep laws.own_sectors laws.no_places s (beat l entries ops) has good refl
