-- A move that goes on is in flight after its turn.
use Rattle.std.proofs.Common.{◌≡◌, ◌≢◌, ◌∙◌, ap, sym, subst, refl, ℕ, ◌≤◌, Bool, true, false, true≢false, cond, List, [], ◌∷◌, ◌++◌, take, Option, Some, None, inl, inr, arith, append_assoc}
use Rattle.std.specs.Prelude.{All, length, map, if◌then◌else◌}
use Rattle.std.proofs.lemmas.Bool.{eq-eqb, ne_eqb}
use Rattle.std.proofs.lemmas.List.Elements.{All-append, All-cons, All-nil}
use Rattle.std.proofs.lemmas.List.Sums.{fold-append}
use Rattle.disk_base.specs.declared.address.Lba.{Lba}
use Rattle.disk_base.specs.declared.address.Psn.{Psn}
use Rattle.disk_base.specs.declared.block.Value.{Value}
use Rattle.disk_base.specs.declared.block.Value.TheVariants.{Data, Lost}
use Rattle.disk_base.specs.declared.payload.Payload.{Payload}
use Rattle.disk_base.specs.declared.stage.MoveWhy.{MoveWhy}
use Rattle.platter_model.specs.declared.op.Op.{Op}
use Rattle.platter_model.specs.declared.op.Op.TheVariants.{Wrote, WriteFailed, Fetched, Tried}
use Rattle.platter_model.specs.Sector.{meant, meant_after}
use Rattle.platter_model.specs.TrueLog.{strays, attempt_of}
use Rattle.platter_model.proofs.Logs.{strays-push}
use Rattle.geometry_map.specs.declared.pair.Pair.{Pair}
use Rattle.geometry_map.specs.DefectMap.{DefectMap, IsValidMap, place_of, sector}
use Rattle.geometry_map.specs.Chains.{IsChain, IsFreeSpare, chain_end}
use Rattle.geometry_map.specs.Laws.{FreeSparesAreNoPlaces, GivenSparesAreNext}
use Rattle.move_jobs.specs.declared.answer.JobAnswer.TheVariants.{Bad}
use Rattle.move_jobs.specs.declared.step.JobStep.{JobStep}
use Rattle.move_jobs.specs.declared.step.JobStep.TheVariants.{Writing, Checking, Committing, Over}
use Rattle.move_jobs.specs.Job.{job_of, pair, answered, result_of, Job, result_at}
use Rattle.move_jobs.specs.Laws.{AnswersKeepTheChain}
use Rattle.sector_store.specs.Shapes.{payload_on, try_of}
use Rattle.sector_store.specs.Spares.{check_stage}
use Rattle.sector_store.specs.Stored.{stored, value_in}
use Rattle.block_machine.specs.declared.entry.Entry.TheVariants.{Cut}
use Rattle.block_machine.specs.declared.turn.Label.TheVariants as label
use Rattle.move_table.specs.declared.flight.Flight.{Flight}
use Rattle.move_table.specs.Table.{flight, taken, with_job}
use Rattle.drive_scene.specs.Background.{Background}
use Rattle.drive_scene.specs.Scene.{Scene, beat}
use Rattle.drive_scene.specs.After.{scene_after}
use Rattle.drive_scene.specs.Carried.{IsAsStored}
use Rattle.drive_scene.specs.MoveTurn.{IsMoveWork, next_spare, reads_back, answer_if, job_after, is_cut_off, end_entries, move_entries, back_by_step}
use Rattle.drive_scene.specs.Flights.{IsFlight, MovesGoOn, flight_after}
use Rattle.drive_scene.proofs.Tables.{within_map}
use Rattle.drive_scene.proofs.Flights.{owner_same, owner_stays}
use Rattle.drive_scene.proofs.CommitTurns.{end_among}
use Rattle.drive_scene.proofs.Uncommitted.{LeavesMap, ends_cut, leaves_map, uncommitted}

-- a payload on a sector names it
pub payload_psn : (p : Psn) (b : Lba) (v : Value) → (payload_on p b v).psn ≡ p
payload_psn p b (Data bytes) = refl
payload_psn p b Lost = refl

-- what a write leaves on its own sector, and on another
own_write : (p : Psn) (ops : List Op) (payload : Payload) → payload.psn ≡ p → meant p (ops ++ Wrote payload ∷ []) ≡ Some payload
own_write p ops payload own =
    fold-append (meant_after p) None ops (Wrote payload ∷ [])
    ∙ ap (λ (t : Bool). cond t (Some payload) (meant p ops)) (eq-eqb payload.psn.0 p.0 (ap (λ (x : Psn). x.0) own))

pub other_write : (p : Psn) (ops : List Op) (payload : Payload) → payload.psn.0 ≢ p.0 → meant p (ops ++ Wrote payload ∷ []) ≡ meant p ops
other_write p ops payload other =
    fold-append (meant_after p) None ops (Wrote payload ∷ [])
    ∙ ap (λ (t : Bool). cond t (Some payload) (meant p ops)) (ne_eqb payload.psn.0 p.0 other)

pub one_sector : (p q : Psn) → p.0 ≡ q.0 → p ≡ q
one_sector p q same = λ i. record { 0 = same i }

pub strays_pushed : (ops : List Op) (o : Op) → strays ops ≤ strays (ops ++ o ∷ [])
strays_pushed ops o = omega (arith, strays-push ops o)

pub strays_tried : (ops : List Op) (p : Psn) (found : Option Payload) → strays ops ≤ strays (ops ++ try_of (length ops) p check_stage found)
strays_tried ops p found =
    let fetch : Op = Fetched p (attempt_of check_stage) in
    let last : Op = Tried (length ops) p check_stage found in
    subst (λ (os : List Op). strays ops ≤ strays os) (append_assoc ops (fetch ∷ []) (last ∷ []))
    (omega (arith, strays_pushed ops fetch, strays_pushed (ops ++ fetch ∷ []) last))

module _ (no_places : FreeSparesAreNoPlaces) (next_is_free : GivenSparesAreNext) (keep_chain : AnswersKeepTheChain)
    (s : Scene) (j : ℕ) (b : Lba) (v : Value) (why : MoveWhy) (owner : Option ℕ) (chain : List Pair)
    (size : s.map.size ≡ s.size) (valid : IsValidMap s.map) where
  -- the move at a step, and with further pairs
  abbrev at_step : JobStep → Flight
  at_step step = flight j (job_of b v why owner chain step)

  -- it is in flight after a turn that leaves the map
  abbrev IsAfter : List Op → Flight → Type 0
  IsAfter ops f = LeavesMap s (beat (label.Job j) [] ops) → IsFlight (scene_after s (beat (label.Job j) [] ops)) f

  abbrev Goal : JobStep → List Op → Type 0
  Goal step ops = IsAfter ops (flight_after s (at_step step) ops)

  -- what changes is the chain, the step, and what is meant, but not at the block's place
  moved_on : (step onward : JobStep) (more : List Pair) (ops : List Op) → IsFlight s (at_step step) → IsChain (place_of s.map b) more → more ≢ []
      → All (λ pair. IsFreeSpare s.map pair.new) more → (onward ≢ Writing → meant (chain_end (sector 0) more) (s.ops ++ ops) ≡ Some (payload_on (chain_end (sector 0) more) b v))
      → meant (place_of s.map b) (s.ops ++ ops) ≡ meant (place_of s.map b) s.ops → strays s.ops ≤ strays (s.ops ++ ops) → result_at onward ≡ None
      → IsAfter ops (flight j (job_of b v why owner more onward))
  moved_on step onward more ops is chained begun free written at_place fewer underway leaves =
      let u : Scene = scene_after s (beat (label.Job j) [] ops) in
      let place : place_of u.map b ≡ place_of s.map b = ap (λ (m : DefectMap). place_of m b) leaves.map in
      let same : stored u.map u.ops b ≡ stored s.map s.ops b = ap (value_in b) (ap (λ (p : Psn). meant p u.ops) place ∙ at_place) in
      record {
        numbered = omega (arith, is.numbered, leaves.opened);
        underway = underway;
        below = is.below;
        chain = subst (λ (p : Psn). IsChain p more) (sym place) chained;
        begun = begun;
        spares = subst (λ (m : DefectMap). All (λ pair. IsFreeSpare m pair.new) more) (sym leaves.map) free;
        written = written;
        value = is.value;
        as_stored = λ none. subst (λ (x : Value). IsAsStored why v x) (sym same) (is.as_stored (omega (arith, none, fewer)));
        owned = owner_same s u why b v owner place (owner_stays s u why owner (leaves.windows j refl) refl refl) is.owned;
      }

  -- the block isn't at the spare in hand
  elsewhere : (step : JobStep) → IsFlight s (at_step step) → place_of s.map b ≢ chain_end (sector 0) chain
  elsewhere step is =
      no_places s.map valid (chain_end (sector 0) chain) (end_among (IsFreeSpare s.map) (sector 0) chain is.begun is.spares) b (within_map s b size is.below)

  -- the spare was written
  done_write : IsFlight s (at_step Writing) → Goal Writing (Wrote (payload_on (chain_end (sector 0) chain) b v) ∷ [])
  done_write is =
      let spare : Psn = chain_end (sector 0) chain in
      let payload : Payload = payload_on (chain_end (sector 0) chain) b v in
      let own : (payload_on (chain_end (sector 0) chain) b v).psn ≡ chain_end (sector 0) chain = payload_psn spare b v in
      moved_on Writing Checking chain (Wrote payload ∷ []) is is.chain is.begun is.spares (λ later. own_write spare s.ops payload own)
      (other_write (place_of s.map b) s.ops payload (λ same. elsewhere Writing is (one_sector _ _ (sym same ∙ ap (λ (x : Psn). x.0) own))))
      (strays_pushed s.ops (Wrote payload)) refl

  -- the spare is bad, and the next one takes its place
  bad_spare : (step : JobStep) (ops : List Op) → IsFlight s (at_step step) → ((p : Psn) → meant p (s.ops ++ ops) ≡ meant p s.ops)
      → strays s.ops ≤ strays (s.ops ++ ops) → (next : Option Psn) → next_spare s ≡ next → result_of (answered (at_step step).job (Bad next)) ≡ None
      → IsAfter ops (flight j (answered (at_step step).job (Bad next)))
  bad_spare step ops is quiet fewer None next_is goes = absurd (cc)
  bad_spare step ops is quiet fewer (Some p) next_is goes =
      let P : Pair → Type 0 = λ pair. IsFreeSpare s.map pair.new in
      let last : Pair = pair (chain_end (sector 0) chain) p in
      let kept = keep_chain (place_of s.map b) (at_step step).job (Bad (Some p)) is.begun is.chain in
      let free : IsFreeSpare s.map p = (next_is_free s.map (taken s.back.flights) p next_is).free in
      moved_on step Writing (chain ++ last ∷ []) ops is kept.0 kept.1 (All-append P chain (last ∷ []) is.spares (All-cons P last [] free (All-nil P)))
      (λ later. absurd (later refl)) (quiet (place_of s.map b)) fewer refl

  -- the spare was read
  checked : (found : Option Payload) → IsFlight s (at_step Checking)
      → result_of (job_after s (at_step Checking).job (try_of (length s.ops) (chain_end (sector 0) chain) check_stage found)) ≡ None
      → Goal Checking (try_of (length s.ops) (chain_end (sector 0) chain) check_stage found)
  checked found is goes = by (reads_back (payload_on (chain_end (sector 0) chain) b v) (Some (Tried (length s.ops) (chain_end (sector 0) chain) check_stage found))) goes
    where
      quiet : (p : Psn) → meant p (s.ops ++ try_of (length s.ops) (chain_end (sector 0) chain) check_stage found) ≡ meant p s.ops
      quiet p = fold-append (meant_after p) None s.ops (try_of (length s.ops) (chain_end (sector 0) chain) check_stage found)

      fewer : strays s.ops ≤ strays (s.ops ++ try_of (length s.ops) (chain_end (sector 0) chain) check_stage found)
      fewer = strays_tried s.ops (chain_end (sector 0) chain) found

      by : (good : Bool) → result_of (answered (at_step Checking).job (answer_if good (next_spare s))) ≡ None
          → IsAfter (try_of (length s.ops) (chain_end (sector 0) chain) check_stage found)
          (flight j (answered (at_step Checking).job (answer_if good (next_spare s))))
      by true on =
          moved_on Checking Committing chain (try_of (length s.ops) (chain_end (sector 0) chain) check_stage found) is is.chain is.begun is.spares
          (λ later. quiet (chain_end (sector 0) chain) ∙ is.written (λ writing. never writing)) (quiet (place_of s.map b)) fewer refl
        where
          never : Checking ≡ Writing → ⊥
          never same = cc
      by false on = bad_spare Checking (try_of (length s.ops) (chain_end (sector 0) chain) check_stage found) is quiet fewer (next_spare s) refl on

  by_step : (step : JobStep) (ops : List Op) → IsFlight s (at_step step) → IsMoveWork s (at_step step).job step ops → is_cut_off ops ≡ false
      → result_of (job_after s (at_step step).job ops) ≡ None → Goal step ops
  by_step Writing ops is (inl (inl e)) on goes = subst (λ (os : List Op). Goal Writing os) (sym e) (done_write is)
  by_step Writing ops is (inl (inr torn)) on goes =
      absurd (true≢false (sym (ap is_cut_off torn.4 ∙ ends_cut (map Wrote (take torn.0 (payload_on (chain_end (sector 0) chain) b v ∷ []))) torn.1 torn.2) ∙ on))
  by_step Writing ops is (inr e) on goes =
      subst (λ (os : List Op). Goal Writing os) (sym e)
      (bad_spare Writing (WriteFailed (chain_end (sector 0) chain) ∷ []) is (λ p. fold-append (meant_after p) None s.ops (WriteFailed (chain_end (sector 0) chain) ∷ []))
      (strays_pushed s.ops (WriteFailed (chain_end (sector 0) chain))) (next_spare s) refl
      (subst (λ (os : List Op). result_of (job_after s (at_step Writing).job os) ≡ None) e goes))
  by_step Checking ops is check on goes =
      subst (λ (os : List Op). Goal Checking os) (sym check.1)
      (checked check.0 is (subst (λ (os : List Op). result_of (job_after s (at_step Checking).job os) ≡ None) check.1 goes))
  by_step Committing ops is work on goes = absurd (cc)
  by_step (Over end) ops is work on goes = absurd work

-- a move that isn't over tells nothing of its end
no_end : (s : Scene) (job : Job) (step : JobStep) → result_at step ≡ None → [] ≡ end_entries s job step
no_end s job Writing on = refl
no_end s job Checking on = refl
no_end s job Committing on = refl
no_end s job (Over end) on = absurd (cc)

-- nor anything else, unless the power goes
untold : (s : Scene) (job : Job) (ops : List Op) → is_cut_off ops ≡ false → result_at (job_after s job ops).step ≡ None
    → [] ≡ (if is_cut_off ops then Cut ∷ [] else end_entries s job (job_after s job ops).step)
untold s job ops on goes =
    no_end s job (job_after s job ops).step goes ∙ sym (ap (λ (t : Bool). cond t (Cut ∷ []) (end_entries s job (job_after s job ops).step)) on)

tells_nothing : (s : Scene) (b : Lba) (v : Value) (why : MoveWhy) (owner : Option ℕ) (chain : List Pair) (step : JobStep) (ops : List Op)
    → is_cut_off ops ≡ false → result_of (job_after s (job_of b v why owner chain step) ops) ≡ None
    → [] ≡ move_entries s (job_of b v why owner chain step) step ops
tells_nothing s b v why owner chain Writing ops on goes = untold s (job_of b v why owner chain Writing) ops on goes
tells_nothing s b v why owner chain Checking ops on goes = untold s (job_of b v why owner chain Checking) ops on goes
tells_nothing s b v why owner chain Committing ops on goes = absurd (cc)
tells_nothing s b v why owner chain (Over end) ops on goes = absurd (cc)

-- it stays among those in flight
stays_in_hand : (j : ℕ) (job : Job) (step : JobStep) (back : Background) → result_at step ≡ None
    → back_by_step j job step back ≡ record back { flights = with_job j job back.flights }
stays_in_hand j job Writing back on = refl
stays_in_hand j job Checking back on = refl
stays_in_hand j job Committing back on = refl
stays_in_hand j job (Over end) back on = absurd (cc)

-- a move that isn't over after its turn didn't need its commit
pub going_uncommitted : (s : Scene) (b : Lba) (v : Value) (why : MoveWhy) (owner : Option ℕ) (chain : List Pair) (step : JobStep) (ops : List Op)
    → result_of (job_after s (job_of b v why owner chain step) ops) ≡ None → step ≢ Committing
going_uncommitted s b v why owner chain Writing ops goes same = cc
going_uncommitted s b v why owner chain Checking ops goes same = cc
going_uncommitted s b v why owner chain Committing ops goes same = cc
going_uncommitted s b v why owner chain (Over end) ops goes same = cc

pub moves_go_on : FreeSparesAreNoPlaces → GivenSparesAreNext → AnswersKeepTheChain → MovesGoOn
moves_go_on no_places next_is_free keep_chain s f ops may = record {
  turn = record {
    job = f.job;
    in_flight = may.in_flight;
    work = may.work;
    told = tells_nothing s f.job.b f.job.value f.job.why f.job.owner f.job.chain f.job.step ops may.powered may.goes_on;
  };
  flight =
      by_step no_places next_is_free keep_chain s f.j f.job.b f.job.value f.job.why f.job.owner f.job.chain may.size may.valid f.job.step ops may.flight
      may.work may.powered may.goes_on
      (leaves_map s f.j [] ops (uncommitted s f.j f.job ops may.in_flight (going_uncommitted s f.job.b f.job.value f.job.why f.job.owner f.job.chain f.job.step ops may.goes_on)));
  in_hand = stays_in_hand f.j (job_after s f.job ops) (job_after s f.job ops).step s.back may.goes_on;
}
