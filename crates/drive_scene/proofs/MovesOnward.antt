-- Moves in flight that are apart, where an answer leaves one of them, and those that entries leave.
use Rattle.std.proofs.Common.{◌≡◌, ◌≢◌, ◌⊎◌, inl, inr, ap, sym, refl, subst, ℕ, ◌+◌, ◌≤◌, Bool, true, false, List, [], ◌∷◌, ◌++◌, length, Option, Some, None, arith}
use Rattle.std.specs.Prelude.{All, AllPairs, fold}
use Rattle.disk_base.specs.declared.address.Psn.{Psn}
use Rattle.platter_model.specs.declared.op.Op.{Op}
use Rattle.geometry_map.specs.declared.limits.TheConstants.{PAIRS_MAX}
use Rattle.geometry_map.specs.DefectMap.{HaveOwnSpares, sector}
use Rattle.geometry_map.specs.Chains.{IsNoNew}
use Rattle.move_jobs.specs.declared.step.JobStep.{JobStep}
use Rattle.move_jobs.specs.declared.step.JobStep.TheVariants.{Writing, Checking, Committing, Over}
use Rattle.move_jobs.specs.Job.{Job, pair, spare_of, answered}
use Rattle.sector_store.specs.Shapes.{payload_on}
use Rattle.block_machine.specs.declared.entry.Entry.{Entry}
use Rattle.move_table.specs.declared.flight.Flight.{Flight}
use Rattle.drive_scene.specs.Background.{flights_by}
use Rattle.drive_scene.specs.Scene.{Scene}
use Rattle.drive_scene.specs.After.{window_of_owner}
use Rattle.move_table.specs.Table.{taken}
use Rattle.drive_scene.specs.MoveTurn.{answer_at, answer_if, is_written, reads_back, next_spare}
use Rattle.drive_scene.specs.Flights.{IsFlight, AreApart}
use Rattle.drive_scene.specs.InFlight.{AreInFlight, HasCome, HaveOwnOwners}
use Rattle.drive_scene.proofs.Tables.{put_at-other}
use Rattle.drive_scene.proofs.CommitTurns.{end_among}
use Rattle.drive_scene.proofs.OtherEntries.{all_left, pairs_left, taken_left}
use Rattle.drive_scene.proofs.MoveLists.{IsEarlier}

-- moves that are apart are so in either order
pub apart_turned : (f g : Flight) → AreApart f g → AreApart g f
apart_turned f g is = record {
  blocks = λ same. is.blocks (sym same);
  spares = λ k d within i e inside same. is.spares i e inside k d within (sym same);
}

pub owners_turned : (f g : Flight) → HaveOwnOwners f g → HaveOwnOwners g f
owners_turned f g is c of_g of_f = is c of_f of_g

pub other_spare : (f g : Flight) → f.job.chain ≢ [] → g.job.chain ≢ [] → AreApart f g → spare_of g.job ≢ spare_of f.job
other_spare f g some others apart same =
    let none : IsNoNew (spare_of g.job) f.job.chain = end_among (λ (p : Psn). IsNoNew p f.job.chain) (sector 0) g.job.chain others apart.spares in
    end_among (λ (p : Psn). p ≢ spare_of g.job) (sector 0) f.job.chain some none (sym same)

-- a window of no owner's
pub window_other : (owner : Option ℕ) (windows : ℕ → List Op) (q : ℕ) → ((c : ℕ) → owner ≡ Some c → q ≢ c) → window_of_owner owner windows q ≡ windows q
window_other None windows q other = refl
window_other (Some c) windows q other = put_at-other c q [] windows (other c refl)

-- what an answer leaves of a move: its chain has the next spare, or is as before
pub record IsOnward (s : Scene) (job x : Job) : Type 0 where
  pub block : x.b ≡ job.b
  pub owner : x.owner ≡ job.owner
  pub chain : (x.chain ≡ job.chain) ⊎ ((p : Psn) × (next_spare s ≡ Some p) × (x.chain ≡ job.chain ++ pair (spare_of job) p ∷ []))

onward_if : (s : Scene) (job : Job) (good : Bool) (next : Option Psn) → next_spare s ≡ next → IsOnward s job (answered job (answer_if good next))
onward_if s job true next is = record { block = refl; owner = refl; chain = inl refl }
onward_if s job false None is = record { block = refl; owner = refl; chain = inl refl }
onward_if s job false (Some p) is = record { block = refl; owner = refl; chain = inr (p, is, refl) }

pub onward : (s : Scene) (job : Job) (step : JobStep) (last : Option Op) → IsOnward s job (answered job (answer_at s job step last))
onward s job Writing last = onward_if s job (is_written last) (next_spare s) refl
onward s job Checking last = onward_if s job (reads_back (payload_on (spare_of job) job.b job.value) last) (next_spare s) refl
onward s job Committing last = record { block = refl; owner = refl; chain = inl refl }
onward s job (Over end) last = record { block = refl; owner = refl; chain = inl refl }

-- moves that will be in flight once entries dropped some
pub record AreThese (s u : Scene) (flights : List Flight) : Type 0 where
  pub each : All (IsFlight u) flights
  pub ascend : AllPairs IsEarlier flights
  pub apart : AllPairs AreApart flights
  pub owners : AllPairs HaveOwnOwners flights
  pub chains : All (λ f. AllPairs HaveOwnSpares f.job.chain) flights
  pub came : All (λ f. HasCome s.hist.arrived f.job.owner) flights
  pub room : length u.map.grown + length (taken flights) ≤ PAIRS_MAX

pub these_left : (s u : Scene) (flights : List Flight) (entries : List Entry) → u.back.flights ≡ fold flights_by flights entries → s.hist.arrived ≤ u.hist.arrived
    → AreThese s u flights → AreInFlight u
these_left s u flights entries is more these =
    let Pairs : (Flight → Flight → Type 0) → List Flight → Type 0 = λ R fs. AllPairs R fs in
    let came : All (λ (f : Flight). HasCome s.hist.arrived f.job.owner) u.back.flights =
    subst (λ (fs : List Flight). All (λ (f : Flight). HasCome s.hist.arrived f.job.owner) fs) (sym is)
    (all_left (λ (f : Flight). HasCome s.hist.arrived f.job.owner) flights entries these.came) in
    record {
      flights = subst (λ (fs : List Flight). All (IsFlight u) fs) (sym is) (all_left (IsFlight u) flights entries these.each);
      ascend = subst (Pairs IsEarlier) (sym is) (pairs_left IsEarlier flights entries these.ascend);
      apart = subst (Pairs AreApart) (sym is) (pairs_left AreApart flights entries these.apart);
      owners = subst (Pairs HaveOwnOwners) (sym is) (pairs_left HaveOwnOwners flights entries these.owners);
      chains = subst (λ (fs : List Flight). All (λ (f : Flight). AllPairs HaveOwnSpares f.job.chain) fs) (sym is)
          (all_left (λ (f : Flight). AllPairs HaveOwnSpares f.job.chain) flights entries these.chains);
      came = λ k d within c opened. omega (arith, came k d within c opened, more);
      room = omega (arith, these.room, taken_left flights entries, ap (λ (fs : List Flight). length (taken fs)) is);
    }
