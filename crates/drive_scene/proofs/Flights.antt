-- Moves in flight stay so while they are left alone, and come to be ready for their commit.
use Rattle.std.proofs.Common.{◌≡◌, ◌∙◌, ap, sym, subst, ℕ, ◌<◌, true, List, Option, Some, None, arith, refl}
use Rattle.std.specs.Option.{option_map, option_and_then, is_some}
use Rattle.std.specs.Prelude.{length}
use Rattle.disk_base.specs.declared.address.Lba.{Lba}
use Rattle.disk_base.specs.declared.address.Psn.{Psn}
use Rattle.disk_base.specs.declared.block.Value.{Value}
use Rattle.disk_base.specs.declared.stage.MoveWhy.{MoveWhy}
use Rattle.disk_base.specs.declared.stage.MoveWhy.TheVariants as why
use Rattle.read_recovery.specs.Stages.{stages_of}
use Rattle.mode_pages.specs.declared.settings.Settings.{Settings}
use Rattle.task_set.specs.declared.member.Member.{Member}
use Rattle.task_set.specs.Members.{member_of}
use Rattle.platter_model.specs.declared.op.Op.{Op}
use Rattle.platter_model.specs.Sector.{meant}
use Rattle.geometry_map.specs.declared.size.Size.{Size}
use Rattle.geometry_map.specs.Size.{capacity_of}
use Rattle.geometry_map.specs.DefectMap.{place_of}
use Rattle.geometry_map.specs.Chains.{IsChain}
use Rattle.move_jobs.specs.declared.step.JobStep.TheVariants.{Writing, Committing}
use Rattle.sector_store.specs.Stored.{stored, value_in}
use Rattle.cdb_reader.specs.declared.plan.Plan.{Plan}
use Rattle.cdb_reader.specs.declared.plan.Plan.TheVariants as plan
use Rattle.block_machine.specs.Blocks.{Blocks, is_dirty, newest}
use Rattle.block_machine.specs.State.{State, owed_by}
use Rattle.move_table.specs.declared.flight.Flight.{Flight}
use Rattle.drive_scene.specs.Scene.{Scene}
use Rattle.drive_scene.specs.Evidence.{FailedBelow}
use Rattle.drive_scene.specs.Carried.{IsValueOf, IsAsStored, HasOwner}
use Rattle.drive_scene.specs.Flights.{IsOwners, LeavesOwner, FlightsStay, FlightsAreReadyToCommit}
use Rattle.drive_scene.proofs.Tables.{within_map}

-- what the history says of a value is about its block alone
pub value_same : (blocks after : Blocks) (why : MoveWhy) (b : Lba) (v : Value) → after b.0 ≡ blocks b.0 → IsValueOf blocks why b v → IsValueOf after why b v
value_same blocks after why.Heavy b v same is = ap is_dirty same ∙ is
value_same blocks after why.Reassign b v same is = ap is_dirty same ∙ is
value_same blocks after why.Dirty b v same is = ap newest same ∙ is
value_same blocks after why.GivenUp b v same is = (ap is_dirty same ∙ is.0, is.1)
value_same blocks after why.Write b v same is = is

-- an owner that keeps what a move stands on
pub owner_same : (s u : Scene) (why : MoveWhy) (b : Lba) (v : Value) (owner : Option ℕ) → place_of u.map b ≡ place_of s.map b → LeavesOwner s u why owner
    → IsOwners s why b v owner → IsOwners u why b v owner
owner_same s u why.Heavy b v owner place leaves is = tt
owner_same s u why.Reassign b v owner place leaves is = tt
owner_same s u why.Dirty b v owner place leaves is = tt
owner_same s u why.GivenUp b v None place leaves is = is
owner_same s u why.GivenUp b v (Some c) place leaves is =
    let Failed : List Op → Psn → Settings → Type 0 = λ window p settings. FailedBelow window p settings.retry (length (stages_of settings.retry)) in
    subst (λ (w : List Op). Failed w (place_of u.map b) (u.settings c)) (sym leaves.0)
    (subst (λ (p : Psn). Failed (s.windows c) p (u.settings c)) (sym place)
    (subst (λ (x : Settings). Failed (s.windows c) (place_of s.map b) x) (sym leaves.1) is))
owner_same s u why.Write b v None place leaves is = is
owner_same s u why.Write b v (Some c) place leaves is =
    record { w = is.w; owes = leaves ∙ is.owes; at_block = is.at_block; left = is.left; unput = is.unput; is_data = is.is_data }

-- an owner of whom nothing changed
pub owner_stays : (s u : Scene) (why : MoveWhy) (owner : Option ℕ) → u.windows ≡ s.windows → u.settings ≡ s.settings → u.hist ≡ s.hist → LeavesOwner s u why owner
owner_stays s u why.Heavy owner windows settings hist = tt
owner_stays s u why.Reassign owner windows settings hist = tt
owner_stays s u why.Dirty owner windows settings hist = tt
owner_stays s u why.GivenUp None windows settings hist = tt
owner_stays s u why.GivenUp (Some c) windows settings hist = (ap (λ (w : ℕ → List Op). w c) windows, ap (λ (x : ℕ → Settings). x c) settings)
owner_stays s u why.Write None windows settings hist = tt
owner_stays s u why.Write (Some c) windows settings hist = ap (λ (h : State). owed_by h c) hist

pub flights_stay : FlightsStay
flights_stay s u f is leaves =
    let b : Lba = f.job.b in
    let same : stored u.map u.ops b ≡ stored s.map s.ops b = ap (value_in b) (ap (λ (p : Psn). meant p u.ops) leaves.place ∙ leaves.at_place) in
    record {
      numbered = omega (arith, is.numbered, leaves.opened);
      underway = is.underway;
      below = subst (λ (z : Size). b.0 < capacity_of z) (sym leaves.size) is.below;
      chain = subst (λ (p : Psn). IsChain p f.job.chain) (sym leaves.place) is.chain;
      begun = is.begun;
      spares = leaves.spares;
      written = λ later. leaves.at_spare ∙ is.written later;
      value = value_same s.hist.blocks u.hist.blocks f.job.why b f.job.value leaves.block is.value;
      as_stored = λ none. subst (λ (x : Value). IsAsStored f.job.why f.job.value x) (sym same) (is.as_stored (omega (arith, none, leaves.no_fewer)));
      owned = owner_same s u f.job.why b f.job.value f.job.owner leaves.place leaves.owner is.owned;
    }

-- a command that owes something is in
owing_is_in : (s : Scene) (c : ℕ) (p : Plan) → owed_by s.hist c ≡ Some p → is_some (option_map (λ (m : Member). c) (member_of s.hist.set c)) ≡ true
owing_is_in s c p owes = by (member_of s.hist.set c) owes
  where
    by : (o : Option Member) → option_and_then (λ m. (s.hist.duties c).owes) o ≡ Some p → is_some (option_map (λ (m : Member). c) o) ≡ true
    by None none = absurd (cc)
    by (Some m) some = refl

pub owner_is_in : (s : Scene) (f : Flight) (why : MoveWhy) (owner : Option ℕ) → IsOwners s why f.job.b f.job.value owner
    → HasOwner why (option_and_then (λ c. option_map (λ m. c) (member_of s.hist.set c)) owner)
owner_is_in s f why.Heavy owner is = tt
owner_is_in s f why.Reassign owner is = tt
owner_is_in s f why.Dirty owner is = tt
owner_is_in s f why.GivenUp owner is = tt
owner_is_in s f why.Write None is = absurd is
owner_is_in s f why.Write (Some c) is = owing_is_in s c (plan.Writing is.w) is.owes

pub flights_are_ready : FlightsAreReadyToCommit
flights_are_ready s f size standing none is committing = record {
  valid = standing.present.there.valid;
  below = within_map s f.job.b size is.below;
  chain_is = is.chain;
  begun = is.begun;
  spares = is.spares;
  written = is.written (λ writing. no_writing (sym committing ∙ writing));
  stands = λ q below. standing.stands none s.map standing.present.may_be q below;
  carried = (is.value, is.as_stored none);
  owned = owner_is_in s f f.job.why f.job.owner is.owned;
}
  where
    no_writing : Committing ≡ Writing → ⊥
    no_writing same = cc
