-- What leaves a move in flight alone: entries that are on other blocks and of other commands, and operations that write other sectors.
use Rattle.std.proofs.Common.{◌≡◌, ◌≢◌, ◌∙◌, ap, sym, refl, subst, ℕ, ◌≤◌, Bool, true, false, cond, List, [], ◌∷◌, ◌++◌, map, get_or, Option, Some, None, arith, eq-eqb}
use Rattle.std.specs.Prelude.{◌==◌, ◌&&◌, if◌then◌else◌, not, find, All, fold}
use Rattle.std.specs.List.{list_any, list_all}
use Rattle.std.specs.Option.{option_map}
use Rattle.std.proofs.lemmas.Bool.{true≢false, and_from}
use Rattle.std.proofs.lemmas.List.Elements.{All-nil, All-cons}
use Rattle.disk_base.specs.declared.address.Lba.{Lba}
use Rattle.disk_base.specs.declared.address.Psn.{Psn}
use Rattle.disk_base.specs.declared.stage.MoveWhy.{MoveWhy}
use Rattle.disk_base.specs.declared.stage.MoveWhy.TheVariants as why
use Rattle.mode_pages.specs.declared.settings.Settings.{Settings}
use Rattle.platter_model.specs.declared.op.Op.{Op}
use Rattle.platter_model.specs.declared.world.World.{World}
use Rattle.platter_model.specs.declared.world.World.TheVariants as world
use Rattle.platter_model.specs.Sector.{meant, writes}
use Rattle.platter_model.specs.TrueLog.{strays}
use Rattle.geometry_map.specs.DefectMap.{DefectMap, place_of}
use Rattle.geometry_map.specs.Chains.{IsFreeSpare}
use Rattle.move_jobs.specs.Job.{spare_of}
use Rattle.block_machine.specs.declared.entry.Entry.{Entry}
use Rattle.block_machine.specs.declared.entry.Entry.TheVariants.{Ended, Aborted, Tick}
use Rattle.block_machine.specs.declared.turn.Label.{Label}
use Rattle.block_machine.specs.declared.turn.Label.TheVariants.{Arrive, Work, Job, Scan, Destage}
use Rattle.block_machine.specs.declared.turn.Label.TheVariants as label
use Rattle.block_machine.specs.State.{State, owed_by}
use Rattle.block_machine.specs.Steps.{entry_after, entries_after}
use Rattle.block_machine.specs.Turns.{is_answered}
use Rattle.move_table.specs.declared.flight.Flight.{Flight}
use Rattle.move_table.specs.Table.{is_of_write}
use Rattle.drive_scene.specs.Scene.{Scene, capacity}
use Rattle.drive_scene.specs.After.{with_arrival, settings_by}
use Rattle.drive_scene.specs.Holds.{holder_besides, goes_on_with}
use Rattle.drive_scene.specs.Flights.{IsFlight, LeavesFlight, LeavesOwner}
use Rattle.drive_scene.specs.GoodTurn.{IsWorldStep, is_on}
use Rattle.drive_scene.specs.InFlight.{is_of_move}
use Rattle.drive_scene.proofs.Holders.{no_move}
use Rattle.drive_scene.proofs.Leaving.{windows_left, settings_left, on_no_block}
use Rattle.drive_scene.proofs.OtherEntries.{IsUntouched, untouched_then, is_cut}
use Rattle.drive_scene.proofs.OtherOps.{meant_stays, strays_more}

-- an owner that keeps its window and its mode values, and what it owes where the move carries its data
pub leaves_owner : (s u : Scene) (why : MoveWhy) (owner : Option ℕ)
    → ((q : ℕ) → owner ≡ Some q → (u.windows q ≡ s.windows q) × (u.settings q ≡ s.settings q))
    → ((q : ℕ) → is_of_write why ≡ true → owner ≡ Some q → owed_by u.hist q ≡ owed_by s.hist q) → LeavesOwner s u why owner
leaves_owner s u why.Heavy owner kept owes = tt
leaves_owner s u why.Reassign owner kept owes = tt
leaves_owner s u why.Dirty owner kept owes = tt
leaves_owner s u why.GivenUp None kept owes = tt
leaves_owner s u why.GivenUp (Some q) kept owes = kept q refl
leaves_owner s u why.Write None kept owes = tt
leaves_owner s u why.Write (Some q) kept owes = owes q refl refl

-- operations and entries that leave a move in flight
pub record Leaves (s u : Scene) (ops : List Op) (f : Flight) : Type 0 where
  pub block : u.hist.blocks f.job.b.0 ≡ s.hist.blocks f.job.b.0
  pub at_place : list_any (writes (place_of s.map f.job.b)) ops ≡ false
  pub at_spare : list_any (writes (spare_of f.job)) ops ≡ false
  pub owner : LeavesOwner s u f.job.why f.job.owner

-- the map stays, too
pub alone : (s u : Scene) (ops : List Op) (f : Flight) → u.size ≡ s.size → u.map ≡ s.map → u.back.opened ≡ s.back.opened → u.ops ≡ s.ops ++ ops → IsFlight s f
    → Leaves s u ops f → LeavesFlight s u f
alone s u ops f size map opened more is leaves = record {
  size = size;
  opened = omega (arith, opened);
  no_fewer = subst (λ (os : List Op). strays s.ops ≤ strays os) (sym more) (strays_more s.ops ops);
  block = leaves.block;
  place = ap (λ (m : DefectMap). place_of m f.job.b) map;
  at_place = ap (meant (place_of s.map f.job.b)) more ∙ meant_stays (place_of s.map f.job.b) s.ops ops leaves.at_place;
  at_spare = ap (meant (spare_of f.job)) more ∙ meant_stays (spare_of f.job) s.ops ops leaves.at_spare;
  spares = subst (λ (m : DefectMap). All (λ pair. IsFreeSpare m pair.new) f.job.chain) (sym map) is.spares;
  owner = leaves.owner;
}

-- minutes pass
abbrev is_tick : Entry → Bool
is_tick (Tick n) = true
is_tick other = false

pub ticked : (capacity : ℕ) (w : World) (h : State) (q : ℕ) (entries : List Entry) → list_all is_tick entries ≡ true
    → IsUntouched h (entries_after capacity (label.World w) h entries) q
ticked capacity w h q [] is = record { member = refl; duty = refl }
ticked capacity w h q (Tick n ∷ entries) is =
    let next : State = entry_after capacity (label.World w) h (Tick n) in
    untouched_then h next (entries_after capacity (label.World w) next entries) q (record { member = refl; duty = refl }) (ticked capacity w next q entries is)
ticked capacity w h q (e ∷ entries) is = absurd (cc)

pub ticked_blocks : (capacity : ℕ) (w : World) (h : State) (n : ℕ) (entries : List Entry) → list_all is_tick entries ≡ true
    → (entries_after capacity (label.World w) h entries).blocks n ≡ h.blocks n
ticked_blocks capacity w h n [] is = refl
ticked_blocks capacity w h n (Tick k ∷ entries) is = ticked_blocks capacity w (entry_after capacity (label.World w) h (Tick k)) n entries is
ticked_blocks capacity w h n (e ∷ entries) is = absurd (cc)

pub ticked_settings : (now : Settings) (each : ℕ → Settings) (entries : List Entry) → list_all is_tick entries ≡ true → fold (settings_by now) each entries ≡ each
ticked_settings now each [] is = refl
ticked_settings now each (Tick k ∷ entries) is = ticked_settings now each entries is
ticked_settings now each (e ∷ entries) is = absurd (cc)

minutes : (off : Bool) (n : ℕ) → list_all is_tick (if off then [] else Tick n ∷ []) ≡ true
minutes true n = refl
minutes false n = refl

-- what happens from outside tells of minutes alone, and writes nothing
pub from_outside : (off : Bool) (w : World) (entries : List Entry) (ops : List Op) → IsWorldStep off w entries ops
    → (list_all is_tick entries ≡ true) × ((p : Psn) → list_any (writes p) ops ≡ false)
from_outside off (world.Damage d) entries ops step = (ap (list_all is_tick) step.0, λ p. ap (list_any (writes p)) step.1)
from_outside off (world.Fault p) entries ops step = (ap (list_all is_tick) step.0, λ p. ap (list_any (writes p)) step.1)
from_outside off (world.Minutes n) entries ops step = (ap (list_all is_tick) step.0 ∙ minutes off n, λ p. ap (list_any (writes p)) step.1)
from_outside off (world.Arm k tear) entries ops step = absurd step
from_outside off world.Cut entries ops step = absurd step
from_outside off world.Power entries ops step = absurd step

-- entries that are on no block, start no command and leave windows
pub record IsMere (entries : List Entry) : Type 0 where
  pub off : (b : Lba) → list_any (is_on b) entries ≡ false
  pub uncut : list_any is_cut entries ≡ false
  pub windows : (each : ℕ → List Op) → fold with_arrival each entries ≡ each
  pub settings : (now : Settings) (each : ℕ → Settings) → fold (settings_by now) each entries ≡ each

-- those behind a command that comes, and those behind a function
pub answered : (full : Bool) (c : ℕ) (rest : List Entry) → is_answered full c rest ≡ true → IsMere rest
answered full c [] is = record { off = λ b. refl; uncut = refl; windows = λ each. refl; settings = λ now each. refl }
answered true c (Ended d reply ∷ []) is = record { off = λ b. refl; uncut = refl; windows = λ each. refl; settings = λ now each. refl }
answered full c rest is = absurd (cc)

aborts_uncut : (cs : List ℕ) → list_any is_cut (map Aborted cs) ≡ false
aborts_uncut [] = refl
aborts_uncut (c ∷ cs) = aborts_uncut cs

pub aborts : (cs : List ℕ) → IsMere (map Aborted cs)
aborts cs = record {
  off = λ b. on_no_block b cs;
  uncut = aborts_uncut cs;
  windows = λ each. windows_left each cs;
  settings = λ now each. settings_left now each cs;
}

-- what passes a test is found
none_found : (p : Flight → Bool) (flights : List Flight) → find p flights ≡ None → All (λ f. p f ≡ false) flights
none_found p [] none = All-nil (λ (f : Flight). p f ≡ false)
none_found p (f ∷ fs) none = by (p f) refl none (λ later. none_found p fs later)
  where
    by : (t : Bool) → p f ≡ t → cond t (Some f) (find p fs) ≡ None → (find p fs ≡ None → All (λ g. p g ≡ false) fs) → All (λ g. p g ≡ false) (f ∷ fs)
    by true is found rest = absurd (cc)
    by false is found rest = All-cons (λ (g : Flight). p g ≡ false) f fs is (rest found)

nobody : (o : Option Flight) → option_map (λ (f : Flight). f.j) o ≡ None → o ≡ None
nobody None is = refl
nobody (Some f) is = absurd (cc)

goes_on_with_none : (l : Label) (j : ℕ) → is_of_move l ≡ false → goes_on_with l j ≡ false
goes_on_with_none (Job k) j other = absurd (true≢false other)
goes_on_with_none l j other = refl

-- a move in flight holds its block in each turn of anything but moves
pub flights_hold : (s : Scene) (l : Label) → is_of_move l ≡ false → All (λ f. holder_besides s l f.job.b.0 ≢ None) s.back.flights
flights_hold s l other k d within free =
    let f : Flight = get_or s.back.flights k d in
    let p : Flight → Bool = λ g. not (goes_on_with l g.j) && g.job.b.0 == f.job.b.0 in
    let none : find p s.back.flights ≡ None = nobody (find p s.back.flights) (no_move s l f.job.b.0 free) in
    true≢false (sym (and_from (not (goes_on_with l f.j)) (f.job.b.0 == f.job.b.0) (ap not (goes_on_with_none l f.j other)) (eq-eqb f.job.b.0 f.job.b.0 refl))
    ∙ none_found p s.back.flights none k d within)
