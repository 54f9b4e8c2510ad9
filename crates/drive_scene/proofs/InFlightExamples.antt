-- Moves that may be in flight together, and some that may not; and which turns wait for one.
use Rattle.std.proofs.Common.{◌≡◌, ◌≢◌, ap, refl, ℕ, ◌<◌, ◌≤◌, true, false, true≢false, List, [], ◌∷◌, Option, Some, None, arith}
use Rattle.std.specs.Prelude.{All, AllPairs}
use Rattle.std.proofs.lemmas.List.Elements.{All-nil, All-cons, All-from_recursion}
use Rattle.std.proofs.lemmas.List.Kept.{AllPairs-cons}
use Rattle.disk_base.specs.declared.address.Lba.{Lba}
use Rattle.disk_base.specs.declared.address.Psn.{Psn}
use Rattle.disk_base.specs.declared.block.Value.{Value}
use Rattle.disk_base.specs.declared.stage.MoveWhy.TheVariants as why
use Rattle.platter_model.specs.declared.op.Op.{Op}
use Rattle.geometry_map.specs.declared.pair.Pair.{Pair}
use Rattle.geometry_map.specs.DefectMap.{sector, place_of, HaveOwnSpares}
use Rattle.geometry_map.specs.Chains.{IsNoNew, IsFreeSpare}
use Rattle.move_jobs.specs.declared.step.JobStep.TheVariants.{Writing}
use Rattle.move_jobs.specs.Job.{Job, job_of, pair}
use Rattle.sector_store.specs.Stored.{stored}
use Rattle.block_machine.specs.declared.entry.Entry.{Entry}
use Rattle.block_machine.specs.declared.turn.Label.TheVariants as label
use Rattle.block_machine.specs.Attentions.{attentions_at_start}
use Rattle.block_machine.specs.State.{state_at_start}
use Rattle.move_table.specs.declared.flight.Flight.{Flight}
use Rattle.move_table.specs.Table.{flight}
use Rattle.drive_scene.specs.Background.{background_at_start}
use Rattle.drive_scene.specs.Scene.{Scene, beat}
use Rattle.drive_scene.specs.Evidence.{lba}
use Rattle.drive_scene.specs.Flights.{IsFlight, AreApart}
use Rattle.drive_scene.specs.GoodTurn.{GoodTurn, waits_for_move}
use Rattle.drive_scene.specs.InFlight.{AreInFlight, HasCome, HaveOwnOwners}
use Rattle.drive_scene.proofs.MoveExamples.{small}

-- a block that was found moves from a sector to a spare
abbrev move_of : Value → ℕ → ℕ → ℕ → Option ℕ → Job
move_of v b old new owner = job_of (lba b) v why.Reassign owner (pair (sector old) (sector new) ∷ []) Writing

-- command 3 moves block 5 to sector 44, and command 4 block 6 to sector 45
abbrev first : Value → Flight
first v = flight 1 (move_of v 5 21 44 (Some 3))

abbrev second : Value → Flight
second v = flight 2 (move_of v 6 22 45 (Some 4))

number_of : Option ℕ → ℕ
number_of None = 0
number_of (Some n) = n

apart : (v w : Value) → AreApart (first v) (second w)
apart v w = record {
  blocks = λ same. absurd (let number : 6 ≡ 5 = ap (λ (b : Lba). b.0) same in omega (arith, number));
  spares = All-from_recursion (λ (x : Pair). IsNoNew x.new (pair (sector 21) (sector 44) ∷ [])) (pair (sector 22) (sector 45) ∷ []) (
    All-from_recursion (λ (x : Pair). x.new ≢ sector 45) (pair (sector 21) (sector 44) ∷ [])
        ((λ same. absurd (let number : 44 ≡ 45 = ap (λ (p : Psn). p.0) same in omega (arith, number))), tt),
    tt,
  );
}

own_owners : (v w : Value) → HaveOwnOwners (first v) (second w)
unfolding number_of
own_owners v w c of_first of_second = absurd (omega (arith, ap number_of of_first, ap number_of of_second))

-- the same block, the same spare, the same command
one_block : (v w : Value) → AreApart (first v) (flight 2 (move_of w 5 22 45 (Some 4))) → ⊥
one_block v w is = is.blocks refl

one_spare : (v w : Value) → AreApart (first v) (flight 2 (move_of w 6 22 44 (Some 4))) → ⊥
one_spare v w is = is.spares 0 (pair (sector 0) (sector 0)) (omega arith) 0 (pair (sector 0) (sector 0)) (omega arith) refl

one_owner : (v w : Value) → HaveOwnOwners (first v) (flight 2 (move_of w 6 22 45 (Some 3))) → ⊥
one_owner v w is = is 3 refl refl

-- a spare twice in a chain
twice : AllPairs HaveOwnSpares (pair (sector 21) (sector 44) ∷ pair (sector 44) (sector 44) ∷ []) → ⊥
twice own = own 0 1 (pair (sector 0) (sector 0)) (omega arith) (omega arith) refl

-- on a small drive from the factory, to which five commands came, both carry what is stored of their blocks
abbrev with_both : Scene → Scene
with_both s = record s {
  size = small.size;
  map = small;
  hist = record (state_at_start attentions_at_start) { arrived = 5 };
  back = record background_at_start { opened = 2; flights = first (stored small s.ops (lba 5)) ∷ second (stored small s.ops (lba 6)) ∷ [] };
}

found_flight : (s : Scene) (j b old new : ℕ) (owner : Option ℕ) → j ≤ 2 → b < 28 → sector old ≡ place_of small (lba b) → IsFreeSpare small (sector new)
    → IsFlight (with_both s) (flight j (move_of (stored small s.ops (lba b)) b old new owner))
found_flight s j b old new owner numbered below at free = record {
  numbered = numbered;
  underway = refl;
  below = below;
  chain = (at, tt);
  begun = λ none. cc;
  spares = All-from_recursion (λ (x : Pair). IsFreeSpare small x.new) (pair (sector old) (sector new) ∷ []) (free, tt);
  written = λ never. absurd (never refl);
  value = refl;
  as_stored = λ none. refl;
  owned = tt;
}

once : (x : Pair) → AllPairs HaveOwnSpares (x ∷ [])
once x = AllPairs-cons HaveOwnSpares x [] (All-nil (HaveOwnSpares x)) (λ i k d less within. absurd (omega arith))

both_in_flight : (s : Scene) → AreInFlight (with_both s)
unfolding number_of
both_in_flight s =
    let one : Flight = first (stored small s.ops (lba 5)) in
    let other : Flight = second (stored small s.ops (lba 6)) in
    let each : (P : Flight → Type 0) → P one → P other → All P (one ∷ other ∷ []) = λ P x y. All-from_recursion P (one ∷ other ∷ []) (x, (y, tt)) in
    let two : (R : Flight → Flight → Type 0) → R one other → AllPairs R (one ∷ other ∷ []) =
    λ R is. AllPairs-cons R one (other ∷ []) (All-cons (R one) other [] is (All-nil (R one)))
    (AllPairs-cons R other [] (All-nil (R other)) (λ i k d less within. absurd (omega arith))) in
    record {
      flights = each (IsFlight (with_both s)) (found_flight s 1 5 21 44 (Some 3) (omega arith) (omega arith) refl (record { spare = refl; in_no_pair = refl }))
          (found_flight s 2 6 22 45 (Some 4) (omega arith) (omega arith) refl (record { spare = refl; in_no_pair = refl }));
      ascend = two (λ f g. f.j < g.j) (omega arith);
      apart = two AreApart (apart (stored small s.ops (lba 5)) (stored small s.ops (lba 6)));
      owners = two HaveOwnOwners (own_owners (stored small s.ops (lba 5)) (stored small s.ops (lba 6)));
      chains = each (λ f. AllPairs HaveOwnSpares f.job.chain) (once (pair (sector 21) (sector 44))) (once (pair (sector 22) (sector 45)));
      came = each (λ f. HasCome 5 f.job.owner) (λ c opened. omega (arith, ap number_of opened)) (λ c opened. omega (arith, ap number_of opened));
      room = omega arith;
    }

-- while it is in flight command 3 waits, and no other turn does
abbrev with_first : Scene → Value → Scene
with_first s v = record s { back = record s.back { flights = first v ∷ [] } }

owner_waits : (s : Scene) (v : Value) → waits_for_move (with_first s v) (label.Work 3) ≡ true
owner_waits s v = refl

another_works : (s : Scene) (v : Value) → waits_for_move (with_first s v) (label.Work 4) ≡ false
another_works s v = refl

move_goes_on : (s : Scene) (v : Value) → waits_for_move (with_first s v) (label.Job 1) ≡ false
move_goes_on s v = refl

no_work : (s : Scene) (v : Value) (entries : List Entry) (ops : List Op) → GoodTurn (with_first s v) (beat (label.Work 3) entries ops) → ⊥
no_work s v entries ops good = true≢false good.waits
