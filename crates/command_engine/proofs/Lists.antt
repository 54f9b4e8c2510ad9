-- The blocks of a list that are to be moved.
use Rattle.std.proofs.Common.{◌≡◌, ℕ, zero, suc, ◌+◌, ◌-◌, ◌^◌, ◌<◌, ◌≤◌, Bool, true, false, ◌==◌, ◌||◌, nat_le, nat_lt, List, [], ◌∷◌, length, Some, None, refl, subst, arith, eq-eqb}
use Rattle.std.specs.Prelude.{Option, IfSome, slice_get, drop, max, get_or, if◌then◌else◌}
use Rattle.std.specs.List.{list_any, position, position_or_len}
use Rattle.std.proofs.Math.Nat.{max-le, le-max_left, le-max_right}
use Rattle.std.proofs.lemmas.Bool.{leb-false, lt-ltb, ltb-true, ltb-false}
use Rattle.std.proofs.lemmas.Option.{slice_get_within, get_or_from_slice_get}
use Rattle.std.proofs.lemmas.List.Folds.{list_any_at}
use Rattle.std.proofs.lemmas.List.Sums.{fails_before_first}
use Rattle.disk_base.specs.declared.address.Lba.{Lba}
use Rattle.disk_base.specs.declared.stage.Stage.{Stage}
use Rattle.read_recovery.specs.Stages.{next_stage}
use Rattle.cdb_reader.specs.declared.plan.Moving as moving
use Rattle.cdb_reader.specs.declared.plan.Plan.TheVariants.{Moving}
use Rattle.cdb_reader.specs.declared.plan.Deed.TheVariants as deed
use Rattle.cdb_reader.specs.Plan.{next, blocks_left}
use Rattle.cdb_reader.specs.Reassign.{some_past}
use Rattle.command_engine.specs.declared.step.Step.{Step}
use Rattle.command_engine.specs.declared.step.Step.TheVariants as step
use Rattle.command_engine.specs.declared.step.Step.TheVariants.{Trying}
use Rattle.command_engine.specs.Need.{IsBelow, in_hand, need_at_move, taking_block, end_of_list}
use Rattle.command_engine.specs.Answers.{past}

-- each block of a list is below its end
pub below : (blocks : List Lba) (k : ℕ) (b : Lba) → slice_get blocks k ≡ Some b → b.0 < end_of_list blocks
below [] k b is = absurd (cc)
below (c ∷ blocks) zero b is =
    let same : c ≡ b = cc in subst (λ (x : Lba). x.0 < max (c.0 + 1) (end_of_list blocks)) same (omega (arith, le-max_left (c.0 + 1) (end_of_list blocks)))
below (c ∷ blocks) (suc k) b is = omega (arith, below blocks k b is, le-max_right (c.0 + 1) (end_of_list blocks))

first_below : (b : Lba) (capacity end : ℕ) (is_past others : Bool) → nat_le capacity b.0 ≡ is_past → (is_past || others) ≡ false → (others ≡ false → end ≤ capacity) → max (b.0 + 1) end ≤ capacity
first_below b capacity end true others is h rest = absurd (cc)
first_below b capacity end false others is h rest = max-le (omega (arith, leb-false capacity b.0 is)) (rest h)

-- where none of them is past a capacity, the list ends there
pub none_past : (blocks : List Lba) (capacity : ℕ) → some_past blocks capacity ≡ false → end_of_list blocks ≤ capacity
none_past [] capacity h = omega arith
none_past (b ∷ blocks) capacity h =
    first_below b capacity (end_of_list blocks) (nat_le capacity b.0) (some_past blocks capacity) refl h (none_past blocks capacity)

need_below : (blocks : List Lba) (k : ℕ) (b : Lba) (stage : Option Stage) → slice_get blocks k ≡ Some b → IsBelow (end_of_list blocks) (taking_block b true stage)
need_below blocks k b None is = tt
need_below blocks k b (Some stage) is = below blocks k b is

-- the block that a list needs next is below its end
pub list_below : (m : moving.Moving) (moved : ℕ) (o : Option Lba) (step : Step) → in_hand m moved ≡ o → IsBelow (end_of_list m.blocks) (need_at_move o step)
list_below m moved None step hand = tt
list_below m moved (Some b) (Trying p) hand = need_below m.blocks moved b (next_stage p) hand
list_below m moved (Some b) (step.Moving why) hand = below m.blocks moved b hand
list_below m moved (Some b) other hand = tt

-- the address of the block in hand fits sense data
pub hand_named : (m : moving.Moving) (moved : ℕ) (o : Option Lba) → in_hand m moved ≡ o → end_of_list m.blocks ≤ 2 ^ 32 → IfSome o (λ b. b.0 < 2 ^ 32)
hand_named m moved None hand addresses = tt
hand_named m moved (Some b) hand addresses = omega (arith, below m.blocks moved b hand, addresses)

-- a block of a list is one of those behind the first ones
behind : (blocks : List Lba) (first k : ℕ) (b : Lba) → slice_get blocks k ≡ Some b → first ≤ k → slice_get (drop first blocks) (k - first) ≡ Some b
behind blocks zero k b is low = let same : k ≡ k - 0 = omega arith in subst (λ n. slice_get blocks n ≡ Some b) same is
behind [] (suc first) k b is low = absurd (cc)
behind (c ∷ blocks) (suc first) zero b is low = absurd (omega (arith, low))
behind (c ∷ blocks) (suc first) (suc k) b is low =
    let same : k - first ≡ suc k - suc first = omega arith in
    subst (λ n. slice_get (drop first blocks) n ≡ Some b) same (behind blocks first k b is (omega (arith, low)))

not_behind : {X : Type 0} (p : X → Bool) (xs : List X) (k : ℕ) (x : X) (before : Bool) → nat_lt k (position_or_len p xs) ≡ before → p (get_or xs k x) ≡ true → position_or_len p xs ≤ k
not_behind p xs k x true is passes = absurd (cc (passes, fails_before_first p xs k x (omega (arith, ltb-true k (position_or_len p xs) is))))
not_behind p xs k x false is passes = omega (arith, ltb-false k (position_or_len p xs) is)

-- the first place in a list that passes a test isn't behind one that does
pub first_place : {X : Type 0} (p : X → Bool) (xs : List X) (k : ℕ) (x : X) → slice_get xs k ≡ Some x → p x ≡ true → (i : ℕ) × ((position p xs ≡ Some i) × (i ≤ k))
first_place p xs k x is passes =
    let there : p (get_or xs k x) ≡ true = rw (get_or_from_slice_get xs k x x is) passes in
    let low : position_or_len p xs ≤ k = not_behind p xs k x (nat_lt k (position_or_len p xs)) refl there in
    (position_or_len p xs, (rw (lt-ltb (position_or_len p xs) (length xs) (omega (arith, low, slice_get_within xs k x is))) refl, low))

-- the place of the block in hand among those left
place_left : (m : moving.Moving) (moved : ℕ) (b : Lba) → in_hand m moved ≡ Some b → m.hardened ≤ moved
    → (i : ℕ) × ((position (λ block. block.0 == b.0) (blocks_left m) ≡ Some i) × (i ≤ moved - m.hardened))
place_left m moved b hand low =
    first_place (λ block. block.0 == b.0) (blocks_left m) (moved - m.hardened) b (behind m.blocks m.hardened moved b hand low) (eq-eqb b.0 b.0 refl)

-- the block in hand may be hardened by the plan
pub may_harden : (m : moving.Moving) (moved : ℕ) (b : Lba) → in_hand m moved ≡ Some b → m.hardened ≤ moved → next (Moving m) (deed.Hardened b) ≡ Some (past m (Some b))
may_harden m moved b hand low = let place = place_left m moved b hand low in rw place.1.0 refl

-- what a list owes then: those before the block are moved, too
pub past_is : (m : moving.Moving) (moved : ℕ) (b : Lba) (hardens : Bool) → in_hand m moved ≡ Some b → m.hardened ≤ moved
    → (n : ℕ) × ((past m (if hardens then Some b else None) ≡ Moving (record m { hardened = n })) × (n ≤ moved + 1))
past_is m moved b true hand low =
    let place = place_left m moved b hand low in (m.hardened + place.0 + 1, (rw place.1.0 refl, omega (arith, place.1.1, low)))
past_is m moved b false hand low = (m.hardened, (refl, omega (arith, low)))

-- a test that the block in hand passes is passed by one of those left
pub one_left : (p : Lba → Bool) (m : moving.Moving) (moved : ℕ) (b : Lba) → in_hand m moved ≡ Some b → m.hardened ≤ moved → p b ≡ true → list_any p (blocks_left m) ≡ true
one_left p m moved b hand low passes =
    let at = behind m.blocks m.hardened moved b hand low in
    list_any_at p (blocks_left m) (moved - m.hardened) b (slice_get_within (blocks_left m) (moved - m.hardened) b at)
    (rw (get_or_from_slice_get (blocks_left m) (moved - m.hardened) b b at) passes)
