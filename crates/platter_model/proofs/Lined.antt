-- The walk from a sector's newest flaw to its first, and the order in which the flaws are applied.
use Rattle.std.proofs.Common.{◌≡◌, ℕ, suc, ◌+◌, ◌<◌, ◌≤◌, Bool, true, false, List, [], ◌∷◌, ◌++◌, length, Option, Some, None, is_some, refl, sym, ◌∙◌, ap, subst, arith, append-nil, append_assoc, ℤ, get_or}
use Rattle.std.specs.List.{slice_get}
use Rattle.std.specs.Prelude.{if◌then◌else◌}
use Rattle.std.proofs.lemmas.Bool.{eqb-true}
use Rattle.std.proofs.lemmas.Option.{slice_get_read, slice_get_past}
use Rattle.std.proofs.lemmas.List.{take_all}
use Rattle.std.proofs.lemmas.List.Sums.{fold-append}
use Rattle.disk_base.specs.declared.address.Psn.{Psn}
use Rattle.platter_model.specs.declared.damage.Attempt.{Attempt}
use Rattle.platter_model.specs.declared.op.Op.{Op}
use Rattle.platter_model.specs.declared.op.Op.TheVariants.{Wrote, Torn, WriteFailed, Damaged, Faulty, Fetched, Tried, Cut, Power}
use Rattle.platter_model.specs.declared.sector.Sector.{Sector}
use Rattle.platter_model.specs.Sector.{Flaw, harm, scar, is_sector, writes, flaw_of, flaws}
use Rattle.platter_model.specs.Given.{under_flaw, under, IsGiven}
use Rattle.platter_model.specs.Places.{newest, passes_at, brings, flaw_at, is_since, standing_if, standing, standing_in, gathered, reach, link_for, IsSector, AreSectors, IsKept}
use Rattle.platter_model.proofs.Lists.{item_at, length-push}
use Rattle.platter_model.proofs.Newest.{newest-reach, reach-newest-le}
use Rattle.platter_model.proofs.AtPlaces.{standing_reach, gathered-push, flaws_at_places}

-- so far the walk has lined up the flaws behind the next place
pub record IsLinedUp (p : Psn) (ops : List Op) (next : Option ℕ) (order : List ℕ) : Type 0 where
  pub own : newest (brings p) ops (reach next) ≡ next
  pub fits : reach next + length order ≤ length ops
  pub all : (written : Option ℕ) → standing_in p written ops (reach next) ++ gathered p written ops order ≡ standing_in p written ops (length ops)

pub lined_start : (p : Psn) (ops : List Op) (next : Option ℕ) (order : List ℕ) → next ≡ newest (brings p) ops (length ops) → order ≡ [] → IsLinedUp p ops next order
lined_start p ops next order is free =
    let P : Option ℕ → Type 0 = λ place. IsLinedUp p ops place [] in
    let Q : List ℕ → Type 0 = λ places. IsLinedUp p ops next places in
    subst Q (sym free) (subst P (sym is) (record {
      own = newest-reach (brings p) ops (length ops);
      fits = omega (arith, reach-newest-le (brings p) ops (length ops));
      all = λ written. append-nil (standing_in p written ops (reach (newest (brings p) ops (length ops)))) ∙ standing_reach p written ops (length ops) (omega arith);
    }))

-- an operation that brings a flaw to p is linked to p's flaw before it
sector_from_test : (p q : Psn) → is_sector p q ≡ true → q ≡ p
sector_from_test p q is = let same : q.0 ≡ p.0 = eqb-true q.0 p.0 is in ap (λ n. record { 0 = n }) same

some_from_if : (b : Bool) (flaw : Flaw) → is_some (if b then Some flaw else None) ≡ true → b ≡ true
some_from_if true flaw is = refl
some_from_if false flaw is = is

link_of_flaw : (p : Psn) (ops : List Op) (k : ℕ) (op : Op) → brings p op ≡ true → link_for ops k op ≡ newest (brings p) ops k
link_of_flaw p ops k (Torn payload tear) is =
    ap (λ q. newest (brings q) ops k) (sector_from_test p payload.psn (some_from_if (is_sector p payload.psn) (scar tear.scar) is))
link_of_flaw p ops k (Damaged damage) is =
    ap (λ q. newest (brings q) ops k) (sector_from_test p damage.p (some_from_if (is_sector p damage.p) (harm damage) is))
link_of_flaw p ops k (Wrote payload) is = let never : ⊥ = cc in absurd never
link_of_flaw p ops k (WriteFailed q) is = let never : ⊥ = cc in absurd never
link_of_flaw p ops k (Faulty q) is = let never : ⊥ = cc in absurd never
link_of_flaw p ops k (Fetched q attempt) is = let never : ⊥ = cc in absurd never
link_of_flaw p ops k (Tried at q stage found) is = let never : ⊥ = cc in absurd never
link_of_flaw p ops k Cut is = let never : ⊥ = cc in absurd never
link_of_flaw p ops k Power is = let never : ⊥ = cc in absurd never

-- the next place brings a flaw to p
place_passes : (test : Op → Bool) (ops : List Op) (k : ℕ) (b : Bool) → passes_at test ops k ≡ b → newest test ops (suc k) ≡ Some k → b ≡ true
place_passes test ops k true is newest_is = refl
place_passes test ops k false is newest_is =
    let before : newest test ops k ≡ Some k = (sym (rw is refl)) ∙ newest_is in
    let high : reach (newest test ops k) ≡ suc k = ap reach before in
    absurd (omega (arith, reach-newest-le test ops k))

some_same : (a b : Option ℕ) → Some a ≡ Some b → a ≡ b
some_same a b is = cc

lined_all : (p : Psn) (written : Option ℕ) (ops : List Op) (k : ℕ) (order : List ℕ) → k ≤ length ops
    → standing_in p written ops (reach (newest (brings p) ops k)) ++ gathered p written ops (order ++ k ∷ []) ≡ standing_in p written ops (suc k) ++ gathered p written ops order
lined_all p written ops k order within =
    rw (standing_reach p written ops k within, gathered-push p written ops order k)
    (sym (append_assoc (standing_in p written ops k) (standing written k (flaw_at p ops k)) (gathered p written ops order)))

link_is : (p : Psn) (ops : List Op) (links : List (Option ℕ)) (k : ℕ) (next : Option ℕ) (op : Op)
    → ((j : ℕ) (o : Op) → slice_get ops j ≡ Some o → slice_get links j ≡ Some (link_for ops j o))
    → passes_at (brings p) ops k ≡ true → slice_get ops k ≡ Some op → slice_get links k ≡ Some next → next ≡ newest (brings p) ops k
link_is p ops links k next op linked passes at is =
    let own : brings p op ≡ true = (rw at at passes) in
    let same : next ≡ link_for ops k op = some_same next (link_for ops k op) (sym is ∙ linked k op at) in
    same ∙ link_of_flaw p ops k op own

lined_on : (p : Psn) (ops : List Op) (k : ℕ) (next : Option ℕ) (order : List ℕ) → IsLinedUp p ops (Some k) order → next ≡ newest (brings p) ops k → IsLinedUp p ops next (order ++ k ∷ [])
lined_on p ops k next order so_far is =
    let P : Option ℕ → Type 0 = λ place. IsLinedUp p ops place (order ++ k ∷ []) in
    let within : suc k + length order ≤ length ops = so_far.fits in
    subst P (sym is) (record {
      own = newest-reach (brings p) ops k;
      fits = omega (arith, reach-newest-le (brings p) ops k, length-push order k);
      all = λ written. lined_all p written ops k order (omega arith) ∙ so_far.all written;
    })

pub lined_next : (p : Psn) (ops : List Op) (links : List (Option ℕ)) (k : ℕ) (next : Option ℕ) (order : List ℕ)
    → ((j : ℕ) (op : Op) → slice_get ops j ≡ Some op → slice_get links j ≡ Some (link_for ops j op))
    → IsLinedUp p ops (Some k) order → slice_get links k ≡ Some next → IsLinedUp p ops next (order ++ k ∷ [])
lined_next p ops links k next order linked so_far is =
    let below : k < length ops = omega (arith, so_far.fits) in
    let item = item_at ops k below in
    lined_on p ops k next order so_far (link_is p ops links k next item.0 linked (place_passes (brings p) ops k (passes_at (brings p) ops k) refl so_far.own) item.1 is)

-- samples under more flaws
pub under-append : (attempt : Attempt) (a b : List Flaw) (samples : List ℤ) → under attempt (a ++ b) samples ≡ under attempt b (under attempt a samples)
under-append attempt a b samples = fold-append (under_flaw attempt) samples a b

-- the last place is applied first
pub applied_next : (p : Psn) (written : Option ℕ) (ops : List Op) (attempt : Attempt) (places : List ℕ) (k : ℕ) (before after : List ℤ)
    → after ≡ under attempt (standing written k (flaw_at p ops k)) before
    → under attempt (gathered p written ops (places ++ k ∷ [])) before ≡ under attempt (gathered p written ops places) after
applied_next p written ops attempt places k before after is =
    rw (gathered-push p written ops places k, under-append attempt (standing written k (flaw_at p ops k)) (gathered p written ops places) before, is) refl

-- the walk goes down
pub lined_smaller : (p : Psn) (ops : List Op) (links : List (Option ℕ)) (sectors : List Sector) (now : Option ℕ) (k : ℕ) (next : Option ℕ) (order : List ℕ)
    → IsKept ops links sectors → IsLinedUp p ops now order → now ≡ Some k → next ≡ get_or links k next → reach next < reach now
lined_smaller p ops links sectors now k next order kept so_far at is =
    let P : Option ℕ → Type 0 = λ place. IsLinedUp p ops place order in
    let here : IsLinedUp p ops (Some k) order = subst P at so_far in
    let below : k < length ops = omega (arith, here.fits) in
    let item = item_at ops k below in
    let long : k < length links = omega (arith, kept.beside) in
    let link : next ≡ newest (brings p) ops k = link_is p ops links k next item.0 kept.linked (place_passes (brings p) ops k (passes_at (brings p) ops k) refl here.own) item.1 (slice_get_read links (length links) k next refl long is) in
    let low : reach next ≤ k = rw link (reach-newest-le (brings p) ops k) in
    rw at (omega (arith, low))

pub lined_step : (p : Psn) (ops : List Op) (links : List (Option ℕ)) (sectors : List Sector) (now : Option ℕ) (k : ℕ) (next : Option ℕ) (order more : List ℕ)
    → IsKept ops links sectors → IsLinedUp p ops now order → now ≡ Some k → next ≡ get_or links k next → more ≡ order ++ k ∷ [] → IsLinedUp p ops next more
lined_step p ops links sectors now k next order more kept so_far at is more_is =
    let P : Option ℕ → Type 0 = λ place. IsLinedUp p ops place order in
    let Q : List ℕ → Type 0 = λ places. IsLinedUp p ops next places in
    let here : IsLinedUp p ops (Some k) order = subst P at so_far in
    let long : k < length links = omega (arith, kept.beside, here.fits) in
    subst Q (sym more_is) (lined_next p ops links k next order kept.linked here (slice_get_read links (length links) k next refl long is))

-- one place is applied
pub apply_step : (p : Psn) (written : Option ℕ) (ops : List Op) (attempt : Attempt) (order rest : List ℕ) (k : ℕ) (op : Op) (since : Bool) (before after goal : List ℤ)
    → order ≡ rest ++ k ∷ [] → slice_get ops k ≡ Some op → since ≡ is_since written k → after ≡ under attempt (standing_if since (flaw_of p op)) before
    → under attempt (gathered p written ops order) before ≡ goal → under attempt (gathered p written ops rest) after ≡ goal
apply_step p written ops attempt order rest k op since before after goal order_is at since_is after_is so_far =
    let own : flaw_at p ops k ≡ flaw_of p op = rw at refl in
    let struck : after ≡ under attempt (standing written k (flaw_at p ops k)) before = after_is ∙ (ap (λ b. under attempt (standing_if b (flaw_of p op)) before) since_is ∙ ap (λ f. under attempt (standing written k f) before) (sym own)) in
    sym (applied_next p written ops attempt rest k before after struck) ∙ (ap (λ places. under attempt (gathered p written ops places) before) (sym order_is) ∙ so_far)

-- a place without an operation has no flaw
pub apply_none : (p : Psn) (written : Option ℕ) (ops : List Op) (attempt : Attempt) (order rest : List ℕ) (k : ℕ) (before goal : List ℤ)
    → order ≡ rest ++ k ∷ [] → length ops ≤ k → under attempt (gathered p written ops order) before ≡ goal → under attempt (gathered p written ops rest) before ≡ goal
apply_none p written ops attempt order rest k before goal order_is past so_far =
    let none : flaw_at p ops k ≡ None = rw (slice_get_past ops k past) refl in
    let struck : before ≡ under attempt (standing written k (flaw_at p ops k)) before = ap (λ f. under attempt (standing written k f) before) (sym none) in
    sym (applied_next p written ops attempt rest k before before struck) ∙ (ap (λ places. under attempt (gathered p written ops places) before) (sym order_is) ∙ so_far)

-- what a sector gives
pub give_is : (p : Psn) (ops : List Op) (attempt : Attempt) (sectors : List Sector) (item : Sector) (order : List ℕ) (samples : List ℤ) → p.0 < length sectors → item ≡ get_or sectors p.0 item
    → AreSectors ops sectors
    → ((written : Option ℕ) → gathered p written ops order ≡ standing_in p written ops (length ops))
    → samples ≡ under attempt (gathered p item.written ops order) item.unflawed → IsGiven ops p attempt samples
give_is p ops attempt sectors item order samples below is are all applied =
    let kept : IsSector ops p item = are p item (slice_get_read sectors (length sectors) p.0 item refl below is) in
    let at_places : flaws p ops ≡ standing_in p (newest (writes p) ops (length ops)) ops (length ops) = ap (λ xs. flaws p xs) (sym (take_all (length ops) ops (omega arith))) ∙ flaws_at_places p ops (length ops) (omega arith) in
    record {
      unflawed = item.unflawed;
      written = kept.unflawed;
      flawed = applied ∙ ap (λ fs. under attempt fs item.unflawed) (all item.written ∙ (ap (λ w. standing_in p w ops (length ops)) kept.written_at ∙ sym at_places));
    }

-- a sector to which no flaw ever came gives what is kept for it
pub flawless_is : (p : Psn) (ops : List Op) (attempt : Attempt) (sectors : List Sector) (item : Sector) → p.0 < length sectors → item ≡ get_or sectors p.0 item
    → AreSectors ops sectors → item.flaw ≡ None → IsGiven ops p attempt item.unflawed
flawless_is p ops attempt sectors item below is are none =
    let kept : IsSector ops p item = are p item (slice_get_read sectors (length sectors) p.0 item refl below is) in
    let lined : IsLinedUp p ops None [] = lined_start p ops None [] (sym none ∙ kept.flaw_at) refl in
    give_is p ops attempt sectors item [] item.unflawed below is are lined.all refl
