-- What is meant on a sector, and its flaws, by the places that are kept.
use Rattle.std.proofs.Common.{◌≡◌, ℕ, zero, suc, ◌<◌, ◌≤◌, Bool, true, false, ◌&&◌, ◌||◌, List, [], ◌∷◌, ◌++◌, length, take, Option, Some, None, refl, sym, ◌∙◌, subst, arith, rules, append-nil, append_assoc}
use Rattle.std.specs.List.{slice_get, filter}
use Rattle.std.specs.Prelude.{if◌then◌else◌, nat_le, option_to_list, is_some}
use Rattle.std.proofs.lemmas.List.Sums.{fold_push}
use Rattle.std.proofs.lemmas.List.Elements.{filter-append}
use Rattle.disk_base.specs.declared.address.Psn.{Psn}
use Rattle.disk_base.specs.declared.payload.Payload.{Payload}
use Rattle.platter_model.specs.declared.damage.Left.{Left}
use Rattle.platter_model.specs.declared.damage.Left.TheVariants.{Old, New, Nothing}
use Rattle.platter_model.specs.declared.op.Op.{Op}
use Rattle.platter_model.specs.declared.op.Op.TheVariants.{Wrote, Torn, WriteFailed, Damaged, Faulty, Fetched, Tried, Cut, Power}
use Rattle.platter_model.specs.Sector.{Flaw, is_sector, writes, left_of, meant_after, meant, is_hard, flaw_of, flaws_after, flaws}
use Rattle.platter_model.specs.Places.{newest, changes_meant, settles, payload_at, brings, flaw_at, is_since, standing, standing_in, gathered, reach}
use Rattle.platter_model.proofs.Lists.{item_at, take-next}
use Rattle.platter_model.proofs.Newest.{is_since-newest}

-- one operation settles what is meant, or leaves it
torn_step : (ops : List Op) (payload : Payload) (n : ℕ) (m : Option ℕ) (left : Left) (b : Bool) → payload_at ops (Some n) ≡ left_of left payload None
    → (if b then left_of left payload (payload_at ops m) else payload_at ops m) ≡ payload_at ops (if b && changes_meant left then Some n else m)
torn_step ops payload n m Old true is = refl
torn_step ops payload n m New true is = sym is
torn_step ops payload n m Nothing true is = sym is
torn_step ops payload n m Old false is = refl
torn_step ops payload n m New false is = refl
torn_step ops payload n m Nothing false is = refl

wrote_step : (ops : List Op) (payload : Payload) (n : ℕ) (m : Option ℕ) (b : Bool) → payload_at ops (Some n) ≡ Some payload
    → (if b then Some payload else payload_at ops m) ≡ payload_at ops (if b then Some n else m)
wrote_step ops payload n m true is = sym is
wrote_step ops payload n m false is = refl

meant_step : (p : Psn) (ops : List Op) (n : ℕ) (m : Option ℕ) (op : Op) → slice_get ops n ≡ Some op
    → meant_after p (payload_at ops m) op ≡ payload_at ops (if settles p op then Some n else m)
meant_step p ops n m (Wrote payload) is = wrote_step ops payload n m (is_sector p payload.psn) (rw is refl)
meant_step p ops n m (Torn payload tear) is = torn_step ops payload n m tear.left (is_sector p payload.psn) (rw is refl)
meant_step p ops n m (WriteFailed q) is = refl
meant_step p ops n m (Damaged damage) is = refl
meant_step p ops n m (Faulty q) is = refl
meant_step p ops n m (Fetched q attempt) is = refl
meant_step p ops n m (Tried at q stage found) is = refl
meant_step p ops n m Cut is = refl
meant_step p ops n m Power is = refl

-- what the first n operations make meant stands at the newest place that settles it
pub meant_at_place : (p : Psn) (ops : List Op) (n : ℕ) → n ≤ length ops → meant p (take n ops) ≡ payload_at ops (newest (settles p) ops n)
meant_at_place p ops zero within = refl
meant_at_place p ops (suc n) within =
    let item = item_at ops n (omega arith) in
    let before : meant p (take n ops) ≡ payload_at ops (newest (settles p) ops n) = meant_at_place p ops n (omega arith) in
    rw (take-next ops n item.0 item.1, fold_push (meant_after p) None (take n ops) item.0, before, item.1) (meant_step p ops n (newest (settles p) ops n) item.0 item.1)

-- once a write comes behind them, the hard ones of the flaws stand
standing_hard : (written : Option ℕ) (n m : ℕ) (flaw : Option Flaw) → n < m → standing (Some m) n flaw ≡ filter is_hard (standing written n flaw)
standing_hard written n m None before = refl
standing_hard written n m (Some flaw) before = standing_hard_step (is_hard flaw) refl (is_since written n) (nat_le m n) (search rules)
  where
    standing_hard_step : (hard : Bool) → is_hard flaw ≡ hard → (since later : Bool) → later ≡ false
        → (if hard || later then flaw ∷ [] else []) ≡ filter is_hard (if hard || since then flaw ∷ [] else [])
    standing_hard_step true is since later none = rw is refl
    standing_hard_step false is true true none = cc
    standing_hard_step false is true false none = rw is refl
    standing_hard_step false is false true none = cc
    standing_hard_step false is false false none = refl

standing_in_hard : (p : Psn) (written : Option ℕ) (ops : List Op) (n m : ℕ) → n ≤ m → standing_in p (Some m) ops n ≡ filter is_hard (standing_in p written ops n)
standing_in_hard p written ops zero m within = refl
standing_in_hard p written ops (suc n) m within =
    rw (
      filter-append is_hard (standing_in p written ops n) (standing written n (flaw_at p ops n)),
      standing_in_hard p written ops n m (omega arith),
      standing_hard written n m (flaw_at p ops n) (omega arith),
    ) refl

-- the flaw of an operation stands where no write came since
standing_own : (written : Option ℕ) (n : ℕ) (flaw : Option Flaw) → is_since written n ≡ true → standing written n flaw ≡ option_to_list flaw
standing_own written n None since = refl
standing_own written n (Some flaw) since = rw since (standing_own_step (is_hard flaw))
  where
    standing_own_step : (hard : Bool) → (if hard || true then flaw ∷ [] else []) ≡ flaw ∷ []
    standing_own_step true = refl
    standing_own_step false = refl

flaws_step : (p : Psn) (ops : List Op) (n : ℕ) (op : Op) (b : Bool) → slice_get ops n ≡ Some op
    → (if b then filter is_hard (standing_in p (newest (writes p) ops n) ops n) else standing_in p (newest (writes p) ops n) ops n) ++ option_to_list (flaw_of p op)
    ≡ standing_in p (if b then Some n else newest (writes p) ops n) ops n ++ standing (if b then Some n else newest (writes p) ops n) n (flaw_of p op)
flaws_step p ops n op true is =
    rw (standing_in_hard p (newest (writes p) ops n) ops n n (omega arith), standing_own (Some n) n (flaw_of p op) (search rules)) refl
flaws_step p ops n op false is =
    rw (standing_own (newest (writes p) ops n) n (flaw_of p op) (is_since-newest (writes p) ops n n (omega arith))) refl

-- the flaws after the first n operations are those that stand
flaws_next : (p : Psn) (ops : List Op) (n : ℕ) (op : Op) → slice_get ops n ≡ Some op → flaws p (take n ops) ≡ standing_in p (newest (writes p) ops n) ops n
    → flaws p (take (suc n) ops) ≡ standing_in p (newest (writes p) ops (suc n)) ops (suc n)
flaws_next p ops n op is before =
    let one_more : flaws p (take (suc n) ops) ≡ flaws_after p (flaws p (take n ops)) op = rw (take-next ops n op is) (fold_push (flaws_after p) [] (take n ops) op) in
    let own : flaw_at p ops n ≡ flaw_of p op = rw is refl in
    let newer : (if writes p op then Some n else newest (writes p) ops n) ≡ newest (writes p) ops (suc n) = rw is refl in
    let P : Option ℕ → Type 0 = λ written. flaws_after p (standing_in p (newest (writes p) ops n) ops n) op ≡ standing_in p written ops n ++ standing written n (flaw_at p ops n) in
    let stands : P (if writes p op then Some n else newest (writes p) ops n) = rw own (flaws_step p ops n op (writes p op) is) in
    rw (one_more, before) (subst P newer stands)

pub flaws_at_places : (p : Psn) (ops : List Op) (n : ℕ) → n ≤ length ops → flaws p (take n ops) ≡ standing_in p (newest (writes p) ops n) ops n
flaws_at_places p ops zero within = refl
flaws_at_places p ops (suc n) within =
    let item = item_at ops n (omega arith) in
    flaws_next p ops n item.0 item.1 (flaws_at_places p ops n (omega arith))

-- between a sector's newest flaw and place n nothing stands
standing_reach_step : (p : Psn) (written : Option ℕ) (ops : List Op) (n : ℕ) (op : Op) (flaw : Option Flaw) → slice_get ops n ≡ Some op → flaw_of p op ≡ flaw
    → standing_in p written ops (reach (newest (brings p) ops n)) ≡ standing_in p written ops n
    → standing_in p written ops (reach (if is_some flaw then Some n else newest (brings p) ops n)) ≡ standing_in p written ops n ++ standing written n flaw
standing_reach_step p written ops n op None is of before = before ∙ sym (append-nil (standing_in p written ops n))
standing_reach_step p written ops n op (Some flaw) is of before = rw (is, of) refl

standing_reach_next : (p : Psn) (written : Option ℕ) (ops : List Op) (n : ℕ) (op : Op) → slice_get ops n ≡ Some op
    → standing_in p written ops (reach (newest (brings p) ops n)) ≡ standing_in p written ops n
    → standing_in p written ops (reach (newest (brings p) ops (suc n))) ≡ standing_in p written ops (suc n)
standing_reach_next p written ops n op is before = rw is (standing_reach_step p written ops n op (flaw_of p op) is refl before)

pub standing_reach : (p : Psn) (written : Option ℕ) (ops : List Op) (n : ℕ) → n ≤ length ops
    → standing_in p written ops (reach (newest (brings p) ops n)) ≡ standing_in p written ops n
standing_reach p written ops zero within = refl
standing_reach p written ops (suc n) within =
    let item = item_at ops n (omega arith) in
    standing_reach_next p written ops n item.0 item.1 (standing_reach p written ops n (omega arith))

-- a place more, behind those that were gathered
pub gathered-push : (p : Psn) (written : Option ℕ) (ops : List Op) (places : List ℕ) (k : ℕ)
    → gathered p written ops (places ++ k ∷ []) ≡ standing written k (flaw_at p ops k) ++ gathered p written ops places
gathered-push p written ops [] k = sym (append-nil (standing written k (flaw_at p ops k)))
gathered-push p written ops (j ∷ places) k =
    rw (gathered-push p written ops places k) (append_assoc (standing written k (flaw_at p ops k)) (gathered p written ops places) (standing written j (flaw_at p ops j)))
