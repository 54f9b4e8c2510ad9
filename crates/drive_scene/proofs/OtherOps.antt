-- What operations leave on a sector that none of them writes, and which sectors the writes of a turn go to.
use Rattle.std.proofs.Common.{◌≡◌, ◌≢◌, ◌∙◌, ap, sym, refl, subst, ◌<◌, ◌≤◌, Bool, true, false, List, [], ◌∷◌, ◌++◌, Option, Some, None, arith, append-nil, append_assoc}
use Rattle.std.specs.Prelude.{◌||◌, All, fold}
use Rattle.std.specs.List.{list_any}
use Rattle.std.proofs.lemmas.Bool.{cond-false, ne_eqb, true≢false}
use Rattle.std.proofs.lemmas.List.Elements.{All-weaker}
use Rattle.std.proofs.lemmas.List.Folds.{list_any_none}
use Rattle.std.proofs.lemmas.List.Sums.{fold-append}
use Rattle.disk_base.specs.declared.address.Lba.{Lba}
use Rattle.disk_base.specs.declared.address.Psn.{Psn}
use Rattle.disk_base.specs.declared.payload.Payload.{Payload}
use Rattle.platter_model.specs.declared.op.Op.{Op}
use Rattle.platter_model.specs.declared.op.Op.TheVariants.{Wrote, Torn}
use Rattle.platter_model.specs.Sector.{meant, meant_after, writes, is_sector, left_of}
use Rattle.platter_model.specs.TrueLog.{strays}
use Rattle.geometry_map.specs.Size.{capacity_of}
use Rattle.geometry_map.specs.DefectMap.{DefectMap, IsValidMap, place_of}
use Rattle.geometry_map.specs.Chains.{IsFreeSpare}
use Rattle.geometry_map.specs.Laws.{BlocksHaveOwnSectors, FreeSparesAreNoPlaces}
use Rattle.block_machine.specs.declared.entry.Entry.{Entry}
use Rattle.block_machine.specs.declared.entry.Entry.TheVariants.{Harden}
use Rattle.block_machine.proofs.Booleans.{none_of, or_left, or_right}
use Rattle.drive_scene.specs.GoodTurn.{WritesBlockData, is_harden_of, is_on}
use Rattle.drive_scene.proofs.MovesGoOn.{one_sector, strays_pushed}
use Rattle.std.specs.Prelude.{◌==◌, map, take}
use Rattle.std.proofs.Common.{inl, inr, ◌<◌}
use Rattle.std.proofs.lemmas.List.Elements.{All-map, All-from_recursion}
use Rattle.geometry_map.specs.declared.pair.Pair.{Pair}
use Rattle.move_jobs.specs.declared.step.JobStep.{JobStep}
use Rattle.move_jobs.specs.declared.step.JobStep.TheVariants.{Writing, Checking, Committing, Over}
use Rattle.move_jobs.specs.Job.{Job, spare_of}
use Rattle.sector_store.specs.Maps.{records_of, next_map}
use Rattle.sector_store.specs.Shapes.{payload_on, IsCommit}
use Rattle.block_machine.proofs.Booleans.{neither}
use Rattle.drive_scene.specs.Scene.{Scene}
use Rattle.drive_scene.specs.MoveTurn.{IsMoveWork, is_cut_off}
use Rattle.drive_scene.proofs.MovesGoOn.{payload_psn}
use Rattle.drive_scene.proofs.Uncommitted.{ends_cut}

-- an operation that doesn't write a sector leaves what is meant there
unwritten_by : (p : Psn) (before : Option Payload) (o : Op) → writes p o ≡ false → meant_after p before o ≡ before
unwritten_by p before (Wrote payload) off = cond-false (is_sector p payload.psn) (Some payload) before off
unwritten_by p before (Torn payload tear) off = cond-false (is_sector p payload.psn) (left_of tear.left payload before) before off
unwritten_by p before o off = refl

unwritten : (p : Psn) (before : Option Payload) (ops : List Op) → list_any (writes p) ops ≡ false → fold (meant_after p) before ops ≡ before
unwritten p before [] none = refl
unwritten p before (o ∷ ops) none =
    let two = none_of (writes p o) (list_any (writes p) ops) none in
    ap (λ (x : Option Payload). fold (meant_after p) x ops) (unwritten_by p before o two.0) ∙ unwritten p before ops two.1

pub meant_stays : (p : Psn) (ops more : List Op) → list_any (writes p) more ≡ false → meant p (ops ++ more) ≡ meant p ops
meant_stays p ops more none = fold-append (meant_after p) None ops more ∙ unwritten p (meant p ops) more none

-- more operations are no fewer strays
pub strays_more : (ops more : List Op) → strays ops ≤ strays (ops ++ more)
strays_more ops [] = subst (λ (os : List Op). strays ops ≤ strays os) (sym (append-nil ops)) (omega arith)
strays_more ops (o ∷ more) =
    subst (λ (os : List Op). strays ops ≤ strays os) (append_assoc ops (o ∷ []) more) (omega (arith, strays_pushed ops o, strays_more (ops ++ o ∷ []) more))

-- the harden of a block is on it
harden_is_on : (b : Lba) (e : Entry) → is_harden_of b e ≡ true → is_on b e ≡ true
harden_is_on b (Harden who q) is = is
harden_is_on b e is = absurd (cc)

harden_on : (b : Lba) (entries : List Entry) → list_any (is_harden_of b) entries ≡ true → list_any (is_on b) entries ≡ true
harden_on b [] is = absurd (cc)
harden_on b (e ∷ entries) is = by (is_harden_of b e) refl is (λ later. harden_on b entries later)
  where
    by : (t : Bool) → is_harden_of b e ≡ t → (t || list_any (is_harden_of b) entries) ≡ true
        → (list_any (is_harden_of b) entries ≡ true → list_any (is_on b) entries ≡ true) → (is_on b e || list_any (is_on b) entries) ≡ true
    by true own here rest = or_left (is_on b e) (list_any (is_on b) entries) (harden_is_on b e own)
    by false own here rest = or_right (is_on b e) (list_any (is_on b) entries) (rest here)

-- blocks' data that a turn's entries harden are written to these blocks' places
module _ (m : DefectMap) (entries : List Entry) (p : Psn)
    (apart : (q : Lba) → q.0 < capacity_of m.size → list_any (is_harden_of q) entries ≡ true → place_of m q ≢ p) where
  off_write : (o : Op) → WritesBlockData m entries o → writes p o ≡ false
  off_write (Wrote payload) own =
      ne_eqb payload.psn.0 p.0
      (λ same. apart own.0.0 own.0.2 own.1 (one_sector (place_of m own.0.0) p (sym (ap (λ (x : Payload). x.psn.0) own.0.3) ∙ same)))
  off_write (Torn payload tear) own = absurd own
  off_write o own = refl

  off_writes : (ops : List Op) → All (WritesBlockData m entries) ops → list_any (writes p) ops ≡ false
  off_writes ops all =
      list_any_none (writes p) ops (All-weaker (WritesBlockData m entries) (λ (o : Op). writes p o ≡ false) off_write ops all)

-- so none is written to the place of a block that no entry is on
pub off_place : BlocksHaveOwnSectors → (m : DefectMap) → IsValidMap m → (entries : List Entry) (ops : List Op) → All (WritesBlockData m entries) ops
    → (b : Lba) → b.0 < capacity_of m.size → list_any (is_on b) entries ≡ false → list_any (writes (place_of m b)) ops ≡ false
off_place own_sectors m valid entries ops all b below off =
    off_writes m entries (place_of m b)
    (λ q inside hardened same. true≢false (sym (harden_on b entries
    (subst (λ (x : Lba). list_any (is_harden_of x) entries ≡ true) (own_sectors m valid q b inside below same) hardened)) ∙ off)) ops all

-- nor to a spare that is in no pair
pub off_spare : FreeSparesAreNoPlaces → (m : DefectMap) → IsValidMap m → (entries : List Entry) (ops : List Op) → All (WritesBlockData m entries) ops
    → (p : Psn) → IsFreeSpare m p → list_any (writes p) ops ≡ false
off_spare no_places m valid entries ops all p free = off_writes m entries p (λ q inside hardened. no_places m valid p free q inside) ops all

-- the operations of a move that isn't committed write to no sector but its spare
pub off_spare_alone : (s : Scene) (job : Job) (step : JobStep) (ops : List Op) → IsMoveWork s job step ops → is_cut_off ops ≡ false → step ≢ Committing
    → (p : Psn) → p ≢ spare_of job → list_any (writes p) ops ≡ false
off_spare_alone s job Writing ops (inl (inl e)) on going p other =
    let payload : Payload = payload_on (spare_of job) job.b job.value in
    ap (list_any (writes p)) e
    ∙ neither (payload.psn.0 == p.0) false
    (ne_eqb payload.psn.0 p.0 (λ same. other (one_sector p (spare_of job) (sym same ∙ ap (λ (q : Psn). q.0) (payload_psn (spare_of job) job.b job.value))))) refl
off_spare_alone s job Writing ops (inl (inr torn)) on going p other =
    absurd (true≢false (sym (ap is_cut_off torn.4 ∙ ends_cut (map Wrote (take torn.0 (payload_on (spare_of job) job.b job.value ∷ []))) torn.1 torn.2) ∙ on))
off_spare_alone s job Writing ops (inr e) on going p other = ap (list_any (writes p)) e
off_spare_alone s job Checking ops check on going p other = ap (list_any (writes p)) check.1
off_spare_alone s job Committing ops work on going p other = absurd (going refl)
off_spare_alone s job (Over end) ops work on going p other = absurd work

-- the operations of a commit write to sectors of the maps alone
records_off : (m : DefectMap) → m.slot < 2 → (p : Psn) → 16 ≤ p.0 → All (λ (payload : Payload). writes p (Wrote payload) ≡ false) (records_of m)
unfolding records_of
records_off m slot p user =
    let Before : Payload → Type 0 = λ payload. payload.psn.0 < 16 in
    All-weaker Before (λ payload. writes p (Wrote payload) ≡ false) (λ payload before. ne_eqb payload.psn.0 p.0 (λ same. absurd (omega (arith, before, same, user))))
    (records_of m)
    (All-from_recursion Before (records_of m)
    (omega arith, (omega arith, (omega arith, (omega arith, (omega arith, (omega arith, (omega arith, (omega arith, tt)))))))))

pub off_maps : (m : DefectMap) (chain : List Pair) (ops : List Op) → IsCommit m chain ops → is_cut_off ops ≡ false → (p : Psn) → 16 ≤ p.0
    → list_any (writes p) ops ≡ false
off_maps m chain ops (inl e) on p user =
    ap (list_any (writes p)) e
    ∙ list_any_none (writes p) (map Wrote (records_of (next_map m chain)))
    (All-map (λ (o : Op). writes p o ≡ false) Wrote (records_of (next_map m chain)) (records_off (next_map m chain) (omega arith) p user))
off_maps m chain ops (inr torn) on p user =
    absurd (true≢false (sym (ap is_cut_off torn.4 ∙ ends_cut (map Wrote (take torn.0 (records_of (next_map m chain)))) torn.1 torn.2) ∙ on))
