-- What stands after a commit.
use Rattle.std.proofs.Common.{◌≡◌, ◌≢◌, ◌∙◌, ap, sym, refl, subst, ℕ, ◌<◌, ◌≤◌, Bool, true, cond, List, [], ◌∷◌, ◌⊎◌, inl, inr, Option, Some}
use Rattle.std.specs.Prelude.{All}
use Rattle.std.proofs.lemmas.Bool.{eq-eqb, cases_eq}
use Rattle.std.proofs.lemmas.List.Elements.{All-head, All-tail, All-weaker}
use Rattle.disk_base.specs.declared.address.Lba.{Lba}
use Rattle.disk_base.specs.declared.address.Psn.{Psn}
use Rattle.disk_base.specs.declared.block.Value.{Value}
use Rattle.disk_base.specs.declared.block.Value.TheVariants.{Data, Lost}
use Rattle.platter_model.specs.declared.op.Op.{Op}
use Rattle.platter_model.specs.Sector.{meant}
use Rattle.geometry_map.specs.declared.pair.Pair.{Pair}
use Rattle.geometry_map.specs.Size.{capacity_of}
use Rattle.geometry_map.specs.DefectMap.{DefectMap, place_of}
use Rattle.geometry_map.specs.Chains.{IsNoNew, IsFreeSpare, MovesOne, chain_end}
use Rattle.geometry_map.specs.Laws.{BlocksHaveOwnSectors, BlocksLieOnUserSectors, ChainsMoveOneBlock, FreeSparesAreNoPlaces}
use Rattle.move_jobs.specs.Job.{Job, spare_of}
use Rattle.move_jobs.specs.Laws.{SpareIsTheEnd}
use Rattle.sector_store.specs.Maps.{next_map}
use Rattle.sector_store.specs.Shapes.{payload_on}
use Rattle.sector_store.specs.Spares.{SparesAreUserSectors}
use Rattle.sector_store.specs.Stored.{stored, value_in}
use Rattle.block_machine.specs.declared.array.BlockState.{BlockState}
use Rattle.block_machine.specs.Blocks.{Blocks, allowed, same_value}
use Rattle.std.specs.List.{list_any}
use Rattle.drive_scene.specs.GoodTurn.{IsAllowed}
use Rattle.drive_scene.specs.CommitTurn.{IsReadyToCommit, StandsAfter, CommitTurnsStand, blocks_committed, blocks_cut}
use Rattle.drive_scene.proofs.CommitTable.{BlocksAfter, commit_table}

-- a value reads back from its payload
pub value_on : (p : Psn) (b : Lba) (v : Value) → value_in b (Some (payload_on p b v)) ≡ v
value_on p b (Data bytes) = ap (λ (t : Bool). cond t (Data bytes) Lost) (eq-eqb b.0 b.0 refl)
value_on p b Lost = refl

-- a chain ends at a new sector of one of its pairs
pub end_among : (P : Psn → Type 0) (at : Psn) (pairs : List Pair) → pairs ≢ [] → All (λ pair. P pair.new) pairs → P (chain_end at pairs)
end_among P at [] some all = absurd (some refl)
end_among P at (pair ∷ []) some all = All-head (λ (x : Pair). P x.new) pair [] all
end_among P at (pair ∷ next ∷ pairs) some all =
    end_among P pair.new (next ∷ pairs) (λ none. cc) (All-tail (λ (x : Pair). P x.new) pair (next ∷ pairs) all)

-- the laws below
pub record Below : Type 0 where
  pub apart : BlocksHaveOwnSectors
  pub on_user : BlocksLieOnUserSectors
  pub moves_one : ChainsMoveOneBlock
  pub no_places : FreeSparesAreNoPlaces
  pub spares : SparesAreUserSectors
  pub ends : SpareIsTheEnd

module _ (laws : Below) (m : DefectMap) (ops after : List Op) (blocks : Blocks) (owner : Option ℕ) (job : Job)
    (reserved : (p : Psn) → 16 ≤ p.0 → meant p after ≡ meant p ops) (ready : IsReadyToCommit m ops blocks owner job) where
  moves : MovesOne m job.b job.chain
  moves = laws.moves_one m job.b job.chain ready.chain_is

  -- by the map before nothing changed
  old_kept : (q : Lba) → q.0 < capacity_of m.size → stored m after q ≡ stored m ops q
  old_kept q below = ap (value_in q) (reserved (place_of m q) (laws.on_user m ready.valid q below).0)

  -- by the next one the block has the value on its spare
  at_spare : place_of (next_map m job.chain) job.b ≡ spare_of job
  at_spare = moves.own ∙ laws.ends (place_of m job.b) job ready.begun

  on_user : 16 ≤ (spare_of job).0
  on_user = (laws.spares m (spare_of job) (end_among (IsFreeSpare m) (record { 0 = 0 }) job.chain ready.begun ready.spares)).0

  new_own : stored (next_map m job.chain) after job.b ≡ job.value
  new_own =
      ap (λ (p : Psn). value_in job.b (meant p after)) at_spare
      ∙ (ap (value_in job.b) (reserved (spare_of job) on_user ∙ ready.written) ∙ value_on (spare_of job) job.b job.value)

  -- and the others what they had
  new_other : (q : Lba) → q.0 < capacity_of m.size → q.0 ≢ job.b.0 → stored (next_map m job.chain) after q ≡ stored m ops q
  new_other q below other =
      let apart : place_of m q ≢ place_of m job.b = λ same. other (ap (λ (x : Lba). x.0) (laws.apart m ready.valid q job.b below ready.below same)) in
      let free : IsNoNew (place_of m q) job.chain =
      All-weaker (λ (pair : Pair). IsFreeSpare m pair.new) (λ (pair : Pair). pair.new ≢ place_of m q)
      (λ pair is same. laws.no_places m ready.valid pair.new is q below (sym same)) job.chain ready.spares in
      ap (λ (p : Psn). value_in q (meant p after)) (moves.others q apart free) ∙ old_kept q below

  table : BlocksAfter (capacity_of m.size) blocks job.why owner job.b job.value (stored m ops job.b)
  table = commit_table (capacity_of m.size) blocks job.why owner job.b job.value (stored m ops job.b) ready.below (ready.stands job.b ready.below) ready.carried ready.owned

  one_block : (q : Lba) → q.0 ≡ job.b.0 → job.b ≡ q
  one_block q same = λ i. record { 0 = sym same i }

  -- each block, be it the one that is moved or another
  of_all : (P : Lba → Value → Type 0) (v : Lba → Value) → P job.b (v job.b) → ((q : Lba) → q.0 < capacity_of m.size → q.0 ≢ job.b.0 → P q (v q))
      → (q : Lba) → q.0 < capacity_of m.size → P q (v q)
  of_all P v own others q below = by (cases_eq q.0 job.b.0)
    where
      by : (q.0 ≡ job.b.0) ⊎ (q.0 ≢ job.b.0) → P q (v q)
      by (inl same) = subst (λ (x : Lba). P x (v x)) (one_block q same) own
      by (inr other) = others q below other

  Done : Lba → Value → Type 0
  Done q v = IsAllowed (blocks_committed blocks owner job) q v

  Cut : Lba → Value → Type 0
  Cut q v = IsAllowed (blocks_cut blocks owner job) q v

  stands : StandsAfter m after blocks owner job
  unfolding Done Cut
  stands = record {
    lawful = table.lawful;
    done = of_all Done (stored (next_map m job.chain) after) (subst (Done job.b) (sym new_own) table.done)
        (λ q below other. subst (Done q) (sym (new_other q below other))
        (subst (λ (st : BlockState). list_any (same_value (stored m ops q)) (allowed st) ≡ true) (sym (table.others q.0 other)) (ready.stands q below)));
    cut_lawful = table.cut_lawful;
    cut_old = of_all Cut (stored m after) (subst (Cut job.b) (sym (old_kept job.b ready.below)) table.cut_old)
        (λ q below other. subst (Cut q) (sym (old_kept q below)) (table.cut_others q (stored m ops q) other (ready.stands q below)));
    cut_new = of_all Cut (stored (next_map m job.chain) after) (subst (Cut job.b) (sym new_own) table.cut_new)
        (λ q below other. subst (Cut q) (sym (new_other q below other)) (table.cut_others q (stored m ops q) other (ready.stands q below)));
  }

pub commit_turns_stand : Below → CommitTurnsStand
commit_turns_stand laws m ops after blocks owner job reserved ready = stands laws m ops after blocks owner job reserved ready
