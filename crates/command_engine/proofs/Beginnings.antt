-- What holds of a command wherever it stands holds as it starts.
use Rattle.std.proofs.Common.{◌≡◌, ℕ, ◌+◌, ◌-◌, ◌*◌, ◌^◌, ◌<◌, ◌≤◌, Bool, true, false, not, ◌==◌, ◌&&◌, nat_le, List, length, Some, refl, subst, arith, IsTrue}
use Rattle.std.specs.Prelude.{unwrap_or, if◌then◌else◌}
use Rattle.std.proofs.lemmas.Bool.{leb-true, eqb-false, and_parts}
use Rattle.disk_base.specs.declared.address.Lba.{Lba}
use Rattle.disk_base.specs.declared.command.DataOut.{DataOut}
use Rattle.mode_pages.specs.declared.settings.Settings.{Settings}
use Rattle.read_recovery.specs.Stages.{begun}
use Rattle.cdb_reader.specs.declared.plan.Plan.{Plan}
use Rattle.cdb_reader.specs.declared.plan.Plan.TheVariants.{Ending, Syncing, Moving}
use Rattle.cdb_reader.specs.Plan.{reading_from, writing_from}
use Rattle.cdb_reader.specs.Read.{in_range, has_data, has_length, block_length}
use Rattle.cdb_reader.specs.Reassign.{descriptors_at_most, some_past}
use Rattle.cdb_reader.specs.Replies.{good}
use Rattle.cdb_reader.specs.Request.{Request, TestUnitReady, RequestSense, ReassignBlocks, Inquiry, ModeSelect, ModeSense, ReadCapacity10, Read, Write, WriteAndVerify, Verify, SynchronizeCache, ReadDefectData, LogSense, ReadCapacity16, ReportLuns}
use Rattle.command_engine.specs.declared.step.Step.TheVariants.{Trying}
use Rattle.command_engine.specs.Need.{end_of}
use Rattle.command_engine.specs.Standing.{IsUnderWay, IsCourse}
use Rattle.command_engine.specs.Course.{first_plan, course_of}
use Rattle.command_engine.proofs.Stages.{begun_is_tried}
use Rattle.command_engine.proofs.Fit.{not_true}
use Rattle.command_engine.proofs.Lists.{none_past}

-- the blocks of a transfer have addresses
addressed : (from count capacity : ℕ) (few : Bool) → (nat_le (from + count) capacity && few) ≡ true → from + count ≤ capacity
addressed from count capacity few h = leb-true (from + count) capacity (and_parts _ few h).0

reads : (retry from count : ℕ) (through reports empty : Bool) (other : Plan) → from + count ≤ 2 ^ 32
    → IsUnderWay retry (unwrap_or (if empty then Some (Ending good) else Some (reading_from from (from + count) through reports)) other) 0 (Trying (begun retry))
reads retry from count through reports true other within = begun_is_tried retry
reads retry from count through reports false other within =
    record { tried = begun_is_tried retry; left = omega arith; addresses = within; through = tt }

writes : (retry from count : ℕ) (sent : DataOut) (through verifies reports empty : Bool) (other : Plan) → (count == 0) ≡ empty → from + count ≤ 2 ^ 32
    → has_length sent (block_length * count) ≡ true
    → IsUnderWay retry (unwrap_or (if empty then Some (Ending good) else Some (writing_from from count sent through verifies reports)) other) 0 (Trying (begun retry))
writes retry from count sent through verifies reports true other is within data_length = begun_is_tried retry
writes retry from count sent through verifies reports false other is within data_length =
    let some : 0 < count = grind (arith, eqb-false count 0 is) in
    let blocks : count ≡ from + count - from = omega arith in
    record {
      tried = begun_is_tried retry;
      reached = omega arith;
      left = omega arith;
      addresses = within;
      hardened = refl;
      unhardened = tt;
      verified = λ _. omega arith;
      data_length = subst (λ n. has_length sent (block_length * n) ≡ true) blocks data_length;
    }

syncs : (retry from count : ℕ) (empty : Bool) (other : Plan) → from + count ≤ 2 ^ 32
    → IsUnderWay retry (unwrap_or (if empty then Some (Ending good) else Some (Syncing (record { at = from; end = from + count }))) other) 0 (Trying (begun retry))
syncs retry from count true other within = begun_is_tried retry
syncs retry from count false other within = record { tried = begun_is_tried retry; left = omega arith; addresses = within }

reassigns : (retry : ℕ) (blocks : List Lba) (empty : Bool) (other : Plan) → IsTrue (in_range (ReassignBlocks blocks) (2 ^ 32))
    → IsUnderWay retry (unwrap_or (if empty then Some (Ending good) else Some (Moving (record { blocks = blocks; hardened = 0 }))) other) 0 (Trying (begun retry))
reassigns retry blocks true other range = begun_is_tried retry
reassigns retry blocks false other range =
    let parts = and_parts (nat_le (length blocks) descriptors_at_most) (not (some_past blocks (2 ^ 32))) range in
    record {
      tried = begun_is_tried retry;
      hardened = omega arith;
      left = omega arith;
      count = leb-true (length blocks) descriptors_at_most parts.0;
      addresses = none_past blocks (2 ^ 32) (not_true (some_past blocks (2 ^ 32)) parts.1);
    }

pub begins : (request : Request) (sent : DataOut) (settings : Settings) → IsTrue (in_range request (2 ^ 32)) → IsTrue (has_data request sent)
    → IsUnderWay settings.retry (first_plan request sent settings) 0 (Trying (begun settings.retry))
begins TestUnitReady sent settings range data_length = begun_is_tried settings.retry
begins (RequestSense allocation) sent settings range data_length = (begun_is_tried settings.retry, refl)
begins (ReassignBlocks blocks) sent settings range data_length = reassigns settings.retry blocks (length blocks == 0) _ range
begins (Inquiry evpd page allocation) sent settings range data_length = (begun_is_tried settings.retry, refl)
begins (ModeSelect ten count) sent settings range data_length = begun_is_tried settings.retry
begins (ModeSense ten dbd control page subpage allocation) sent settings range data_length = (begun_is_tried settings.retry, refl)
begins ReadCapacity10 sent settings range data_length = (begun_is_tried settings.retry, refl)
begins (Read from count fua) sent settings range data_length = reads settings.retry from count _ _ (count == 0) _ (addressed from count _ _ range)
begins (Write from count fua) sent settings range data_length =
    writes settings.retry from count sent _ _ _ (count == 0) _ refl (addressed from count _ _ range) data_length
begins (WriteAndVerify from count) sent settings range data_length =
    writes settings.retry from count sent _ _ _ (count == 0) _ refl (addressed from count _ _ range) data_length
begins (Verify from count) sent settings range data_length = reads settings.retry from count _ _ (count == 0) _ (addressed from count _ _ range)
begins (SynchronizeCache from count) sent settings range data_length =
    syncs settings.retry from count (count == 0) _ (leb-true (from + count) (2 ^ 32) range)
begins (ReadDefectData primary grown format allocation) sent settings range data_length = (begun_is_tried settings.retry, refl)
begins (LogSense page subpage pointer allocation) sent settings range data_length = (begun_is_tried settings.retry, refl)
begins (ReadCapacity16 allocation) sent settings range data_length = (begun_is_tried settings.retry, refl)
begins (ReportLuns select allocation) sent settings range data_length = (begun_is_tried settings.retry, refl)

ends_within : (empty : Bool) (plan other : Plan) (capacity : ℕ) → end_of plan ≤ capacity
    → end_of (unwrap_or (if empty then Some (Ending good) else Some plan) other) ≤ capacity
ends_within true plan other capacity h = omega arith
ends_within false plan other capacity h = h

-- the blocks that a command names are below each capacity that it is in range of
pub first_range : (request : Request) (sent : DataOut) (settings : Settings) (capacity : ℕ) → IsTrue (in_range request capacity)
    → end_of (first_plan request sent settings) ≤ capacity
first_range (ReassignBlocks blocks) sent settings capacity range =
    ends_within (length blocks == 0) _ _ capacity
    (none_past blocks capacity (not_true (some_past blocks capacity) (and_parts (nat_le (length blocks) descriptors_at_most) (not (some_past blocks capacity)) range).1))
first_range (Read from count fua) sent settings capacity range = ends_within (count == 0) _ _ capacity (addressed from count capacity _ range)
first_range (Write from count fua) sent settings capacity range = ends_within (count == 0) _ _ capacity (addressed from count capacity _ range)
first_range (WriteAndVerify from count) sent settings capacity range = ends_within (count == 0) _ _ capacity (addressed from count capacity _ range)
first_range (Verify from count) sent settings capacity range = ends_within (count == 0) _ _ capacity (addressed from count capacity _ range)
first_range (SynchronizeCache from count) sent settings capacity range = ends_within (count == 0) _ _ capacity (leb-true (from + count) capacity range)
first_range other sent settings capacity range = omega arith

-- of every command
pub starts : (request : Request) (sent : DataOut) (settings : Settings) → settings.retry ≤ 20 → IsTrue (in_range request (2 ^ 32)) → IsTrue (has_data request sent)
    → IsCourse (course_of request sent settings)
starts request sent settings retry range data_length =
    record { retry = retry; under_way = begins request sent settings range data_length; recovered = tt }
