-- What a write's plan says at each of its deeds: which block it is at, and how far it has come.
use Rattle.std.proofs.Common.{◌≡◌, ◌∙◌, ap, refl, ℕ, suc, ◌+◌, ◌-◌, ◌<◌, ◌≤◌, Bool, true, false, not, cond, nat_lt, List, arith}
use Rattle.std.specs.Prelude.{◌&&◌, ◌||◌, ◌==◌, Some}
use Rattle.std.proofs.lemmas.Bool.{eqb-true, ltb-true}
use Rattle.std.proofs.lemmas.Slice.Eq.{bytes_eq-Decides}
use Rattle.disk_base.specs.declared.address.Lba.{Lba}
use Rattle.disk_base.specs.declared.command.DataOut.{DataOut}
use Rattle.sense_data.specs.declared.reply.Reply.{Reply}
use Rattle.cdb_reader.specs.declared.plan.Writing as writing
use Rattle.cdb_reader.specs.declared.plan.Plan.{Plan}
use Rattle.cdb_reader.specs.declared.plan.Plan.TheVariants.{Writing}
use Rattle.cdb_reader.specs.declared.plan.Deed.TheVariants as deed
use Rattle.cdb_reader.specs.Plan.{next, after_written, block_of}
use Rattle.cdb_reader.specs.Replies.{good, same_reply, is_write_error}
use Rattle.block_machine.specs.Laws.{succeeds}
use Rattle.block_machine.proofs.Replies.{when_is}
use Rattle.block_machine.proofs.ReadLaw.{write_error_fails}
use Rattle.block_machine.proofs.Booleans.{both, not_is}

-- a write of so many blocks from one on is at one of them, or behind them
pub record IsWithin (b n : ℕ) (sent : DataOut) (w : writing.Writing) : Type 0 where
  pub from : w.from ≡ b
  pub ends : w.end ≡ b + n
  pub low : b ≤ w.at
  pub high : w.at ≤ w.end
  pub data_are : w.sent ≡ sent

pub first_within : (b n : ℕ) (sent : DataOut) (w : writing.Writing) → w.from ≡ b → w.at ≡ b → w.end ≡ b + n → w.sent ≡ sent → IsWithin b n sent w
first_within b n sent w from at ends data_are = record { from = from; ends = ends; low = omega arith; high = omega arith; data_are = data_are }

pub owing_within : (b n : ℕ) (sent : DataOut) (w : writing.Writing) → IsWithin b n sent w → IsWithin b n sent (record w { owes_harden = true })
owing_within b n sent w i = record { from = i.from; ends = i.ends; low = i.low; high = i.high; data_are = i.data_are }

pub next_within : (b n : ℕ) (sent : DataOut) (w : writing.Writing) → w.at < w.end → IsWithin b n sent w → IsWithin b n sent (record w { at = w.at + 1; owes_harden = false })
next_within b n sent w below i =
    let low : b ≤ w.at = i.low in
    record { from = i.from; ends = i.ends; low = omega arith; high = omega arith; data_are = i.data_are }

-- behind the last block all of them are written
pub last_one : (b n : ℕ) (sent : DataOut) (w : writing.Writing) → (w.verifies && w.at + 1 == w.end) ≡ true → IsWithin b n sent w → suc (w.at - b) ≡ n
last_one b n sent w e i =
    let over : w.at + 1 ≡ w.end = eqb-true (w.at + 1) w.end (both w.verifies (w.at + 1 == w.end) e).1 in
    let ends : w.end ≡ b + n = i.ends in
    let low : b ≤ w.at = i.low in
    omega arith

-- the data of the block that comes next
pub sent_here : (b n : ℕ) (sent : DataOut) (w : writing.Writing) (block : List ℕ) → block ≡ block_of w.sent (w.at - w.from) → IsWithin b n sent w → block ≡ block_of sent (w.at - b)
sent_here b n sent w block same i = same ∙ ap (λ (d : DataOut). block_of d (w.at - w.from)) i.data_are ∙ ap (λ (f : ℕ). block_of sent (w.at - f)) i.from

-- a put is of the next block with its data, where none is to be hardened
pub record PutNext (w : writing.Writing) (a : ℕ) (block : List ℕ) (full : Bool) (after : Plan) : Type 0 where
  pub idle : w.owes_harden ≡ false
  pub here : a ≡ w.at
  pub below : w.at < w.end
  pub same : block ≡ block_of w.sent (w.at - w.from)
  pub leaves : cond (w.through || full) (Writing (record w { owes_harden = true })) (after_written w) ≡ after

pub put_next : (w : writing.Writing) (a : Lba) (block : List ℕ) (full : Bool) (after : Plan) → next (Writing w) (deed.Put a block full) ≡ Some after → PutNext w a.0 block full after
put_next w a block full after k =
    let may = when_is _ _ _ k in
    let three = both (not w.owes_harden && a.0 == w.at && nat_lt w.at w.end) _ may.0 in
    let two = both (not w.owes_harden && a.0 == w.at) _ three.0 in
    let one = both (not w.owes_harden) _ two.0 in
    record {
      idle = not_is w.owes_harden one.0;
      here = eqb-true a.0 w.at one.1;
      below = ltb-true w.at w.end two.1;
      same = (bytes_eq-Decides block _).0 three.1;
      leaves = may.1;
    }

-- a harden is of the block that was put
pub record HardenNext (w : writing.Writing) (a : ℕ) (after : Plan) : Type 0 where
  pub owing : w.owes_harden ≡ true
  pub here : a ≡ w.at
  pub below : w.at < w.end
  pub leaves : after_written w ≡ after

pub harden_next : (w : writing.Writing) (a : Lba) (after : Plan) → next (Writing w) (deed.Hardened a) ≡ Some after → HardenNext w a.0 after
harden_next w a after k =
    let may = when_is _ _ _ k in
    let two = both (w.owes_harden && a.0 == w.at) _ may.0 in
    let one = both w.owes_harden _ two.0 in
    record { owing = one.0; here = eqb-true a.0 w.at one.1; below = ltb-true w.at w.end two.1; leaves = may.1 }

-- a write that ends with success is at its end, and has nothing to harden
writing_over : (t : Bool) (w : writing.Writing) (reply : Reply) → (w.at == w.end && same_reply reply good) ≡ t → (t || (nat_lt w.at w.end && is_write_error w.at reply)) ≡ true
    → succeeds reply ≡ true → w.at ≡ w.end
writing_over true w reply e h k = eqb-true w.at w.end (both (w.at == w.end) _ e).0
writing_over false w reply e h k = absurd (write_error_fails w.at reply (both (nat_lt w.at w.end) _ h).1 k)

pub whole_at_end : (b n : ℕ) (sent : DataOut) (w : writing.Writing) (after : Plan) (reply : Reply) (dirty : Bool) → next (Writing w) (deed.Ended reply dirty) ≡ Some after → succeeds reply ≡ true
    → IsWithin b n sent w → (w.owes_harden ≡ false) × (w.at - b ≡ n)
whole_at_end b n sent w after reply dirty k success i =
    let may = both (not w.owes_harden) _ (when_is _ _ _ k).0 in
    let over : w.at ≡ w.end = writing_over _ w reply refl may.1 success in
    let ends : w.end ≡ b + n = i.ends in
    (not_is w.owes_harden may.0, omega arith)
