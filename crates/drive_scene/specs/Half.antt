-- Half a turn of work: after some entries the command owes a plan.
use Rattle.std.specs.Prelude.{◌≡◌, ◌≢◌, ℕ, ◌<◌, ◌≤◌, true, false, List, [], ◌∷◌, ◌++◌, length, Some, None, fold, All}
use Rattle.std.specs.List.{list_any, list_all}
use Rattle.std.specs.Option.{is_some}
use Rattle.disk_base.specs.Along.{Along, all_along}
use Rattle.disk_base.specs.declared.address.Lba.{Lba}
use Rattle.platter_model.specs.declared.op.Op.{Op}
use Rattle.platter_model.specs.TrueLog.{is_off, strays}
use Rattle.sense_data.specs.declared.reply.Reply.{Reply}
use Rattle.task_set.specs.Members.{member_of}
use Rattle.cdb_reader.specs.declared.plan.Plan.{Plan}
use Rattle.block_machine.specs.declared.entry.Entry.{Entry}
use Rattle.block_machine.specs.declared.entry.Entry.TheVariants.{Ended}
use Rattle.block_machine.specs.declared.turn.Label.TheVariants.{Work}
use Rattle.block_machine.specs.Blocks.{is_dirty}
use Rattle.block_machine.specs.State.{State, owed_by}
use Rattle.block_machine.specs.Steps.{begun, entry_after, entries_after}
use Rattle.block_machine.specs.Entries.{entry_lawful}
use Rattle.block_machine.specs.Turns.{is_start, blocks_lawful}
use Rattle.drive_scene.specs.Scene.{Scene, capacity, beat}
use Rattle.drive_scene.specs.After.{settings_by, recovered_by, windows_with}
use Rattle.drive_scene.specs.Holds.{held_block, holder_besides}
use Rattle.drive_scene.specs.Evidence.{Shows}
use Rattle.drive_scene.specs.GoodTurn.{IsStood, WritesBlockData, is_entry_of, are_on, is_about, is_one_step, are_in_order, waits_for_move}

-- a state differs from another in blocks and in one command's duty alone
pub record IsQuiet (g h : State) (c : ℕ) : Type 0 where
  pub arrived : h.arrived ≡ g.arrived
  pub set : h.set ≡ g.set
  pub duties : (q : ℕ) → q ≢ c → h.duties q ≡ g.duties q
  pub asks : (h.duties c).asks ≡ (g.duties c).asks
  pub settings : h.settings ≡ g.settings
  pub waiting : h.waiting ≡ g.waiting
  pub corrupt : h.corrupt ≡ g.corrupt
  pub scan : h.scan ≡ g.scan

-- after these entries of a turn of work, all of which may come and are shown, the history has this state, and the command owes
-- this plan
pub record Half (s : Scene) (c : ℕ) (ops : List Op) (entries : List Entry) (h : State) (plan : Plan) : Type 0 where
  pub reached : entries_after (capacity s) (Work c) (begun s.hist (Work c)) entries ≡ h
  pub quiet : IsQuiet s.hist h c
  pub unstarted : list_any is_start entries ≡ false
  pub lawful : all_along (entry_after (capacity s) (Work c)) (entry_lawful (capacity s) (Work c)) (begun s.hist (Work c)) entries ≡ true
  pub owes : owed_by h c ≡ Some plan
  pub blocks : strays (s.ops ++ ops) ≡ 0 → blocks_lawful (capacity s) s.hist.blocks entries ≡ true
  pub shown : (rest : List Entry) → list_any is_start rest ≡ false
      → Along (entry_after (capacity s) (Work c)) (Shows s (beat (Work c) (entries ++ rest) ops)) (begun s.hist (Work c)) entries
  pub step : is_one_step (length s.ops) ops ≡ true
  pub b : Lba
  pub one_block : are_on b entries ≡ true
  pub written : (rest : List Entry) → All (WritesBlockData s.map (entries ++ rest)) ops
  pub own : list_all (is_entry_of c) entries ≡ true
  pub order : (reply : Reply) → are_in_order (entries ++ Ended c reply ∷ []) ≡ true
  pub held : (q : Lba) → q.0 < capacity s → is_about s (beat (Work c) entries ops) q ≡ true → holder_besides s (Work c) q.0 ≡ None
  pub stands : IsStood s.map (s.ops ++ ops) h.blocks
  pub settings : fold (settings_by s.hist.settings) s.settings entries ≡ s.settings
  pub recovered : (q : ℕ) → q ≢ c → fold (recovered_by (windows_with (Work c) s.windows ops)) s.recovered entries q ≡ s.recovered q
  -- the blocks that others hold are dirty where they were
  pub undirtied : (q n : ℕ) → q ≢ c → held_block s q ≡ Some n → is_dirty (h.blocks n) ≡ is_dirty (s.hist.blocks n)

-- the power is on, the window of the command, where it is in, has room for the operations of one turn more, and no move that it opened is
-- in flight
pub record IsReady (s : Scene) (c : ℕ) : Type 0 where
  pub powered : is_off s.ops ≡ false
  pub own : is_some (member_of s.hist.set c) ≡ true → length (s.windows c) ≤ 48
  pub all : (q : ℕ) → length (s.windows q) ≤ 50
  pub waits : waits_for_move s (Work c) ≡ false
