-- More laws on the values of a block in legal histories, over earlier power cuts too, in words on entries.
use Rattle.std.specs.Prelude.{◌≡◌, ◌≢◌, ℕ, ◌==◌, Bool, true, false, if◌then◌else◌, IsTrue, AllPairs, List, [], ◌∷◌, fold}
use Rattle.std.specs.List.{list_any}
use Rattle.disk_base.specs.declared.address.Lba.{Lba}
use Rattle.disk_base.specs.declared.block.Value.{Value}
use Rattle.disk_base.specs.declared.block.Value.TheVariants.{Data}
use Rattle.sense_data.specs.Attentions.{Waiting}
use Rattle.block_machine.specs.declared.entry.Entry.{Entry}
use Rattle.block_machine.specs.declared.entry.Entry.TheVariants.{Put, Harden, GiveUp, Cut}
use Rattle.block_machine.specs.declared.turn.Turn.{Turn}
use Rattle.block_machine.specs.Blocks.{same_value, is_dirty}
use Rattle.block_machine.specs.State.{State, state_at_start}
use Rattle.block_machine.specs.History.{turns_after, entries_of}
use Rattle.block_machine.specs.Parts.{GetOf, PutOf}
use Rattle.block_machine.specs.Laws.{values_after, NoneRenews, NoneCuts}

-- a law: a read that isn't bad gives the value that was put last, whatever came before that put, where since then the power
-- stayed on and the block wasn't given up
abbrev pub ReadsGiveTheirOwnWrite : ℕ → List Turn → Type 0
ReadsGiveTheirOwnWrite capacity turns = (b : Lba) (get : GetOf b (entries_of turns)) (put : PutOf b get.before)
    → NoneCuts put.behind → NoneRenews b.0 put.behind
    → get.block ≡ put.block

-- whether something newer than the medium has came to a block and was neither hardened nor cut off since, after an entry
abbrev pub pending_after : ℕ → Bool → Entry → Bool
pending_after b pending (Put c a v) = if b == a.0 then true else pending
pending_after b pending (GiveUp a) = if b == a.0 then true else pending
pending_after b pending (Harden who a) = if b == a.0 then false else pending
pending_after b pending Cut = false
pending_after b pending other = pending

-- after entries
abbrev pub is_pending : ℕ → List Entry → Bool
is_pending b entries = fold (pending_after b) false entries

-- a value and those that were put after it, without those older than the last that was hardened
abbrev pub values_from : ℕ → Value → List Entry → List Value
values_from b v entries = fold (values_after b) (v ∷ []) entries

-- a law: of two reads of a block that aren't bad, over power cuts between, the later gives what the earlier gave or a value that
-- was put between, where nothing was pending for the block at the earlier one
abbrev pub RuledOutValuesStayOut : ℕ → List Turn → Type 0
RuledOutValuesStayOut capacity turns = (b : Lba) (later : GetOf b (entries_of turns)) (earlier : GetOf b later.before)
    → is_pending b.0 earlier.before ≡ false
    → IsTrue (list_any (same_value (Data later.block)) (values_from b.0 (Data earlier.block) earlier.behind))

-- the dirty blocks are those for which something is pending, and the list of dirty addresses has each of them, once
pub record AreDirtyBlocks (s : State) (entries : List Entry) : Type 0 where
  pub blocks : (b : ℕ) → is_dirty (s.blocks b) ≡ is_pending b entries
  pub addresses : (b : ℕ) → list_any (λ a. a == b) s.dirty ≡ is_pending b entries
  pub once : AllPairs (λ a b. a ≢ b) s.dirty

-- a law: so it is after any turns
abbrev pub DirtyBlocksArePending : Type 0
DirtyBlocksArePending = (capacity : ℕ) (waiting : Waiting) (turns : List Turn)
    → AreDirtyBlocks (turns_after capacity (state_at_start waiting) turns) (entries_of turns)
