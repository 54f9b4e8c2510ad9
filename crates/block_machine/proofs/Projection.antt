-- The part of a legal history that is about blocks: along all its entries in order the blocks allow each.
use Rattle.std.proofs.Common.{◌≡◌, ◌∙◌, ap, sym, refl, ℕ, true, List, [], ◌∷◌}
use Rattle.std.specs.Prelude.{fold}
use Rattle.block_machine.specs.declared.entry.Entry.{Entry}
use Rattle.block_machine.specs.declared.turn.Label.{Label}
use Rattle.block_machine.specs.declared.turn.Label.TheVariants.{Arrive, Work, Job, Scan, Destage, World}
use Rattle.block_machine.specs.declared.turn.Turn.{Turn}
use Rattle.block_machine.specs.Blocks.{Blocks, blocks_after, block_lawful}
use Rattle.block_machine.specs.State.{State}
use Rattle.block_machine.specs.Steps.{entry_after, entries_after, begun}
use Rattle.block_machine.specs.Turns.{blocks_lawful, tasks_lawful, turn_lawful, turn_after}
use Rattle.block_machine.specs.History.{legal_from, turns_after, entries_of}
use Rattle.block_machine.proofs.Alongs.{fold_both, along_both}
use Rattle.block_machine.proofs.Booleans.{and_both, both}

-- the blocks after entries of a turn are those after these entries
pub blocks_of_entries : (capacity : ℕ) (label : Label) (s : State) (entries : List Entry)
    → (entries_after capacity label s entries).blocks ≡ fold blocks_after s.blocks entries
blocks_of_entries capacity label s [] = refl
blocks_of_entries capacity label s (e ∷ entries) = blocks_of_entries capacity label (entry_after capacity label s e) entries

-- a turn that begins changes no block
pub blocks_begun : (s : State) (label : Label) → (begun s label).blocks ≡ s.blocks
blocks_begun s (Arrive i) = refl
blocks_begun s (Work c) = refl
blocks_begun s (Job j) = refl
blocks_begun s Scan = refl
blocks_begun s Destage = refl
blocks_begun s (World w) = refl

-- the blocks after a turn are those after its entries
pub blocks_of_turn : (capacity : ℕ) (s : State) (turn : Turn) → (turn_after capacity s turn).blocks ≡ fold blocks_after s.blocks turn.entries
blocks_of_turn capacity s turn =
    blocks_of_entries capacity turn.label (begun s turn.label) turn.entries
    ∙ ap (λ (blocks : Blocks). fold blocks_after blocks turn.entries) (blocks_begun s turn.label)

-- the blocks after turns are those after all their entries
pub blocks_of_turns : (capacity : ℕ) (s : State) (turns : List Turn) → (turns_after capacity s turns).blocks ≡ fold blocks_after s.blocks (entries_of turns)
blocks_of_turns capacity s [] = refl
blocks_of_turns capacity s (turn ∷ turns) =
    blocks_of_turns capacity (turn_after capacity s turn) turns
    ∙ ap (λ (blocks : Blocks). fold blocks_after blocks (entries_of turns)) (blocks_of_turn capacity s turn)
    ∙ sym (fold_both blocks_after s.blocks turn.entries (entries_of turns))

-- along all entries of a legal history the blocks allow each
pub legal_blocks : (capacity : ℕ) (s : State) (turns : List Turn) → legal_from capacity s turns ≡ true → blocks_lawful capacity s.blocks (entries_of turns) ≡ true
legal_blocks capacity s [] h = refl
legal_blocks capacity s (turn ∷ turns) h =
    let now = both (turn_lawful capacity s turn) _ h in
    let here = both (tasks_lawful capacity s turn) (blocks_lawful capacity s.blocks turn.entries) now.0 in
    let later : blocks_lawful capacity (turn_after capacity s turn).blocks (entries_of turns) ≡ true = legal_blocks capacity (turn_after capacity s turn) turns now.1 in
    let moved : blocks_lawful capacity (fold blocks_after s.blocks turn.entries) (entries_of turns) ≡ true =
    ap (λ (blocks : Blocks). blocks_lawful capacity blocks (entries_of turns)) (sym (blocks_of_turn capacity s turn)) ∙ later in
    along_both blocks_after (block_lawful capacity) s.blocks turn.entries (entries_of turns)
    ∙ and_both (blocks_lawful capacity s.blocks turn.entries) _ here.1 moved
