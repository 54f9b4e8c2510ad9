-- Legal histories are those that are legal for commands and for blocks.
use Rattle.std.proofs.Common.{◌≡◌, ◌∙◌, ap, sym, refl, ℕ, ◌+◌, Bool, true, false, List, [], ◌∷◌}
use Rattle.std.specs.Prelude.{◌&&◌, fold, Option, Some, None}
use Rattle.std.specs.Option.{option_map, is_none}
use Rattle.disk_base.specs.Along.{all_along, first_failing}
use Rattle.block_machine.specs.declared.turn.Turn.{Turn}
use Rattle.block_machine.specs.Blocks.{Blocks, blocks_at_start}
use Rattle.block_machine.specs.Attentions.{attentions_at_start}
use Rattle.block_machine.specs.State.{State, state_at_start}
use Rattle.block_machine.specs.Turns.{blocks_lawful, tasks_lawful, turn_after}
use Rattle.block_machine.specs.History.{legal_from, task_legal_from, turns_after}
use Rattle.block_machine.proofs.Projection.{blocks_of_turn}
use Rattle.history_replay.specs.Replay.{turn_allowed, after_turn, LegalHasBoth, LegalLeavesTheseBlocks}
use Rattle.history_replay.proofs.Along.{none_fails}

-- the blocks allow the entries of turns
allowed_from : ℕ → Blocks → List Turn → Bool
allowed_from capacity blocks turns = all_along after_turn (turn_allowed capacity) blocks turns

and_false : (a : Bool) → false ≡ (a && false)
and_false true = refl
and_false false = refl

and_swap : (b l a : Bool) → (b && (l && a)) ≡ (l && (b && a))
and_swap true l a = refl
and_swap false l a = and_false l

pub and_four : (t b l a : Bool) → ((t && b) && (l && a)) ≡ ((t && l) && (b && a))
and_four true b l a = and_swap b l a
and_four false b l a = refl

-- legal for both
legal-splits : (capacity : ℕ) (s : State) (turns : List Turn)
    → legal_from capacity s turns ≡ (task_legal_from capacity s turns && allowed_from capacity s.blocks turns)
unfolding allowed_from
legal-splits capacity s [] = refl
legal-splits capacity s (turn ∷ turns) =
    let after = turn_after capacity s turn in
    let t = tasks_lawful capacity s turn in
    let b = blocks_lawful capacity s.blocks turn.entries in
    ap (λ (x : Bool). (t && b) && x) (legal-splits capacity after turns)
    ∙ ap (λ (blocks : Blocks). (t && b) && (task_legal_from capacity after turns && allowed_from capacity blocks turns)) (blocks_of_turn capacity s turn)
    ∙ and_four t b (task_legal_from capacity after turns) (allowed_from capacity (after_turn s.blocks turn) turns)

pub is_none-map : (f : ℕ → ℕ) (o : Option ℕ) → is_none (option_map f o) ≡ is_none o
is_none-map f None = refl
is_none-map f (Some n) = refl

pub legal-both : LegalHasBoth
unfolding allowed_from
legal-both capacity turns =
    let s = state_at_start attentions_at_start in
    let first = first_failing after_turn (turn_allowed capacity) blocks_at_start turns in
    legal-splits capacity s turns
    ∙ ap (λ (x : Bool). task_legal_from capacity s turns && x)
    (sym (is_none-map (λ n. n + 1) first ∙ none_fails after_turn (turn_allowed capacity) blocks_at_start turns))

leaves : (capacity : ℕ) (s : State) (turns : List Turn) → (turns_after capacity s turns).blocks ≡ fold after_turn s.blocks turns
leaves capacity s [] = refl
leaves capacity s (turn ∷ turns) =
    leaves capacity (turn_after capacity s turn) turns
    ∙ ap (λ (blocks : Blocks). fold after_turn blocks turns) (blocks_of_turn capacity s turn)

pub legal-leaves : LegalLeavesTheseBlocks
legal-leaves capacity turns = leaves capacity (state_at_start attentions_at_start) turns
