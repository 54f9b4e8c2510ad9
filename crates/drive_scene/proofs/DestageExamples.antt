-- Which block is destaged, a destage that is one, and turns that are none.
use Rattle.std.proofs.Common.{◌≡◌, ℕ, eqb, Bool, true, false, true≢false, List, [], ◌∷◌, length, Option, Some, None, refl, sym, ap, arith}
use Rattle.std.specs.Option.{option_map_or}
use Rattle.disk_base.specs.declared.block.Value.{Value}
use Rattle.disk_base.specs.declared.block.Value.TheVariants.{Data}
use Rattle.disk_base.specs.declared.address.Psn.{Psn}
use Rattle.disk_base.specs.declared.payload.Payload.{Payload}
use Rattle.disk_base.specs.declared.command.DataOut.TheVariants.{Nothing}
use Rattle.platter_model.specs.declared.op.Op.{Op}
use Rattle.platter_model.specs.declared.op.Op.TheVariants.{Wrote, WriteFailed}
use Rattle.sector_store.specs.State.{placed}
use Rattle.task_set.specs.declared.member.Member.{Member}
use Rattle.cdb_reader.specs.declared.plan.Plan.{Plan}
use Rattle.cdb_reader.specs.declared.plan.Plan.TheVariants.{Writing}
use Rattle.block_machine.specs.declared.entry.Entry.{Entry}
use Rattle.block_machine.specs.declared.entry.Entry.TheVariants.{Harden, Put}
use Rattle.block_machine.specs.declared.entry.Who.TheVariants.{Command, Drive}
use Rattle.block_machine.specs.declared.turn.Label.TheVariants.{Destage}
use Rattle.block_machine.specs.Blocks.{newest}
use Rattle.block_machine.specs.State.{State}
use Rattle.drive_scene.specs.declared.answer.Pick.TheVariants as pick
use Rattle.drive_scene.specs.declared.answer.TurnAnswer.TheVariants.{Idle}
use Rattle.drive_scene.specs.declared.answer.Waiting.{Waiting}
use Rattle.drive_scene.specs.declared.event.Event.TheVariants as event
use Rattle.drive_scene.specs.Background.{background_at_start, stuck_by}
use Rattle.drive_scene.specs.Scene.{Scene, beat}
use Rattle.drive_scene.specs.Evidence.{lba, Shows}
use Rattle.drive_scene.specs.Holds.{destaged}
use Rattle.drive_scene.specs.GoodTurn.{IsDestageTurn}
use Rattle.drive_scene.specs.Able.{able_destage, refusal_on}

-- blocks 7 and 3 are dirty, 7 for the longer time, and no command is in
abbrev two_dirty : Scene → Scene
two_dirty s = record s { hist = record s.hist { dirty = 7 ∷ 3 ∷ []; set = [] }; back = background_at_start }

-- a write of block 7 that put it and owes its harden holds it
abbrev write_of_seven : Plan
write_of_seven = Writing (record { from = 7; at = 7; end = 8; sent = Nothing; through = true; verifies = false; reports = false; owes_harden = true })

abbrev seven_held : Scene → Member → Scene
seven_held s m = record (two_dirty s) {
  hist = record s.hist {
    dirty = 7 ∷ 3 ∷ [];
    set = record m { task = record m.task { c = 5 } } ∷ [];
    duties = λ c. record (s.hist.duties c) { owes = Some write_of_seven };
  };
  windows = λ c. [];
}

-- the destage of block 7 failed
abbrev seven_stuck : Scene → Scene
seven_stuck s = record (two_dirty s) { back = record background_at_start { stuck = λ b. eqb b 7 } }

abbrev none_dirty : Scene → Scene
none_dirty s = record s { hist = record s.hist { dirty = []; set = [] }; back = background_at_start }

oldest : (s : Scene) → destaged (two_dirty s) ≡ Some 7
oldest s = refl

held_passed_over : (s : Scene) (m : Member) → destaged (seven_held s m) ≡ Some 3
held_passed_over s m = refl

stuck_passed_over : (s : Scene) → destaged (seven_stuck s) ≡ Some 3
stuck_passed_over s = refl

nothing_to_destage : (s : Scene) → destaged (none_dirty s) ≡ None
nothing_to_destage s = refl

-- what is put anew may be destaged again
put_anew : (stuck : ℕ → Bool) → stuck_by stuck (Put 5 (lba 7) []) 7 ≡ false
put_anew stuck = refl

-- a destage comes where one is asked for and something is to be destaged, and is refused where nothing is
comes : (s : Scene) (w : Waiting) → able_destage (two_dirty s) (record w { destages = true }) ≡ pick.Destage ∷ []
comes s w = refl

not_asked_for : (s : Scene) (w : Waiting) → able_destage (two_dirty s) (record w { destages = false }) ≡ []
not_asked_for s w = refl

nothing_comes : (s : Scene) (w : Waiting) → able_destage (none_dirty s) (record w { destages = true }) ≡ []
nothing_comes s w = refl

served : (s : Scene) → refusal_on (two_dirty s) 2 event.Destage ≡ None
served s = refl

idle : (s : Scene) → refusal_on (none_dirty s) 2 event.Destage ≡ Some (Idle 2)
idle s = refl

-- the oldest block goes to its place, as the drive's harden
a_destage : (s : Scene) (bytes : List ℕ) → newest (s.hist.blocks 7) ≡ Some (Data bytes)
    → IsDestageTurn (two_dirty s) (Harden Drive (lba 7) ∷ []) (Wrote (placed s.map (lba 7) bytes) ∷ [])
a_destage s bytes is = record { b = lba 7; bytes = bytes; is_next = refl; newest = is; told = refl; wrote = refl }

hardened : List Entry → ℕ
hardened (Harden who b ∷ rest) = b.0
hardened other = 0

is_drives : List Entry → Bool
is_drives (Harden Drive b ∷ rest) = true
is_drives other = false

is_written : List Op → Bool
is_written (Wrote payload ∷ rest) = true
is_written other = false

number_in : Option ℕ → ℕ
number_in o = option_map_or (λ n. n) o 0

-- the newest block isn't the oldest
newest_block : (s : Scene) (ops : List Op) → IsDestageTurn (two_dirty s) (Harden Drive (lba 3) ∷ []) ops → ⊥
unfolding hardened number_in
newest_block s ops turn =
    let oldest_is : 7 ≡ turn.b.0 = ap number_in turn.is_next in
    let told : 3 ≡ turn.b.0 = ap hardened turn.told in
    absurd (omega (arith, oldest_is, told))

-- a command holds the oldest
held_block : (s : Scene) (m : Member) (ops : List Op) → IsDestageTurn (seven_held s m) (Harden Drive (lba 7) ∷ []) ops → ⊥
unfolding hardened number_in
held_block s m ops turn =
    let next_is : 3 ≡ turn.b.0 = ap number_in turn.is_next in
    let told : 7 ≡ turn.b.0 = ap hardened turn.told in
    absurd (omega (arith, next_is, told))

-- nothing is to be destaged
clean_block : (s : Scene) (entries : List Entry) (ops : List Op) → IsDestageTurn (none_dirty s) entries ops → ⊥
clean_block s entries ops turn = let never : None ≡ Some turn.b.0 = turn.is_next in absurd (cc)

-- the harden isn't told, or is told as a command's
no_harden : (s : Scene) (ops : List Op) → IsDestageTurn s [] ops → ⊥
no_harden s ops turn = absurd (omega (arith, ap length turn.told))

harden_by_a_command : (s : Scene) (b : ℕ) (ops : List Op) → IsDestageTurn s (Harden (Command 5) (lba b) ∷ []) ops → ⊥
unfolding is_drives
harden_by_a_command s b ops turn = true≢false (sym (ap is_drives turn.told))

-- it writes once, and a write that failed is none
second_write : (s : Scene) (entries : List Entry) (first second : Payload) → IsDestageTurn s entries (Wrote first ∷ Wrote second ∷ []) → ⊥
second_write s entries first second turn = absurd (omega (arith, ap length turn.wrote))

failed_write : (s : Scene) (entries : List Entry) (p : Psn) → IsDestageTurn s entries (WriteFailed p ∷ []) → ⊥
unfolding is_written
failed_write s entries p turn = true≢false (sym (ap is_written turn.wrote))

-- no harden is shown without its write, whoever hardens
harden_without_write : (s : Scene) (h : State) (v : Value) → newest (h.blocks 7) ≡ Some v → Shows s (beat Destage (Harden Drive (lba 7) ∷ []) []) h (Harden Drive (lba 7)) → ⊥
harden_without_write s h v is shown = let written = shown v is in absurd (omega (arith, written.1.1))
