-- A turn that hardens a block moves the parts of a drive.
use Rattle.std.proofs.Common.{◌≡◌, ℕ, true, List, [], ◌∷◌, ◌++◌, Option, Some, None, refl, sym, ap, ◌∙◌, subst, append-nil}
use Rattle.std.proofs.lemmas.Bool.{true≢false}
use Rattle.std.proofs.lemmas.List.Elements.{All-head}
use Rattle.disk_base.specs.declared.address.Lba.{Lba}
use Rattle.disk_base.specs.declared.payload.Payload.{Payload}
use Rattle.platter_model.specs.declared.op.Op.TheVariants.{Wrote}
use Rattle.sector_store.specs.State.{placed}
use Rattle.sense_data.specs.declared.reply.Reply.{Reply}
use Rattle.task_set.specs.Members.{member_of}
use Rattle.write_cache.specs.Contents.{newest}
use Rattle.cdb_reader.specs.declared.plan.Plan.{Plan}
use Rattle.cdb_reader.specs.declared.plan.Plan.TheVariants.{Over}
use Rattle.cdb_reader.specs.declared.plan.Deed.TheVariants as deed
use Rattle.cdb_reader.specs.Plan.{next}
use Rattle.block_machine.specs.declared.entry.Entry.{Entry}
use Rattle.block_machine.specs.declared.entry.Entry.TheVariants.{Ended}
use Rattle.block_machine.specs.declared.turn.Label.TheVariants.{Work}
use Rattle.block_machine.specs.Blocks.{without_address}
use Rattle.block_machine.specs.State.{State}
use Rattle.block_machine.specs.Steps.{entry_after}
use Rattle.block_machine.specs.Deeds.{names_dirty}
use Rattle.block_machine.specs.Entries.{ends_as_told}
use Rattle.block_machine.specs.Turns.{owes_nothing_now}
use Rattle.drive_core.specs.declared.accepted.Accepted.{Accepted}
use Rattle.drive_core.specs.declared.server.Server.{Server}
use Rattle.drive_scene.specs.declared.answer.Ended as told_end
use Rattle.drive_scene.specs.Scene.{Scene, capacity, beat}
use Rattle.drive_scene.specs.View.{view}
use Rattle.drive_core.specs.Commands.{IsCommand}
use Rattle.drive_scene.specs.Ending.{ended_in, ended_of_member}
use Rattle.drive_scene.specs.Evidence.{IsEndShown}
use Rattle.drive_scene.specs.Present.{IsPresentMap}
use Rattle.drive_core.specs.Fits.{Fits}
use Rattle.sector_store.specs.Caching.{Hardens}
use Rattle.drive_core.specs.Moves.{Moves}
use Rattle.drive_scene.specs.Half.{Half}
use Rattle.drive_scene.proofs.Apart.{HoldsAlone}
use Rattle.drive_scene.proofs.Elsewhere.{after_half, after_end, reached-end}
use Rattle.drive_core.proofs.Fitting.{fits_on, fits_end}
use Rattle.drive_core.proofs.Closing.{Goes, Stops, moves_on, moves_end}
use Rattle.drive_scene.specs.Kinds.{IsHarden, hardened_blocks}
use Rattle.drive_scene.specs.Laws.{HalvesAreGood, HardensAreHalves, PassesToHardenAreHalves}
use Rattle.drive_core.proofs.WrittenOut.{IsWrittenOut, op_of, added_written, present_written, has_written, cached_written}
use Rattle.drive_core.proofs.Windows.{room_of}
use Rattle.drive_scene.specs.GoodTurn.{AreTriesShown, WritesBlockData}
use Rattle.std.specs.Prelude.{All}

-- where a block is written none is tried, and its harden is an entry
tries_wrote : (s : Scene) (c : ℕ) (es : List Entry) (payload : Payload) → All (WritesBlockData s.map es) (Wrote payload ∷ [])
    → AreTriesShown s (Work c) es (Wrote payload ∷ [])
tries_wrote s c [] payload all = absurd (true≢false (sym (All-head (WritesBlockData s.map []) (Wrote payload) [] all).1))
tries_wrote s c (e ∷ es) payload all = refl

-- the laws by which a turn that hardens a block is a good one
pub record HardenLaws : Type 0 where
  pub halves : HalvesAreGood
  pub hardens : HardensAreHalves
  pub passes : PassesToHardenAreHalves

-- what a turn that hardens a block begins with, and what it leaves of the store
pub record IsHardenTurn (s : Scene) (d e : Server) (c : ℕ) (b : Lba) (bytes : List ℕ) : Type 0 where
  pub fits : Fits s d
  pub is : IsHarden s c b bytes
  pub held : newest b d.store.cache ≡ Some bytes
  pub hardens : Hardens d.store b bytes e.store
  pub present : IsPresentMap e.store.map e.store.platter.ops
  pub laws : HardenLaws

-- a turn that hardens a block writes it out
out : (s : Scene) (d e : Server) (c : ℕ) (b : Lba) (bytes : List ℕ) → IsHardenTurn s d e c b bytes → IsWrittenOut s d e b bytes
out s d e c b bytes turn = record {
  fits = turn.fits;
  below = turn.is.below;
  data_is = turn.is.newest;
  stores = turn.is.stores;
  keeps = turn.is.keeps;
  held = turn.held;
  hardens = turn.hardens;
  present = turn.present;
}

module _ (s : Scene) (d e : Server) (c : ℕ) (b : Lba) (bytes : List ℕ) (turn : IsHardenTurn s d e c b bytes) where
  abbrev wrote : IsWrittenOut s d e b bytes
  wrote = out s d e c b bytes turn

  module _ (half entries : List Entry) (h : State) (plan : Plan) (told : Option told_end.Ended) (is : Half s c (op_of s b bytes ∷ []) half h plan)
      (blocks_are : h.blocks ≡ hardened_blocks s b) (order : h.dirty ≡ without_address b.0 s.hist.dirty) where
    -- the command goes on
    pub harden_on : (a : Accepted) → owes_nothing_now (Some plan) ≡ true → None ≡ ended_in s half
        → IsCommand (view (after_half s c (op_of s b bytes ∷ []) half) c) a → HoldsAlone s c ((after_half s c (op_of s b bytes ∷ []) half).windows c) plan
        → Goes d e c a half entries told → Moves (Work c) s d e entries told
    harden_on a settled none own alone goes =
        let t : Scene = after_half s c (op_of s b bytes ∷ []) half in
        moves_on s c (op_of s b bytes ∷ []) half entries h plan d e a told is
        (turn.laws.halves.on s c (op_of s b bytes ∷ []) half h plan (room_of s c d turn.fits) (present_written s d e b bytes wrote) is
        (tries_wrote s c half (placed s.map b bytes) (subst (λ (es : List Entry). All (WritesBlockData s.map es) (op_of s b bytes ∷ [])) (append-nil half) (is.written [])))
        settled refl)
        (fits_on s c (op_of s b bytes ∷ []) half h plan d e a is turn.fits goes.set goes.arrived goes.known goes.replaces (has_written s d e b bytes wrote t refl refl)
        (cached_written s d e b bytes wrote t half refl refl refl refl refl (ap (λ (x : State). x.blocks) is.reached ∙ blocks_are) (ap (λ (x : State). x.dirty) is.reached ∙ order)) own alone)
        goes (added_written s d e b bytes wrote) none

    -- or ends
    pub harden_ends : (reply : Reply) → next plan (deed.Ended reply (names_dirty h reply)) ≡ Some Over → ends_as_told (Some plan) (h.duties c) reply ≡ true
        → IsEndShown s (beat (Work c) (half ++ Ended c reply ∷ []) (op_of s b bytes ∷ [])) c (Some plan) reply
        → ended_of_member (member_of s.hist.set c) reply ≡ ended_in s (half ++ Ended c reply ∷ []) → Stops d e c reply half entries told
        → Moves (Work c) s d e entries told
    harden_ends reply may told_so shown ended stops =
        let t : Scene = after_end s c (op_of s b bytes ∷ []) half reply in
        let reached : t.hist ≡ entry_after (capacity s) (Work c) h (Ended c reply) = reached-end s c (op_of s b bytes ∷ []) half h plan reply is in
        moves_end s c (op_of s b bytes ∷ []) half entries h plan d e reply told is
        (turn.laws.halves.over s c (op_of s b bytes ∷ []) half h plan Over reply (room_of s c d turn.fits) (present_written s d e b bytes wrote) is
        (tries_wrote s c (half ++ Ended c reply ∷ []) (placed s.map b bytes) (is.written (Ended c reply ∷ []))) may told_so shown)
        (fits_end s c (op_of s b bytes ∷ []) half h plan reply d e is turn.fits stops.left (has_written s d e b bytes wrote t refl refl)
        (cached_written s d e b bytes wrote t (half ++ Ended c reply ∷ []) refl refl refl refl refl (ap (λ (x : State). x.blocks) reached ∙ blocks_are) (ap (λ (x : State). x.dirty) reached ∙ order)))
        stops turn.fits (added_written s d e b bytes wrote) ended
