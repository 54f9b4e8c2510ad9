-- A read needs nothing before its last block only where a write of a block faulted, and a list of blocks needs nothing before its
-- last one only for want of a spare.
use Rattle.std.proofs.Common.{◌≡◌, ℕ, Bool, true, Some, None, refl}
use Rattle.std.specs.Prelude.{Option, IsSome}
use Rattle.disk_base.specs.declared.address.Lba.{Lba}
use Rattle.disk_base.specs.declared.stage.Stage.{Stage}
use Rattle.read_recovery.specs.Stages.{next_stage}
use Rattle.cdb_reader.specs.declared.plan.Reading as reading
use Rattle.cdb_reader.specs.declared.plan.Moving as moving
use Rattle.command_engine.specs.declared.need.Need.TheVariants as need
use Rattle.command_engine.specs.declared.step.Step.{Step}
use Rattle.command_engine.specs.declared.step.Step.TheVariants as step
use Rattle.command_engine.specs.declared.step.Step.TheVariants.{Trying, Hardening, Faulted, Spareless}
use Rattle.command_engine.specs.Standing.{IsReading, IsMoving}
use Rattle.command_engine.specs.Need.{lba, need_at_read, need_at_move, taking_block, in_hand}
use Rattle.command_engine.specs.Ending.{fault_at, ended_move}
use Rattle.command_engine.proofs.Stages.{stage_is_left}

takes : (b : Lba) (medium : Bool) (o : Option Stage) → IsSome o → taking_block b medium o ≡ need.Nothing → ⊥
takes b medium None some is = cc some
takes b medium (Some stage) some is = cc is

pub nothing_at_read : (retry : ℕ) (r : reading.Reading) (step : Step) → IsReading retry step r
    → (need_at_read r step ≡ need.Nothing → IsSome (fault_at step r.at)) × (IsSome (fault_at step r.at) → need_at_read r step ≡ need.Nothing)
nothing_at_read retry r (Trying p) way = (λ nothing. absurd (takes (lba r.at) r.through (next_stage p) (stage_is_left retry p way.tried) nothing), λ some. absurd (cc some))
nothing_at_read retry r Hardening way = (λ nothing. absurd (cc nothing), λ some. absurd (cc some))
nothing_at_read retry r Faulted way = (λ nothing. refl, λ some. refl)
nothing_at_read retry r other way = absurd way.left

pub nothing_in_list : (retry moved : ℕ) (m : moving.Moving) (o : Option Lba) (step : Step) → in_hand m moved ≡ o → IsMoving retry moved step m
    → (need_at_move o step ≡ need.Nothing → IsSome (ended_move o step)) × (IsSome (ended_move o step) → need_at_move o step ≡ need.Nothing)
nothing_in_list retry moved m None step hand way = (λ nothing. refl, λ some. refl)
nothing_in_list retry moved m (Some b) (Trying p) hand way =
    (λ nothing. absurd (takes b true (next_stage p) (stage_is_left retry p way.tried) nothing), λ some. absurd (cc some))
nothing_in_list retry moved m (Some b) (step.Moving why) hand way = (λ nothing. absurd (cc nothing), λ some. absurd (cc some))
nothing_in_list retry moved m (Some b) Spareless hand way = (λ nothing. refl, λ some. refl)
nothing_in_list retry moved m (Some b) other hand way = absurd way.left
