-- The samples that a sector gives at an attempt, and what is found in them.
use Rattle.std.specs.Prelude.{◌≡◌, ℕ, ◌+◌, Bool, true, not, nat_lt, pos, negsuc, ℤ, ◌+ℤ◌, List, ◌++◌, Option, Some, None, IfSome, fold, map, take, drop, replicate, slice_range, if◌then◌else◌}
use Rattle.std.specs.Int.{w8, saturate_signed}
use Rattle.std.specs.Ordering.{int_eq}
use Rattle.disk_base.specs.declared.address.Psn.{Psn}
use Rattle.disk_base.specs.declared.payload.Payload.{Payload}
use Rattle.disk_base.specs.declared.stage.How.{How}
use Rattle.channel_path.specs.Sector.{IsEncoded, ReadsAs}
use Rattle.platter_model.specs.declared.damage.Attempt.{Attempt}
use Rattle.platter_model.specs.declared.damage.Lasting.{Lasting}
use Rattle.platter_model.specs.declared.damage.Lasting.TheVariants.{Hard, Soft, Plus, Minus}
use Rattle.platter_model.specs.declared.damage.Effect.{Effect}
use Rattle.platter_model.specs.declared.damage.Effect.TheVariants.{Drop, Add}
use Rattle.platter_model.specs.declared.op.Op.{Op}
use Rattle.platter_model.specs.Sector.{Flaw, harm, scar, flaws, meant}

-- a damage that lasts so applies at an attempt
abbrev pub applies : Lasting → Attempt → Bool
applies Hard attempt = true
applies (Soft count) attempt = nat_lt attempt.reread count
applies Plus attempt = not (int_eq attempt.offset (pos 1))
applies Minus attempt = not (int_eq attempt.offset (negsuc 0))

-- a sample under an effect
abbrev pub affected : Effect → ℤ → ℤ
affected Drop sample = pos 0
affected (Add more) sample = saturate_signed w8 (sample +ℤ more)

-- samples of which so many from one on are under an effect
abbrev pub changed : Effect → ℕ → ℕ → List ℤ → List ℤ
changed effect first count samples = take first samples
    ++ map (affected effect) (slice_range samples first (first + count))
    ++ drop (first + count) samples

-- samples under a flaw at an attempt; a scar drops its samples at every attempt
abbrev pub under_flaw : Attempt → List ℤ → Flaw → List ℤ
under_flaw attempt samples (harm damage) =
    if applies damage.lasting attempt then changed damage.effect damage.first damage.count samples else samples
under_flaw attempt samples (scar dropped) = changed Drop 0 dropped samples

-- samples under flaws, one after another
abbrev pub under : Attempt → List Flaw → List ℤ → List ℤ
under attempt flaws samples = fold (under_flaw attempt) samples flaws

-- the samples of a sector without flaws on which this is meant; zeros where nothing is
abbrev pub IsUnflawed : Option Payload → List ℤ → Type 0
IsUnflawed None samples = samples ≡ replicate 9478 (pos 0)
IsUnflawed (Some payload) samples = IsEncoded payload samples

-- after these operations p gives these samples at the attempt
pub record IsGiven (ops : List Op) (p : Psn) (attempt : Attempt) (samples : List ℤ) : Type 0 where
  pub unflawed : List ℤ
  pub written : IsUnflawed (meant p ops) unflawed
  pub flawed : samples ≡ under attempt (flaws p ops) unflawed

-- samples of p decoded in this way are what was found: that payload, or none
pub record IsFound (p : Psn) (samples : List ℤ) (how : How) (found : Option Payload) : Type 0 where
  pub some : IfSome found (ReadsAs p samples how)
  pub none : (payload : Payload) → ReadsAs p samples how payload → found ≡ Some payload
