-- What holds of writing and reading a sector.
use Rattle.std.specs.Prelude.{◌≡◌, List, ℤ, pos, replicate}
use Rattle.disk_base.specs.declared.address.Psn.{Psn}
use Rattle.disk_base.specs.declared.payload.Payload.{Payload}
use Rattle.disk_base.specs.declared.stage.How.{How}
use Rattle.disk_base.specs.Payload.{IsPayload}
use Rattle.channel_path.specs.Sector.{IsEncoded, IsOf, ReadsAs}

-- a payload is written in one way
abbrev pub HasOneEncoding : Type 0
HasOneEncoding = (payload : Payload) (a b : List ℤ) → IsEncoded payload a → IsEncoded payload b → a ≡ b

-- what a payload was written as reads as that payload, by every way of decoding
abbrev pub ReadsBack : Type 0
ReadsBack = (p : Psn) (payload : Payload) (samples : List ℤ) (how : How) → IsPayload payload → IsOf p payload → IsEncoded payload samples → ReadsAs p samples how payload

-- samples that are all zero, as those of a sector that was never written, read as no payload
abbrev pub ZerosReadAsNothing : Type 0
ZerosReadAsNothing = (p : Psn) (how : How) (payload : Payload) → ReadsAs p (replicate 9478 (pos 0)) how payload → ⊥
