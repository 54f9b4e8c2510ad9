-- What a sector carries.
use Rattle.std.specs.Prelude.{◌≡◌, ℕ, ◌^◌, ◌<◌, ◌==◌, ◌&&◌, if◌then◌else◌, List, ◌∷◌, ◌++◌, replicate, length}
use Rattle.std.specs.Int.{w32, w64, to_be_bytes}
use Rattle.disk_base.specs.declared.address.Lba.{Lba}
use Rattle.disk_base.specs.declared.address.Psn.{Psn}
use Rattle.disk_base.specs.declared.block.Value.{Value}
use Rattle.disk_base.specs.declared.block.Value.TheVariants.{Data, Lost}
use Rattle.disk_base.specs.declared.payload.Payload.{Payload}

-- the 528 bytes of a payload: kind, record index, map state, record version, the sector's number in four bytes,
-- the block's address or the map's number in eight, each high byte first, and the data
abbrev pub layout : Payload → List ℕ
layout p = p.kind ∷ p.index ∷ p.state ∷ p.version ∷ (to_be_bytes w32 p.psn.0 ++ (to_be_bytes w64 p.address ++ p.block))

-- the fields are in the ranges of their types
pub record IsPayload (p : Payload) : Type 0 where
  pub kind : p.kind < 256
  pub index : p.index < 256
  pub state : p.state < 256
  pub version : p.version < 256
  pub psn : p.psn.0 < 2 ^ 32
  pub address : p.address < 2 ^ 64
  pub long : length p.block ≡ 512

-- a user block of this address with these data, for this sector
abbrev pub user_payload : Psn → Lba → List ℕ → Payload
user_payload p b bytes = record { kind = 1; index = 0; state = 0; version = 0; psn = p; address = b.0; block = bytes }

-- the mark that this block is lost, for this sector
abbrev pub lost_payload : Psn → Lba → Payload
lost_payload p b = record { kind = 2; index = 0; state = 0; version = 0; psn = p; address = b.0; block = replicate 512 0 }

-- a record of a map of this number, for this sector
abbrev pub record_payload : Psn → ℕ → ℕ → ℕ → ℕ → List ℕ → Payload
record_payload p index state version number bytes =
    record { kind = 3; index = index; state = state; version = version; psn = p; address = number; block = bytes }

-- the value that a payload has for a block: its data where it is that user block, and lost otherwise
abbrev pub value_for : Lba → Payload → Value
value_for b p = if (p.kind == 1) && (p.address == b.0) then Data p.block else Lost
