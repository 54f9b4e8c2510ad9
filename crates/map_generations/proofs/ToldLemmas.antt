-- A map that stands whole is told by its slot.
use Rattle.std.proofs.Common.{◌≡◌, ℕ, ◌<◌, List, Option, Some, sym, ap, arith}
use Rattle.std.specs.Option.{option_map_or}
use Rattle.disk_base.specs.declared.payload.Payload.{Payload}
use Rattle.geometry_map.specs.DefectMap.{DefectMap}
use Rattle.map_generations.specs.MapRecord.{record_bytes, map_record}
use Rattle.map_generations.specs.Told.{data_of, read_told, count_told, MapsAreTold}
use Rattle.map_generations.proofs.ReadBack.{primary_count, grown_count, primary_read, grown_read}

pub maps_are_told : MapsAreTold
maps_are_told m reads valid stands =
    let at : (index : ℕ) → index < 4 → read_told reads m.slot index ≡ Some (map_record m 0 index) =
    λ index low. stands 0 index (omega arith) low (omega arith) in
    let bytes : (index : ℕ) → index < 4 → record_bytes m index ≡ data_of (read_told reads m.slot index) =
    λ index low. sym (ap data_of (at index low)) in
    let field : (Payload → ℕ) → Option Payload → ℕ = λ f o. option_map_or f o 0 in
    let measures = bytes 3 (omega arith) in
    let primary =
    primary_read m (data_of (read_told reads m.slot 0)) (count_told (read_told reads m.slot 3) 6) valid (bytes 0 (omega arith))
    (primary_count m (data_of (read_told reads m.slot 3)) valid measures) in
    let grown =
    grown_read m (data_of (read_told reads m.slot 1)) (data_of (read_told reads m.slot 2)) (count_told (read_told reads m.slot 3) 8) valid
    (bytes 1 (omega arith)) (bytes 2 (omega arith))
    (grown_count m (data_of (read_told reads m.slot 3)) valid measures) in
    let number = ap (field (λ p. p.address)) (at 0 (omega arith)) in
    let state = ap (field (λ p. p.state)) (at 0 (omega arith)) in
    λ i. record { size = m.size; primary = primary i; grown = grown i; number = number i; slot = m.slot; state = state i }
