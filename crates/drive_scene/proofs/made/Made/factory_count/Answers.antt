-- a factory writes two maps of eight records each, and the blocks
use Rattle.std.proofs.Common.{◌≡◌, ◌+◌, List, ◌++◌, length, refl, arith, length-append}
use Rattle.std.proofs.lemmas.List.{length-map}
use Rattle.std.proofs.lemmas.List.FromFn.{length-map-range_with_len}
use Rattle.disk_base.specs.declared.payload.Payload.{Payload}
use Rattle.geometry_map.specs.DefectMap.{DefectMap, factory_map}
use Rattle.geometry_map.specs.Size.{capacity_of}
use Rattle.platter_model.specs.declared.op.Op.TheVariants.{Wrote}
use Rattle.sector_store.specs.Factory.{first_map, factory_payloads, zero_block, zero_blocks}
use Rattle.sector_store.specs.Maps.{records_of}
use Rattle.drive_scene.specs.declared.made.Made.{Made}
use Rattle.drive_scene.specs.Scene.{factory_ops}
use Rattle.drive_scene.proofs.made.Made.factory_count.Goals as goal

eight_records : (m : DefectMap) → length (records_of m) ≡ 8
unfolding records_of
eight_records m = refl

writes_of : (made : Made) → length (factory_ops made) ≡ 16 + capacity_of made.size
unfolding records_of
writes_of made =
    let m : DefectMap = factory_map made.size made.primary in
    let first : List Payload = records_of (first_map made.size made.primary) in
    let second : List Payload = records_of m in
    let wrote : length (factory_ops made) ≡ length (factory_payloads made.size made.primary) = length-map (factory_payloads made.size made.primary) Wrote in
    let blocks : length (zero_blocks m) ≡ capacity_of made.size = length-map-range_with_len (zero_block m) 0 (capacity_of made.size) in
    let one = eight_records (first_map made.size made.primary) in
    let two = eight_records m in
    let maps : length (factory_payloads made.size made.primary) ≡ length first + length (second ++ zero_blocks m) = length-append first (second ++ zero_blocks m) in
    let rest = length-append second (zero_blocks m) in
    omega (arith, wrote, blocks, one, two, maps, rest)

pub returns : goal.returns
returns c = omega (arith, writes_of c.args.self.now, c.capacity.ensures.value)
