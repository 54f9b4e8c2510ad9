use Rattle.std.proofs.Common.{◌≡◌, ◌∙◌, ◌≤◌, ◌<◌, ◌*◌, ◌+◌, ℕ, suc, List, length, set, ap, subst, sym, refl, arith, take, None}
use Rattle.std.proofs.lemmas.List.{length-set}
use Rattle.disk_base.specs.declared.stage.Stage.{Stage}
use Rattle.geometry_map.specs.DefectMap.{sector}
use Rattle.read_recovery.specs.Stages.{stages_of}
use Rattle.map_generations.specs.Recovery.{reads_of}
use Rattle.sector_store.specs.Recovering.{IsReadBy, AreReadBy}
use Rattle.sector_store.proofs.TriesInOrder.{still_on, room_after, none_read, next_read}
use Rattle.sector_store.proofs.reading.read_maps.Goals as goal

pub loop-p-init : goal.loop-p-init
loop-p-init c = record { read = none_read c.args.platter.now (stages_of 5) _; long = refl }

pub read_sector-requires-clause-on : goal.read_sector-requires-clause-on
read_sector-requires-clause-on c =
    still_on c.args.platter.now c.loop-p.platter c.loop-p.p (stages_of 5) (reads_of c.loop-p.reads) c.loop-p.invariant.read c.requires.on

pub read_sector-requires-clause-room : goal.read_sector-requires-clause-room
read_sector-requires-clause-room c =
    let stages_are : c.as_slice.result.now ≡ stages_of 5 = c.as_slice.ensures.value ∙ c.stages-stages.ensures in
    subst (λ (xs : List Stage). 2 * length xs ≤ c.loop-p.platter.room) (sym stages_are)
    (room_after c.args.platter.now c.loop-p.platter c.loop-p.p (stages_of 5) (reads_of c.loop-p.reads) c.loop-p.invariant.read (omega (arith, c.loop-p-test.true)) refl
    c.requires.room)

pub loop-p-preserved : goal.loop-p-preserved
loop-p-preserved c =
    let stages_are : c.as_slice.result.now ≡ stages_of 5 = c.as_slice.ensures.value ∙ c.stages-stages.ensures in
    let one : IsReadBy c.loop-p.platter (sector c.loop-p.p) (stages_of 5) c.read_sector.result c.read_sector.new.platter =
    subst (λ (n : ℕ). IsReadBy c.loop-p.platter (sector n) (stages_of 5) c.read_sector.result c.read_sector.new.platter) c.from.ensures
    (subst (λ (xs : List Stage). IsReadBy c.loop-p.platter (sector c.from.result) xs c.read_sector.result c.read_sector.new.platter) stages_are c.read_sector.ensures) in
    let one_more : suc c.loop-p.p ≡ c.loop-p.p + 1 = omega arith in
    let next = next_read c.args.platter.now c.loop-p.platter c.read_sector.new.platter c.loop-p.p (stages_of 5) c.loop-p.reads c.read_sector.result
    (omega (arith, c.loop-p-test.true, c.loop-p.invariant.long)) c.loop-p.invariant.read one in
    record {
      read = subst (λ (i : ℕ). AreReadBy c.args.platter.now (c.loop-p.p + 1) (stages_of 5) (reads_of (set c.loop-p.reads i c.read_sector.result)) c.read_sector.new.platter)
          (sym c.from-in-loop-p.ensures)
          (subst (λ (n : ℕ). AreReadBy c.args.platter.now n (stages_of 5) (reads_of (set c.loop-p.reads c.loop-p.p c.read_sector.result)) c.read_sector.new.platter) one_more next);
      long = length-set c.loop-p.reads _ _ ∙ c.loop-p.invariant.long;
    }
