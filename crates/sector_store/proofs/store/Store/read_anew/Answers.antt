use Rattle.std.proofs.Common.{◌≡◌, ◌∙◌, true, ap, subst}
use Rattle.platter_model.specs.declared.op.Op.TheVariants.{Power}
use Rattle.platter_model.specs.State.{State, with_op}
use Rattle.platter_model.specs.TrueLog.{is_off}
use Rattle.read_recovery.specs.Stages.{stages_of}
use Rattle.map_generations.specs.Recovery.{reads_of}
use Rattle.sector_store.specs.Recovering.{AreReadBy}
use Rattle.sector_store.specs.State.{Contained}
use Rattle.sector_store.proofs.Recovering.{silent, below_read, read_truly, power_on}
use Rattle.sector_store.proofs.store.Store.read_anew.Goals as goal

pub invariant_of-self : goal.invariant_of-self
invariant_of-self c =
    let off : is_off c.self.inside.platter.ops ≡ true = ap (λ (s : Contained). is_off s.platter.ops) c.self.view_is ∙ c.requires.off in
    let read : AreReadBy (with_op c.self.inside.platter Power) 16 (stages_of 5) (reads_of c.read_maps.result) c.read_maps.new.platter =
    subst (λ (x : State). AreReadBy x 16 (stages_of 5) (reads_of c.read_maps.result) c.read_maps.new.platter)
    (power_on c.self.inside.platter c.power.new.self off c.power.ensures) c.read_maps.ensures in
    record {
      placer = c.self.invariant.placer;
      maps = c.quiet_operations_keep_maps.ensures c.self.inside.map c.self.inside.next c.self.inside.ready c.self.inside.platter c.read_maps.new.platter
          c.self.invariant.maps (below_read c.self.inside.platter c.read_maps.new.platter 16 (stages_of 5) (reads_of c.read_maps.result) read);
    }

pub returns-clause-truly : goal.returns-clause-truly
returns-clause-truly c =
    let off : is_off c.self.inside.platter.ops ≡ true = ap (λ (s : Contained). is_off s.platter.ops) c.self.view_is ∙ c.requires.off in
    let read : AreReadBy (with_op c.self.inside.platter Power) 16 (stages_of 5) (reads_of c.read_maps.result) c.read_maps.new.platter =
    subst (λ (x : State). AreReadBy x 16 (stages_of 5) (reads_of c.read_maps.result) c.read_maps.new.platter)
    (power_on c.self.inside.platter c.power.new.self off c.power.ensures) c.read_maps.ensures in
    read_truly c.self.inside.platter c.read_maps.new.platter (stages_of 5) (reads_of c.read_maps.result) read

pub returns-clause-on : goal.returns-clause-on
returns-clause-on c =
    let off : is_off c.self.inside.platter.ops ≡ true = ap (λ (s : Contained). is_off s.platter.ops) c.self.view_is ∙ c.requires.off in
    let read : AreReadBy (with_op c.self.inside.platter Power) 16 (stages_of 5) (reads_of c.read_maps.result) c.read_maps.new.platter =
    subst (λ (x : State). AreReadBy x 16 (stages_of 5) (reads_of c.read_maps.result) c.read_maps.new.platter)
    (power_on c.self.inside.platter c.power.new.self off c.power.ensures) c.read_maps.ensures in
    (silent c.self.inside.platter c.read_maps.new.platter 16 (stages_of 5) (reads_of c.read_maps.result) read).on
