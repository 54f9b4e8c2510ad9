use Rattle.std.proofs.Common.{◌≡◌, length}
use Rattle.read_recovery.specs.Stages.{stages_of}
use Rattle.map_generations.specs.Recovery.{reads_of}
use Rattle.sector_store.specs.Recovering.{AreReadBy}
use Rattle.sector_store.proofs.reading.read_maps.Given as goal

-- the sectors so far are read
abbrev pub invariant-loop-p : goal.invariant-loop-p
invariant-loop-p l = record {
  read : AreReadBy l.fn.platter l.p (stages_of 5) (reads_of l.reads) l.platter;
  long : length l.reads ≡ 16;
}
