-- the last pair's spare is where the chain ends
use Rattle.std.proofs.Common.{◌∙◌, ap, ℕ, ◌-◌, List, get_or}
use Rattle.geometry_map.specs.declared.pair.Pair.{Pair}
use Rattle.geometry_map.specs.DefectMap.{sector}
use Rattle.move_jobs.specs.Job.{pair, spare_of}
use Rattle.move_jobs.proofs.ChainEnds.{end_is_last}
use Rattle.move_jobs.proofs.job.Job.spare.Goals as goal

pub returns : goal.returns
returns c =
    let nothing : Pair = pair (sector 0) (sector 0) in
    ap (λ (t : List Pair). (get_or t (c.len.result - 1) nothing).new) c.deref.ensures.0
    ∙ ap (λ (n : ℕ). (get_or c.self.inside.pairs.items (n - 1) nothing).new) c.len.ensures.value
    ∙ end_is_last (sector 0) c.self.inside.pairs.items nothing c.self.invariant.begun
    ∙ ap spare_of c.self.view_is
