use Rattle.map_generations.specs.Recovery.{reads_of, counted}
use Rattle.map_generations.proofs.Rule.{found_by_a_copy, latest_found}
use Rattle.map_generations.proofs.recovery.latest.Goals as goal

pub returns : goal.returns
returns c =
    let reads = counted (reads_of c.args.reads.now) in
    let found =
    found_by_a_copy c.args.size.now reads c.args.slot c.numbered_by.result c.numbered_by-2.result c.numbered_by.ensures.only c.numbered_by-2.ensures.only in
    rw c.later_of.ensures
    (latest_found c.args.size.now reads c.args.slot c.numbered_by.result c.numbered_by-2.result c.numbered_by.ensures.complete c.numbered_by-2.ensures.complete found)
