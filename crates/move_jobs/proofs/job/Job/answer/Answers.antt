-- the pair of a bad spare goes on from where the chain ended, and there was room for it
use Rattle.std.proofs.Common.{◌≡◌, ◌∙◌, ap, sym, arith, rules, ◌<◌, List, [], ◌∷◌, length, length-append}
use Rattle.geometry_map.specs.declared.limits.TheConstants.{PAIRS_MAX}
use Rattle.geometry_map.specs.declared.pair.Pair.{Pair}
use Rattle.geometry_map.specs.DefectMap.{sector}
use Rattle.geometry_map.specs.Chains.{chain_end}
use Rattle.move_jobs.specs.Job.{pair, spare_of, chain_start}
use Rattle.move_jobs.proofs.ChainEnds.{end_anywhere}
use Rattle.move_jobs.proofs.ChainsGrow.{one_more, some_are_left, same_start}
use Rattle.move_jobs.proofs.job.Job.answer.Goals as goal

pub invariant_of-self-in-Bad-Some : goal.invariant_of-self-in-Bad-Some
invariant_of-self-in-Bad-Some c =
    let chain : List Pair = c.self.inside.pairs.items in
    let more : Pair = pair c.spare-last.result c.in-Bad-Some.next in
    let room : length c.self.inside.pairs.items < PAIRS_MAX = search rules in
    let on : c.spare-last.result ≡ chain_end (chain_start chain) chain =
    c.spare-last.ensures ∙ sym (ap spare_of c.self.view_is) ∙ end_anywhere (sector 0) (chain_start chain) chain c.self.invariant.begun in
    rw c.push.ensures.items (record {
      begun = some_are_left chain more;
      few = omega (arith, length-append chain (more ∷ []));
      linked = rw (same_start chain more c.self.invariant.begun) (one_more (chain_start chain) chain more c.self.invariant.linked on);
    })
