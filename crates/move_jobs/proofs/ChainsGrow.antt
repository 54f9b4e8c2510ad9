-- A chain with one pair more.
use Rattle.std.proofs.Common.{◌≡◌, List, [], ◌∷◌, ◌++◌, refl}
use Rattle.std.specs.Prelude.{◌≢◌, Some, None}
use Rattle.disk_base.specs.declared.address.Psn.{Psn}
use Rattle.geometry_map.specs.declared.pair.Pair.{Pair}
use Rattle.geometry_map.specs.DefectMap.{sector}
use Rattle.geometry_map.specs.Chains.{IsChain, chain_end}
use Rattle.move_jobs.specs.declared.answer.JobAnswer.TheVariants.{Done, Bad}
use Rattle.move_jobs.specs.Job.{pair, spare_of, chain_start}
use Rattle.move_jobs.specs.Laws.{AnswersKeepTheChain}
use Rattle.move_jobs.proofs.ChainEnds.{end_anywhere}

-- a pair that goes on from the end
pub one_more : (at : Psn) (chain : List Pair) (p : Pair) → IsChain at chain → p.old ≡ chain_end at chain → IsChain at (chain ++ p ∷ [])
one_more at [] p linked on = (on, tt)
one_more at (q ∷ qs) p linked on = (linked.0, one_more q.new qs p linked.1 on)

pub some_are_left : (chain : List Pair) (p : Pair) → chain ++ p ∷ [] ≢ []
some_are_left [] p none = cc
some_are_left (q ∷ qs) p none = cc

-- it begins where the chain did
pub same_start : (chain : List Pair) (p : Pair) → chain ≢ [] → chain_start (chain ++ p ∷ []) ≡ chain_start chain
same_start [] p some = absurd (some refl)
same_start (q ∷ qs) p some = refl

pub answers_keep : AnswersKeepTheChain
answers_keep at job Done some linked = (linked, some)
answers_keep at job (Bad None) some linked = (linked, some)
answers_keep at job (Bad (Some next)) some linked =
    (one_more at job.chain (pair (spare_of job) next) linked (end_anywhere (sector 0) at job.chain some), some_are_left job.chain (pair (spare_of job) next))
