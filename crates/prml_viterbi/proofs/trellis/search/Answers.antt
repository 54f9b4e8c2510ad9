-- Each step keeps the best word of each state, and the last gives the best of all.
use Rattle.std.proofs.Common.{◌≡◌, length, pos, get_or, FitsSigned, w8, inl, inr, below_more, lit<, arith, rules}
use Rattle.std.proofs.Math.Numerals.{add-one}
use Rattle.std.proofs.lemmas.Int.{to_z-of_z}
use Rattle.std.proofs.lemmas.Bool.{cases_lt}
use Rattle.std.proofs.lemmas.List.{get_or_past}
use Rattle.prml_viterbi.proofs.Steps.{AllKept-none, AllKept-more, HasRoom-from_kept, branch-small}
use Rattle.prml_viterbi.proofs.Ends.{EndsLeast-from_all}
use Rattle.prml_viterbi.proofs.trellis.search.Goals as goal

pub loop-k-init : goal.loop-k-init
loop-k-init c = record {
  all = AllKept-none c.args.samples.now c.args.survivors.now;
  fit = λ j h. absurd (omega arith);
}

pub step-kept-requires : goal.step-kept-requires
step-kept-requires c = HasRoom-from_kept c.args.samples.now c.loop-k.k c.loop-k.sums c.loop-k.survivors (omega arith) c.loop-k.invariant.all

pub loop-k-preserved : goal.loop-k-preserved
loop-k-preserved c =
    let sample = get_or c.args.samples.now c.loop-k.k (pos 0) in
    let fits : FitsSigned w8 (get_or c.args.samples.now c.loop-k.k (pos 0)) = search rules in
    let steps = rw (to_z-of_z w8 sample fits) at c.step-kept.ensures.steps in
    record {
      all = rw add-one (AllKept-more c.args.samples.now c.loop-k.k c.loop-k.sums c.step-kept.result.0 c.loop-k.survivors c.step-kept.result.1
          c.loop-k.invariant.all steps (branch-small sample fits) (omega arith) (omega arith));
      fit = below_more _ _ c.loop-k.invariant.fit fits;
    }

pub returns-clause-samples : goal.returns-clause-samples
returns-clause-samples c = λ k. elim (cases_lt k (length c.args.samples.now)) [
  | inl inside ↦ c.loop-k.invariant.fit k (omega arith)
  | inr past ↦ let zero_fits : FitsSigned w8 (pos 0) = record { sfits = lit< tt } in rw (get_or_past c.args.samples.now k (pos 0) past) zero_fits
]

pub returns-clause-least : goal.returns-clause-least
returns-clause-least c =
    let all : c.loop-k.k ≡ length c.args.samples.now = omega arith in
    EndsLeast-from_all c.args.samples.now c.loop-k.sums c.loop-k.survivors c.end.result (omega arith) (rw all at c.loop-k.invariant.all) c.end.ensures
