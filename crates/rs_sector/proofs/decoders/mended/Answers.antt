use Rattle.std.proofs.Common.{◌≡◌, ◌≤◌, Some, ap, sym, subst, ◌∙◌, arith}
use Rattle.std.proofs.lemmas.Bool.{true≢false}
use Rattle.rs_sector.specs.Code.{IsCodeword, differing}
use Rattle.rs_sector.proofs.Reach.{none_marked, outside_none, near_without_erased}
use Rattle.rs_sector.proofs.decoders.mended.Goals as goal
use Rattle.rs_sector.proofs.decoders.mended.Goals.{else-is_codeword-via-then-is_codeword+else-wrong_places-radius, else-is_codeword-via-else-is_codeword}

pub corrected-found-requires-clause-few : goal.corrected-found-requires-clause-few
corrected-found-requires-clause-few c = omega (arith, none_marked)

pub returns-then-wrong_places-radius-clause-some : goal.returns-then-wrong_places-radius-clause-some
returns-then-wrong_places-radius-clause-some c = record {
  is_codeword = c.is_codeword.ensures.0 c.if-is_codeword.true;
  near = omega (arith, c.wrong_places.ensures.counted, outside_none c.args.word.now c.corrected-found.result);
}

pub returns-then-wrong_places-radius-clause-none : goal.returns-then-wrong_places-radius-clause-none
returns-then-wrong_places-radius-clause-none c codeword near = ap Some (c.corrected-found.ensures.in_reach codeword (near_without_erased c.args.word.now codeword c.args.radius c.requires.low near))

pub returns-else-is_codeword-clause-none : goal.returns-else-is_codeword-clause-none
returns-else-is_codeword-clause-none c codeword near =
    let found : c.corrected-found.result ≡ codeword = c.corrected-found.ensures.in_reach codeword (near_without_erased c.args.word.now codeword c.args.radius c.requires.low near) in
    let code : IsCodeword c.corrected-found.result = subst IsCodeword (sym found) near.is_codeword in
    let few : differing c.args.word.now c.corrected-found.result ≤ c.args.radius = subst (λ w. differing c.args.word.now w ≤ c.args.radius) (sym found) near.near in
    elim c.else-is_codeword.branch [
      | else-is_codeword-via-then-is_codeword+else-wrong_places-radius w ↦ absurd (omega (arith, w.wrong_places.ensures.counted, outside_none c.args.word.now c.corrected-found.result, w.if-wrong_places-radius.false))
      | else-is_codeword-via-else-is_codeword w ↦ absurd (true≢false (sym (c.is_codeword.ensures.1 code) ∙ w.if-is_codeword.false))
    ]
