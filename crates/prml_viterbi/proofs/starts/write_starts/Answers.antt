use Rattle.std.proofs.Common.{◌≡◌, ◌≢◌, ℕ, ◌+◌, ◌-◌, ◌*◌, ◌/◌, ◌<◌, ◌∷◌, eqb, length, take, drop, set, get_or, pos, refl, subst, ◌∙◌, get_or-set_other, length-set, length-drop, arith}
use Rattle.std.proofs.lemmas.List.{length-take-le}
use borrow.Rule.Slice.PartMut.{put_mid}
use Rattle.prml_viterbi.specs.Starts.{is_moved}
use Rattle.prml_viterbi.proofs.CleanWords.{slice_place}
use Rattle.prml_viterbi.proofs.WordStarts.{AreFilled, HoldStarts, HoldStarts-filled, HoldStarts-more, all_starts, are_filled, last_of_word, slice_rest, starts_in_word}
use Rattle.prml_viterbi.proofs.starts.write_starts.Goals as goal

pub loop-j-preserved : goal.loop-j-preserved
loop-j-preserved c =
    let samples = c.args.samples.now in
    let j = c.loop-j.j in
    let i = c.loop-j.invariant in
    let moved = c.places_moved-moved.result in
    let m = 64 * j + 64 - 64 * j in
    let part = take m (drop (64 * j) samples) in
    let same : (k : ℕ) → k < 64 → get_or part k (pos 0) ≡ get_or samples (64 * j + k) (pos 0) = λ k below. slice_place samples (64 * j) m k (omega arith) in
    record {
      small = omega arith;
      last = last_of_word samples part j moved c.places_moved-moved.type_inv (same 63 (omega arith)) c.places_moved-moved.ensures;
      starts = HoldStarts-more samples c.loop-j.words j c.starts.result (omega arith) (starts_in_word samples part j moved c.loop-j.before c.starts.result i.small same c.places_moved-moved.ensures i.last c.starts.ensures) i.starts;
    }

pub returns-then-whole-samples : goal.returns-then-whole-samples
returns-then-whole-samples c =
    let samples = c.args.samples.now in
    let words = c.loop-j.words in
    let whole = length samples / 64 in
    let before = c.loop-j.before in
    let word = c.starts-then-whole-samples.result in
    let filled = put_mid whole (length words - whole) words c.fill.new.self in
    let end : c.loop-j.j ≡ whole = omega arith in
    let last : eqb before 1 ≡ is_moved (get_or (pos 0 ∷ samples) (64 * whole) (pos 0)) = subst (λ j. eqb before 1 ≡ is_moved (get_or (pos 0 ∷ samples) (64 * j) (pos 0))) end c.loop-j.invariant.last in
    let long : length c.fill.new.self ≡ length words - whole = c.fill.ensures.len ∙ length-take-le (length words - whole) (drop whole words) (omega (arith, length-drop whole words)) in
    let are : AreFilled words filled whole = are_filled words c.fill.new.self whole (length words - whole) (omega arith) long (λ m less. c.fill.ensures.clones m 0 (omega arith) refl) in
    let here = starts_in_word samples _ whole c.last_places_moved.result before word c.loop-j.invariant.small (λ k below. slice_rest samples (64 * whole) k) c.last_places_moved.ensures last c.starts-then-whole-samples.ensures in
    all_starts samples (set filled whole word) (whole + 1) (omega arith) (omega (arith, length-set filled whole word, are.long))
    (HoldStarts-more samples filled whole word (omega (arith, are.long)) here (HoldStarts-filled samples words filled whole are (subst (HoldStarts samples words) end c.loop-j.invariant.starts)))
    (λ i past inside. let ne : i ≢ whole = omega arith in get_or-set_other filled whole i word 0 ne ∙ are.high i (omega arith) (omega (arith, length-set filled whole word, are.long)))

pub returns-else-whole-samples : goal.returns-else-whole-samples
returns-else-whole-samples c =
    let samples = c.args.samples.now in
    let words = c.loop-j.words in
    let whole = length samples / 64 in
    let filled = put_mid whole (length words - whole) words c.fill.new.self in
    let end : c.loop-j.j ≡ whole = omega arith in
    let long : length c.fill.new.self ≡ length words - whole = c.fill.ensures.len ∙ length-take-le (length words - whole) (drop whole words) (omega (arith, length-drop whole words)) in
    let are : AreFilled words filled whole = are_filled words c.fill.new.self whole (length words - whole) (omega arith) long (λ m less. c.fill.ensures.clones m 0 (omega arith) refl) in
    all_starts samples filled whole (omega arith) (omega (arith, are.long))
    (HoldStarts-filled samples words filled whole are (subst (HoldStarts samples words) end c.loop-j.invariant.starts))
    (λ i past inside. are.high i past (omega (arith, are.long)))
