-- Each comparison of bits says that the numbers are equal.
use Rattle.std.proofs.Common.{pos, negsuc, w8, FitsSigned, ◌∙◌, lit<}
use Rattle.std.proofs.lemmas.Int.{to_z-of_z}
use Rattle.std.proofs.lemmas.Bool.Decides.{Decides-and, Decides-or, Decides-like}
use Rattle.prml_viterbi.proofs.CleanPlaces.{Decides-same_bits, Decides-clean_test}
use Rattle.prml_viterbi.proofs.shortcut.follows.Goals as goal

pub returns : goal.returns
returns c =
    let sample = c.args.sample in
    let level = c.args.level in
    let one = c.args.one in
    let two = c.args.two in
    let three = c.args.three in
    let plus : FitsSigned w8 (pos 1) = record { sfits = lit< tt } in
    let minus : FitsSigned w8 (negsuc 0) = record { sfits = lit< tt } in
    let is_level = Decides-or _ _ (Decides-same_bits w8 level (pos 1) c.ranges.level plus) (Decides-same_bits w8 level (negsuc 0) c.ranges.level minus) in
    let run = Decides-or _ _ (Decides-same_bits w8 level one c.ranges.level c.ranges.one)
    (Decides-and _ _ (Decides-same_bits w8 one two c.ranges.one c.ranges.two) (Decides-same_bits w8 two three c.ranges.two c.ranges.three)) in
    let clean = Decides-clean_test sample level two c.from.result c.from-2.result c.from-3.result c.ranges.sample c.ranges.level c.ranges.two
    (c.from.ensures ∙ to_z-of_z w8 sample c.ranges.sample) (c.from-2.ensures ∙ to_z-of_z w8 level c.ranges.level) (c.from-3.ensures ∙ to_z-of_z w8 two c.ranges.two) in
    Decides-like _ (λ p. record { is_level = p.0.0; run = p.0.1; clean = p.1 }) (λ f. ((f.is_level, f.run), f.clean))
    (Decides-and _ _ (Decides-and _ _ is_level run) clean)
