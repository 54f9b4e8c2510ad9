-- a longer text begins with the piece exactly where it can be stripped
use Rattle.std.proofs.lemmas.Bool.Decides.{Decides-eqb}
use Rattle.std.proofs.lemmas.Slice.Eq.{strip_prefix_is}
use Rattle.text_words.proofs.Comparing.{some_of, none_of}
use Rattle.text_words.proofs.compare.behind_front.Goals as goal

pub returns-else-piece-lt-SHORT-clause-some : goal.returns-else-piece-lt-SHORT-clause-some
returns-else-piece-lt-SHORT-clause-some c =
    some_of _ _ c.strip_prefix.result (strip_prefix_is Decides-eqb c.args.text.now c.args.piece.now c.strip_prefix.result c.strip_prefix.ensures.cases)

pub returns-else-piece-lt-SHORT-clause-none : goal.returns-else-piece-lt-SHORT-clause-none
returns-else-piece-lt-SHORT-clause-none c =
    none_of _ _ c.strip_prefix.result (strip_prefix_is Decides-eqb c.args.text.now c.args.piece.now c.strip_prefix.result c.strip_prefix.ensures.cases)
