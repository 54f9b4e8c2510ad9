-- An empty line and a comment mean nothing.
use Rattle.std.proofs.Common.{◌≡◌, ◌+◌, Ok, ap, refl}
use Rattle.std.proofs.lemmas.Bool.{le-leb}
use Rattle.script_text.specs.Standing.{with_text}
use Rattle.script_text.specs.Meaning.{behind_lines, goes_on}
use Rattle.script_text.specs.Laws.{CommentsMeanNothing}

pub comment_skipped : CommentsMeanNothing
unfolding with_text
comment_skipped n s line lines few printable comment =
    let same : with_text n s line ≡ Ok s = rw (printable, comment, le-leb n 65536 few) refl in
    ap (λ r. goes_on n r (λ t. behind_lines (n + 1) t lines)) same
