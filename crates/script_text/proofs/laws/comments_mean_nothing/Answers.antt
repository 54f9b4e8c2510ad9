use Rattle.script_text.proofs.CommentLaw.{comment_skipped}
use Rattle.script_text.proofs.laws.comments_mean_nothing.Goals as goal

pub returns : goal.returns
returns c = comment_skipped
