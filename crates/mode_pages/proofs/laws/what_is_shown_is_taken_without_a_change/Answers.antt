use Rattle.mode_pages.proofs.TakenBack.{shown_is_taken}
use Rattle.mode_pages.proofs.laws.what_is_shown_is_taken_without_a_change.Goals as goal

pub returns : goal.returns
returns c = shown_is_taken
