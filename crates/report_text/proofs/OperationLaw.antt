-- An operation, printed, is read as the same operation.
use Rattle.std.proofs.Common.{◌≡◌, true, false, Some, refl}
use Rattle.platter_model.specs.declared.damage.Left.TheVariants.{Old, New, Nothing}
use Rattle.report_text.specs.declared.shown.Shown.{Shown}
use Rattle.report_text.specs.declared.shown.Shown.TheVariants.{Wrote, Torn, WriteFailed, Damaged, Faulty, Fetched, Tried, Cut, Power}
use Rattle.report_text.specs.Operations.{shown_words}
use Rattle.report_text.specs.OperationReading.{operation_form, shown_from}
use Rattle.report_text.specs.Proper.{IsShown}
use Rattle.report_text.proofs.FieldLaws.{short_again, small_again, offset_again}

pub shown_again : (s : Shown) → IsShown s → shown_from (shown_words s) ≡ Some s
unfolding operation_form
shown_again (Wrote p) fits = rw (short_again p.0 fits) refl
shown_again (Torn p Old) fits = rw (short_again p.0 fits) refl
shown_again (Torn p New) fits = rw (short_again p.0 fits) refl
shown_again (Torn p Nothing) fits = rw (short_again p.0 fits) refl
shown_again (WriteFailed p) fits = rw (short_again p.0 fits) refl
shown_again (Damaged p) fits = rw (short_again p.0 fits) refl
shown_again (Faulty p) fits = rw (short_again p.0 fits) refl
shown_again (Fetched p attempt) fits = rw (short_again p.0 fits.0, small_again attempt.reread fits.1, offset_again attempt.offset fits.2) refl
shown_again (Tried p stage true) fits = rw (short_again p.0 fits.0, small_again stage fits.1) refl
shown_again (Tried p stage false) fits = rw (short_again p.0 fits.0, small_again stage fits.1) refl
shown_again Cut fits = refl
shown_again Power fits = refl
