-- What is wanted next is taken: what an initiator sends, or a destage.
use Rattle.std.proofs.Common.{◌≡◌, ◌∙◌, ap, sym, refl, subst, ℕ, ◌+◌, ◌⊎◌, inl, inr, List, ◌∷◌}
use Rattle.drive_scene.specs.declared.event.Arrival.{Arrival as Sent}
use Rattle.drive_scene.specs.declared.event.Event.TheVariants as event
use Rattle.drive_scene.specs.declared.answer.Pick.{Pick}
use Rattle.drive_scene.specs.declared.answer.Pick.TheVariants.{Arrive, Job, Scan, Destage}
use Rattle.script_runner.specs.Each.{Each}
use Rattle.script_runner.specs.declared.queues.Queued.{Queued}
use Rattle.script_runner.specs.Arrivals.{sends_of, Taken}
use Rattle.script_runner.specs.Wanted.{Wanted, wanted_of}
use Rattle.script_runner.specs.Phasing.{AreServed, IsAtHand, IsToSend, Fetches}
use Rattle.script_runner.proofs.Places.{put_same, put_other}

pub no_background : (wanted : Wanted) (p : Pick) → IsAtHand wanted p → ((j : ℕ) × (p ≡ Job j)) ⊎ (p ≡ Scan) → ⊥
no_background wanted p h (inl job) = rw job.1 at h
no_background wanted p h (inr scan) = rw scan at h

pub fetched : (old : Queued) (new : List (List Sent)) (i : ℕ) (a : Sent) → AreServed (sends_of old.queues) → Taken old.queues new i a
    → Fetches (wanted_of old) (Arrive i) (event.Arrive a) (wanted_of (record old { queues = new }))
fetched old new i a served taken =
    let first = subst (Each (IsToSend i)) taken.first (served i) in
    let left : sends_of new i ≡ taken.rest = taken.left i ∙ put_same i i taken.rest (sends_of old.queues) refl in
    record {
      first = taken.first ∙ ap (λ (xs : List Sent). a ∷ xs) (sym left);
      is_to_send = first.0;
      others = λ j ne. taken.left j ∙ put_other i j taken.rest (sends_of old.queues) ne;
      destages = refl;
    }

pub destage_fetched : (old : Queued) (left : ℕ) → old.destages ≡ left + 1 → Fetches (wanted_of old) Destage event.Destage (wanted_of (record old { destages = left }))
destage_fetched old left is = (refl, is)
