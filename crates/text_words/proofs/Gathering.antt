-- What was written through a buffer, as the buffer is filled and offered.
use Rattle.std.proofs.Common.{◌≡◌, ℕ, ◌+◌, ◌-◌, ◌≤◌, Bool, true, false, List, [], ◌++◌, length, take, drop, Option, Some, None, refl, sym, ap, ◌∙◌, subst, arith, append_assoc, append-nil, take-append-drop}
use Rattle.std.proofs.Math.Seq.{take-append_seam, take-add}
use Rattle.std.proofs.lemmas.List.{take_rest}
use Rattle.std.specs.Io.KnownBytes.{Appends}
use Rattle.outside.specs.Faults.{Rises}
use Rattle.outside.specs.Pieces.{AppendsFront}
use Rattle.text_words.specs.Written.{IsGathered}

-- two writes
Appends-then : (a b c : Option (List ℕ)) (xs ys : List ℕ) → Appends a b xs → Appends b c ys → Appends a c (xs ++ ys)
Appends-then None b c xs ys first second = tt
Appends-then (Some u) None c xs ys first second = absurd first
Appends-then (Some u) (Some v) None xs ys first second = absurd second
Appends-then (Some u) (Some v) (Some w) xs ys first second = second ∙ ap (λ t. t ++ ys) first ∙ append_assoc u xs ys

-- a piece is put behind what is gathered
pub gathered_more : (a b : Option (List ℕ)) (m n : ℕ) (text piece gathered : List ℕ) (failed : Bool)
    → IsGathered a m text b n gathered failed → IsGathered a m (text ++ piece) b n (gathered ++ piece) failed
gathered_more a b m n text piece gathered failed h = record {
  sent = h.sent;
  rest = h.rest ++ piece;
  whole = sym (append_assoc h.sent h.rest piece) ∙ ap (λ t. t ++ piece) h.whole;
  has_sent = h.has_sent;
  faults_stay = h.faults_stay;
  has_rest = λ e. ap (λ t. t ++ piece) (h.has_rest e);
  no_fault = h.no_fault;
  faults_rise = h.faults_rise;
}

-- after a failure what is gathered doesn't matter
pub gathered_lost : (a b : Option (List ℕ)) (m n : ℕ) (text gathered other : List ℕ)
    → IsGathered a m text b n gathered true → IsGathered a m text b n other true
gathered_lost a b m n text gathered other h = record {
  sent = h.sent;
  rest = h.rest;
  whole = h.whole;
  has_sent = h.has_sent;
  faults_stay = h.faults_stay;
  has_rest = λ e. cc;
  no_fault = λ e. cc;
  faults_rise = h.faults_rise;
}

-- the sink took all that was gathered
pub gathered_taken : (a b c : Option (List ℕ)) (m n o : ℕ) (text gathered : List ℕ)
    → IsGathered a m text b n gathered false → Appends b c gathered → o ≡ n → IsGathered a m text c o [] false
gathered_taken a b c m n o text gathered h took same = record {
  sent = text;
  rest = [];
  whole = append-nil text;
  has_sent = subst (Appends a c) (ap (λ t. h.sent ++ t) (sym (h.has_rest refl)) ∙ h.whole) (Appends-then a b c h.sent gathered h.has_sent took);
  faults_stay = let old = h.faults_stay in omega (arith, same);
  has_rest = λ e. refl;
  no_fault = λ e. same ∙ h.no_fault refl;
  faults_rise = λ e. cc;
}

-- the sink took a front of what was gathered, and failed
pub gathered_failed : (a b c : Option (List ℕ)) (m n o : ℕ) (text gathered : List ℕ)
    → IsGathered a m text b n gathered false → AppendsFront b c gathered → Rises n o → n ≤ o → IsGathered a m text c o [] true
gathered_failed a b c m n o text gathered h (k, took) rise stay =
    let old = h.faults_stay in
    record {
      sent = h.sent ++ take k gathered;
      rest = drop k gathered;
      whole = append_assoc h.sent (take k gathered) (drop k gathered) ∙ ap (λ t. h.sent ++ t) (take-append-drop k gathered ∙ sym (h.has_rest refl)) ∙ h.whole;
      has_sent = Appends-then a b c h.sent (take k gathered) h.has_sent took;
      faults_stay = omega arith;
      has_rest = λ e. cc;
      no_fault = λ e. cc;
      faults_rise = λ e. omega (arith, rise);
    }

-- where nothing is gathered and nothing has failed, the sink has the text
pub sent_all : (a b : Option (List ℕ)) (m n : ℕ) (text gathered : List ℕ) (failed : Bool) → IsGathered a m text b n gathered failed
    → failed ≡ false → gathered ≡ [] → Appends a b text
sent_all a b m n text gathered failed h running empty =
    subst (Appends a b) (sym (append-nil h.sent) ∙ ap (λ t. h.sent ++ t) (sym (h.has_rest running ∙ empty)) ∙ h.whole) h.has_sent

-- in any case it has a front of it
pub sent_front : (a b : Option (List ℕ)) (m n : ℕ) (text gathered : List ℕ) (failed : Bool) → IsGathered a m text b n gathered failed → AppendsFront a b text
sent_front a b m n text gathered failed h =
    (length h.sent, subst (Appends a b) (sym (take-append_seam h.sent h.rest) ∙ ap (take (length h.sent)) h.whole) h.has_sent)

-- a front of a piece, and a front of the rest
pub next_front : (text piece : List ℕ) (at end : ℕ) → at ≤ end → (text ++ take at piece) ++ take (end - at) (drop at piece) ≡ text ++ take end piece
next_front text piece at end le =
    let whole : at + (end - at) ≡ end = omega arith in
    append_assoc text (take at piece) (take (end - at) (drop at piece)) ∙ ap (λ t. text ++ t) (sym (take-add at (end - at) piece) ∙ ap (λ n. take n piece) whole)

-- a front of a piece, and all the rest
pub last_front : (text piece : List ℕ) (at : ℕ) → (text ++ take at piece) ++ take (length piece - at) (drop at piece) ≡ text ++ piece
last_front text piece at = append_assoc text (take at piece) _ ∙ ap (λ t. text ++ t) (ap (λ t. take at piece ++ t) (take_rest piece at) ∙ take-append-drop at piece)
