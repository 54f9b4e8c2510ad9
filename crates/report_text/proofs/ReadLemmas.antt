-- Operations and entries read so far, and one more.
use Rattle.std.proofs.Common.{◌≡◌, ◌≢◌, ℕ, ◌+◌, ◌≤◌, List, [], ◌∷◌, ◌++◌, length, Option, Some, None, Err, refl, sym, ap, ◌∙◌, subst, append_assoc, append-nil, length-append}
use Rattle.std.specs.Prelude.{codes, fold, option_map}
use Rattle.std.specs.List.{flat_map}
use Rattle.std.proofs.lemmas.Grind.{flat_map-append, fold-append}
use Rattle.block_machine.specs.declared.entry.Entry.{Entry}
use Rattle.text_words.specs.Line.{spaced}
use Rattle.text_words.specs.Written.{Writes}
use Rattle.report_text.specs.declared.fault.LineFault.{LineFault}
use Rattle.report_text.specs.declared.fault.LineFault.TheVariants.{NoMemory, Unreadable}
use Rattle.report_text.specs.declared.shown.Shown.{Shown}
use Rattle.report_text.specs.Answers.{Adds}
use Rattle.report_text.specs.Turns.{marked_operation, operation_words, marked_entry, entries_words}
use Rattle.report_text.specs.Marks.{before_mark, from_mark}
use Rattle.report_text.specs.OperationReading.{shown_from}
use Rattle.report_text.specs.EntryReading.{entry_from}
use Rattle.report_text.specs.Findings.{minutes_after}
use Rattle.report_text.specs.Lines.{IsSplit, IsListed, IsFound, minutes_behind, AreShown, AreEntries}
use Rattle.report_text.specs.Proper.{IsShown, IsEntry}
use Rattle.disk_base.specs.Along.{Along}
use Rattle.std.specs.Option.{IfSome}
use Rattle.std.proofs.lemmas.List.Elements.{All-nil, All-cons, All-head, All-tail}
use Rattle.report_text.proofs.TextLemmas.{spaced-more}
use Rattle.report_text.proofs.MarkLemmas.{operation_next, operations_end, entry_next, entries_end}

-- so many operations are written
pub record OperationsSo {O : Type 0} (written : O → List ℕ → O → Type 0) (old new : O) (count : ℕ) : Type 0 where
  pub done : List Shown
  pub counted : length done ≡ count
  pub proper : AreShown done
  pub writes : Writes written old new (λ text. spaced text (operation_words done))

-- of these operations so many are written, and the others are left in words
pub record OperationsRead {O : Type 0} (written : O → List ℕ → O → Type 0) (old new : O) (count : ℕ) (words : List (List ℕ)) (shown : List Shown) (more : List (List ℕ)) : Type 0 where
  pub done : List Shown
  pub later : List Shown
  pub together : shown ≡ done ++ later
  pub counted : length done ≡ count
  pub writes : Writes written old new (λ text. spaced text (operation_words done))
  pub rest : IsSplit words later more

-- none yet
pub operations_start : {O : Type 0} (written : O → List ℕ → O → Type 0) (old : O) → OperationsSo written old old 0
operations_start written old = record { done = []; counted = refl; proper = All-nil IsShown; writes = λ start text before. before }

pub operations_unread : {O : Type 0} (written : O → List ℕ → O → Type 0) (old : O) (words : List (List ℕ)) (shown : List Shown) (more : List (List ℕ)) → IsSplit words shown more
    → OperationsRead written old old 0 words shown more
operations_unread written old words shown more split = record { done = []; later = shown; together = refl; counted = refl; writes = λ start text before. before; rest = split }

-- words behind words, of one item more
words-more : {A : Type 0} (f : A → List (List ℕ)) (text : List ℕ) (items : List A) (x : A) → spaced (spaced text (flat_map f items)) (f x) ≡ spaced text (flat_map f (items ++ x ∷ []))
words-more f text items x =
    sym (spaced-more text (flat_map f items) (f x))
    ∙ ap (spaced text) (ap (λ ws. flat_map f items ++ ws) (sym (append-nil (f x))) ∙ sym (flat_map-append f items (x ∷ [])))

count-more : {A : Type 0} (items : List A) (x : A) (count : ℕ) → length items ≡ count → length (items ++ x ∷ []) ≡ count + 1
count-more items x count e = length-append items (x ∷ []) ∙ ap (λ n. n + 1) e

shown-more : (done : List Shown) (s : Shown) → AreShown done → IsShown s → AreShown (done ++ s ∷ [])
shown-more [] s are fits = All-cons IsShown s [] fits (All-nil IsShown)
shown-more (d ∷ done) s are fits = All-cons IsShown d (done ++ s ∷ []) (All-head IsShown d done are) (shown-more done s (All-tail IsShown d done are) fits)

-- a rule that holds along a list and of one item more
along-more : {S T : Type 0} (step : S → T → S) (P : S → T → Type 0) (s : S) (xs : List T) (x : T) → Along step P s xs → P (fold step s xs) x → Along step P s (xs ++ x ∷ [])
along-more step P s [] x are is = (is, tt)
along-more step P s (y ∷ ys) x are is = (are.0, along-more step P (step s y) ys x are.1 is)

-- what is read has what holds of all that is read
pub of_read : {A : Type 0} (P : A → Type 0) (o : Option A) (x : A) → IfSome o P → o ≡ Some x → P x
of_read P None x h e = absurd (apart e)
  where
    apart : None ≡ Some x → ⊥
    apart e' = cc
of_read P (Some y) x h e = subst P (same e) h
  where
    same : Some y ≡ Some x → y ≡ x
    same e' = cc

-- one more
pub operations_more : {O : Type 0} (written : O → List ℕ → O → Type 0) (old mid new : O) (count : ℕ) (s : Shown)
    → OperationsSo written old mid count → IsShown s → Writes written mid new (λ text. spaced text (marked_operation s)) → OperationsSo written old new (count + 1)
operations_more written old mid new count s so fits put = record {
  done = so.done ++ s ∷ [];
  counted = count-more so.done s count so.counted;
  proper = shown-more so.done s so.proper fits;
  writes = λ start text before. subst (λ (t : List ℕ). written start t new) (words-more marked_operation text so.done s) (put start _ (so.writes start text before));
}

pub operations_read_more : {O : Type 0} (written : O → List ℕ → O → Type 0) (old mid new : O) (count : ℕ) (words behind after : List (List ℕ)) (s : Shown) (shown : List Shown) (more : List (List ℕ))
    → OperationsRead written old mid count words shown more → words ≡ codes "<" ∷ behind → shown_from (before_mark behind) ≡ Some s → after ≡ from_mark behind
    → Writes written mid new (λ text. spaced text (marked_operation s)) → OperationsRead written old new (count + 1) after shown more
operations_read_more written old mid new count words behind after s shown more so e read left put =
    let next = operation_next words behind so.later more so.rest e in
    let same : s ≡ next.first = cons_same (sym read ∙ next.read) in
    record {
      done = so.done ++ s ∷ [];
      later = next.others;
      together = so.together ∙ (ap (λ l. so.done ++ l) (next.later_is ∙ ap (λ x. x ∷ next.others) (sym same)) ∙ sym (append_assoc so.done (s ∷ []) next.others));
      counted = count-more so.done s count so.counted;
      writes = λ start text before. subst (λ (t : List ℕ). written start t new) (words-more marked_operation text so.done s) (put start _ (so.writes start text before));
      rest = subst (λ (ws : List (List ℕ)). IsSplit ws next.others more) (sym left) next.rest;
    }
  where
    cons_same : {x y : Shown} → Some x ≡ Some y → x ≡ y
    cons_same h = cc

-- an operation that isn't read can't be one of these
pub operations_none : {O : Type 0} (written : O → List ℕ → O → Type 0) (old mid : O) (count : ℕ) (words behind : List (List ℕ)) (shown : List Shown) (more : List (List ℕ))
    → OperationsRead written old mid count words shown more → words ≡ codes "<" ∷ behind → (length (before_mark behind) ≤ 8 → shown_from (before_mark behind) ≡ None) → ⊥
operations_none written old mid count words behind shown more so e none =
    let next = operation_next words behind so.later more so.rest e in
    apart (sym next.read ∙ none next.few_words)
  where
    apart : {x : Shown} → Some x ≡ None → ⊥
    apart h = cc

-- all are read
pub record AllRead {O : Type 0} (written : O → List ℕ → O → Type 0) (old new : O) (count : ℕ) (words : List (List ℕ)) (shown : List Shown) (more : List (List ℕ)) : Type 0 where
  pub counted : count ≡ length shown
  pub left : words ≡ more
  pub writes : Writes written old new (λ text. spaced text (operation_words shown))

pub operations_all : {O : Type 0} (written : O → List ℕ → O → Type 0) (old new : O) (count : ℕ) (words : List (List ℕ)) (shown : List Shown) (more : List (List ℕ))
    → OperationsRead written old new count words shown more → ((rest : List (List ℕ)) → words ≢ codes "<" ∷ rest) → AllRead written old new count words shown more
operations_all written old new count words shown more so none =
    let end = operations_end words so.later more so.rest none in
    let same : so.done ≡ shown = sym (append-nil so.done) ∙ (ap (λ l. so.done ++ l) (sym end.0) ∙ sym so.together) in
    record {
      counted = sym so.counted ∙ ap length same;
      left = end.1;
      writes = subst (λ (d : List Shown). Writes written old new (λ text. spaced text (operation_words d))) same so.writes;
    }

-- entries so far are written, and the minutes are those behind them
pub record EntriesSo {O : Type 0} (written : O → List ℕ → O → Type 0) (old new : O) (start now : ℕ) (entries : List Entry) : Type 0 where
  pub writes : Writes written old new (λ text. spaced text (entries_words entries))
  pub minutes : now ≡ minutes_behind start entries
  pub proper : AreEntries start entries

-- of all entries the others are left in words
pub record EntriesLeft (now : ℕ) (words : List (List ℕ)) (entries all : List Entry) : Type 0 where
  pub later : List Entry
  pub together : all ≡ entries ++ later
  pub rest : IsListed now words later

pub entries_more : {O : Type 0} (written : O → List ℕ → O → Type 0) (old mid new : O) (start now after : ℕ) (before entries : List Entry) (e : Entry)
    → EntriesSo written old mid start now before → IsEntry now e → Writes written mid new (λ text. spaced text (marked_entry e)) → after ≡ minutes_after now e → entries ≡ before ++ e ∷ []
    → EntriesSo written old new start after entries
entries_more written old mid new start now after before entries e so is put minutes same = record {
  writes = λ first text h. subst (λ (t : List ℕ). written first t new) (words-more marked_entry text before e ∙ ap (λ es. spaced text (entries_words es)) (sym same)) (put first _ (so.writes first text h));
  minutes = minutes ∙ (ap (λ m. minutes_after m e) so.minutes ∙ (sym (fold-append minutes_after start before (e ∷ [])) ∙ ap (minutes_behind start) (sym same)));
  proper = subst (λ (es : List Entry). AreEntries start es) (sym same) (along-more minutes_after IsEntry start before e so.proper (subst (λ (m : ℕ). IsEntry m e) so.minutes is));
}

pub entries_left_more : (now after : ℕ) (words behind rest : List (List ℕ)) (before entries all : List Entry) (e : Entry)
    → EntriesLeft now words before all → words ≡ codes ">" ∷ behind → entry_from now (before_mark behind) ≡ Some e → rest ≡ from_mark behind → after ≡ minutes_after now e → entries ≡ before ++ e ∷ []
    → EntriesLeft after rest entries all
entries_left_more now after words behind rest before entries all e so begins read left minutes grown =
    let next = entry_next now words behind so.later so.rest begins in
    let same : e ≡ next.first = cons_same (sym read ∙ next.read) in
    record {
      later = next.others;
      together = so.together ∙ (ap (λ l. before ++ l) (next.later_is ∙ ap (λ x. x ∷ next.others) (sym same)) ∙ (sym (append_assoc before (e ∷ []) next.others) ∙ ap (λ es. es ++ next.others) (sym grown)));
      rest = subst (λ (ws : List (List ℕ)). IsListed after ws next.others) (sym left) (subst (λ (m : ℕ). IsListed m (from_mark behind) next.others) (ap (minutes_after now) (sym same) ∙ sym minutes) next.rest);
    }
  where
    cons_same : {x y : Entry} → Some x ≡ Some y → x ≡ y
    cons_same h = cc

pub entries_none : (now : ℕ) (words behind : List (List ℕ)) (before all : List Entry)
    → EntriesLeft now words before all → words ≡ codes ">" ∷ behind → (length (before_mark behind) ≤ 8 → entry_from now (before_mark behind) ≡ None) → ⊥
entries_none now words behind before all so begins none =
    let next = entry_next now words behind so.later so.rest begins in
    apart (sym next.read ∙ none next.few_words)
  where
    apart : {x : Entry} → Some x ≡ None → ⊥
    apart h = cc

pub entries_all : (now : ℕ) (words : List (List ℕ)) (entries all : List Entry) → EntriesLeft now words entries all → ((rest : List (List ℕ)) → words ≢ codes ">" ∷ rest) → entries ≡ all
entries_all now words entries all so none = sym (append-nil entries) ∙ (ap (λ l. entries ++ l) (sym (entries_end now words so.later so.rest none)) ∙ sym so.together)

-- a fault that can only be want of memory
pub unless_memory : {A : Type 0} (fault : LineFault) (P : A → Type 0) → (fault ≡ Unreadable → ⊥) → IsFound (Err fault) P
unless_memory NoMemory P other = tt
unless_memory Unreadable P other = absurd (other refl)

-- what an entry that is added was read as
pub record Added (before after : List Entry) (meaning : Option Entry) : Type 0 where
  pub entry : Entry
  pub read : meaning ≡ Some entry
  pub grown : after ≡ before ++ entry ∷ []

pub added : (before after : List Entry) (meaning : Option Entry) → option_map (λ e. before ++ e ∷ []) meaning ≡ Some after → Added before after meaning
added before after None h = absurd (apart h)
  where
    apart : None ≡ Some after → ⊥
    apart e = cc
added before after (Some e) h = record { entry = e; read = refl; grown = sym (cons_same h) }
  where
    cons_same : {x y : List Entry} → Some x ≡ Some y → x ≡ y
    cons_same h = cc

-- where nothing was added for want of sense, the words mean nothing
pub unadded : (before after : List Entry) (meaning : Option Entry) (fault : LineFault) → fault ≡ Unreadable → Adds {A = Unit {0}} before after (Err fault) meaning → meaning ≡ None
unadded before after meaning NoMemory e gives = absurd (apart e)
  where
    apart : NoMemory ≡ Unreadable → ⊥
    apart e' = cc
unadded before after meaning Unreadable e gives = gives

-- a fault is want of memory whatever was to be found
pub other_result : {A B : Type 0} (fault : LineFault) (P : A → Type 0) (Q : B → Type 0) → IsFound (Err fault) P → IsFound (Err fault) Q
other_result NoMemory P Q memory = tt
other_result Unreadable P Q memory = absurd memory
