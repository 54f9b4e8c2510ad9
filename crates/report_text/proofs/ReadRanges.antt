-- What is read is in the ranges of its types, and lawful.
use Rattle.std.proofs.Common.{◌≡◌, ℕ, zero, suc, ◌+◌, ◌<◌, ◌≤◌, ◌==◌, ◌&&◌, Bool, true, false, List, [], ◌∷◌, length, drop, replicate, Option, Some, None, Result, Ok, Err, ℤ, pos, refl, sym, ◌∙◌, lit<, arith}
use Rattle.std.specs.Prelude.{codes, nat_le, nat_abs, neg_ℤ, slice_index, option_map, if◌then◌else◌}
use Rattle.std.specs.Option.{IfSome}
use Rattle.std.specs.Str.{bytes_eq}
use Rattle.std.specs.Result.{result_ok}
use Rattle.std.proofs.lemmas.Bool.{leb-true}
use Rattle.hex.specs.Hex.{IsBytes, decode_of, decode_sized, decode_pairs, pair_value}
use Rattle.hex.specs.declared.error.FromHexError.{FromHexError}
use Rattle.hex.proofs.HexLemmas.{decode_of-ok, decode_sized-ok, decode_sized-twice, decode_pairs-ok}
use Rattle.hex.proofs.Pairs.{decode_pairs-ok_pair}
use Rattle.disk_base.specs.declared.address.Psn.{Psn}
use Rattle.disk_base.specs.declared.address.Lba.{Lba}
use Rattle.disk_base.specs.declared.address.Tag.{Tag}
use Rattle.disk_base.specs.declared.block.Value.TheVariants.{Data}
use Rattle.disk_base.specs.declared.command.DataOut.TheVariants.{Fill, Given}
use Rattle.scan_log.specs.declared.finding.Finding.{Finding}
use Rattle.sense_data.specs.Sense.{IsSense, sense_bytes, fields_of}
use Rattle.text_words.specs.declared.number.Numeral.TheVariants.{Malformed, Outside, Within}
use Rattle.text_words.specs.declared.data.Mark.{Mark}
use Rattle.text_words.specs.declared.data.Mark.TheVariants.{Star, Equals}
use Rattle.text_words.specs.Number.{number, number_in, is_numeral, worth}
use Rattle.text_words.specs.Digits.{bytes_of, byte_of}
use Rattle.text_words.specs.Data.{mark_of, data_of, value_of}
use Rattle.script_text.specs.Proper.{IsSent, IsLasting, IsEffect}
use Rattle.report_text.specs.Steps.{◌>>=◌, demand, of_none, of_one, of_two, of_three}
use Rattle.report_text.specs.Fields.{number_of, command_of, lone_number, block_of, sector_of, tag_of, signed_of, sent_of, page_of, sense_from, sense_of}
use Rattle.report_text.specs.Findings.{finding_of}
use Rattle.report_text.specs.LabelReading.{lasting_of, effect_of, damage_of, damage_words, fault_words, cut_words, minutes_words, arrive_words, label_form, label_by, label_from}
use Rattle.report_text.specs.OperationReading.{place_of, place_in, torn_words, fetched_words, tried_words, operation_form, shown_by, shown_from}
use Rattle.report_text.specs.Proper.{IsShort, IsLong, IsOffset, IsShown, IsValue, IsLabel}
use Rattle.report_text.specs.declared.form.LabelForm.{LabelForm}
use Rattle.report_text.specs.declared.form.LabelForm.TheVariants.{Arrive as ArriveForm, Work as WorkForm, Job as JobForm, Scan as ScanForm, Destage as DestageForm, Damage as DamageForm, Fault as FaultForm, Cut as CutForm, Power as PowerForm, Minutes as MinutesForm}
use Rattle.report_text.specs.declared.form.OperationForm.{OperationForm}
use Rattle.report_text.specs.declared.form.OperationForm.TheVariants.{Wrote as WroteForm, Torn as TornForm, WriteFailed as FailedForm, Damaged as DamagedForm, Faulty as FaultyForm, Fetched as FetchedForm, Tried as TriedForm, Cut as OpCutForm, Power as OpPowerForm}
use Rattle.report_text.proofs.SenseLemmas.{fields_fit}

-- a step after which this holds, if it did of what it was given
pub through : {A B : Type 0} (P : A → Type 0) (Q : B → Type 0) (o : Option A) (f : A → Option B) → IfSome o P → ((x : A) → P x → IfSome (f x) Q) → IfSome (o >>= f) Q
through P Q None f h g = tt
through P Q (Some x) f h g = g x h

pub past : {A B : Type 0} (Q : B → Type 0) (o : Option A) (f : A → Option B) → ((x : A) → IfSome (f x) Q) → IfSome (o >>= f) Q
past Q None f g = tt
past Q (Some x) f g = g x

pub required : {B : Type 0} (Q : B → Type 0) (b : Bool) (o : Option B) → (b ≡ true → IfSome o Q) → IfSome (demand b >>= (λ _. o)) Q
required Q true o g = g refl
required Q false o g = tt

pub either_way : {B : Type 0} (Q : B → Type 0) (b : Bool) (x y : Option B) → IfSome x Q → IfSome y Q → IfSome (if b then x else y) Q
either_way Q true x y p q = p
either_way Q false x y p q = q

-- what just so many words are read as
pub none_range : {A : Type 0} (Q : A → Type 0) (whole : A) → Q whole → (words : List (List ℕ)) → IfSome (of_none whole words) Q
none_range Q whole h [] = h
none_range Q whole h (more ∷ rest) = tt

pub one_range : {A : Type 0} (Q : A → Type 0) (read : List ℕ → Option A) → ((a : List ℕ) → IfSome (read a) Q)
    → (words : List (List ℕ)) → IfSome (of_one read words) Q
one_range Q read h [] = tt
one_range Q read h (a ∷ []) = h a
one_range Q read h (a ∷ more ∷ rest) = tt

pub two_range : {A : Type 0} (Q : A → Type 0) (read : List ℕ → List ℕ → Option A) → ((a b : List ℕ) → IfSome (read a b) Q)
    → (words : List (List ℕ)) → IfSome (of_two read words) Q
two_range Q read h [] = tt
two_range Q read h (a ∷ []) = tt
two_range Q read h (a ∷ b ∷ []) = h a b
two_range Q read h (a ∷ b ∷ more ∷ rest) = tt

pub three_range : {A : Type 0} (Q : A → Type 0) (read : List ℕ → List ℕ → List ℕ → Option A) → ((a b c : List ℕ) → IfSome (read a b c) Q)
    → (words : List (List ℕ)) → IfSome (of_three read words) Q
three_range Q read h [] = tt
three_range Q read h (a ∷ []) = tt
three_range Q read h (a ∷ b ∷ []) = tt
three_range Q read h (a ∷ b ∷ c ∷ []) = h a b c
three_range Q read h (a ∷ b ∷ c ∷ more ∷ rest) = tt

abbrev pub IsFrom : ℕ → ℕ → ℕ → Type 0
IsFrom low high n = (low ≤ n) × (n ≤ high)

pub number_range : (low high : ℕ) (word : List ℕ) → IfSome (number_of low high word) (IsFrom low high)
unfolding number
number_range low high word = by_tests (is_numeral word) (nat_le low (worth word)) (nat_le (worth word) high) (worth word) (leb-true low (worth word)) (leb-true (worth word) high)
  where
    by_tests : (a b c : Bool) (w : ℕ) → (b ≡ true → low ≤ w) → (c ≡ true → w ≤ high) → IfSome (number_in (if a then (if b && c then Within w else Outside) else Malformed)) (IsFrom low high)
    by_tests true true true w above below = (above refl, below refl)
    by_tests true true false w above below = tt
    by_tests true false c w above below = tt
    by_tests false b c w above below = tt

pub command_range : (word : List ℕ) → IfSome (command_of word) IsShort
command_range word = by_option (number_of 0 4294967295 word) (number_range 0 4294967295 word)
  where
    by_option : (o : Option ℕ) → IfSome o (IsFrom 0 4294967295) → IfSome o IsShort
    by_option None h = tt
    by_option (Some n) h = h.1

pub lone_number_range : (words : List (List ℕ)) → IfSome (lone_number words) IsShort
lone_number_range = one_range IsShort _ command_range

abbrev pub IsAddress : Lba → Type 0
IsAddress b = IsLong b.0

pub block_range : (word : List ℕ) → IfSome (block_of word) IsAddress
block_range word = through (IsFrom 0 18446744073709551615) IsAddress (number_of 0 18446744073709551615 word) _ (number_range 0 18446744073709551615 word) (λ n from. from.1)

abbrev pub IsSector : ℕ → ℕ → Psn → Type 0
IsSector low high p = (low ≤ p.0) × (p.0 ≤ high)

pub sector_range : (low high : ℕ) (word : List ℕ) → IfSome (sector_of low high word) (IsSector low high)
sector_range low high word = through (IsFrom low high) (IsSector low high) (number_of low high word) _ (number_range low high word) (λ n from. from)

abbrev pub IsTag : Tag → Type 0
IsTag t = t.0 ≤ 65535

pub tag_range : (word : List ℕ) → IfSome (tag_of word) IsTag
tag_range word = through (IsFrom 0 65535) IsTag (number_of 0 65535 word) _ (number_range 0 65535 word) (λ n from. from.1)

-- a head offset, and a change of a sample
negated_offset : (n : ℕ) → IsFrom 1 128 n → IsOffset (neg_ℤ (pos n))
negated_offset zero from = absurd (omega (arith, from.0))
negated_offset (suc n) from = omega (arith, from.1)

offset_range : (word : List ℕ) → IfSome (signed_of 128 0 127 word) IsOffset
offset_range word = either_way IsOffset (slice_index word 0 == 45) _ _
    (through (IsFrom 1 128) IsOffset (number_of 1 128 (drop 1 word)) _ (number_range 1 128 (drop 1 word)) negated_offset)
    (through (IsFrom 0 127) IsOffset (number_of 0 127 word) _ (number_range 0 127 word) (λ n from. from.1))

abbrev IsChange : ℤ → Type 0
IsChange d = (1 ≤ nat_abs d) × (nat_abs d ≤ 127)

negated_change : (n : ℕ) → IsFrom 1 127 n → IsChange (neg_ℤ (pos n))
negated_change zero from = absurd (omega (arith, from.0))
negated_change (suc n) from = from

change_range : (word : List ℕ) → IfSome (signed_of 127 1 127 word) IsChange
change_range word = either_way IsChange (slice_index word 0 == 45) _ _
    (through (IsFrom 1 127) IsChange (number_of 1 127 (drop 1 word)) _ (number_range 1 127 (drop 1 word)) negated_change)
    (through (IsFrom 1 127) IsChange (number_of 1 127 word) _ (number_range 1 127 word) (λ n from. from))

-- labels
lasting_range : (kind behind : List ℕ) → IfSome (lasting_of kind behind) IsLasting
lasting_range kind behind =
    either_way IsLasting (bytes_eq kind (codes "hard")) _ _ tt (
    either_way IsLasting (bytes_eq kind (codes "plus")) _ _ tt (
    either_way IsLasting (bytes_eq kind (codes "minus")) _ _ tt (
    through (IsFrom 1 255) IsLasting (number_of 1 255 behind) _ (number_range 1 255 behind) (λ n from. from))))

effect_range : (last : List ℕ) → IfSome (effect_of last) IsEffect
effect_range last = either_way IsEffect (bytes_eq last (codes "drop")) _ _ tt
    (through IsChange IsEffect (signed_of 127 1 127 last) _ (change_range last) (λ d change. change))

damage_range : (p f l kind behind last : List ℕ) → IfSome (damage_of p f l kind behind last) IsLabel
unfolding damage_of
damage_range p f l kind behind last =
    through (IsSector 0 4095) IsLabel (sector_of 0 4095 p) _ (sector_range 0 4095 p) (λ place at.
    past IsLabel (number_of 0 9478 f) _ (λ first.
    through (IsFrom 1 9478) IsLabel (number_of 1 9478 l) _ (number_range 1 9478 l) (λ count from.
    required IsLabel (nat_le (first + count) 9478) _ (λ within.
    through IsLasting IsLabel (lasting_of kind behind) _ (lasting_range kind behind) (λ lasts lasting.
    through IsEffect IsLabel (effect_of last) _ (effect_range last) (λ does effect.
    record { sector = omega (arith, at.1); some = from.0; within = leb-true (first + count) 9478 within; lasting = lasting; effect = effect }))))))

damage_words_range : (words : List (List ℕ)) → IfSome (damage_words words) IsLabel
damage_words_range [] = tt
damage_words_range (p ∷ []) = tt
damage_words_range (p ∷ f ∷ []) = tt
damage_words_range (p ∷ f ∷ l ∷ []) = tt
damage_words_range (p ∷ f ∷ l ∷ a ∷ []) = tt
damage_words_range (p ∷ f ∷ l ∷ a ∷ b ∷ []) = damage_range p f l a b b
damage_words_range (p ∷ f ∷ l ∷ a ∷ b ∷ last ∷ []) = damage_range p f l a b last
damage_words_range (p ∷ f ∷ l ∷ a ∷ b ∷ c ∷ last ∷ []) = damage_range p f l a b last
damage_words_range (p ∷ f ∷ l ∷ a ∷ b ∷ c ∷ d ∷ more ∷ rest) = tt

fault_words_range : (words : List (List ℕ)) → IfSome (fault_words words) IsLabel
fault_words_range = one_range IsLabel _ (λ p. through (IsSector 16 4095) IsLabel (sector_of 16 4095 p) _ (sector_range 16 4095 p) (λ place at. (at.0, omega (arith, at.1))))

cut_words_range : (words : List (List ℕ)) → IfSome (cut_words words) IsLabel
cut_words_range [] = tt
cut_words_range (now ∷ []) = tt
cut_words_range (a ∷ b ∷ []) = tt
cut_words_range (a ∷ b ∷ c ∷ []) = tt
cut_words_range (write ∷ k ∷ left ∷ scar ∷ []) =
    through (IsFrom 1 4294967295) IsLabel (number_of 1 4294967295 k) _ (number_range 1 4294967295 k) (λ n from.
    through (IsFrom 0 9478) IsLabel (number_of 0 9478 scar) _ (number_range 0 9478 scar) (λ dropped fits. (from.0, from.1, fits.1)))
cut_words_range (a ∷ b ∷ c ∷ d ∷ more ∷ rest) = tt

minutes_words_range : (words : List (List ℕ)) → IfSome (minutes_words words) IsLabel
minutes_words_range = one_range IsLabel _ (λ n. through (IsFrom 0 65535) IsLabel (number_of 0 65535 n) _ (number_range 0 65535 n) (λ m from. from.1))

arrive_words_range : (words : List (List ℕ)) → IfSome (arrive_words words) IsLabel
arrive_words_range = one_range IsLabel _ (λ i. through (IsFrom 1 8) IsLabel (number_of 1 8 i) _ (number_range 1 8 i) (λ m from. from))

label_by_range : (form : LabelForm) (words : List (List ℕ)) → IfSome (label_by form words) IsLabel
label_by_range ArriveForm words = arrive_words_range words
label_by_range WorkForm words = through IsShort IsLabel (lone_number words) _ (lone_number_range words) (λ c fits. fits)
label_by_range JobForm words = through IsShort IsLabel (lone_number words) _ (lone_number_range words) (λ c fits. fits)
label_by_range ScanForm words = none_range IsLabel _ tt words
label_by_range DestageForm words = none_range IsLabel _ tt words
label_by_range DamageForm words = damage_words_range words
label_by_range FaultForm words = fault_words_range words
label_by_range CutForm words = cut_words_range words
label_by_range PowerForm words = none_range IsLabel _ tt words
label_by_range MinutesForm words = minutes_words_range words

pub label_range : (words : List (List ℕ)) → IfSome (label_from words) IsLabel
label_range [] = tt
label_range (first ∷ words) = past IsLabel (label_form first) _ (λ form. label_by_range form words)

-- operations
place_range : (word : List ℕ) → IfSome (place_of word) (IsSector 0 4294967295)
place_range word = sector_range 0 4294967295 word

place_in_range : (words : List (List ℕ)) → IfSome (place_in words) (IsSector 0 4294967295)
place_in_range = one_range (IsSector 0 4294967295) _ place_range

torn_range : (words : List (List ℕ)) → IfSome (torn_words words) IsShown
torn_range = two_range IsShown _ (λ p left. through (IsSector 0 4294967295) IsShown (place_of p) _ (place_range p) (λ place at. at.1))

fetched_range : (words : List (List ℕ)) → IfSome (fetched_words words) IsShown
fetched_range = three_range IsShown _ (λ p reread offset.
    through (IsSector 0 4294967295) IsShown (place_of p) _ (place_range p) (λ place at.
    through (IsFrom 0 255) IsShown (number_of 0 255 reread) _ (number_range 0 255 reread) (λ count from.
    through IsOffset IsShown (signed_of 128 0 127 offset) _ (offset_range offset) (λ beside fits. (at.1, from.1, fits)))))

tried_range : (words : List (List ℕ)) → IfSome (tried_words words) IsShown
tried_range = three_range IsShown _ (λ p stage found.
    through (IsSector 0 4294967295) IsShown (place_of p) _ (place_range p) (λ place at.
    through (IsFrom 0 255) IsShown (number_of 0 255 stage) _ (number_range 0 255 stage) (λ n from. (at.1, from.1))))

shown_by_range : (form : OperationForm) (words : List (List ℕ)) → IfSome (shown_by form words) IsShown
shown_by_range OpCutForm words = none_range IsShown _ tt words
shown_by_range OpPowerForm words = none_range IsShown _ tt words
shown_by_range TornForm words = torn_range words
shown_by_range FetchedForm words = fetched_range words
shown_by_range TriedForm words = tried_range words
shown_by_range WroteForm words = through (IsSector 0 4294967295) IsShown (place_in words) _ (place_in_range words) (λ p at. at.1)
shown_by_range FailedForm words = through (IsSector 0 4294967295) IsShown (place_in words) _ (place_in_range words) (λ p at. at.1)
shown_by_range DamagedForm words = through (IsSector 0 4294967295) IsShown (place_in words) _ (place_in_range words) (λ p at. at.1)
shown_by_range FaultyForm words = through (IsSector 0 4294967295) IsShown (place_in words) _ (place_in_range words) (λ p at. at.1)

pub shown_range : (words : List (List ℕ)) → IfSome (shown_from words) IsShown
shown_range [] = tt
shown_range (first ∷ words) = past IsShown (operation_form first) _ (λ form. shown_by_range form words)

-- bytes, data and values
pub bytes_range : (word : List ℕ) → IfSome (bytes_of word) IsBytes
unfolding bytes_of
bytes_range word = by_result (decode_of word) (λ bytes e. (decode_of-ok word bytes e).3)
  where
    by_result : (r : Result (List ℕ) FromHexError) → ((bytes : List ℕ) → r ≡ Ok bytes → IsBytes bytes) → IfSome (result_ok r) IsBytes
    by_result (Ok bytes) h = h bytes refl
    by_result (Err e) h = tt

two_digits : (high low byte : ℕ) → pair_value high low 0 ≡ Ok byte → byte < 256
unfolding decode_pairs
two_digits high low byte e = (decode_pairs-ok 0 (high ∷ low ∷ []) (byte ∷ []) (decode_pairs-ok_pair 0 high low byte [] e)).2 0

abbrev pub IsByte : ℕ → Type 0
IsByte b = b < 256

pub byte_range : (word : List ℕ) → IfSome (byte_of word) IsByte
unfolding byte_of
byte_range [] = tt
byte_range (a ∷ []) = tt
byte_range (a ∷ b ∷ []) = by_result (pair_value a b 0) (two_digits a b)
  where
    by_result : (r : Result ℕ FromHexError) → ((byte : ℕ) → r ≡ Ok byte → byte < 256) → IfSome (result_ok r) IsByte
    by_result (Ok byte) h = h byte refl
    by_result (Err e) h = tt
byte_range (a ∷ b ∷ c ∷ rest) = tt

pub mapped : {A B : Type 0} (P : A → Type 0) (Q : B → Type 0) (o : Option A) (f : A → B) → IfSome o P → ((x : A) → P x → Q (f x)) → IfSome (option_map f o) Q
mapped P Q None f h g = tt
mapped P Q (Some x) f h g = g x h

pub sent_range : (word : List ℕ) → IfSome (sent_of word) IsSent
sent_range word = either_way IsSent (bytes_eq word (codes "-")) _ _ tt (past IsSent (mark_of word) _ (λ mark. by_mark mark))
  where
    by_mark : (mark : Mark) → IfSome (data_of mark word) IsSent
    by_mark Star = mapped IsByte IsSent (byte_of (drop 1 word)) Fill (byte_range (drop 1 word)) (λ b fits. fits)
    by_mark Equals = mapped IsBytes IsSent (bytes_of (drop 1 word)) Given (bytes_range (drop 1 word)) (λ bs fits. fits)

pub page_range : (word : List ℕ) → IfSome (page_of word) IsBytes
page_range word = either_way IsBytes (bytes_eq word (codes "-")) _ _ (λ i. lit< tt) (bytes_range word)

-- so many bytes
abbrev AreSized : ℕ → List ℕ → Type 0
AreSized n bytes = (length bytes ≡ n) × IsBytes bytes

sized_range : (word : List ℕ) (n : ℕ) → IfSome (result_ok (decode_sized word n)) (AreSized n)
sized_range word n = by_result (decode_sized word n) refl
  where
    by_result : (r : Result (List ℕ) FromHexError) → decode_sized word n ≡ r → IfSome (result_ok r) (AreSized n)
    by_result (Ok bytes) e =
        let long = decode_sized-ok word n bytes e in
        let ok = decode_of-ok word bytes (sym (decode_sized-twice word n long) ∙ e) in
        (omega (arith, long, ok.2), ok.3)
    by_result (Err fault) e = tt

alike : (n b : ℕ) → b < 256 → AreSized n (replicate n b)
alike zero b fits = (refl, λ i. lit< tt)
alike (suc n) b fits = let rest = alike n b fits in (omega (arith, rest.0), more (rest.1))
  where
    more : IsBytes (replicate n b) → IsBytes (b ∷ replicate n b)
    more h zero = fits
    more h (suc i) = h i

pub value_range : (word : List ℕ) → IfSome (value_of word) IsValue
unfolding value_of
value_range word =
    either_way IsValue (bytes_eq word (codes "bad")) _ _ tt (
    either_way IsValue (slice_index word 0 == 42) _ _
    (mapped IsByte IsValue (byte_of (drop 1 word)) (λ byte. Data (replicate 512 byte)) (byte_range (drop 1 word)) (λ b fits. alike 512 b fits))
    (mapped (AreSized 512) IsValue (result_ok (decode_sized word 512)) Data (sized_range word 512) (λ bytes sized. sized)))

pub sense_range : (word : List ℕ) → IfSome (sense_of word) IsSense
unfolding sense_of
sense_range word = through (AreSized 18) IsSense (result_ok (decode_sized word 18)) sense_from (sized_range word 18) (λ bytes sized.
    either_way IsSense (bytes_eq (sense_bytes (fields_of bytes)) bytes) (Some (fields_of bytes)) None (fields_fit bytes sized.1) tt)

-- findings
abbrev pub IsTold : ℕ → Finding → Type 0
IsTold minutes f = (f.status ≤ 255) × IsLong f.b.0 × (finding_of minutes f.status f.b ≡ Some f)

pub finding_range : (minutes status : ℕ) (b : Lba) → IsLong b.0 → IfSome (finding_of minutes status b) (IsTold minutes)
finding_range minutes status b fits =
    either_way (IsTold minutes) (status == 1) _ _ (omega arith, fits, refl) (
    either_way (IsTold minutes) (status == 2) _ _ (omega arith, fits, refl) (
    either_way (IsTold minutes) (status == 4) _ _ (omega arith, fits, refl) tt))
