-- A line of the body that was read has its numbers in the ranges of its form.
use Rattle.std.proofs.Common.{◌≡◌, ℕ, zero, suc, ◌+◌, ◌-◌, ◌<◌, ◌≤◌, ◌==◌, ◌&&◌, Bool, true, false, List, [], ◌∷◌, drop, Option, Some, None, Result, Ok, Err, IfOk, ℤ, pos, refl, arith}
use Rattle.std.specs.Prelude.{codes, nat_le, nat_abs, neg_ℤ, slice_index, option_map, if◌then◌else◌}
use Rattle.std.specs.Str.{bytes_eq}
use Rattle.std.specs.Result.{result_ok}
use Rattle.std.proofs.lemmas.Bool.{leb-true}
use Rattle.hex.specs.Hex.{IsBytes, decode_of, decode_pairs, pair_value}
use Rattle.hex.specs.declared.error.FromHexError.{FromHexError}
use Rattle.hex.proofs.HexLemmas.{decode_of-ok, decode_pairs-ok}
use Rattle.hex.proofs.Pairs.{decode_pairs-ok_pair}
use Rattle.disk_base.specs.Cdb.{is_command_block}
use Rattle.disk_base.specs.declared.address.Psn.{Psn}
use Rattle.disk_base.specs.declared.address.Tag.{Tag}
use Rattle.disk_base.specs.declared.command.DataOut.TheVariants.{Fill, Given}
use Rattle.disk_base.specs.declared.command.Function.{Function as Asked}
use Rattle.disk_base.specs.declared.command.Function.TheVariants.{AbortSet as AbortTaskSet, Clear as ClearTaskSet, Reset as ResetUnit}
use Rattle.platter_model.specs.declared.damage.Lasting.{Lasting}
use Rattle.platter_model.specs.declared.damage.Effect.{Effect}
use Rattle.platter_model.specs.declared.damage.Effect.TheVariants.{Drop}
use Rattle.text_words.specs.declared.number.Numeral.TheVariants.{Malformed, Outside, Within}
use Rattle.text_words.specs.declared.data.Mark.{Mark}
use Rattle.text_words.specs.declared.data.Mark.TheVariants.{Star, Equals}
use Rattle.text_words.specs.Number.{number, is_numeral, worth}
use Rattle.text_words.specs.Digits.{bytes_of, byte_of}
use Rattle.script_text.specs.declared.form.Form.{Form}
use Rattle.script_text.specs.declared.form.Form.TheVariants.{Command, Abort, AbortSet, Clear, Reset, Scan, Destage, Go, Damage, Fault, Cut, Power, Minutes}
use Rattle.script_text.specs.declared.why.Why.TheVariants.{Hex, Cdb, Number}
use Rattle.script_text.specs.Steps.{or_else}
use Rattle.script_text.specs.Numbers.{within_range, number_of, change_of, tag_of, sector_of}
use Rattle.script_text.specs.Grammar.{attribute_of, mark_of_data, sent_of, command_of, command_line, abort_line, function_line, scan_line, destage_line, plain_lasting, fixed, soft_lasting, added, damage_at, plain_drop, soft_drop, plain_add, soft_add, damage_line, fault_line, left_of, armed, cut_line, minutes_line, line_of}
use Rattle.script_text.specs.Proper.{IsSent, IsAsked, IsLasting, IsEffect, IsProper}
use Rattle.script_text.proofs.StepLemmas.{through, past, required, either_way}

abbrev pub IsFrom : ℕ → ℕ → ℕ → Type 0
IsFrom low high n = (low ≤ n) × (n ≤ high)

pub number_range : (low high : ℕ) (word : List ℕ) → IfOk (number_of low high word) (IsFrom low high)
unfolding number
number_range low high word = by_tests (is_numeral word) (nat_le low (worth word)) (nat_le (worth word) high) (worth word) (leb-true low (worth word)) (leb-true (worth word) high)
  where
    by_tests : (a b c : Bool) (w : ℕ) → (b ≡ true → low ≤ w) → (c ≡ true → w ≤ high) → IfOk (within_range (if a then (if b && c then Within w else Outside) else Malformed)) (IsFrom low high)
    by_tests true true true w above below = (above refl, below refl)
    by_tests true true false w above below = tt
    by_tests true false c w above below = tt
    by_tests false b c w above below = tt

abbrev IsChange : ℤ → Type 0
IsChange d = (1 ≤ nat_abs d) × (nat_abs d ≤ 127)

negated : (n : ℕ) → IsFrom 1 127 n → IsChange (neg_ℤ (pos n))
negated zero from = absurd (omega (arith, from.0))
negated (suc n) from = from

change_range : (word : List ℕ) → IfOk (change_of word) IsChange
change_range word = either_way IsChange (slice_index word 0 == 45) _ _
    (λ _. through (IsFrom 1 127) IsChange (number_of 1 127 (drop 1 word)) _ (number_range 1 127 (drop 1 word)) negated)
    (λ _. through (IsFrom 1 127) IsChange (number_of 1 127 word) _ (number_range 1 127 word) (λ n from. from))

abbrev IsTag : Tag → Type 0
IsTag t = t.0 ≤ 65535

tag_range : (word : List ℕ) → IfOk (tag_of word) IsTag
tag_range word = through (IsFrom 0 65535) IsTag (number_of 0 65535 word) _ (number_range 0 65535 word) (λ n from. from.1)

abbrev pub IsSector : ℕ → ℕ → Psn → Type 0
IsSector low total p = (low ≤ p.0) × (p.0 < total)

pub sector_range : (low total : ℕ) (word : List ℕ) → 1 ≤ total → IfOk (sector_of low total word) (IsSector low total)
sector_range low total word some =
    through (IsFrom low (total - 1)) (IsSector low total) (number_of low (total - 1) word) _ (number_range low (total - 1) word) (λ n from. (from.0, omega (arith, some, from.1)))

-- digits give bytes
bytes_read : (word : List ℕ) → IfOk (or_else Hex (bytes_of word)) IsBytes
unfolding bytes_of
bytes_read word = by_result (decode_of word) (λ bytes e. (decode_of-ok word bytes e).3)
  where
    by_result : (r : Result (List ℕ) FromHexError) → ((bytes : List ℕ) → r ≡ Ok bytes → IsBytes bytes) → IfOk (or_else Hex (result_ok r)) IsBytes
    by_result (Ok bytes) h = h bytes refl
    by_result (Err e) h = tt

-- two digits give a byte
two_digits : (high low byte : ℕ) → pair_value high low 0 ≡ Ok byte → byte < 256
unfolding decode_pairs
two_digits high low byte e = (decode_pairs-ok 0 (high ∷ low ∷ []) (byte ∷ []) (decode_pairs-ok_pair 0 high low byte [] e)).2 0

fill_read : (word : List ℕ) → IfOk (or_else Hex (option_map Fill (byte_of word))) IsSent
unfolding byte_of
fill_read [] = tt
fill_read (a ∷ []) = tt
fill_read (a ∷ b ∷ []) = by_result (pair_value a b 0) (two_digits a b)
  where
    by_result : (r : Result ℕ FromHexError) → ((byte : ℕ) → r ≡ Ok byte → byte < 256) → IfOk (or_else Hex (option_map Fill (result_ok r))) IsSent
    by_result (Ok byte) h = h byte refl
    by_result (Err e) h = tt
fill_read (a ∷ b ∷ c ∷ rest) = tt

given_read : (o : Option (List ℕ)) → IfOk (or_else Hex o) IsBytes → IfOk (or_else Hex (option_map Given o)) IsSent
given_read (Some bytes) h = h
given_read None h = tt

sent_read : (mark : Option Mark) (word : Option (List ℕ)) → IfOk (sent_of mark word) IsSent
sent_read None word = tt
sent_read (Some mark) None = tt
sent_read (Some Star) (Some word) = fill_read (drop 1 word)
sent_read (Some Equals) (Some word) = given_read (bytes_of (drop 1 word)) (bytes_read (drop 1 word))

command_proper : (total : ℕ) (i t a cdb : List ℕ) (sent : Option (List ℕ)) → IfOk (command_of i t a cdb sent) (IsProper total)
unfolding command_of
command_proper total i t a cdb sent =
    past (IsProper total) (attribute_of a) _ (λ attribute.
    past (IsProper total) (mark_of_data sent) _ (λ mark.
    through (IsFrom 1 8) (IsProper total) (number_of 1 8 i) _ (number_range 1 8 i) (λ initiator from.
    through IsTag (IsProper total) (tag_of t) _ (tag_range t) (λ tag fits.
    through IsBytes (IsProper total) (or_else Hex (bytes_of cdb)) _ (bytes_read cdb) (λ block bytes.
    through IsSent (IsProper total) (sent_of mark sent) _ (sent_read mark sent) (λ given bytes_given.
    required (IsProper total) (is_command_block block) Cdb _ (λ whole.
    record { from_one = from.0; to_eight = from.1; tag_fits = fits; bytes = bytes; block = whole; data_are_bytes = bytes_given })))))))

command_line_proper : (total : ℕ) (words : List (List ℕ)) → IfOk (command_line words) (IsProper total)
command_line_proper total [] = tt
command_line_proper total (i ∷ []) = tt
command_line_proper total (i ∷ t ∷ []) = tt
command_line_proper total (i ∷ t ∷ a ∷ []) = tt
command_line_proper total (i ∷ t ∷ a ∷ cdb ∷ []) = command_proper total i t a cdb None
command_line_proper total (i ∷ t ∷ a ∷ cdb ∷ sent ∷ []) = command_proper total i t a cdb (Some sent)
command_line_proper total (i ∷ t ∷ a ∷ cdb ∷ sent ∷ more ∷ rest) = tt

abort_line_proper : (total : ℕ) (words : List (List ℕ)) → IfOk (abort_line words) (IsProper total)
abort_line_proper total [] = tt
abort_line_proper total (i ∷ []) = tt
abort_line_proper total (i ∷ t ∷ []) =
    through (IsFrom 1 8) (IsProper total) (number_of 1 8 i) _ (number_range 1 8 i) (λ initiator from.
    through IsTag (IsProper total) (tag_of t) _ (tag_range t) (λ tag fits. (from.0, from.1, fits)))
abort_line_proper total (i ∷ t ∷ more ∷ rest) = tt

function_line_proper : (total : ℕ) (what : Asked) (words : List (List ℕ)) → IsAsked what → IfOk (function_line what words) (IsProper total)
function_line_proper total what [] asked = tt
function_line_proper total what (i ∷ []) asked =
    through (IsFrom 1 8) (IsProper total) (number_of 1 8 i) _ (number_range 1 8 i) (λ initiator from. (from.0, from.1, asked))
function_line_proper total what (i ∷ more ∷ rest) asked = tt

scan_line_proper : (total : ℕ) (words : List (List ℕ)) → IfOk (scan_line words) (IsProper total)
scan_line_proper total [] = tt
scan_line_proper total (n ∷ []) = through (IsFrom 1 60000) (IsProper total) (number_of 1 60000 n) _ (number_range 1 60000 n) (λ count from. from)
scan_line_proper total (n ∷ more ∷ rest) = tt

destage_line_proper : (total : ℕ) (words : List (List ℕ)) → IfOk (destage_line words) (IsProper total)
destage_line_proper total [] = tt
destage_line_proper total (n ∷ []) = through (IsFrom 1 60000) (IsProper total) (number_of 1 60000 n) _ (number_range 1 60000 n) (λ count from. from)
destage_line_proper total (n ∷ more ∷ rest) = tt

lasting_proper : (word : List ℕ) → IfOk (plain_lasting word) IsLasting
lasting_proper word =
    either_way IsLasting (bytes_eq word (codes "hard")) _ _ (λ _. tt) (λ _.
    either_way IsLasting (bytes_eq word (codes "plus")) _ _ (λ _. tt) (λ _.
    either_way IsLasting (bytes_eq word (codes "minus")) _ _ (λ _. tt) (λ _. tt)))

soft_proper : (word : List ℕ) → IfOk (soft_lasting word) IsLasting
soft_proper word = through (IsFrom 1 255) IsLasting (number_of 1 255 word) _ (number_range 1 255 word) (λ n from. from)

added_proper : (word : List ℕ) → IfOk (added word) IsEffect
added_proper word = through IsChange IsEffect (change_of word) _ (change_range word) (λ d from. from)

harm_proper : (total : ℕ) (p f l : List ℕ) (lasting : Lasting) (effect : Effect) → 1 ≤ total → IsLasting lasting → IsEffect effect
    → IfOk (damage_at total p f l lasting effect) (IsProper total)
unfolding damage_at
harm_proper total p f l lasting effect some lasts does =
    through (IsSector 0 total) (IsProper total) (sector_of 0 total p) _ (sector_range 0 total p some) (λ place at.
    past (IsProper total) (number_of 0 9478 f) _ (λ first.
    through (IsFrom 1 9478) (IsProper total) (number_of 1 9478 l) _ (number_range 1 9478 l) (λ count from.
    required (IsProper total) (nat_le (first + count) 9478) Number _ (λ within.
    record { sector = at.1; some = from.0; within = leb-true (first + count) 9478 within; lasting = lasts; effect = does }))))

damage_line_proper : (total : ℕ) (words : List (List ℕ)) → 1 ≤ total → IfOk (damage_line total words) (IsProper total)
unfolding plain_drop soft_drop plain_add soft_add
damage_line_proper total [] some = tt
damage_line_proper total (p ∷ []) some = tt
damage_line_proper total (p ∷ f ∷ []) some = tt
damage_line_proper total (p ∷ f ∷ l ∷ []) some = tt
damage_line_proper total (p ∷ f ∷ l ∷ a ∷ []) some = tt
damage_line_proper total (p ∷ f ∷ l ∷ a ∷ b ∷ []) some =
    through IsLasting (IsProper total) (plain_lasting a) _ (lasting_proper a) (λ kind lasts.
    past (IsProper total) (fixed (codes "drop") b) _ (λ _. harm_proper total p f l kind Drop some lasts tt))
damage_line_proper total (p ∷ f ∷ l ∷ a ∷ b ∷ c ∷ []) some =
    either_way (IsProper total) (bytes_eq a (codes "soft")) _ _
    (λ _. past (IsProper total) (fixed (codes "drop") c) _ (λ _.
    through IsLasting (IsProper total) (soft_lasting b) _ (soft_proper b) (λ kind lasts. harm_proper total p f l kind Drop some lasts tt)))
    (λ _. through IsLasting (IsProper total) (plain_lasting a) _ (lasting_proper a) (λ kind lasts.
    past (IsProper total) (fixed (codes "add") b) _ (λ _.
    through IsEffect (IsProper total) (added c) _ (added_proper c) (λ change does. harm_proper total p f l kind change some lasts does))))
damage_line_proper total (p ∷ f ∷ l ∷ a ∷ b ∷ c ∷ d ∷ []) some =
    past (IsProper total) (fixed (codes "soft") a) _ (λ _.
    past (IsProper total) (fixed (codes "add") c) _ (λ _.
    through IsLasting (IsProper total) (soft_lasting b) _ (soft_proper b) (λ kind lasts.
    through IsEffect (IsProper total) (added d) _ (added_proper d) (λ change does. harm_proper total p f l kind change some lasts does))))
damage_line_proper total (p ∷ f ∷ l ∷ a ∷ b ∷ c ∷ d ∷ more ∷ rest) some = tt

fault_line_proper : (total : ℕ) (words : List (List ℕ)) → 1 ≤ total → IfOk (fault_line total words) (IsProper total)
fault_line_proper total [] some = tt
fault_line_proper total (p ∷ []) some = through (IsSector 16 total) (IsProper total) (sector_of 16 total p) _ (sector_range 16 total p some) (λ place at. at)
fault_line_proper total (p ∷ more ∷ rest) some = tt

cut_line_proper : (total : ℕ) (words : List (List ℕ)) → IfOk (cut_line words) (IsProper total)
unfolding armed
cut_line_proper total [] = tt
cut_line_proper total (now ∷ []) = past (IsProper total) (fixed (codes "now") now) _ (λ _. tt)
cut_line_proper total (a ∷ b ∷ []) = tt
cut_line_proper total (a ∷ b ∷ c ∷ []) = tt
cut_line_proper total (write ∷ k ∷ left ∷ scar ∷ []) =
    past (IsProper total) (fixed (codes "write") write) _ (λ _.
    past (IsProper total) (left_of left) _ (λ kept.
    through (IsFrom 1 4294967295) (IsProper total) (number_of 1 4294967295 k) _ (number_range 1 4294967295 k) (λ n from.
    through (IsFrom 0 9478) (IsProper total) (number_of 0 9478 scar) _ (number_range 0 9478 scar) (λ dropped fits. (from.0, from.1, fits.1)))))
cut_line_proper total (a ∷ b ∷ c ∷ d ∷ more ∷ rest) = tt

minutes_line_proper : (total : ℕ) (words : List (List ℕ)) → IfOk (minutes_line words) (IsProper total)
minutes_line_proper total [] = tt
minutes_line_proper total (n ∷ []) = through (IsFrom 0 65535) (IsProper total) (number_of 0 65535 n) _ (number_range 0 65535 n) (λ minutes from. from.1)
minutes_line_proper total (n ∷ more ∷ rest) = tt

-- what is read as a line of the body is proper
pub line_proper : (total : ℕ) (form : Form) (words : List (List ℕ)) → 1 ≤ total → IfOk (line_of total form words) (IsProper total)
line_proper total Command words some = command_line_proper total words
line_proper total Abort words some = abort_line_proper total words
line_proper total AbortSet words some = function_line_proper total AbortTaskSet words tt
line_proper total Clear words some = function_line_proper total ClearTaskSet words tt
line_proper total Reset words some = function_line_proper total ResetUnit words tt
line_proper total Scan words some = scan_line_proper total words
line_proper total Destage words some = destage_line_proper total words
line_proper total Go [] some = tt
line_proper total Go (more ∷ rest) some = tt
line_proper total Damage words some = damage_line_proper total words some
line_proper total Fault words some = fault_line_proper total words some
line_proper total Cut words some = cut_line_proper total words
line_proper total Power [] some = tt
line_proper total Power (more ∷ rest) some = tt
line_proper total Minutes words some = minutes_line_proper total words
