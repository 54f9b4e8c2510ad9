-- The words of entries, operations and labels have no blank, no mark and no LF in them, and there are few.
use Rattle.std.proofs.Common.{◌≡◌, ℕ, zero, suc, ◌+◌, ◌/◌, ◌%◌, ◌^◌, ◌<◌, ◌≤◌, ◌==◌, ◌&&◌, Bool, true, false, not, List, [], ◌∷◌, ◌++◌, length, Option, Some, None, ℤ, pos, negsuc, refl, arith, lit<}
use Rattle.std.specs.Prelude.{decimal, codes, nat_lt, nat_le, slice_index, if◌then◌else◌}
use Rattle.std.specs.Fmt.{signed_decimal}
use Rattle.std.specs.List.{list_all}
use Rattle.std.specs.Str.Parse.{AllDigits}
use Rattle.std.proofs.lemmas.Bool.{ne_eqb, lt-ltb}
use Rattle.std.proofs.lemmas.Fmt.{decimal_is_IsNumeral}
use Rattle.std.proofs.lemmas.Str.Parse.{digit_from_value}
use Rattle.std.proofs.lemmas.List.Sums.{AllPass-from_list_all}
use Rattle.hex.specs.Hex.{encode_with, upper_digits, IsBytes}
use Rattle.disk_base.specs.declared.block.Value.{Value}
use Rattle.disk_base.specs.declared.block.Value.TheVariants.{Data, Lost}
use Rattle.disk_base.specs.declared.command.Attribute.{Attribute}
use Rattle.disk_base.specs.declared.command.Attribute.TheVariants.{Simple, Ordered, Head}
use Rattle.disk_base.specs.declared.command.DataOut.{DataOut}
use Rattle.disk_base.specs.declared.command.DataOut.TheVariants.{Nothing as NoData, Fill, Given}
use Rattle.disk_base.specs.declared.command.Function.TheVariants.{Abort, AbortSet, Clear, Reset}
use Rattle.sense_data.specs.declared.sense.Sense.{Sense}
use Rattle.sense_data.specs.Sense.{sense_bytes}
use Rattle.platter_model.specs.declared.damage.Lasting.TheVariants.{Hard, Soft, Plus, Minus}
use Rattle.platter_model.specs.declared.damage.Lasting.{Lasting}
use Rattle.platter_model.specs.declared.damage.Effect.{Effect}
use Rattle.platter_model.specs.declared.damage.Effect.TheVariants.{Drop, Add}
use Rattle.platter_model.specs.declared.damage.Left.{Left}
use Rattle.platter_model.specs.declared.damage.Left.TheVariants.{Old, New, Nothing}
use Rattle.platter_model.specs.declared.world.World.TheVariants.{Damage, Fault, Cut as CutNow, Arm, Power as PowerOn, Minutes}
use Rattle.block_machine.specs.declared.entry.Who.{Who}
use Rattle.block_machine.specs.declared.entry.Who.TheVariants.{Command, Drive}
use Rattle.block_machine.specs.declared.entry.Seen.{Seen}
use Rattle.block_machine.specs.declared.entry.Seen.TheVariants.{Skipped, Light, Heavy, Unread}
use Rattle.block_machine.specs.declared.entry.Recovered.TheVariants.{Ready, Corrupt, Formatting}
use Rattle.block_machine.specs.declared.entry.Entry.{Entry}
use Rattle.block_machine.specs.declared.entry.Entry.TheVariants.{Arrived, Started, Get, Put, Harden, Passed, GiveUp, Page, Ended, Aborted, Asked, Mode, Scanned, Logged, Cut, PoweredOn, Tick, Blank, Fresh}
use Rattle.block_machine.specs.declared.turn.Label.{Label}
use Rattle.block_machine.specs.declared.turn.Label.TheVariants.{Arrive, Work, Job, Scan, Destage, World}
use Rattle.text_words.specs.Digits.{hex_of, byte_word}
use Rattle.text_words.specs.Data.{sent_word, value_word, block_word}
use Rattle.script_text.specs.Proper.{IsSent, IsLasting, IsEffect}
use Rattle.script_text.specs.Spelling.{attribute_word, left_word}
use Rattle.report_text.specs.declared.shown.Shown.{Shown}
use Rattle.report_text.specs.declared.shown.Shown.TheVariants.{Wrote, Torn, WriteFailed, Damaged, Faulty, Fetched, Tried, Cut as CutOff, Power}
use Rattle.report_text.specs.Operations.{found_word, shown_words}
use Rattle.report_text.specs.Entries.{who_word, page_word, flag_word, seen_word, entry_words}
use Rattle.report_text.specs.Turns.{label_words}
use Rattle.report_text.specs.Proper.{IsShort, IsLong, IsOffset, IsShown, IsBlock, IsValue, IsWho, MaySay, IsEntry, IsLabel}
use Rattle.report_text.proofs.FieldLaws.{sense_is_bytes}

-- a character that neither parts nor marks
abbrev pub is_plain : ℕ → Bool
is_plain b = nat_lt 32 b && (not (b == 60) && not (b == 62))

abbrev pub plain : List ℕ → Bool
plain word = list_all is_plain word

-- at most eight such words
abbrev pub few_plain : List (List ℕ) → Bool
few_plain words = nat_le (length words) 8 && list_all plain words

pub both : (a b : Bool) → a ≡ true → b ≡ true → (a && b) ≡ true
both true b p q = q
both false b p q = absurd (cc)

plain_digit : (c : ℕ) → 48 ≤ c → c ≤ 57 → is_plain c ≡ true
plain_digit c low high = rw (lt-ltb 32 c (omega (arith, low)), ne_eqb c 60 (λ e. omega (arith, high, e)), ne_eqb c 62 (λ e. omega (arith, high, e))) refl

plain_digits : (ds : List ℕ) → AllDigits 10 ds → plain ds ≡ true
plain_digits [] digits = refl
plain_digits (c ∷ cs) digits =
    let from = digit_from_value c digits.0 in
    both (is_plain c) (plain cs) (plain_digit c (omega (arith, from)) (omega (arith, from))) (plain_digits cs digits.1)

pub plain_decimal : (n : ℕ) → n < 2 ^ 64 → plain (decimal n) ≡ true
plain_decimal n small = plain_digits (decimal n) (decimal_is_IsNumeral n small).0.1

pub short : (n : ℕ) → IsShort n → plain (decimal n) ≡ true
short n fits = plain_decimal n (omega (arith, fits))

long : (n : ℕ) → IsLong n → plain (decimal n) ≡ true
long n fits = plain_decimal n (omega (arith, fits))

small : (n most : ℕ) → n ≤ most → most < 2 ^ 64 → plain (decimal n) ≡ true
small n most fits less = plain_decimal n (omega (arith, fits, less))

plain_hex : (bytes : List ℕ) → IsBytes bytes → plain (hex_of bytes) ≡ true
unfolding encode_with
plain_hex [] fit = refl
plain_hex (b ∷ rest) fit =
    let byte : b < 256 = fit 0 in
    both (is_plain (slice_index upper_digits (b / 16))) _ (AllPass-from_list_all is_plain upper_digits refl (b / 16) 0 (omega (arith, byte)))
    (both (is_plain (slice_index upper_digits (b % 16))) _ (AllPass-from_list_all is_plain upper_digits refl (b % 16) 0 (omega (arith, byte)))
    (plain_hex rest (λ i. fit (suc i))))

one_byte : (b : ℕ) → b < 256 → IsBytes (b ∷ [])
one_byte b fits zero = fits
one_byte b fits (suc i) = lit< tt

plain_byte : (b : ℕ) → b < 256 → plain (byte_word b) ≡ true
plain_byte b fits = plain_hex (b ∷ []) (one_byte b fits)

plain_signed : (z : ℤ) → IsOffset z → plain (signed_decimal z) ≡ true
plain_signed (pos n) fits = plain_decimal n (omega (arith, fits))
plain_signed (negsuc n) fits = plain_digits (decimal (suc n)) (decimal_is_IsNumeral (suc n) (omega (arith, fits))).0.1

plain_block : (block : List ℕ) → IsBlock block → plain (block_word block) ≡ true
plain_block [] fits = absurd (omega (arith, fits.0))
plain_block (x ∷ rest) fits = by_test (list_all (λ b. b == x) (x ∷ rest))
  where
    by_test : (alike : Bool) → plain (if alike then codes "*" ++ byte_word x else hex_of (x ∷ rest)) ≡ true
    by_test true = plain_byte x (fits.1 0)
    by_test false = plain_hex (x ∷ rest) fits.1

plain_value : (value : Value) → IsValue value → plain (value_word value) ≡ true
plain_value (Data block) fits = plain_block block fits
plain_value Lost fits = refl

plain_sent : (sent : DataOut) → IsSent sent → plain (sent_word sent) ≡ true
plain_sent NoData fits = refl
plain_sent (Fill byte) fits = plain_byte byte fits
plain_sent (Given bytes) fits = plain_hex bytes fits

plain_attribute : (a : Attribute) → plain (attribute_word a) ≡ true
plain_attribute Simple = refl
plain_attribute Ordered = refl
plain_attribute Head = refl

plain_page : (bytes : List ℕ) → IsBytes bytes → plain (page_word bytes) ≡ true
plain_page [] fits = refl
plain_page (x ∷ rest) fits = plain_hex (x ∷ rest) fits

plain_who : (who : Who) → IsWho who → plain (who_word who) ≡ true
plain_who (Command c) fits = short c fits
plain_who Drive fits = refl

plain_flag : (b : Bool) → plain (flag_word b) ≡ true
plain_flag true = refl
plain_flag false = refl

plain_seen : (what : Seen) → plain (seen_word what) ≡ true
plain_seen Skipped = refl
plain_seen Light = refl
plain_seen Heavy = refl
plain_seen Unread = refl

ended_plain : (c status : ℕ) (sense : Option Sense) → IsShort c → status < 256 → MaySay sense → few_plain (entry_words (Ended c (record { status = status; sense = sense }))) ≡ true
ended_plain c status None fits byte says = rw (short c fits, plain_byte status byte) refl
ended_plain c status (Some s) fits byte says = rw (short c fits, plain_byte status byte, plain_hex (sense_bytes s) (sense_is_bytes s says)) refl

pub entry_plain : (minutes : ℕ) (e : Entry) → IsEntry minutes e → few_plain (entry_words e) ≡ true
entry_plain minutes (Arrived c i t a cdb sent) fits =
    rw (short c fits.0, small i 8 fits.1.to_eight (lit< tt), small t.0 65535 fits.1.tag_fits (lit< tt), plain_attribute a, plain_hex cdb fits.1.bytes, plain_sent sent fits.1.data_are_bytes) refl
entry_plain minutes (Started c) fits = rw (short c fits) refl
entry_plain minutes (Get c b value) fits = rw (short c fits.0, long b.0 fits.1, plain_value value fits.2) refl
entry_plain minutes (Put c b block) fits = rw (short c fits.0, long b.0 fits.1, plain_block block fits.2) refl
entry_plain minutes (Harden who b) fits = rw (plain_who who fits.0, long b.0 fits.1) refl
entry_plain minutes (Passed c from to) fits = rw (short c fits.0, long from.0 fits.1, long to.0 fits.2) refl
entry_plain minutes (GiveUp b) fits = rw (long b.0 fits) refl
entry_plain minutes (Page c bytes) fits = rw (short c fits.0, plain_page bytes fits.1) refl
entry_plain minutes (Ended c reply) fits = ended_plain c reply.status reply.sense fits.0 fits.1 fits.2
entry_plain minutes (Aborted c) fits = rw (short c fits) refl
entry_plain minutes (Asked i (Abort tag)) fits = rw (small i 8 fits.1 (lit< tt), small tag.0 65535 fits.2 (lit< tt)) refl
entry_plain minutes (Asked i AbortSet) fits = rw (small i 8 fits.1 (lit< tt)) refl
entry_plain minutes (Asked i Clear) fits = rw (small i 8 fits.1 (lit< tt)) refl
entry_plain minutes (Asked i Reset) fits = rw (small i 8 fits.1 (lit< tt)) refl
entry_plain minutes (Mode s) fits =
    rw (plain_flag s.awre, plain_flag s.arre, plain_flag s.per, small s.retry 255 fits (lit< tt), plain_flag s.wce, plain_flag s.rcd, plain_flag s.bms) refl
entry_plain minutes (Scanned b what) fits = rw (long b.0 fits, plain_seen what) refl
entry_plain minutes (Logged finding) fits = rw (small finding.status 255 fits.0 (lit< tt), long finding.b.0 fits.1) refl
entry_plain minutes Cut fits = refl
entry_plain minutes (PoweredOn (Ready number)) fits = rw (long number fits) refl
entry_plain minutes (PoweredOn (Corrupt slot)) fits = rw (small slot 255 fits (lit< tt)) refl
entry_plain minutes (PoweredOn (Formatting number)) fits = rw (long number fits) refl
entry_plain minutes (Tick n) fits = rw (small n 65535 fits (lit< tt)) refl
entry_plain minutes (Blank c) fits = rw (short c fits) refl
entry_plain minutes (Fresh c) fits = rw (short c fits) refl

plain_left : (left : Left) → plain (left_word left) ≡ true
plain_left Old = refl
plain_left New = refl
plain_left Nothing = refl

plain_found : (found : Bool) → plain (found_word found) ≡ true
plain_found true = refl
plain_found false = refl

pub shown_plain : (s : Shown) → IsShown s → few_plain (shown_words s) ≡ true
shown_plain (Wrote p) fits = rw (short p.0 fits) refl
shown_plain (Torn p left) fits = rw (short p.0 fits, plain_left left) refl
shown_plain (WriteFailed p) fits = rw (short p.0 fits) refl
shown_plain (Damaged p) fits = rw (short p.0 fits) refl
shown_plain (Faulty p) fits = rw (short p.0 fits) refl
shown_plain (Fetched p attempt) fits = rw (short p.0 fits.0, small attempt.reread 255 fits.1 (lit< tt), plain_signed attempt.offset fits.2) refl
shown_plain (Tried p stage found) fits = rw (short p.0 fits.0, small stage 255 fits.1 (lit< tt), plain_found found) refl
shown_plain CutOff fits = refl
shown_plain Power fits = refl

change_is_offset : (z : ℤ) → IsEffect (Add z) → IsOffset z
change_is_offset (pos n) does = omega (arith, does.1)
change_is_offset (negsuc n) does = omega (arith, does.1)

damage_plain : (p f l : ℕ) (lasting : Lasting) (effect : Effect) → p < 4096 → f + l ≤ 9478 → IsLasting lasting → IsEffect effect
    → few_plain (label_words (World (Damage (record { p = record { 0 = p }; first = f; count = l; lasting = lasting; effect = effect })))) ≡ true
damage_plain p f l lasting effect sector within lasts does = by_parts lasting effect lasts does
  where
    a : plain (decimal p) ≡ true
    a = plain_decimal p (omega (arith, sector))

    b : plain (decimal f) ≡ true
    b = plain_decimal f (omega (arith, within))

    c : plain (decimal l) ≡ true
    c = plain_decimal l (omega (arith, within))

    by_parts : (lasting : Lasting) (effect : Effect) → IsLasting lasting → IsEffect effect
        → few_plain (label_words (World (Damage (record { p = record { 0 = p }; first = f; count = l; lasting = lasting; effect = effect })))) ≡ true
    by_parts Hard Drop lasts does = rw (a, b, c) refl
    by_parts (Soft n) Drop lasts does = rw (a, b, c, small n 255 lasts.1 (lit< tt)) refl
    by_parts Plus Drop lasts does = rw (a, b, c) refl
    by_parts Minus Drop lasts does = rw (a, b, c) refl
    by_parts Hard (Add d) lasts does = rw (a, b, c, plain_signed d (change_is_offset d does)) refl
    by_parts (Soft n) (Add d) lasts does = rw (a, b, c, small n 255 lasts.1 (lit< tt), plain_signed d (change_is_offset d does)) refl
    by_parts Plus (Add d) lasts does = rw (a, b, c, plain_signed d (change_is_offset d does)) refl
    by_parts Minus (Add d) lasts does = rw (a, b, c, plain_signed d (change_is_offset d does)) refl

pub label_plain : (label : Label) → IsLabel label → few_plain (label_words label) ≡ true
label_plain (Arrive i) fits = rw (small i 8 fits.1 (lit< tt)) refl
label_plain (Work c) fits = rw (short c fits) refl
label_plain (Job j) fits = rw (short j fits) refl
label_plain Scan fits = refl
label_plain Destage fits = refl
label_plain (World (Damage d)) fits = damage_plain d.p.0 d.first d.count d.lasting d.effect fits.sector fits.within fits.lasting fits.effect
label_plain (World (Fault p)) fits = rw (small p.0 4096 (omega (arith, fits.1)) (lit< tt)) refl
label_plain (World CutNow) fits = refl
label_plain (World (Arm k tear)) fits = rw (small k 4294967295 fits.1 (lit< tt), plain_left tear.left, small tear.scar 9478 fits.2 (lit< tt)) refl
label_plain (World PowerOn) fits = refl
label_plain (World (Minutes n)) fits = rw (small n 65535 fits (lit< tt)) refl
