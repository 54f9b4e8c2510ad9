-- The words of entries and labels have no character that XML reads otherwise.
use Rattle.std.proofs.Common.{◌≡◌, ℕ, suc, zero, ◌+◌, ◌/◌, ◌%◌, ◌^◌, ◌<◌, ◌≤◌, ◌&&◌, Bool, true, false, List, [], ◌∷◌, ℤ, pos, negsuc, refl, arith, lit<}
use Rattle.std.specs.Prelude.{decimal, slice_index}
use Rattle.std.specs.Fmt.{signed_decimal}
use Rattle.std.specs.List.{list_all}
use Rattle.std.specs.Str.Parse.{AllDigits}
use Rattle.std.proofs.lemmas.Bool.{ne_eqb}
use Rattle.std.proofs.lemmas.Fmt.{decimal_is_IsNumeral}
use Rattle.std.proofs.lemmas.Str.Parse.{digit_from_value}
use Rattle.std.proofs.lemmas.List.Sums.{AllPass-from_list_all}
use Rattle.hex.specs.Hex.{encode_with, upper_digits, IsBytes}
use Rattle.disk_base.specs.declared.block.Value.TheVariants.{Data, Lost}
use Rattle.platter_model.specs.declared.damage.Lasting.{Lasting}
use Rattle.platter_model.specs.declared.damage.Lasting.TheVariants.{Hard, Soft, Plus, Minus}
use Rattle.platter_model.specs.declared.damage.Effect.{Effect}
use Rattle.platter_model.specs.declared.damage.Effect.TheVariants.{Drop, Add}
use Rattle.platter_model.specs.declared.damage.Left.{Left}
use Rattle.platter_model.specs.declared.damage.Left.TheVariants.{Old, New, Nothing}
use Rattle.platter_model.specs.declared.world.World.TheVariants.{Damage, Fault, Cut as CutNow, Arm, Power, Minutes}
use Rattle.block_machine.specs.declared.entry.Who.{Who}
use Rattle.block_machine.specs.declared.entry.Who.TheVariants.{Command, Drive}
use Rattle.block_machine.specs.declared.entry.Entry.TheVariants.{Arrived, Started, Get, Put, Harden, Passed, GiveUp, Page, Ended, Aborted, Asked, Mode, Scanned, Logged, Cut, PoweredOn, Tick, Blank, Fresh}
use Rattle.block_machine.specs.declared.turn.Label.TheVariants.{Arrive, Work, Job, Scan, Destage, World}
use Rattle.text_words.specs.Digits.{hex_of, byte_word}
use Rattle.script_text.specs.Proper.{IsLasting, IsEffect}
use Rattle.script_text.specs.Spelling.{left_word, world_words}
use Rattle.report_text.specs.Proper.{IsShort, IsLong, IsOffset, IsWho}
use Rattle.report_text.specs.Entries.{who_word}
use Rattle.run_picture.specs.Harmless.{is_harmless, are_harmless, EntriesAreHarmless, LabelsAreHarmless}

abbrev harmless : List ℕ → Bool
harmless word = list_all is_harmless word

both : (a b : Bool) → a ≡ true → b ≡ true → (a && b) ≡ true
both true b p q = q
both false b p q = absurd (cc)

harmless_digit : (c : ℕ) → 48 ≤ c → c ≤ 57 → is_harmless c ≡ true
harmless_digit c low high =
    rw (ne_eqb c 60 (λ e. omega (arith, high, e)), ne_eqb c 62 (λ e. omega (arith, high, e)), ne_eqb c 38 (λ e. omega (arith, low, e)), ne_eqb c 34 (λ e. omega (arith, low, e)), ne_eqb c 39 (λ e. omega (arith, low, e))) refl

harmless_digits : (ds : List ℕ) → AllDigits 10 ds → harmless ds ≡ true
harmless_digits [] digits = refl
harmless_digits (c ∷ cs) digits =
    let from = digit_from_value c digits.0 in
    both (is_harmless c) (harmless cs) (harmless_digit c (omega (arith, from)) (omega (arith, from))) (harmless_digits cs digits.1)

of_number : (n : ℕ) → n < 2 ^ 64 → harmless (decimal n) ≡ true
of_number n small = harmless_digits (decimal n) (decimal_is_IsNumeral n small).0.1

short : (n : ℕ) → IsShort n → harmless (decimal n) ≡ true
short n fits = of_number n (omega (arith, fits))

long : (n : ℕ) → IsLong n → harmless (decimal n) ≡ true
long n fits = of_number n (omega (arith, fits))

small : (n most : ℕ) → n ≤ most → most < 2 ^ 64 → harmless (decimal n) ≡ true
small n most fits less = of_number n (omega (arith, fits, less))

of_bytes : (bytes : List ℕ) → IsBytes bytes → harmless (hex_of bytes) ≡ true
unfolding encode_with
of_bytes [] fit = refl
of_bytes (b ∷ rest) fit =
    let byte : b < 256 = fit 0 in
    both (is_harmless (slice_index upper_digits (b / 16))) _ (AllPass-from_list_all is_harmless upper_digits refl (b / 16) 0 (omega (arith, byte)))
    (both (is_harmless (slice_index upper_digits (b % 16))) _ (AllPass-from_list_all is_harmless upper_digits refl (b % 16) 0 (omega (arith, byte)))
    (of_bytes rest (λ i. fit (suc i))))

one_byte : (b : ℕ) → b < 256 → IsBytes (b ∷ [])
one_byte b fits zero = fits
one_byte b fits (suc i) = lit< tt

of_byte : (b : ℕ) → b < 256 → harmless (byte_word b) ≡ true
of_byte b fits = of_bytes (b ∷ []) (one_byte b fits)

of_signed : (z : ℤ) → IsOffset z → harmless (signed_decimal z) ≡ true
of_signed (pos n) fits = of_number n (omega (arith, fits))
of_signed (negsuc n) fits = harmless_digits (decimal (suc n)) (decimal_is_IsNumeral (suc n) (omega (arith, fits))).0.1

of_who : (who : Who) → IsWho who → harmless (who_word who) ≡ true
of_who (Command c) fits = short c fits
of_who Drive fits = refl

of_left : (left : Left) → harmless (left_word left) ≡ true
of_left Old = refl
of_left New = refl
of_left Nothing = refl

pub entries_harmless : EntriesAreHarmless
entries_harmless minutes (Arrived c i t a cdb sent) fits = rw (short c fits.0, small i 8 fits.1.to_eight (lit< tt)) refl
entries_harmless minutes (Started c) fits = rw (short c fits) refl
entries_harmless minutes (Get c b (Data block)) fits = rw (short c fits.0, long b.0 fits.1) refl
entries_harmless minutes (Get c b Lost) fits = rw (short c fits.0, long b.0 fits.1) refl
entries_harmless minutes (Put c b block) fits = rw (short c fits.0, long b.0 fits.1) refl
entries_harmless minutes (Harden who b) fits = rw (of_who who fits.0, long b.0 fits.1) refl
entries_harmless minutes (Passed c from to) fits = rw (short c fits.0, long from.0 fits.1, long to.0 fits.2) refl
entries_harmless minutes (GiveUp b) fits = rw (long b.0 fits) refl
entries_harmless minutes (Page c bytes) fits = rw (short c fits.0) refl
entries_harmless minutes (Ended c reply) fits = rw (short c fits.0, of_byte reply.status fits.1) refl
entries_harmless minutes (Aborted c) fits = rw (short c fits) refl
entries_harmless minutes (Asked i what) fits = rw (small i 8 fits.1 (lit< tt)) refl
entries_harmless minutes (Mode s) fits = refl
entries_harmless minutes (Scanned b what) fits = rw (long b.0 fits) refl
entries_harmless minutes (Logged finding) fits = rw (small finding.status 255 fits.0 (lit< tt), long finding.b.0 fits.1) refl
entries_harmless minutes Cut fits = refl
entries_harmless minutes (PoweredOn outcome) fits = refl
entries_harmless minutes (Tick n) fits = refl
entries_harmless minutes (Blank c) fits = rw (short c fits) refl
entries_harmless minutes (Fresh c) fits = rw (short c fits) refl

change_is_offset : (z : ℤ) → IsEffect (Add z) → IsOffset z
change_is_offset (pos n) does = omega (arith, does.1)
change_is_offset (negsuc n) does = omega (arith, does.1)

of_damage : (p f l : ℕ) (lasting : Lasting) (effect : Effect) → p < 4096 → f + l ≤ 9478 → IsLasting lasting → IsEffect effect
    → are_harmless (world_words (Damage (record { p = record { 0 = p }; first = f; count = l; lasting = lasting; effect = effect }))) ≡ true
of_damage p f l lasting effect sector within lasts does = by_parts lasting effect lasts does
  where
    a : harmless (decimal p) ≡ true
    a = of_number p (omega (arith, sector))

    b : harmless (decimal f) ≡ true
    b = of_number f (omega (arith, within))

    c : harmless (decimal l) ≡ true
    c = of_number l (omega (arith, within))

    by_parts : (lasting : Lasting) (effect : Effect) → IsLasting lasting → IsEffect effect
        → are_harmless (world_words (Damage (record { p = record { 0 = p }; first = f; count = l; lasting = lasting; effect = effect }))) ≡ true
    by_parts Hard Drop lasts does = rw (a, b, c) refl
    by_parts (Soft n) Drop lasts does = rw (a, b, c, small n 255 lasts.1 (lit< tt)) refl
    by_parts Plus Drop lasts does = rw (a, b, c) refl
    by_parts Minus Drop lasts does = rw (a, b, c) refl
    by_parts Hard (Add d) lasts does = rw (a, b, c, of_signed d (change_is_offset d does)) refl
    by_parts (Soft n) (Add d) lasts does = rw (a, b, c, small n 255 lasts.1 (lit< tt), of_signed d (change_is_offset d does)) refl
    by_parts Plus (Add d) lasts does = rw (a, b, c, of_signed d (change_is_offset d does)) refl
    by_parts Minus (Add d) lasts does = rw (a, b, c, of_signed d (change_is_offset d does)) refl

pub labels_harmless : LabelsAreHarmless
labels_harmless (Arrive i) fits = rw (small i 8 fits.1 (lit< tt)) refl
labels_harmless (Work c) fits = rw (short c fits) refl
labels_harmless (Job j) fits = rw (short j fits) refl
labels_harmless Scan fits = refl
labels_harmless Destage fits = refl
labels_harmless (World (Damage d)) fits = of_damage d.p.0 d.first d.count d.lasting d.effect fits.sector fits.within fits.lasting fits.effect
labels_harmless (World (Fault p)) fits = rw (small p.0 4096 (omega (arith, fits.1)) (lit< tt)) refl
labels_harmless (World CutNow) fits = refl
labels_harmless (World (Arm k tear)) fits = rw (small k 4294967295 fits.1 (lit< tt), of_left tear.left, small tear.scar 9478 fits.2 (lit< tt)) refl
labels_harmless (World Power) fits = refl
labels_harmless (World (Minutes n)) fits = rw (small n 65535 fits (lit< tt)) refl
