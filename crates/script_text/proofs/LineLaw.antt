-- A line of the body, printed, reads as the same line.
use Rattle.std.proofs.Common.{◌≡◌, ℕ, suc, ◌+◌, ◌-◌, ◌*◌, ◌/◌, ◌%◌, ◌^◌, ◌<◌, ◌≤◌, ◌==◌, true, false, List, [], ◌∷◌, get_or, Some, Ok, ℤ, pos, negsuc, refl, ap, arith, lit<}
use Rattle.std.specs.Prelude.{decimal, nat_le, nat_abs}
use Rattle.std.specs.Fmt.{signed_decimal}
use Rattle.std.proofs.lemmas.Bool.{ne_eqb, le-leb}
use Rattle.std.proofs.lemmas.Fmt.{first_decimal}
use Rattle.hex.specs.Hex.{encode_with, IsBytes}
use Rattle.hex.proofs.HexLemmas.{IsDigits-upper_digits, decode_of-encode_upper}
use Rattle.std.specs.Result.{result_ok}
use Rattle.disk_base.specs.declared.address.Tag.{Tag}
use Rattle.disk_base.specs.declared.command.Attribute.{Attribute}
use Rattle.disk_base.specs.declared.command.Attribute.TheVariants.{Simple, Ordered, Head}
use Rattle.disk_base.specs.declared.command.DataOut.{DataOut}
use Rattle.disk_base.specs.declared.command.DataOut.TheVariants.{Nothing as NoData, Fill, Given}
use Rattle.disk_base.specs.declared.command.Function.{Function as Asked}
use Rattle.disk_base.specs.declared.command.Function.TheVariants.{Abort, AbortSet, Clear, Reset}
use Rattle.platter_model.specs.declared.damage.Lasting.{Lasting}
use Rattle.platter_model.specs.declared.damage.Lasting.TheVariants.{Hard, Soft, Plus, Minus}
use Rattle.platter_model.specs.declared.damage.Effect.{Effect}
use Rattle.platter_model.specs.declared.damage.Effect.TheVariants.{Drop, Add}
use Rattle.platter_model.specs.declared.damage.Left.{Left}
use Rattle.platter_model.specs.declared.damage.Left.TheVariants.{Old, New, Nothing}
use Rattle.platter_model.specs.declared.world.World.TheVariants.{Damage, Fault, Cut, Arm, Power, Minutes}
use Rattle.text_words.specs.declared.number.Numeral.TheVariants.{Within}
use Rattle.text_words.specs.Number.{number}
use Rattle.text_words.specs.Digits.{hex_of, bytes_of, byte_of}
use Rattle.text_words.proofs.Numerals.{number-decimal}
use Rattle.script_text.specs.declared.script.Line.TheVariants.{Command, Function, Scan, Destage, Go, World}
use Rattle.script_text.specs.Forms.{form_of}
use Rattle.script_text.specs.Numbers.{change_of}
use Rattle.script_text.specs.Grammar.{command_of, damage_at, plain_drop, soft_drop, plain_add, soft_add, armed}
use Rattle.script_text.specs.Spelling.{line_words}
use Rattle.script_text.specs.Proper.{IsSent, IsAsked, IsLasting, IsEffect, IsHarm, IsCommand}
use Rattle.script_text.specs.Laws.{body_line, LinesReadAgain}

-- a number in its range
again : (low high n : ℕ) → low ≤ n → n ≤ high → high < 2 ^ 64 → number low high (decimal n) ≡ Within n
again low high n least most small = number-decimal low high n least most (omega arith)

-- the digits of bytes
bytes_again : (bytes : List ℕ) → IsBytes bytes → bytes_of (hex_of bytes) ≡ Some bytes
unfolding bytes_of
bytes_again bytes fit = ap result_ok (decode_of-encode_upper bytes fit)

-- the two digits of a byte
byte_again : (byte : ℕ) → byte < 256 → byte_of (hex_of (byte ∷ [])) ≡ Some byte
unfolding byte_of encode_with
byte_again byte small =
    let whole : byte / 16 * 16 + byte % 16 ≡ byte = omega arith in
    rw (IsDigits-upper_digits (byte / 16) (omega arith), IsDigits-upper_digits (byte % 16) (omega arith)) (ap Some whole)

-- a number with its sign
change_again : (d : ℤ) → 1 ≤ nat_abs d → nat_abs d ≤ 127 → change_of (signed_decimal d) ≡ Ok d
change_again (pos n) least most =
    let first : 48 < get_or (decimal n) 0 0 = first_decimal n (omega arith) (omega arith) in
    let plain : (get_or (decimal n) 0 0 == 45) ≡ false = ne_eqb (get_or (decimal n) 0 0) 45 (λ e. omega (arith, first, e)) in
    rw (plain, again 1 127 n least most (lit< tt)) refl
change_again (negsuc n) least most = rw (again 1 127 (suc n) least most (lit< tt)) refl

command_again : (total i : ℕ) (t : Tag) (a : Attribute) (cdb : List ℕ) (sent : DataOut) → IsCommand i t.0 cdb sent
    → body_line total (line_words (Command i t a cdb sent)) ≡ Ok (Command i t a cdb sent)
unfolding command_of form_of
command_again total i t a cdb sent fits = by_parts a sent fits.data_are_bytes
  where
    sender : number 1 8 (decimal i) ≡ Within i
    sender = again 1 8 i fits.from_one fits.to_eight (lit< tt)

    tag : number 0 65535 (decimal t.0) ≡ Within t.0
    tag = again 0 65535 t.0 (omega arith) fits.tag_fits (lit< tt)

    block : bytes_of (hex_of cdb) ≡ Some cdb
    block = bytes_again cdb fits.bytes

    by_parts : (a : Attribute) (sent : DataOut) → IsSent sent → body_line total (line_words (Command i t a cdb sent)) ≡ Ok (Command i t a cdb sent)
    by_parts Simple NoData bytes = rw (sender, tag, block, fits.block) refl
    by_parts Ordered NoData bytes = rw (sender, tag, block, fits.block) refl
    by_parts Head NoData bytes = rw (sender, tag, block, fits.block) refl
    by_parts Simple (Fill byte) bytes = rw (sender, tag, block, byte_again byte bytes, fits.block) refl
    by_parts Ordered (Fill byte) bytes = rw (sender, tag, block, byte_again byte bytes, fits.block) refl
    by_parts Head (Fill byte) bytes = rw (sender, tag, block, byte_again byte bytes, fits.block) refl
    by_parts Simple (Given given) bytes = rw (sender, tag, block, bytes_again given bytes, fits.block) refl
    by_parts Ordered (Given given) bytes = rw (sender, tag, block, bytes_again given bytes, fits.block) refl
    by_parts Head (Given given) bytes = rw (sender, tag, block, bytes_again given bytes, fits.block) refl

function_again : (total i : ℕ) (what : Asked) → 1 ≤ i → i ≤ 8 → IsAsked what → body_line total (line_words (Function i what)) ≡ Ok (Function i what)
unfolding form_of
function_again total i (Abort t) least most fits = rw (again 1 8 i least most (lit< tt), again 0 65535 t.0 (omega arith) fits (lit< tt)) refl
function_again total i AbortSet least most fits = rw (again 1 8 i least most (lit< tt)) refl
function_again total i Clear least most fits = rw (again 1 8 i least most (lit< tt)) refl
function_again total i Reset least most fits = rw (again 1 8 i least most (lit< tt)) refl

damage_again : (total p f l : ℕ) (lasting : Lasting) (effect : Effect) → total ≤ 4096 → IsHarm total (record { p = record { 0 = p }; first = f; count = l; lasting = lasting; effect = effect })
    → body_line total (line_words (World (Damage (record { p = record { 0 = p }; first = f; count = l; lasting = lasting; effect = effect }))))
    ≡ Ok (World (Damage (record { p = record { 0 = p }; first = f; count = l; lasting = lasting; effect = effect })))
unfolding plain_drop soft_drop plain_add soft_add damage_at form_of
damage_again total p f l lasting effect small fits = by_parts lasting effect fits.lasting fits.effect
  where
    sector : number 0 (total - 1) (decimal p) ≡ Within p
    sector = again 0 (total - 1) p (omega arith) (omega (arith, fits.sector)) (omega arith)

    first : number 0 9478 (decimal f) ≡ Within f
    first = again 0 9478 f (omega arith) (omega (arith, fits.within)) (lit< tt)

    count : number 1 9478 (decimal l) ≡ Within l
    count = again 1 9478 l fits.some (omega (arith, fits.within)) (lit< tt)

    within : nat_le (f + l) 9478 ≡ true
    within = le-leb (f + l) 9478 fits.within

    by_parts : (lasting : Lasting) (effect : Effect) → IsLasting lasting → IsEffect effect
        → body_line total (line_words (World (Damage (record { p = record { 0 = p }; first = f; count = l; lasting = lasting; effect = effect }))))
        ≡ Ok (World (Damage (record { p = record { 0 = p }; first = f; count = l; lasting = lasting; effect = effect })))
    by_parts Hard Drop lasts does = rw (sector, first, count, within) refl
    by_parts (Soft n) Drop lasts does = rw (again 1 255 n lasts.0 lasts.1 (lit< tt), sector, first, count, within) refl
    by_parts Plus Drop lasts does = rw (sector, first, count, within) refl
    by_parts Minus Drop lasts does = rw (sector, first, count, within) refl
    by_parts Hard (Add d) lasts does = rw (change_again d does.0 does.1, sector, first, count, within) refl
    by_parts (Soft n) (Add d) lasts does = rw (again 1 255 n lasts.0 lasts.1 (lit< tt), change_again d does.0 does.1, sector, first, count, within) refl
    by_parts Plus (Add d) lasts does = rw (change_again d does.0 does.1, sector, first, count, within) refl
    by_parts Minus (Add d) lasts does = rw (change_again d does.0 does.1, sector, first, count, within) refl

armed_again : (total k scar : ℕ) (left : Left) → 1 ≤ k → k ≤ 4294967295 → scar ≤ 9478
    → body_line total (line_words (World (Arm k (record { left = left; scar = scar })))) ≡ Ok (World (Arm k (record { left = left; scar = scar })))
unfolding armed form_of
armed_again total k scar Old least most fits = rw (again 1 4294967295 k least most (lit< tt), again 0 9478 scar (omega arith) fits (lit< tt)) refl
armed_again total k scar New least most fits = rw (again 1 4294967295 k least most (lit< tt), again 0 9478 scar (omega arith) fits (lit< tt)) refl
armed_again total k scar Nothing least most fits = rw (again 1 4294967295 k least most (lit< tt), again 0 9478 scar (omega arith) fits (lit< tt)) refl

pub line_again : LinesReadAgain
unfolding form_of
line_again total (Command i t a cdb sent) small fits = command_again total i t a cdb sent fits
line_again total (Function i what) small fits = function_again total i what fits.0 fits.1 fits.2
line_again total (Scan n) small fits = rw (again 1 60000 n fits.0 fits.1 (lit< tt)) refl
line_again total (Destage n) small fits = rw (again 1 60000 n fits.0 fits.1 (lit< tt)) refl
line_again total Go small fits = refl
line_again total (World (Damage d)) small fits = damage_again total d.p.0 d.first d.count d.lasting d.effect small fits
line_again total (World (Fault p)) small fits = rw (again 16 (total - 1) p.0 fits.0 (omega (arith, fits.1)) (omega arith)) refl
line_again total (World Cut) small fits = refl
line_again total (World (Arm k tear)) small fits = armed_again total k tear.scar tear.left fits.0 fits.1 fits.2
line_again total (World Power) small fits = refl
line_again total (World (Minutes n)) small fits = rw (again 0 65535 n (omega arith) fits (lit< tt)) refl
