-- A label, printed, is read as the same label.
use Rattle.std.proofs.Common.{◌≡◌, ℕ, ◌+◌, ◌≤◌, true, List, drop, Some, pos, negsuc, refl, arith, lit<}
use Rattle.std.specs.Prelude.{decimal, codes, nat_le}
use Rattle.std.specs.Fmt.{signed_decimal}
use Rattle.std.proofs.lemmas.Bool.{le-leb}
use Rattle.platter_model.specs.declared.damage.Lasting.{Lasting}
use Rattle.platter_model.specs.declared.damage.Lasting.TheVariants.{Hard, Soft, Plus, Minus}
use Rattle.platter_model.specs.declared.damage.Effect.{Effect}
use Rattle.platter_model.specs.declared.damage.Effect.TheVariants.{Drop, Add}
use Rattle.platter_model.specs.declared.damage.Left.{Left}
use Rattle.platter_model.specs.declared.damage.Left.TheVariants.{Old, New, Nothing}
use Rattle.platter_model.specs.declared.world.World.TheVariants.{Damage, Fault, Cut, Arm, Power, Minutes}
use Rattle.block_machine.specs.declared.turn.Label.{Label}
use Rattle.block_machine.specs.declared.turn.Label.TheVariants.{Arrive, Work, Job, Scan, Destage, World}
use Rattle.script_text.specs.Proper.{IsLasting, IsEffect, IsHarm}
use Rattle.report_text.specs.Turns.{label_words}
use Rattle.report_text.specs.Fields.{number_of}
use Rattle.report_text.specs.LabelReading.{label_form, effect_of, damage_of, label_from}
use Rattle.report_text.specs.Proper.{IsLabel}
use Rattle.report_text.proofs.FieldLaws.{number_again, short_again, no_letter, change_again}

-- the last word of what a damage does
abbrev effect_last : Effect → List ℕ
effect_last Drop = codes "drop"
effect_last (Add d) = signed_decimal d

effect_again : (effect : Effect) → IsEffect effect → effect_of (effect_last effect) ≡ Some effect
effect_again Drop does = refl
effect_again (Add (pos n)) does = rw (no_letter n 100 (drop 1 (codes "drop")) (omega (arith, does.1)) (lit< tt), change_again (pos n) does.0 does.1) refl
effect_again (Add (negsuc n)) does = rw (change_again (negsuc n) does.0 does.1) refl

damage_again : (p f l : ℕ) (lasting : Lasting) (effect : Effect) → IsHarm 4096 (record { p = record { 0 = p }; first = f; count = l; lasting = lasting; effect = effect })
    → label_from (label_words (World (Damage (record { p = record { 0 = p }; first = f; count = l; lasting = lasting; effect = effect }))))
    ≡ Some (World (Damage (record { p = record { 0 = p }; first = f; count = l; lasting = lasting; effect = effect })))
unfolding label_form damage_of
damage_again p f l lasting effect fits = by_parts lasting effect fits.lasting fits.effect
  where
    sector : number_of 0 4095 (decimal p) ≡ Some p
    sector = number_again 0 4095 p (omega arith) (omega (arith, fits.sector)) (lit< tt)

    first : number_of 0 9478 (decimal f) ≡ Some f
    first = number_again 0 9478 f (omega arith) (omega (arith, fits.within)) (lit< tt)

    count : number_of 1 9478 (decimal l) ≡ Some l
    count = number_again 1 9478 l fits.some (omega (arith, fits.within)) (lit< tt)

    within : nat_le (f + l) 9478 ≡ true
    within = le-leb (f + l) 9478 fits.within

    by_parts : (lasting : Lasting) (effect : Effect) → IsLasting lasting → IsEffect effect
        → label_from (label_words (World (Damage (record { p = record { 0 = p }; first = f; count = l; lasting = lasting; effect = effect }))))
        ≡ Some (World (Damage (record { p = record { 0 = p }; first = f; count = l; lasting = lasting; effect = effect })))
    by_parts Hard Drop lasts does = rw (sector, first, count, within) refl
    by_parts (Soft n) Drop lasts does = rw (sector, first, count, within, number_again 1 255 n lasts.0 lasts.1 (lit< tt)) refl
    by_parts Plus Drop lasts does = rw (sector, first, count, within) refl
    by_parts Minus Drop lasts does = rw (sector, first, count, within) refl
    by_parts Hard (Add d) lasts does = rw (sector, first, count, within, effect_again (Add d) does) refl
    by_parts (Soft n) (Add d) lasts does = rw (sector, first, count, within, number_again 1 255 n lasts.0 lasts.1 (lit< tt), effect_again (Add d) does) refl
    by_parts Plus (Add d) lasts does = rw (sector, first, count, within, effect_again (Add d) does) refl
    by_parts Minus (Add d) lasts does = rw (sector, first, count, within, effect_again (Add d) does) refl

armed_again : (k scar : ℕ) (left : Left) → 1 ≤ k → k ≤ 4294967295 → scar ≤ 9478
    → label_from (label_words (World (Arm k (record { left = left; scar = scar })))) ≡ Some (World (Arm k (record { left = left; scar = scar })))
unfolding label_form
armed_again k scar Old least most fits = rw (number_again 1 4294967295 k least most (lit< tt), number_again 0 9478 scar (omega arith) fits (lit< tt)) refl
armed_again k scar New least most fits = rw (number_again 1 4294967295 k least most (lit< tt), number_again 0 9478 scar (omega arith) fits (lit< tt)) refl
armed_again k scar Nothing least most fits = rw (number_again 1 4294967295 k least most (lit< tt), number_again 0 9478 scar (omega arith) fits (lit< tt)) refl

pub label_again : (label : Label) → IsLabel label → label_from (label_words label) ≡ Some label
unfolding label_form
label_again (Arrive i) fits = rw (number_again 1 8 i fits.0 fits.1 (lit< tt)) refl
label_again (Work c) fits = rw (short_again c fits) refl
label_again (Job j) fits = rw (short_again j fits) refl
label_again Scan fits = refl
label_again Destage fits = refl
label_again (World (Damage d)) fits = damage_again d.p.0 d.first d.count d.lasting d.effect fits
label_again (World (Fault p)) fits = rw (number_again 16 4095 p.0 fits.0 (omega (arith, fits.1)) (lit< tt)) refl
label_again (World Cut) fits = refl
label_again (World (Arm k tear)) fits = armed_again k tear.scar tear.left fits.0 fits.1 fits.2
label_again (World Power) fits = refl
label_again (World (Minutes n)) fits = rw (number_again 0 65535 n (omega arith) fits (lit< tt)) refl
