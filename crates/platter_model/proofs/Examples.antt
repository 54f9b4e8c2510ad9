-- Small lists of operations, by computation: what the definitions say of them, and what they refuse.
use Rattle.std.proofs.Common.{◌≡◌, ℕ, List, [], ◌∷◌, Bool, true, false, Option, Some, None, refl, ap, pos, negsuc, ℤ}
use Rattle.disk_base.specs.declared.address.Psn.{Psn}
use Rattle.disk_base.specs.declared.payload.Payload.{Payload}
use Rattle.disk_base.specs.declared.stage.Stage.{Stage}
use Rattle.disk_base.specs.declared.stage.How.TheVariants.{Light}
use Rattle.platter_model.specs.declared.damage.Attempt.{Attempt}
use Rattle.platter_model.specs.declared.damage.Damage.{Damage}
use Rattle.platter_model.specs.declared.damage.Lasting.{Lasting}
use Rattle.platter_model.specs.declared.damage.Lasting.TheVariants.{Hard, Soft, Plus, Minus}
use Rattle.platter_model.specs.declared.damage.Effect.{Effect}
use Rattle.platter_model.specs.declared.damage.Effect.TheVariants.{Drop, Add}
use Rattle.platter_model.specs.declared.damage.Left.{Left}
use Rattle.platter_model.specs.declared.damage.Left.TheVariants.{Old, New, Nothing}
use Rattle.platter_model.specs.declared.damage.Tear.{Tear}
use Rattle.platter_model.specs.declared.op.Op.{Op}
use Rattle.platter_model.specs.declared.op.Op.TheVariants.{Wrote, Torn, WriteFailed, Damaged, Faulty, Fetched, Tried, Cut, Power}
use Rattle.platter_model.specs.Sector.{harm, scar, is_sector, meant, flaws}
use Rattle.platter_model.specs.Given.{applies, affected, under}
use Rattle.platter_model.specs.TrueLog.{supply, failing, is_off, MayFollow, strays}

-- a payload of sector 20, and sector 21
abbrev p20 : Psn
p20 = record { 0 = 20 }

abbrev p21 : Psn
p21 = record { 0 = 21 }

abbrev block_of : ℕ → Payload
block_of byte = record { kind = 1; index = 0; state = 0; version = 0; psn = p20; address = 4; block = byte ∷ byte ∷ [] }

abbrev tear : Left → Tear
tear left = record { left = left; scar = 3 }

abbrev damage : Lasting → Effect → Damage
damage lasting effect = record { p = p20; first = 1; count = 2; lasting = lasting; effect = effect }

abbrev plain : Attempt
plain = record { reread = 0; offset = pos 0 }

abbrev light : Stage
light = record { number = 0; reread = 0; offset = pos 0; how = Light }

-- what is meant: the last payload, of the sector alone; a torn write leaves the old one, its own, or none
nothing_is_meant_at_first : meant p20 [] ≡ None
nothing_is_meant_at_first = refl

the_last_write_is_meant : meant p20 (Wrote (block_of 1) ∷ Wrote (block_of 2) ∷ WriteFailed p20 ∷ []) ≡ Some (block_of 2)
the_last_write_is_meant = refl

another_sector_has_its_own : meant p21 (Wrote (block_of 1) ∷ []) ≡ None
another_sector_has_its_own = refl

a_tear_leaves_the_old : meant p20 (Wrote (block_of 1) ∷ Torn (block_of 2) (tear Old) ∷ Cut ∷ []) ≡ Some (block_of 1)
a_tear_leaves_the_old = refl

a_tear_leaves_the_new : meant p20 (Wrote (block_of 1) ∷ Torn (block_of 2) (tear New) ∷ Cut ∷ []) ≡ Some (block_of 2)
a_tear_leaves_the_new = refl

a_tear_leaves_none : meant p20 (Wrote (block_of 1) ∷ Torn (block_of 2) (tear Nothing) ∷ Cut ∷ []) ≡ None
a_tear_leaves_none = refl

-- flaws: in their order; a write takes away all but the hard ones, a torn one brings its scar
abbrev some_damage : List Op
some_damage = Damaged (damage (Soft 2) Drop) ∷ Damaged (damage Hard (Add (pos 5))) ∷ Damaged (damage Plus Drop) ∷ []

flaws_come_in_order : flaws p20 some_damage ≡ harm (damage (Soft 2) Drop) ∷ harm (damage Hard (Add (pos 5))) ∷ harm (damage Plus Drop) ∷ []
flaws_come_in_order = refl

flaws_are_of_their_sector : flaws p21 some_damage ≡ []
flaws_are_of_their_sector = refl

a_write_leaves_the_hard : flaws p20 (Damaged (damage Minus Drop) ∷ Damaged (damage Hard Drop) ∷ Wrote (block_of 1) ∷ []) ≡ harm (damage Hard Drop) ∷ []
a_write_leaves_the_hard = refl

a_tear_scars : flaws p20 (Damaged (damage Hard Drop) ∷ Damaged (damage Plus Drop) ∷ Torn (block_of 1) (tear Old) ∷ Cut ∷ [])
    ≡ harm (damage Hard Drop) ∷ scar 3 ∷ []
a_tear_scars = refl

a_scar_goes_with_the_next_write : flaws p20 (Torn (block_of 1) (tear Old) ∷ Cut ∷ Power ∷ Wrote (block_of 1) ∷ []) ≡ []
a_scar_goes_with_the_next_write = refl

a_failed_write_changes_nothing : flaws p20 (Damaged (damage Plus Drop) ∷ WriteFailed p20 ∷ []) ≡ harm (damage Plus Drop) ∷ []
a_failed_write_changes_nothing = refl

-- at which attempts a damage applies
soft_below_its_count : applies (Soft 2) (record { reread = 1; offset = pos 0 }) ≡ true
soft_below_its_count = refl

soft_no_more : applies (Soft 2) (record { reread = 2; offset = pos 0 }) ≡ false
soft_no_more = refl

plus_but_at_plus_one : applies Plus (record { reread = 0; offset = pos 1 }) ≡ false
plus_but_at_plus_one = refl

plus_at_minus_one : applies Plus (record { reread = 0; offset = negsuc 0 }) ≡ true
plus_at_minus_one = refl

minus_but_at_minus_one : applies Minus (record { reread = 0; offset = negsuc 0 }) ≡ false
minus_but_at_minus_one = refl

-- what flaws do to samples, one after another; a sum stops at the ends
abbrev five : List ℤ
five = pos 16 ∷ negsuc 15 ∷ pos 100 ∷ pos 32 ∷ pos 0 ∷ []

dropped_then_added : under plain (harm (damage Hard Drop) ∷ harm (damage Hard (Add (pos 5))) ∷ []) five ≡ pos 16 ∷ pos 5 ∷ pos 5 ∷ pos 32 ∷ pos 0 ∷ []
dropped_then_added = refl

added_then_dropped : under plain (harm (damage Hard (Add (pos 5))) ∷ harm (damage Hard Drop) ∷ []) five ≡ pos 16 ∷ pos 0 ∷ pos 0 ∷ pos 32 ∷ pos 0 ∷ []
added_then_dropped = refl

a_sum_stops_at_the_end : affected (Add (pos 40)) (pos 100) ≡ pos 127
a_sum_stops_at_the_end = refl

a_scar_drops_the_first : under plain (scar 3 ∷ []) five ≡ pos 0 ∷ pos 0 ∷ pos 0 ∷ pos 32 ∷ pos 0 ∷ []
a_scar_drops_the_first = refl

-- the power
torn_fails : supply (Torn (block_of 1) (tear Old) ∷ []) ≡ failing
torn_fails = refl

cut_is_off : is_off (Torn (block_of 1) (tear Old) ∷ Cut ∷ []) ≡ true
cut_is_off = refl

power_is_on : is_off (Cut ∷ Power ∷ []) ≡ false
power_is_on = refl

-- what may not follow
abbrev fetches_20 : Option Op → Bool
fetches_20 (Some (Fetched p attempt)) = is_sector p20 p
fetches_20 _ = false

absurd_test : false ≡ true → ⊥
absurd_test differs = cc

abbrev Never : List Op → Op → Type 0
Never before op = MayFollow before op → ⊥

no_write_while_off : Never (Cut ∷ []) (Wrote (block_of 1))
no_write_while_off (on, sound) = cc

no_write_after_a_fault : Never (Faulty p20 ∷ []) (Wrote (block_of 1))
no_write_after_a_fault (on, sound) = cc

no_failure_without_a_fault : Never (Faulty p21 ∷ []) (WriteFailed p20)
no_failure_without_a_fault (on, faulty) = cc

no_damage_between_tear_and_cut : Never (Torn (block_of 1) (tear Old) ∷ []) (Damaged (damage Hard Drop))
no_damage_between_tear_and_cut may = may refl

no_cut_while_off : Never (Cut ∷ []) Cut
no_cut_while_off may = may refl

no_power_while_on : Never [] Power
no_power_while_on may = cc

no_try_of_another_sector : Never (Fetched p21 plain ∷ []) (Tried 0 p20 light None)
no_try_of_another_sector (on, try) = let differs : false ≡ true = ap fetches_20 try.fetched in absurd_test differs

-- strays: a try that found another payload than the one that was meant at its fetch
a_stray_by_payload : strays (Wrote (block_of 1) ∷ Fetched p20 plain ∷ Tried 1 p20 light (Some (block_of 2)) ∷ []) ≡ 1
a_stray_by_payload = refl

a_stray_on_an_empty_sector : strays (Fetched p20 plain ∷ Tried 0 p20 light (Some (block_of 2)) ∷ []) ≡ 1
a_stray_on_an_empty_sector = refl

no_stray_as_meant : strays (Wrote (block_of 1) ∷ Fetched p20 plain ∷ Tried 1 p20 light (Some (block_of 1)) ∷ []) ≡ 0
no_stray_as_meant = refl

no_stray_without_a_find : strays (Wrote (block_of 1) ∷ Fetched p20 plain ∷ Tried 1 p20 light None ∷ []) ≡ 0
no_stray_without_a_find = refl

what_was_meant_at_the_fetch_counts : strays (Wrote (block_of 1) ∷ Fetched p20 plain ∷ Wrote (block_of 2) ∷ Tried 1 p20 light (Some (block_of 1)) ∷ []) ≡ 0
what_was_meant_at_the_fetch_counts = refl
