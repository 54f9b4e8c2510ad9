-- What the words of a label are read as; of a world line those that some drive allows.
use Rattle.std.specs.Prelude.{ℕ, ◌+◌, nat_le, if◌then◌else◌, List, [], ◌∷◌, codes, Option, Some, None}
use Rattle.std.specs.Map.{lookup}
use Rattle.std.specs.Str.{bytes_eq}
use Rattle.platter_model.specs.declared.damage.Lasting.{Lasting}
use Rattle.platter_model.specs.declared.damage.Lasting.TheVariants.{Hard, Soft, Plus, Minus}
use Rattle.platter_model.specs.declared.damage.Effect.{Effect}
use Rattle.platter_model.specs.declared.damage.Effect.TheVariants.{Drop, Add}
use Rattle.platter_model.specs.declared.world.World.TheVariants.{Damage, Fault, Cut, Arm, Power, Minutes}
use Rattle.block_machine.specs.declared.turn.Label.{Label}
use Rattle.block_machine.specs.declared.turn.Label.TheVariants.{Arrive, Work, Job, Scan, Destage, World as Happens}
use Rattle.report_text.specs.declared.form.LabelForm.{LabelForm}
use Rattle.report_text.specs.declared.form.LabelForm.TheVariants.{Arrive as ArriveForm, Work as WorkForm, Job as JobForm, Scan as ScanForm, Destage as DestageForm, Damage as DamageForm, Fault as FaultForm, Cut as CutForm, Power as PowerForm, Minutes as MinutesForm}
use Rattle.report_text.specs.Steps.{◌>>=◌, demand, of_none, of_one}
use Rattle.report_text.specs.Fields.{number_of, lone_number, sector_of, signed_of, left_of}

-- the words that labels begin with, and their forms
abbrev pub label_forms : List (List ℕ × LabelForm)
label_forms =
    (codes "work", WorkForm) ∷ (codes "arrive", ArriveForm) ∷ (codes "job", JobForm)
    ∷ (codes "scan", ScanForm) ∷ (codes "destage", DestageForm) ∷ (codes "damage", DamageForm)
    ∷ (codes "fault", FaultForm) ∷ (codes "cut", CutForm) ∷ (codes "power", PowerForm)
    ∷ (codes "minutes", MinutesForm) ∷ []

-- the form of a label, by its first word
unfoldable pub label_form : List ℕ → Option LabelForm
label_form first = lookup (bytes_eq first) label_forms

-- how long a damage lasts, by a word and the one behind it
abbrev pub lasting_of : List ℕ → List ℕ → Option Lasting
lasting_of kind behind =
    if bytes_eq kind (codes "hard") then Some Hard else
    if bytes_eq kind (codes "plus") then Some Plus else
    if bytes_eq kind (codes "minus") then Some Minus else (do
      below ← number_of 1 255 behind
      Some (Soft below))

-- what a damage does, by the last word
abbrev pub effect_of : List ℕ → Option Effect
effect_of last = if bytes_eq last (codes "drop") then Some Drop else (do
  change ← signed_of 127 1 127 last
  Some (Add change))

-- `P F L`, two words and the last behind `damage`
unfoldable pub damage_of : List ℕ → List ℕ → List ℕ → List ℕ → List ℕ → List ℕ → Option Label
damage_of p f l kind behind last = do
  place ← sector_of 0 4095 p
  first ← number_of 0 9478 f
  count ← number_of 1 9478 l
  _ ← demand (nat_le (first + count) 9478)
  lasting ← lasting_of kind behind
  effect ← effect_of last
  Some (Happens (Damage (record { p = place; first = first; count = count; lasting = lasting; effect = effect })))

abbrev pub damage_words : List (List ℕ) → Option Label
damage_words (p ∷ f ∷ l ∷ a ∷ b ∷ []) = damage_of p f l a b b
damage_words (p ∷ f ∷ l ∷ a ∷ b ∷ last ∷ []) = damage_of p f l a b last
damage_words (p ∷ f ∷ l ∷ a ∷ b ∷ c ∷ last ∷ []) = damage_of p f l a b last
damage_words other = None

-- `P` behind `fault`
abbrev pub fault_words : List (List ℕ) → Option Label
fault_words = of_one (λ p. do
  place ← sector_of 16 4095 p
  Some (Happens (Fault place)))

-- `now`, or a word and `K LEFT SCAR`, behind `cut`
abbrev pub cut_words : List (List ℕ) → Option Label
cut_words (now ∷ []) = Some (Happens Cut)
cut_words (write ∷ k ∷ left ∷ scar ∷ []) = do
  count ← number_of 1 4294967295 k
  dropped ← number_of 0 9478 scar
  Some (Happens (Arm count (record { left = left_of left; scar = dropped })))
cut_words other = None

-- `N` behind `minutes`
abbrev pub minutes_words : List (List ℕ) → Option Label
minutes_words = of_one (λ n. do
  minutes ← number_of 0 65535 n
  Some (Happens (Minutes minutes)))

-- `I` behind `arrive`
abbrev pub arrive_words : List (List ℕ) → Option Label
arrive_words = of_one (λ i. do
  initiator ← number_of 1 8 i
  Some (Arrive initiator))

-- the label of a form that the words behind the first give
abbrev pub label_by : LabelForm → List (List ℕ) → Option Label
label_by ArriveForm words = arrive_words words
label_by WorkForm words = do
  c ← lone_number words
  Some (Work c)
label_by JobForm words = do
  j ← lone_number words
  Some (Job j)
label_by ScanForm words = of_none Scan words
label_by DestageForm words = of_none Destage words
label_by DamageForm words = damage_words words
label_by FaultForm words = fault_words words
label_by CutForm words = cut_words words
label_by PowerForm words = of_none (Happens Power) words
label_by MinutesForm words = minutes_words words

-- the label that words give
abbrev pub label_from : List (List ℕ) → Option Label
label_from [] = None
label_from (first ∷ words) = do
  form ← label_form first
  label_by form words
