-- A write to a block's place that is carried out: the power is on, no cut is armed, and the sector has no write fault.
use Rattle.std.proofs.Common.{◌≡◌, ◌<◌, Bool, false, cond, Option, None, sym, ap, ◌∙◌}
use Rattle.disk_base.specs.declared.address.Lba.{Lba}
use Rattle.disk_base.specs.declared.address.Psn.{Psn}
use Rattle.platter_model.specs.declared.answer.WriteAnswer.TheVariants.{Written, Fault, Off}
use Rattle.platter_model.specs.declared.damage.Arming.{Arming}
use Rattle.platter_model.specs.Sector.{is_faulty}
use Rattle.platter_model.specs.TrueLog.{is_off}
use Rattle.platter_model.specs.State.{State, write_answer, good_answer}
use Rattle.geometry_map.specs.Size.{capacity_of}
use Rattle.geometry_map.specs.DefectMap.{place_of}
use Rattle.sector_store.specs.declared.answer.StoreAnswer.{StoreAnswer}
use Rattle.sector_store.specs.declared.answer.StoreAnswer.TheVariants as store_answer
use Rattle.sector_store.specs.State.{Contained, answer_by}
use Rattle.sector_store.specs.Caching.{counted}

-- what a write to a block's place needs of the store
pub record MayStore (d : Contained) (b : Lba) : Type 0 where
  pub below : b.0 < capacity_of d.map.size
  pub powered : is_off d.platter.ops ≡ false
  pub sound : is_faulty (place_of d.map b) d.platter.ops ≡ false
  pub unarmed : d.platter.armed ≡ None

answered-written : (s : State) (p : Psn) → is_off s.ops ≡ false → is_faulty p s.ops ≡ false → s.armed ≡ None → write_answer s p ≡ Written
answered-written s p on sound unarmed =
    ap (λ (t : Bool). cond t Off (cond (is_faulty p s.ops) Fault (good_answer s.armed))) on
    ∙ (ap (λ (t : Bool). cond t Fault (good_answer s.armed)) sound ∙ ap good_answer unarmed)

pub answered-done : (s : Contained) (b : Lba) (answer : StoreAnswer) → answer ≡ answer_by (write_answer s.platter (place_of s.map b)) → MayStore s b
    → answer ≡ store_answer.Done
answered-done s b answer is may = is ∙ ap answer_by (answered-written s.platter (place_of s.map b) may.powered may.sound may.unarmed)

-- where no cut is armed a write counts none
pub uncounted : (armed : Option Arming) → armed ≡ None → counted armed ≡ armed
uncounted armed none = ap counted none ∙ sym none
