-- What a factory leaves.
use Rattle.std.proofs.Common.{◌≡◌, ℕ, zero, suc, ◌+◌, ◌<◌, ◌≤◌, Bool, true, false, List, [], ◌∷◌, ◌++◌, Option, Some, None, refl, sym, ◌∙◌, ap, subst, arith, map}
use Rattle.std.specs.Prelude.{if◌then◌else◌, All}
use Rattle.std.specs.List.{fold, range_with_len}
use Rattle.std.proofs.lemmas.List.{map-append}
use Rattle.std.proofs.lemmas.List.Sums.{fold-append}
use Rattle.std.proofs.lemmas.List.Elements.{All-nil, All-cons, All-head, All-tail, All-append}
use Rattle.disk_base.specs.declared.address.Psn.{Psn}
use Rattle.disk_base.specs.declared.payload.Payload.{Payload}
use Rattle.platter_model.specs.declared.op.Op.{Op}
use Rattle.platter_model.specs.declared.op.Op.TheVariants.{Wrote}
use Rattle.platter_model.specs.Sector.{meant_after, meant, faulty_after}
use Rattle.platter_model.specs.State.{State, made}
use Rattle.geometry_map.specs.declared.size.Size.{Size}
use Rattle.geometry_map.specs.Size.{total_of, capacity_of}
use Rattle.geometry_map.specs.DefectMap.{DefectMap, sector, factory_map, IsValidMap}
use Rattle.geometry_map.specs.Laws.{BlocksLieOnUserSectors}
use Rattle.map_generations.specs.MapRecord.{map_record}
use Rattle.map_generations.specs.Recovery.{Reads}
use Rattle.map_generations.specs.SafeMaps.{IsPresent, written_to}
use Rattle.map_generations.specs.SafetyLaws.{PresentMapsAreTaken, PresentMapsAreSafeAlone, SafetyIsByPlace, WrittenMapsArePresent}
use Rattle.sector_store.specs.Maps.{meant_on, records_of}
use Rattle.sector_store.specs.Factory.{block_at, zero_block, zero_blocks, first_map, factory_payloads}
use Rattle.sector_store.specs.State.{KeepsMaps}
use Rattle.sector_store.specs.Laws.{FactoryMapsAreThere, FactoryStoresKeepMaps, FactoryPayloadsAreOnSectors}
use Rattle.sector_store.proofs.Meant.{is_sector-apart}
use Rattle.sector_store.proofs.Blocks.{present-there}

-- a map in slot 0, and one in slot 1
abbrev in_0 : DefectMap → DefectMap
in_0 m = record m { slot = 0 }

abbrev in_1 : DefectMap → DefectMap
in_1 m = record m { slot = 1 }

-- nothing is meant anywhere
abbrev nothing : Reads
nothing p = None

-- after the records of both, each sector of the maps is meant to carry what their writes put there
sixteen : (f m : DefectMap) (p : ℕ) → p < 16
    → written_to (in_1 m) 8 (written_to (in_0 f) 8 nothing) p ≡ meant_on (map Wrote (records_of (in_0 f) ++ records_of (in_1 m))) p
unfolding records_of
sixteen f m zero less = refl
sixteen f m (suc zero) less = refl
sixteen f m (suc (suc zero)) less = refl
sixteen f m (suc (suc (suc zero))) less = refl
sixteen f m (suc (suc (suc (suc zero)))) less = refl
sixteen f m (suc (suc (suc (suc (suc zero))))) less = refl
sixteen f m (suc (suc (suc (suc (suc (suc zero)))))) less = refl
sixteen f m (suc (suc (suc (suc (suc (suc (suc zero))))))) less = refl
sixteen f m (suc (suc (suc (suc (suc (suc (suc (suc zero)))))))) less = refl
sixteen f m (suc (suc (suc (suc (suc (suc (suc (suc (suc zero))))))))) less = refl
sixteen f m (suc (suc (suc (suc (suc (suc (suc (suc (suc (suc zero)))))))))) less = refl
sixteen f m (suc (suc (suc (suc (suc (suc (suc (suc (suc (suc (suc zero))))))))))) less = refl
sixteen f m (suc (suc (suc (suc (suc (suc (suc (suc (suc (suc (suc (suc zero)))))))))))) less = refl
sixteen f m (suc (suc (suc (suc (suc (suc (suc (suc (suc (suc (suc (suc (suc zero))))))))))))) less = refl
sixteen f m (suc (suc (suc (suc (suc (suc (suc (suc (suc (suc (suc (suc (suc (suc zero)))))))))))))) less = refl
sixteen f m (suc (suc (suc (suc (suc (suc (suc (suc (suc (suc (suc (suc (suc (suc (suc zero))))))))))))))) less = refl
sixteen f m (suc (suc (suc (suc (suc (suc (suc (suc (suc (suc (suc (suc (suc (suc (suc (suc p)))))))))))))))) less = absurd (omega arith)

-- payloads past the maps' sectors change nothing there
past : (p : Psn) (before : Option Payload) (list : List Payload) → p.0 < 16 → All (λ payload. 16 ≤ payload.psn.0) list
    → fold (meant_after p) before (map Wrote list) ≡ before
past p before [] low all = refl
past p before (payload ∷ list) low all =
    let user : 16 ≤ payload.psn.0 = All-head (λ (q : Payload). 16 ≤ q.psn.0) payload list all in
    ap (λ (b : Bool). fold (meant_after p) (if b then Some payload else before) (map Wrote list)) (is_sector-apart payload.psn p (λ same. omega arith))
    ∙ past p before list low (All-tail (λ (q : Payload). 16 ≤ q.psn.0) payload list all)

meant-past : (p : ℕ) (list more : List Payload) → p < 16 → All (λ payload. 16 ≤ payload.psn.0) more
    → meant_on (map Wrote list) p ≡ meant_on (map Wrote (list ++ more)) p
meant-past p list more low all =
    sym (ap (λ (ops : List Op). meant (sector p) ops) (map-append Wrote list more)
    ∙ (fold-append (meant_after (sector p)) None (map Wrote list) (map Wrote more) ∙ past (sector p) (meant (sector p) (map Wrote list)) more low all))

-- so a map is present that is written behind an older one, with user blocks behind both
present : SafetyIsByPlace → WrittenMapsArePresent → (f m : DefectMap) (blocks : List Payload) → f.number < m.number
    → All (λ payload. 16 ≤ payload.psn.0) blocks
    → IsPresent (meant_on (map Wrote (records_of (in_0 f) ++ records_of (in_1 m) ++ blocks))) (in_1 m)
present by_place written f m blocks less user =
    let list : List Payload = records_of (in_0 f) ++ records_of (in_1 m) in
    (by_place (written_to (in_1 m) 8 (written_to (in_0 f) 8 nothing)) (meant_on (map Wrote (list ++ blocks)))
    (λ p low. sixteen f m p low ∙ meant-past p list blocks low user)).2 (in_1 m)
    (written nothing (in_1 m) (in_0 f) (omega arith) refl less)

-- the blocks of zeros lie on user sectors
zeros_on : (P : Payload → Type 0) (m : DefectMap) (from n : ℕ) → ((b : ℕ) → b < from + n → P (zero_block m b))
    → All P (map (zero_block m) (range_with_len from n))
zeros_on P m from zero each = All-nil P
zeros_on P m from (suc n) each =
    All-cons P (zero_block m from) (map (zero_block m) (range_with_len (from + 1) n)) (each from (omega arith))
    (zeros_on P m (from + 1) n (λ b below. each b (omega arith)))

zeros_past : BlocksLieOnUserSectors → (m : DefectMap) → IsValidMap m → All (λ payload. 16 ≤ payload.psn.0) (zero_blocks m)
zeros_past on_user m valid = zeros_on (λ payload. 16 ≤ payload.psn.0) m 0 (capacity_of m.size) (λ b below. (on_user m valid (block_at b) (omega arith)).0)

zeros_within : BlocksLieOnUserSectors → (m : DefectMap) → IsValidMap m → All (λ payload. payload.psn.0 < total_of m.size) (zero_blocks m)
zeros_within on_user m valid = zeros_on (λ payload. payload.psn.0 < total_of m.size) m 0 (capacity_of m.size) (λ b below. (on_user m valid (block_at b) (omega arith)).1)

-- the records lie on the sectors of the maps
all_eight : (P : Payload → Type 0) (a b c d e f g h : Payload) → P a → P b → P c → P d → P e → P f → P g → P h
    → All P (a ∷ b ∷ c ∷ d ∷ e ∷ f ∷ g ∷ h ∷ [])
all_eight P a b c d e f g h pa pb pc pd pe pf pg ph =
    All-cons P a (b ∷ c ∷ d ∷ e ∷ f ∷ g ∷ h ∷ []) pa (All-cons P b (c ∷ d ∷ e ∷ f ∷ g ∷ h ∷ []) pb (All-cons P c (d ∷ e ∷ f ∷ g ∷ h ∷ []) pc (All-cons P d (e ∷ f ∷ g ∷ h ∷ []) pd (All-cons P e (f ∷ g ∷ h ∷ []) pe (All-cons P f (g ∷ h ∷ []) pf (All-cons P g (h ∷ []) pg (All-cons P h [] ph (All-nil P))))))))

pub records_on : (P : Payload → Type 0) (m : DefectMap) → ((copy index : ℕ) → copy < 2 → index < 4 → P (map_record m copy index)) → All P (records_of m)
unfolding records_of
records_on P m each =
    all_eight P (map_record m 0 0) (map_record m 0 1) (map_record m 0 2) (map_record m 0 3)
    (map_record m 1 0) (map_record m 1 1) (map_record m 1 2) (map_record m 1 3)
    (each 0 0 (omega arith) (omega arith)) (each 0 1 (omega arith) (omega arith)) (each 0 2 (omega arith) (omega arith)) (each 0 3 (omega arith) (omega arith))
    (each 1 0 (omega arith) (omega arith)) (each 1 1 (omega arith) (omega arith)) (each 1 2 (omega arith) (omega arith)) (each 1 3 (omega arith) (omega arith))

pub records_within : (total : ℕ) (m : DefectMap) → m.slot < 2 → 16 ≤ total → All (λ payload. payload.psn.0 < total) (records_of m)
records_within total m slot room = records_on (λ payload. payload.psn.0 < total) m (λ copy index c i. omega arith)

pub factory_maps_are_there : PresentMapsAreTaken → PresentMapsAreSafeAlone → SafetyIsByPlace → WrittenMapsArePresent → BlocksLieOnUserSectors
    → FactoryMapsAreThere
factory_maps_are_there taken safe by_place written on_user size primary valid =
    let m : DefectMap = factory_map size primary in
    present-there taken safe (factory_map size primary) (map Wrote (factory_payloads size primary)) valid refl
    (present by_place written (first_map size primary) (factory_map size primary) (zero_blocks (factory_map size primary)) (omega arith)
    (zeros_past on_user (factory_map size primary) valid))

-- writes bring no fault
sound_writes : (p : Psn) (before : Bool) (payloads : List Payload) → fold (faulty_after p) before (map Wrote payloads) ≡ before
sound_writes p before [] = refl
sound_writes p before (payload ∷ payloads) = sound_writes p before payloads

pub factory_stores_keep_maps : FactoryMapsAreThere → FactoryStoresKeepMaps
factory_stores_keep_maps are_there size primary valid =
    let there = are_there size primary valid in
    record {
      sectors = refl;
      sound = λ p low. sound_writes p false (factory_payloads size primary);
      valid = valid;
      follows = tt;
      there = λ ready. there;
      alone_ready = λ ready. refl;
      safe = λ none. there.safe;
    }

-- so does a store whose platter was made from the map that a factory leaves
pub fresh_keeps : FactoryStoresKeepMaps → (m : DefectMap) (platter : State) (total : ℕ) (size : Size) (items payloads : List Payload)
    → m ≡ factory_map m.size m.primary → IsValidMap m → platter ≡ made total items → total ≡ total_of size → size ≡ m.size
    → items ≡ payloads → payloads ≡ factory_payloads m.size m.primary → KeepsMaps m None true platter
fresh_keeps law m platter total size items payloads is valid platter_is total_is size_is items_is payloads_is =
    let fresh : KeepsMaps (factory_map m.size m.primary) None true (made (total_of m.size) (factory_payloads m.size m.primary)) =
    law m.size m.primary (subst IsValidMap is valid) in
    let made_is : platter ≡ made (total_of m.size) (factory_payloads m.size m.primary) =
    platter_is ∙ (ap (λ (n : ℕ). made n items) (total_is ∙ ap total_of size_is) ∙ ap (λ (l : List Payload). made (total_of m.size) l) (items_is ∙ payloads_is)) in
    subst (λ (x : DefectMap). KeepsMaps x None true platter) (sym is)
    (subst (λ (x : State). KeepsMaps (factory_map m.size m.primary) None true x) (sym made_is) fresh)

pub factory_payloads_are_on_sectors : BlocksLieOnUserSectors → FactoryPayloadsAreOnSectors
factory_payloads_are_on_sectors on_user size primary valid =
    let P : Payload → Type 0 = λ payload. payload.psn.0 < total_of size in
    let room : 16 ≤ total_of size = omega (arith, size.within_limits.least) in
    All-append P (records_of (first_map size primary) ++ records_of (factory_map size primary)) (zero_blocks (factory_map size primary))
    (All-append P (records_of (first_map size primary)) (records_of (factory_map size primary))
    (records_within (total_of size) (first_map size primary) (omega arith) room)
    (records_within (total_of size) (factory_map size primary) (omega arith) room))
    (zeros_within on_user (factory_map size primary) valid)
