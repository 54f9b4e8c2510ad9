use Rattle.std.proofs.Common.{◌≡◌, [], ◌∷◌}
use Rattle.disk_base.specs.declared.payload.Payload.{Payload}
use Rattle.sector_store.specs.Maps.{records_of}
use Rattle.sector_store.proofs.factory.records.Goals as goal

same_eight : (a b c d e f g h i j k l m n o p : Payload) → a ≡ i → b ≡ j → c ≡ k → d ≡ l → e ≡ m → f ≡ n → g ≡ o → h ≡ p
    → a ∷ b ∷ c ∷ d ∷ e ∷ f ∷ g ∷ h ∷ [] ≡ i ∷ j ∷ k ∷ l ∷ m ∷ n ∷ o ∷ p ∷ []
same_eight a b c d e f g h i j k l m n o p ai bj ck dl em fn go hp = cc

pub returns : goal.returns
unfolding records_of
returns c =
    same_eight c.map_record.result c.map_record-2.result c.map_record-3.result c.map_record-4.result
    c.map_record-5.result c.map_record-6.result c.map_record-7.result c.map_record-8.result _ _ _ _ _ _ _ _
    c.map_record.ensures c.map_record-2.ensures c.map_record-3.ensures c.map_record-4.ensures
    c.map_record-5.ensures c.map_record-6.ensures c.map_record-7.ensures c.map_record-8.ensures
