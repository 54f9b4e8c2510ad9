use Rattle.std.proofs.Common.{◌≡◌, ℕ, ◌+◌, ◌<◌, List, [], ◌∷◌, ◌++◌, map, ap, sym, ◌∙◌, arith, subst}
use Rattle.std.specs.Prelude.{replicate}
use Rattle.std.specs.List.{range_with_len}
use Rattle.std.proofs.lemmas.List.FromFn.{map-range_with_len_more}
use Rattle.disk_base.specs.declared.address.Psn.{Psn}
use Rattle.disk_base.specs.declared.payload.Payload.{Payload}
use Rattle.disk_base.specs.Payload.{user_payload}
use Rattle.geometry_map.specs.declared.size.Size.{Size}
use Rattle.geometry_map.specs.Size.{capacity_of}
use Rattle.geometry_map.specs.DefectMap.{DefectMap, place_of}
use Rattle.sector_store.specs.Factory.{block_at, zero_block}
use Rattle.sector_store.proofs.factory.zeros.Goals as goal

-- one block more
next_zero : (m : DefectMap) (list more : List Payload) (b : ℕ) (p : Psn) (payload : Payload)
    → list ≡ map (zero_block m) (range_with_len 0 b) → more ≡ list ++ payload ∷ []
    → payload ≡ user_payload p (block_at b) (replicate 512 0) → p ≡ place_of m (block_at b)
    → more ≡ map (zero_block m) (range_with_len 0 (b + 1))
next_zero m list more b p payload list_is more_is payload_is p_is =
    let block_is : payload ≡ zero_block m b = payload_is ∙ ap (λ (q : Psn). user_payload q (block_at b) (replicate 512 0)) p_is in
    more_is ∙ (ap (λ (l : List Payload). l ++ payload ∷ []) list_is
    ∙ (ap (λ (q : Payload). map (zero_block m) (range_with_len 0 b) ++ q ∷ []) block_is
    ∙ sym (map-range_with_len_more (zero_block m) 0 b b (omega arith))))

-- a block of the loop is one of the drive
below_capacity : (size given : Size) (b end : ℕ) → given ≡ size → end ≡ capacity_of given → b < end → b < capacity_of size
below_capacity size given b end given_is end_is below =
    let P : ℕ → Type 0 = λ n. b < n in subst P (end_is ∙ ap capacity_of given_is) below

pub loop-b-preserved : goal.loop-b-preserved
loop-b-preserved c =
    next_zero c.args.map.now c.loop-b.list.items c.push.new.self.items c.loop-b.b c.place.result c.user.result c.loop-b.invariant c.in_ok-push.ensures.items c.user.ensures
    (c.place.ensures c.args.map.now c.requires
    (below_capacity c.args.map.now.size c.size.result c.loop-b.b c.capacity-b-end.result c.size.ensures c.capacity-b-end.ensures.value c.loop-b-test.true))
