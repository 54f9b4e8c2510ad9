-- The first halving reads the block's start; the second finds its route, or that it has none.
use Rattle.std.proofs.Common.{◌≡◌, ◌∙◌, ◌+◌, ◌≤◌, ◌<◌, List, ap, sym, subst, arith, ℕ, length, get_or}
use Rattle.std.specs.Prelude.{nat_le}
use Rattle.std.specs.List.Sorted.{IsPartitionedBy, IsPartitionPoint, IsNonDecreasingBy}
use Rattle.std.specs.Ordering.{nat_cmp, ordering_index}
use Rattle.std.specs.declared.cmp.Ordering.TheVariants.{Less, Equal, Greater}
use Rattle.geometry_map.specs.declared.pair.Pair.{Pair}
use Rattle.geometry_map.specs.declared.placer.Placer.{Placer}
use Rattle.geometry_map.specs.Size.{capacity_of}
use Rattle.geometry_map.specs.DefectMap.{DefectMap}
use Rattle.geometry_map.specs.Placer.{IsPlacerOf}
use Rattle.geometry_map.proofs.GapLemmas.{SplitsAt}
use Rattle.geometry_map.proofs.RemapLemmas.{start_of}
use Rattle.geometry_map.proofs.Halving.{gaps-halved, start-counted, remap-halved, place-found, place-missing}
use Rattle.geometry_map.proofs.placer.Placer.place.Goals as goal

-- where the gaps that were searched are those of the placer
start_read : (placer : Placer) (m : DefectMap) (b k : ℕ) (gaps : List ℕ) → IsPlacerOf placer m → b < capacity_of m.size → gaps ≡ placer.gaps.items → k ≤ length gaps
    → (IsPartitionedBy (λ gap. nat_le gap b) gaps → SplitsAt b gaps k) → 16 + b + k ≡ start_of m b
start_read placer m b k gaps is below same most split =
    let P : List ℕ → Type 0 = λ l. IsPartitionedBy (λ gap. nat_le gap b) l in
    let Q : List ℕ → Type 0 = λ l. SplitsAt b l k in
    start-counted placer m b k is below (omega (arith, ap length same)) (subst Q same (split (subst P (sym same) (gaps-halved placer m b is))))

pub returns-in-Ok : goal.returns-in-Ok
returns-in-Ok c m is below =
    let start : 16 + c.args.b.0 + c.gaps_up_to-slips.result ≡ start_of m c.args.b.0 =
    start_read c.args.self.now m c.args.b.0 c.gaps_up_to-slips.result c.deref.result.now is below c.deref.ensures.0 c.gaps_up_to-slips.ensures.bound c.gaps_up_to-slips.ensures.split in
    let blank : Pair = record { old = record { 0 = 0 }; new = record { 0 = 0 } } in
    let Q : List Pair → Type 0 = λ l. nat_cmp (get_or l c.in-Ok.i blank).old.0 (16 + c.args.b.0 + c.gaps_up_to-slips.result) ≡ Equal in
    let found : Q c.args.self.now.remap.items = subst Q c.deref-2.ensures.0 (c.in-Ok.ensures.position blank) in
    let within : c.in-Ok.i < length c.args.self.now.remap.items = omega (arith, ap length c.deref-2.ensures.0, c.in-Ok.ensures.bound) in
    ap (λ (l : List Pair). (get_or l c.in-Ok.i blank).new) c.deref-in-Ok.ensures.0
    ∙ place-found c.args.self.now m c.args.b.0 c.in-Ok.i (16 + c.args.b.0 + c.gaps_up_to-slips.result) blank is below start within found

pub returns-in-Err : goal.returns-in-Err
returns-in-Err c m is below =
    let s : ℕ = 16 + c.args.b.0 + c.gaps_up_to-slips.result in
    let start : 16 + c.args.b.0 + c.gaps_up_to-slips.result ≡ start_of m c.args.b.0 =
    start_read c.args.self.now m c.args.b.0 c.gaps_up_to-slips.result c.deref.result.now is below c.deref.ensures.0 c.gaps_up_to-slips.ensures.bound c.gaps_up_to-slips.ensures.split in
    let P : List Pair → Type 0 = IsNonDecreasingBy (λ x. ordering_index (nat_cmp x.old.0 s)) in
    let Q : List Pair → Type 0 = λ l. IsPartitionPoint (λ x. nat_cmp x.old.0 s ≡ Less) (λ x. nat_cmp x.old.0 s ≡ Greater) l c.in-Err.field-0 in
    let halved : P c.deref-2.result.now = subst P (sym c.deref-2.ensures.0) (remap-halved c.args.self.now m s is) in
    place-missing c.args.self.now m c.args.b.0 c.in-Err.field-0 s is below start (subst Q c.deref-2.ensures.0 (c.in-Err.ensures.position halved))
