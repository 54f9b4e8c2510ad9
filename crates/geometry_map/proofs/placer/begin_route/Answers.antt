-- Where the search finds a route from there, its block is elsewhere; else the pair goes in where the search ended.
use Rattle.std.proofs.Common.{◌≡◌, ◌≤◌, ◌<◌, ◌∙◌, ◌==◌, List, ap, sym, subst, arith, rules, ℕ, length, get_or}
use Rattle.std.specs.Prelude.{insert}
use Rattle.std.specs.List.{list_any}
use Rattle.std.specs.List.Sorted.{IsNonDecreasingBy}
use Rattle.std.specs.Ordering.{nat_cmp, ordering_index}
use Rattle.std.specs.declared.cmp.Ordering.TheVariants.{Equal}
use Rattle.geometry_map.specs.declared.limits.TheConstants.{PAIRS_MAX}
use Rattle.geometry_map.specs.declared.pair.Pair.{Pair}
use Rattle.geometry_map.specs.Placer.{remap_of}
use Rattle.geometry_map.proofs.RemapLemmas.{remap-rises, Rises-searchable}
use Rattle.geometry_map.proofs.RouteLemmas.{SplitsRoutes, remap-begun, remap-has_room, remap-kept, begins-elsewhere}
use Rattle.geometry_map.proofs.placer.begin_route.Goals as goal

pub returns-in-Err : goal.returns-in-Err
returns-in-Err c m valid routes start none fits =
    let p : ℕ = c.args.pair.now.old.0 in
    let same : c.as_slice.result.now ≡ remap_of m = c.as_slice.ensures.value ∙ routes in
    let Halves : List Pair → Type 0 = IsNonDecreasingBy (λ x. ordering_index (nat_cmp x.old.0 p)) in
    let halved : Halves c.as_slice.result.now = subst Halves (sym same) (Rises-searchable 0 p (remap_of m) (remap-rises m valid)) in
    let S : List Pair → Type 0 = λ l. SplitsRoutes p l c.in-Err.i in
    let splits : SplitsRoutes p (remap_of m) c.in-Err.i = subst S same (c.in-Err.ensures.position halved) in
    let most : c.in-Err.i ≤ length (remap_of m) = omega (arith, ap length same, c.in-Err.ensures.bound) in
    let room : length c.args.remap.now.items < PAIRS_MAX = omega (arith, ap length routes, remap-has_room m c.args.pair.now valid fits) in
    let inserted : c.try_insert.new.self.items ≡ insert c.args.remap.now.items c.in-Err.i c.args.pair.now = search rules in
    inserted
    ∙ ap (λ (l : List Pair). insert l c.in-Err.i c.args.pair.now) routes
    ∙ sym (remap-begun m c.args.pair.now c.in-Err.i valid fits start most splits)

pub returns-in_default : goal.returns-in_default
returns-in_default c m valid routes start none fits =
    let p : ℕ = c.args.pair.now.old.0 in
    let i : ℕ = c.in_default.field-0 in
    let same : c.as_slice.result.now ≡ remap_of m = c.as_slice.ensures.value ∙ routes in
    let blank : Pair = record { old = record { 0 = 0 }; new = record { 0 = 0 } } in
    let At : List Pair → Type 0 = λ l. nat_cmp (get_or l i blank).old.0 p ≡ Equal in
    let found : nat_cmp (get_or (remap_of m) c.in_default.field-0 blank).old.0 p ≡ Equal = subst At same (c.in_default.ensures.position blank) in
    let within : c.in_default.field-0 < length (remap_of m) = omega (arith, ap length same, c.in_default.ensures.bound) in
    let Ends = λ (l : List Pair). list_any (λ (x : Pair). x.new.0 == c.args.pair.now.old.0) l in
    routes ∙ sym (remap-kept m c.args.pair.now valid fits (begins-elsewhere m p i blank valid within found) (ap Ends (sym routes) ∙ none))
