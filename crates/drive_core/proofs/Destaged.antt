-- Which block is destaged, by the cache and by what the commands hold.
use Rattle.std.proofs.Common.{◌≡◌, ℕ, ◌+◌, ◌<◌, Bool, true, false, not, cond, eqb, List, [], ◌∷◌, ◌++◌, get_or, take, length, Option, Some, None, refl, sym, ap, ◌∙◌, map}
use Rattle.std.specs.Prelude.{◌&&◌, ◌||◌, find}
use Rattle.std.specs.List.{list_any}
use Rattle.std.specs.Map.{keys_of}
use Rattle.std.specs.Option.{option_map, option_map_or, is_none}
use Rattle.std.proofs.lemmas.List.{take_more}
use Rattle.std.proofs.lemmas.List.Folds.{list_any-append}
use Rattle.std.proofs.lemmas.Bool.{eq-eqb}
use Rattle.disk_base.specs.declared.address.Lba.{Lba}
use Rattle.task_set.specs.declared.member.Member.{Member}
use Rattle.write_cache.specs.Contents.{Contents, is_at, newest, oldest_but}
use Rattle.block_machine.specs.declared.turn.Label.TheVariants.{Destage}
use Rattle.drive_scene.specs.Scene.{Scene}
use Rattle.drive_scene.specs.Evidence.{lba}
use Rattle.drive_scene.specs.Holds.{held_block, command_besides, holder_besides, holds, destaged}
use Rattle.drive_core.specs.declared.able.Claim.{Claim}
use Rattle.drive_core.specs.declared.server.Server.{Server}
use Rattle.drive_core.specs.Claims.{claim_of, claims_of, is_held_by}
use Rattle.drive_core.specs.Fits.{Fits, IsCached}
use Rattle.drive_core.proofs.Flightless.{holder_alone}
use Rattle.drive_core.proofs.HardenParts.{same_test}
use Rattle.drive_core.proofs.PutParts.{unnamed}

-- a claim holds what its command holds
held_by_claim : (b : Lba) (held : Option ℕ) → option_map_or (is_at b) (option_map lba held) false ≡ option_map_or (λ (h : ℕ). eqb h b.0) held false
held_by_claim b None = refl
held_by_claim b (Some h) = sym (same_test b (lba h) (is_at b (lba h)) refl)

held_in : (s : Scene) (b : Lba) (set : List Member)
    → list_any (is_held_by b) (map (λ (m : Member). claim_of s m.task.c) set) ≡ list_any (λ (m : Member). holds s b.0 m.task.c) set
held_in s b [] = refl
held_in s b (m ∷ ms) = λ i. held_by_claim b (held_block s m.task.c) i || held_in s b ms i

none-found : {X : Type 0} (p : X → Bool) (xs : List X) → is_none (find p xs) ≡ not (list_any p xs)
none-found p [] = refl
none-found p (x ∷ xs) = by (none-found p xs) (p x)
  where
    by : is_none (find p xs) ≡ not (list_any p xs) → (t : Bool) → is_none (cond t (Some x) (find p xs)) ≡ not (t || list_any p xs)
    by rest true = refl
    by rest false = rest

none-mapped : {X Y : Type 0} (f : X → Y) (o : Option X) → is_none (option_map f o) ≡ is_none o
none-mapped f None = refl
none-mapped f (Some x) = refl

-- nobody holds a block that no claim holds
free-by-claims : (s : Scene) (b : Lba) → s.back.flights ≡ [] → is_none (holder_besides s Destage b.0) ≡ not (list_any (is_held_by b) (claims_of s))
free-by-claims s b none =
    ap is_none (holder_alone s Destage b.0 none) ∙ none-mapped _ (command_besides s Destage b.0) ∙ (none-mapped (λ (m : Member). m.task.c) _
    ∙ (none-found (λ (m : Member). holds s b.0 m.task.c) s.hist.set ∙ sym (ap not (held_in s b s.hist.set))))

find-mapped : (p : ℕ → Bool) (q : Lba → Bool) (ks : List Lba) → ((k : Lba) → q k ≡ p k.0) → find q ks ≡ option_map lba (find p (map (λ (k : Lba). k.0) ks))
find-mapped p q [] same = refl
find-mapped p q (k ∷ ks) same = ap (λ (t : Bool). cond t (Some k) (find q ks)) (same k) ∙ by (find-mapped p q ks same) (p k.0)
  where
    by : find q ks ≡ option_map lba (find p (map (λ (x : Lba). x.0) ks)) → (t : Bool) → cond t (Some k) (find q ks) ≡ option_map lba (cond t (Some k.0) (find p (map (λ (x : Lba). x.0) ks)))
    by rest true = refl
    by rest false = rest

-- the oldest dirty block that no claim holds is the one to be destaged
pub destaged-is : (s : Scene) (d : Server) (held : List Lba) (r : Option Lba) → Fits s d
    → ((b : Lba) → list_any (is_at b) held ≡ list_any (is_held_by b) (claims_of s)) → r ≡ oldest_but held d.store.cache → r ≡ option_map lba (destaged s)
destaged-is s d held r fits are is =
    let test : ℕ → Bool = λ n. not (s.back.stuck n) && is_none (holder_besides s Destage n) in
    let same : (k : Lba) → not (list_any (is_at k) held) ≡ (not (s.back.stuck k.0) && is_none (holder_besides s Destage k.0)) = λ k.
    ap not (are k) ∙ (sym (free-by-claims s k fits.flightless) ∙ sym (ap (λ (t : Bool). not t && is_none (holder_besides s Destage k.0)) (fits.unstuck k.0))) in
    is ∙ (find-mapped (λ n. not (s.back.stuck n) && is_none (holder_besides s Destage n)) (λ k. not (list_any (is_at k) held)) (keys_of d.store.cache.dirty) same
    ∙ ap (λ (ns : List ℕ). option_map lba (find (λ n. not (s.back.stuck n) && is_none (holder_besides s Destage n)) ns)) fits.cached.ages)

-- one claim more, that holds a block or none
pub one-held : (b : Lba) (claims : List Claim) (i : ℕ) (claim : Claim) (held : List Lba) → i < length claims → claim ≡ get_or claims i claim
    → list_any (is_at b) held ≡ list_any (is_held_by b) (take i claims) → (list_any (is_at b) held || option_map_or (is_at b) claim.holds false) ≡ list_any (is_held_by b) (take (i + 1) claims)
one-held b claims i claim held inside is so_far =
    let longer : take (i + 1) claims ≡ take i claims ++ claim ∷ [] =
    take_more claims i claim inside ∙ ap (λ (x : Claim). take i claims ++ x ∷ []) (sym is) in
    (λ j. so_far j || or_nothing (option_map_or (is_at b) claim.holds false) j)
    ∙ sym (ap (list_any (is_held_by b)) longer ∙ list_any-append (is_held_by b) (take i claims) (claim ∷ []))
  where
    or_nothing : (t : Bool) → t ≡ (t || false)
    or_nothing true = refl
    or_nothing false = refl

-- what is found is among what was searched
found-among : (p : ℕ → Bool) (xs : List ℕ) (x : ℕ) → find p xs ≡ Some x → list_any (λ a. eqb a x) xs ≡ true
found-among p [] x is = absurd (cc)
found-among p (y ∷ ys) x is = by (found-among p ys x) (p y) is
  where
    by : (find p ys ≡ Some x → list_any (λ a. eqb a x) ys ≡ true) → (t : Bool) → cond t (Some y) (find p ys) ≡ Some x
        → (eqb y x || list_any (λ a. eqb a x) ys) ≡ true
    by rest true there = let same : y ≡ x = cc in ap (λ (t : Bool). t || list_any (λ a. eqb a x) ys) (eq-eqb y x same)
    by rest false there = or_true (eqb y x) (list_any (λ a. eqb a x) ys) (rest there)
      where
        or_true : (a b : Bool) → b ≡ true → (a || b) ≡ true
        or_true true b is = refl
        or_true false b is = is

-- the block that is destaged has newest data in the cache
pub destaged-dirty : (s : Scene) (cache : Contents) (b : Lba) → IsCached s cache → destaged s ≡ Some b.0 → (bytes : List ℕ) × (newest b cache ≡ Some bytes)
destaged-dirty s cache b cached is = by (newest b cache) refl
  where
    by : (o : Option (List ℕ)) → newest b cache ≡ o → (bytes : List ℕ) × (newest b cache ≡ Some bytes)
    by (Some bytes) there = (bytes, there)
    by None gone =
        let among : list_any (λ a. eqb a b.0) s.hist.dirty ≡ true =
        found-among (λ n. not (s.back.stuck n) && is_none (holder_besides s Destage n)) s.hist.dirty b.0 is in
        let not_among : list_any (λ a. eqb a b.0) s.hist.dirty ≡ false =
        ap (list_any (λ a. eqb a b.0)) (sym cached.ages) ∙ unnamed b cache.dirty gone in
        absurd (cc)
