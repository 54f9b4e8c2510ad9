-- The cache after a put, and how full it was.
use Rattle.std.proofs.Common.{◌≡◌, ◌≢◌, ℕ, suc, ◌+◌, ◌<◌, ◌≤◌, Bool, true, false, not, cond, eqb, leb, List, [], ◌∷◌, ◌++◌, length, Option, Some, None, refl, sym, ap, ◌∙◌, subst, arith, ⊎_elim, inl}
use Rattle.std.specs.Prelude.{map, filter, Contains}
use Rattle.std.specs.List.{list_any}
use Rattle.std.specs.Map.{keys_of, lookup, remove_entry, set_value}
use Rattle.std.specs.Option.{option_map, option_map_or}
use Rattle.std.proofs.lemmas.Bool.{cases_eq, eqb-true, eq-eqb, ne_eqb, le-leb, lt-leb}
use Rattle.disk_base.specs.declared.address.Lba.{Lba}
use Rattle.disk_base.specs.declared.block.Value.{Value}
use Rattle.disk_base.specs.declared.block.Value.TheVariants.{Data}
use Rattle.platter_model.specs.declared.op.Op.{Op}
use Rattle.platter_model.specs.TrueLog.{strays}
use Rattle.geometry_map.specs.Size.{capacity_of}
use Rattle.sector_store.specs.Stored.{stored}
use Rattle.write_cache.specs.Contents.{Contents, IsCache, IsFullFor, is_at, newest, put_data}
use Rattle.write_cache.specs.Laws.{SettlesOne}
use Rattle.block_machine.specs.declared.entry.Entry.{Entry}
use Rattle.block_machine.specs.declared.entry.Entry.TheVariants.{Put}
use Rattle.block_machine.specs.declared.turn.Label.TheVariants.{Work}
use Rattle.block_machine.specs.Blocks.{is_dirty, after_put, with_address, without_address}
use Rattle.block_machine.specs.Blocks as blocks
use Rattle.block_machine.specs.Deeds.{is_crowded}
use Rattle.block_machine.specs.State.{Duty}
use Rattle.block_machine.specs.Steps.{begun}
use Rattle.drive_scene.specs.Scene.{Scene, capacity}
use Rattle.drive_scene.specs.Evidence.{IsKnown}
use Rattle.drive_core.specs.Fits.{IsClean, IsCached}
use Rattle.sector_store.specs.Caching.{TakesIn, LeavesOut, NewestBut}
use Rattle.drive_scene.proofs.Tables.{put_at-own}
use Rattle.drive_core.proofs.Parts.{known-more}
use Rattle.drive_scene.proofs.PutTurns.{newest-put}
use Rattle.drive_core.proofs.HardenParts.{IsAfterHarden, known_then, clean_other, keys_others, keys_without}
use Rattle.geometry_map.specs.declared.size.Size.{Size}

-- the addresses of the dirty blocks
abbrev names : List (Lba × List ℕ) → List ℕ
names es = map (λ (k : Lba). k.0) (keys_of es)

-- the tests of an address, either way round
turned : (b k : Lba) (t : Bool) → is_at b k ≡ t → eqb k.0 b.0 ≡ t
turned b k true is = eq-eqb k.0 b.0 (sym (eqb-true b.0 k.0 is))
turned b k false is = ne_eqb k.0 b.0 (λ same. let yes : is_at b k ≡ true = eq-eqb b.0 k.0 (sym same) in absurd (cc))

named : (b : Lba) (es : List (Lba × List ℕ)) (v : List ℕ) → lookup (is_at b) es ≡ Some v → list_any (λ a. eqb a b.0) (names es) ≡ true
named b [] v is = absurd (cc)
named b (e ∷ es) v is = by (named b es v) (is_at b e.0) refl is
  where
    by : (lookup (is_at b) es ≡ Some v → list_any (λ a. eqb a b.0) (names es) ≡ true) → (t : Bool) → is_at b e.0 ≡ t
        → cond t (Some e.1) (lookup (is_at b) es) ≡ Some v → list_any (λ a. eqb a b.0) (names (e ∷ es)) ≡ true
    by rest true at is = rw (turned b e.0 true at) refl
    by rest false at is = rw (turned b e.0 false at) (rest is)

pub unnamed : (b : Lba) (es : List (Lba × List ℕ)) → lookup (is_at b) es ≡ None → list_any (λ a. eqb a b.0) (names es) ≡ false
unnamed b [] is = refl
unnamed b (e ∷ es) is = by (unnamed b es) (is_at b e.0) refl is
  where
    by : (lookup (is_at b) es ≡ None → list_any (λ a. eqb a b.0) (names es) ≡ false) → (t : Bool) → is_at b e.0 ≡ t
        → cond t (Some e.1) (lookup (is_at b) es) ≡ None → list_any (λ a. eqb a b.0) (names (e ∷ es)) ≡ false
    by rest true at is = absurd (cc)
    by rest false at is = rw (turned b e.0 false at) (rest is)

names-set : (b : Lba) (v : List ℕ) (es : List (Lba × List ℕ)) → names (set_value (is_at b) es v) ≡ names es
names-set b v [] = refl
names-set b v (e ∷ es) = by (names-set b v es) (is_at b e.0)
  where
    by : names (set_value (is_at b) es v) ≡ names es → (t : Bool) → names (cond t ((e.0, v) ∷ es) (e ∷ set_value (is_at b) es v)) ≡ names (e ∷ es)
    by rest true = refl
    by rest false = ap (λ (xs : List ℕ). e.0.0 ∷ xs) rest

names-push : (es : List (Lba × List ℕ)) (e : Lba × List ℕ) → names (es ++ e ∷ []) ≡ names es ++ e.0.0 ∷ []
names-push [] e = refl
names-push (f ∷ es) e = ap (λ (xs : List ℕ). f.0.0 ∷ xs) (names-push es e)

-- a put names its block, last where it wasn't named
names-put : (b : Lba) (v : List ℕ) (es : List (Lba × List ℕ)) → names (put_data b v es) ≡ with_address b.0 (names es)
names-put b v es = by (lookup (is_at b) es) refl
  where
    by : (o : Option (List ℕ)) → lookup (is_at b) es ≡ o
        → names (option_map_or (λ _. set_value (is_at b) es v) o (es ++ (b, v) ∷ [])) ≡ cond (list_any (λ a. eqb a b.0) (names es)) (names es) (names es ++ b.0 ∷ [])
    by None is = names-push es (b, v) ∙ sym (ap (λ (t : Bool). cond t (names es) (names es ++ b.0 ∷ [])) (unnamed b es is))
    by (Some w) is = names-set b v es ∙ sym (ap (λ (t : Bool). cond t (names es) (names es ++ b.0 ∷ [])) (named b es w is))

-- a scene after another in which these data of a block were put
pub record IsAfterPut (s t : Scene) (c : ℕ) (b : Lba) (bytes : List ℕ) : Type 0 where
  pub size : t.size ≡ s.size
  pub map : t.map ≡ s.map
  pub ops : t.ops ≡ s.ops
  pub own : t.hist.blocks b.0 ≡ after_put (s.hist.blocks b.0) (Data bytes)
  pub others : (q : ℕ) → q ≢ b.0 → t.hist.blocks q ≡ s.hist.blocks q
  pub order : t.hist.dirty ≡ with_address b.0 s.hist.dirty
  pub more_entries : List Entry
  pub entries : t.entries ≡ s.entries ++ more_entries
  pub put : Contains t.entries (Put c b bytes)
  pub more_ops : List Op
  pub since : t.since ≡ s.since ++ more_ops

known_put : (s t : Scene) (c : ℕ) (b q : Lba) (bytes : List ℕ) (v : Value) → IsAfterPut s t c b bytes → IsKnown s.entries s.since q v → IsKnown t.entries t.since q v
known_put s t c b q bytes v after known =
    let P : List Entry → List Op → Type 0 = λ es os. IsKnown es os q v in
    subst (λ (os : List Op). P t.entries os) (sym after.since) (subst (λ (es : List Entry). P es (s.since ++ after.more_ops)) (sym after.entries)
    (known-more s.entries after.more_entries s.since after.more_ops q v known))

-- the newest data of a block, where another's are
elsewhere : (b q : Lba) (its : Option (List ℕ)) (old new : Contents) → NewestBut b its old new → q.0 ≢ b.0 → newest q new ≡ newest q old
elsewhere b q its old new seen other =
    seen q ∙ ap (λ (t : Bool). cond t its (newest q old)) (ne_eqb b.0 q.0 (λ same. other (sym same)))

here : (b q : Lba) (its : Option (List ℕ)) (old new : Contents) → NewestBut b its old new → q.0 ≡ b.0 → newest q new ≡ its
here b q its old new seen same = seen q ∙ ap (λ (t : Bool). cond t its (newest q old)) (eq-eqb b.0 q.0 (sym same))

-- what is clean besides a block is elsewhere
apart : (b q : Lba) → is_at b q ≡ false → q.0 ≢ b.0
apart b q differs same = let yes : is_at b q ≡ true = eq-eqb b.0 q.0 (sym same) in cc

-- the cache after a put
pub cached_put : (s t : Scene) (c : ℕ) (b : Lba) (bytes : List ℕ) (old new : Contents) → IsAfterPut s t c b bytes → b.0 < capacity s → TakesIn b bytes old new → IsCached s old → IsCached t new
cached_put s t c b bytes old new after low takes cached = record {
  dirty = λ q. ⊎_elim
      (λ (same : q.0 ≡ b.0).
      ap (λ (n : ℕ). blocks.newest (t.hist.blocks n)) same ∙ (ap blocks.newest after.own
      ∙ (newest-put (s.hist.blocks b.0) (Data bytes) ∙ sym (ap (option_map Data) (here b q (Some bytes) old new takes.seen same)))))
      (λ (other : q.0 ≢ b.0).
      ap blocks.newest (after.others q.0 other) ∙ (cached.dirty q ∙ sym (ap (option_map Data) (elsewhere b q (Some bytes) old new takes.seen other))))
      (cases_eq q.0 b.0);
  ages = ap names takes.dirty ∙ (names-put b bytes old.dirty ∙ (ap (with_address b.0) cached.ages ∙ sym after.order));
  below = λ q held found. ⊎_elim
      (λ (same : q.0 ≡ b.0). subst (λ (z : Size). q.0 < capacity_of z) (sym after.size) (subst (λ (n : ℕ). n < capacity s) (sym same) low))
      (λ (other : q.0 ≢ b.0).
      subst (λ (z : Size). q.0 < capacity_of z) (sym after.size) (cached.below q held (sym (elsewhere b q (Some bytes) old new takes.seen other) ∙ found)))
      (cases_eq q.0 b.0);
  known = λ q held found. ⊎_elim
      (λ (same : q.0 ≡ b.0).
      let is : newest q new ≡ Some bytes = here b q (Some bytes) old new takes.seen same in
      let data_is : bytes ≡ held = cc in
      let lba : ℕ → Lba = λ n. record { 0 = n } in
      let own : IsKnown t.entries t.since b (Data bytes) = inl (c, bytes, after.put, refl) in
      subst (λ (k : Lba). IsKnown t.entries t.since k (Data held)) (ap lba (sym same))
      (subst (λ (v : List ℕ). IsKnown t.entries t.since b (Data v)) data_is own))
      (λ (other : q.0 ≢ b.0). known_put s t c b q bytes (Data held) after (cached.known q held (sym (elsewhere b q (Some bytes) old new takes.seen other) ∙ found)))
      (cases_eq q.0 b.0);
  clean = λ q held found.
      let was = takes.clean q held found in
      let before : IsClean s q held = cached.clean q held was.1 in
      record {
        below = subst (λ (z : Size). q.0 < capacity_of z) (sym after.size) before.below;
        undirty = ap is_dirty (after.others q.0 (apart b q was.0)) ∙ before.undirty;
        known = known_put s t c b q bytes (Data held) after before.known;
        stored = λ none. (λ i. stored (after.map i) (after.ops i) q) ∙ before.stored (sym (ap strays after.ops) ∙ none);
      };
}

-- the cache after a put that went to the block's place
pub cached_through : (s t : Scene) (b : Lba) (bytes : List ℕ) (old new : Contents) → IsAfterHarden s t b bytes → LeavesOut b old new → IsCached s old → IsCached t new
cached_through s t b bytes old new after leaves cached = record {
  dirty = λ q. ⊎_elim
      (λ (same : q.0 ≡ b.0).
      ap (λ (n : ℕ). blocks.newest (t.hist.blocks n)) same ∙ (ap blocks.newest after.own ∙ sym (ap (option_map Data) (here b q None old new leaves.seen same))))
      (λ (other : q.0 ≢ b.0).
      ap blocks.newest (after.others q.0 other) ∙ (cached.dirty q ∙ sym (ap (option_map Data) (elsewhere b q None old new leaves.seen other))))
      (cases_eq q.0 b.0);
  ages = ap names leaves.dirty ∙ (keys_without b old.dirty (ap (lookup (is_at b)) (sym leaves.dirty) ∙ here b b None old new leaves.seen refl)
      ∙ (ap (without_address b.0) cached.ages ∙ sym after.order));
  below = λ q held found. ⊎_elim
      (λ (same : q.0 ≡ b.0). let none : newest q new ≡ None = here b q None old new leaves.seen same in absurd (cc))
      (λ (other : q.0 ≢ b.0).
      subst (λ (z : Size). q.0 < capacity_of z) (sym after.size) (cached.below q held (sym (elsewhere b q None old new leaves.seen other) ∙ found)))
      (cases_eq q.0 b.0);
  known = λ q held found. ⊎_elim
      (λ (same : q.0 ≡ b.0). let none : newest q new ≡ None = here b q None old new leaves.seen same in absurd (cc))
      (λ (other : q.0 ≢ b.0). known_then s t b q bytes (Data held) after (cached.known q held (sym (elsewhere b q None old new leaves.seen other) ∙ found)))
      (cases_eq q.0 b.0);
  clean = λ q held found.
      let was = leaves.clean q held found in
      clean_other s t b q bytes held after (λ (same : q ≡ b). apart b q was.0 (ap (λ (k : Lba). k.0) same)) (cached.clean q held was.1);
}

-- a block put and taken out again leaves the addresses of the others
pub without-with : (b : ℕ) (xs : List ℕ) → without_address b (with_address b xs) ≡ without_address b xs
without-with b xs = by (list_any (λ a. eqb a b) xs)
  where
    pushed : (ys : List ℕ) → filter (λ a. not (eqb a b)) (ys ++ b ∷ []) ≡ filter (λ a. not (eqb a b)) ys
    pushed [] = ap (λ (t : Bool). cond (not t) (b ∷ []) []) (eq-eqb b b refl)
    pushed (y ∷ ys) = ap (λ (zs : List ℕ). cond (not (eqb y b)) (y ∷ zs) zs) (pushed ys)

    by : (t : Bool) → filter (λ a. not (eqb a b)) (cond t xs (xs ++ b ∷ [])) ≡ filter (λ a. not (eqb a b)) xs
    by true = refl
    by false = pushed xs

length-names : (es : List (Lba × List ℕ)) → length (names es) ≡ length es
length-names [] = refl
length-names (e ∷ es) = ap suc (length-names es)

length-removed : (b : Lba) (es : List (Lba × List ℕ)) (v : List ℕ) → lookup (is_at b) es ≡ Some v → length (remove_entry (is_at b) es) + 1 ≡ length es
length-removed b [] v is = absurd (cc)
length-removed b (e ∷ es) v is = by (length-removed b es v) (is_at b e.0) is
  where
    by : (lookup (is_at b) es ≡ Some v → length (remove_entry (is_at b) es) + 1 ≡ length es) → (t : Bool) → cond t (Some e.1) (lookup (is_at b) es) ≡ Some v
        → length (cond t es (e ∷ remove_entry (is_at b) es)) + 1 ≡ length (e ∷ es)
    by rest true is = omega arith
    by rest false is = let shorter = rest is in omega arith

-- the dirty blocks as the turn begins are those of the cache
crowd : (s : Scene) (c : ℕ) (b : Lba) (cache : Contents) → IsCached s cache
    → is_crowded (begun s.hist (Work c)) c b.0 ≡ leb 64 (length (without_address b.0 (names cache.dirty)))
crowd s c b cache cached =
    let duty : Duty = record (s.hist.duties c) { dirty_then = s.hist.dirty } in
    ap (λ (d : Duty). leb 64 (length (without_address b.0 d.dirty_then))) (put_at-own c duty s.hist.duties)
    ∙ ap (λ (xs : List ℕ). leb 64 (length (without_address b.0 xs))) (sym cached.ages)

-- a cache without room for a block has 64 others
pub crowded : (s : Scene) (c : ℕ) (b : Lba) (cache : Contents) → IsCached s cache → IsFullFor b cache → is_crowded (begun s.hist (Work c)) c b.0 ≡ true
crowded s c b cache cached full =
    let others : without_address b.0 (names cache.dirty) ≡ names cache.dirty = keys_others b cache.dirty full.1 in
    crowd s c b cache cached
    ∙ le-leb 64 (length (without_address b.0 (names cache.dirty))) (omega (arith, ap length others, length-names cache.dirty, full.0))

-- one with room has fewer
pub uncrowded : (s : Scene) (c : ℕ) (b : Lba) (cache : Contents) → IsCached s cache → IsCache cache → SettlesOne → (IsFullFor b cache → ⊥)
    → is_crowded (begun s.hist (Work c)) c b.0 ≡ false
uncrowded s c b cache cached once settles room =
    crowd s c b cache cached ∙ lt-leb 64 (length (without_address b.0 (names cache.dirty))) (by (newest b cache) refl)
  where
    by : (o : Option (List ℕ)) → newest b cache ≡ o → length (without_address b.0 (names cache.dirty)) < 64
    by None none =
        let others : without_address b.0 (names cache.dirty) ≡ names cache.dirty = keys_others b cache.dirty none in
        let fit : length cache.dirty ≤ 64 = once.dirty_fit in
        let less : length cache.dirty ≢ 64 = λ all. room (all, none) in
        omega (arith, ap length others, length-names cache.dirty)
    by (Some v) some =
        let gone : lookup (is_at b) (remove_entry (is_at b) cache.dirty) ≡ None =
        settles b b cache once ∙ ap (λ (t : Bool). cond t None (newest b cache)) (eq-eqb b.0 b.0 refl) in
        let others : names (remove_entry (is_at b) cache.dirty) ≡ without_address b.0 (names cache.dirty) = keys_without b cache.dirty gone in
        let fit : length cache.dirty ≤ 64 = once.dirty_fit in
        omega (arith, ap length others, length-names (remove_entry (is_at b) cache.dirty), length-removed b cache.dirty v some)
