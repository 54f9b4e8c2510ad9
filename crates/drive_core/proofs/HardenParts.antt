-- The parts of a drive after a block was hardened.
use Rattle.std.proofs.Common.{◌≡◌, ◌≢◌, ◌⊎◌, ℕ, ◌<◌, Bool, true, false, not, cond, eqb, List, [], ◌∷◌, ◌++◌, Some, None, refl, sym, ap, ◌∙◌, subst, ⊎_elim, inl, inr}
use Rattle.std.specs.Prelude.{map, filter}
use Rattle.std.specs.Map.{keys_of, lookup, remove_entry}
use Rattle.std.specs.Option.{option_map}
use Rattle.std.proofs.lemmas.Bool.{cases_eq, eqb-true, eq-eqb, ne_eqb}
use Rattle.disk_base.specs.declared.address.Lba.{Lba}
use Rattle.disk_base.specs.declared.block.Value.{Value}
use Rattle.disk_base.specs.declared.block.Value.TheVariants.{Data}
use Rattle.platter_model.specs.declared.op.Op.{Op}
use Rattle.platter_model.specs.TrueLog.{strays}
use Rattle.geometry_map.specs.Size.{capacity_of}
use Rattle.sector_store.specs.Stored.{stored}
use Rattle.write_cache.specs.Contents.{Contents, is_at, newest}
use Rattle.block_machine.specs.declared.entry.Entry.{Entry}
use Rattle.block_machine.specs.Blocks.{is_dirty, after_harden, hardened_with, without_address}
use Rattle.block_machine.specs.Blocks as blocks
use Rattle.block_machine.proofs.Booleans.{true_not_false}
use Rattle.drive_scene.specs.Scene.{Scene, capacity}
use Rattle.drive_scene.specs.Evidence.{IsKnown}
use Rattle.drive_core.specs.Fits.{IsClean, IsCached}
use Rattle.sector_store.specs.Caching.{Settles}
use Rattle.drive_core.proofs.Parts.{known-more}
use Rattle.geometry_map.specs.declared.size.Size.{Size}

-- a scene after another in which a block came to the medium with these data
pub record IsAfterHarden (s t : Scene) (b : Lba) (bytes : List ℕ) : Type 0 where
  pub size : t.size ≡ s.size
  pub map : t.map ≡ s.map
  pub own : t.hist.blocks b.0 ≡ hardened_with (Data bytes)
  pub others : (q : ℕ) → q ≢ b.0 → t.hist.blocks q ≡ s.hist.blocks q
  pub order : t.hist.dirty ≡ without_address b.0 s.hist.dirty
  pub more_entries : List Entry
  pub entries : t.entries ≡ s.entries ++ more_entries
  pub more_ops : List Op
  pub since : t.since ≡ s.since ++ more_ops
  pub unstrayed : strays t.ops ≡ 0 → strays s.ops ≡ 0
  pub stores : stored t.map t.ops b ≡ Data bytes
  pub keeps : (q : Lba) → q.0 < capacity s → q ≢ b → stored t.map t.ops q ≡ stored s.map s.ops q

pub other_number : (b q : Lba) → q ≢ b → q.0 ≢ b.0
other_number b q other same = other (λ i. record { 0 = same i })

pub known_then : (s t : Scene) (b q : Lba) (bytes : List ℕ) (v : Value) → IsAfterHarden s t b bytes → IsKnown s.entries s.since q v → IsKnown t.entries t.since q v
known_then s t b q bytes v after known =
    let P : List Entry → List Op → Type 0 = λ es os. IsKnown es os q v in
    subst (λ (os : List Op). P t.entries os) (sym after.since) (subst (λ (es : List Entry). P es (s.since ++ after.more_ops)) (sym after.entries)
    (known-more s.entries after.more_entries s.since after.more_ops q v known))

-- a test of addresses, either way round
pub same_test : (b k : Lba) (t : Bool) → is_at b k ≡ t → eqb k.0 b.0 ≡ t
same_test b k true is = eq-eqb k.0 b.0 (sym (eqb-true b.0 k.0 is))
same_test b k false is = ne_eqb k.0 b.0 (λ same. true_not_false (eq-eqb b.0 k.0 (sym same)) is)

-- no key is that of a block which isn't there
pub keys_others : (b : Lba) (es : List (Lba × List ℕ)) → lookup (is_at b) es ≡ None
    → filter (λ a. not (eqb a b.0)) (map (λ (k : Lba). k.0) (keys_of es)) ≡ map (λ (k : Lba). k.0) (keys_of es)
keys_others b [] none = refl
keys_others b (e ∷ es) none = by (keys_others b es) (is_at b e.0) refl none
  where
    by : (lookup (is_at b) es ≡ None → filter (λ a. not (eqb a b.0)) (map (λ (k : Lba). k.0) (keys_of es)) ≡ map (λ (k : Lba). k.0) (keys_of es))
        → (t : Bool) → is_at b e.0 ≡ t → cond t (Some e.1) (lookup (is_at b) es) ≡ None
        → cond (not (eqb e.0.0 b.0)) (e.0.0 ∷ filter (λ a. not (eqb a b.0)) (map (λ (k : Lba). k.0) (keys_of es))) (filter (λ a. not (eqb a b.0)) (map (λ (k : Lba). k.0) (keys_of es)))
        ≡ e.0.0 ∷ map (λ (k : Lba). k.0) (keys_of es)
    by rest true is there = absurd (cc)
    by rest false is there = rw (same_test b e.0 false is) (ap (λ (xs : List ℕ). e.0.0 ∷ xs) (rest there))

-- the entry of a key taken out, where it stands once
pub keys_without : (b : Lba) (es : List (Lba × List ℕ)) → lookup (is_at b) (remove_entry (is_at b) es) ≡ None
    → map (λ (k : Lba). k.0) (keys_of (remove_entry (is_at b) es)) ≡ filter (λ a. not (eqb a b.0)) (map (λ (k : Lba). k.0) (keys_of es))
keys_without b [] none = refl
keys_without b (e ∷ es) none = by (keys_without b es) (is_at b e.0) refl none
  where
    by : (lookup (is_at b) (remove_entry (is_at b) es) ≡ None
        → map (λ (k : Lba). k.0) (keys_of (remove_entry (is_at b) es)) ≡ filter (λ a. not (eqb a b.0)) (map (λ (k : Lba). k.0) (keys_of es)))
        → (t : Bool) → is_at b e.0 ≡ t → lookup (is_at b) (cond t es (e ∷ remove_entry (is_at b) es)) ≡ None
        → map (λ (k : Lba). k.0) (keys_of (cond t es (e ∷ remove_entry (is_at b) es)))
        ≡ cond (not (eqb e.0.0 b.0)) (e.0.0 ∷ filter (λ a. not (eqb a b.0)) (map (λ (k : Lba). k.0) (keys_of es))) (filter (λ a. not (eqb a b.0)) (map (λ (k : Lba). k.0) (keys_of es)))
    by rest true is gone = rw (same_test b e.0 true is) (sym (keys_others b es gone))
    by rest false is gone = rw (same_test b e.0 false is) (ap (λ (xs : List ℕ). e.0.0 ∷ xs) (rest (rw is at gone)))

-- a block that is clean then: this one, or one that was
clean_own : (s t : Scene) (b : Lba) (bytes : List ℕ) → IsAfterHarden s t b bytes → b.0 < capacity s → IsKnown s.entries s.since b (Data bytes) → IsClean t b bytes
clean_own s t b bytes after below known = record {
  below = subst (λ (z : Size). b.0 < capacity_of z) (sym after.size) below;
  undirty = ap is_dirty after.own;
  known = known_then s t b b bytes (Data bytes) after known;
  stored = λ none. after.stores;
}

pub clean_other : (s t : Scene) (b q : Lba) (bytes held : List ℕ) → IsAfterHarden s t b bytes → q ≢ b → IsClean s q held → IsClean t q held
clean_other s t b q bytes held after other clean = record {
  below = subst (λ (z : Size). q.0 < capacity_of z) (sym after.size) clean.below;
  undirty = ap is_dirty (after.others q.0 (other_number b q other)) ∙ clean.undirty;
  known = known_then s t b q bytes (Data held) after clean.known;
  stored = λ none. after.keeps q clean.below other ∙ clean.stored (after.unstrayed none);
}

clean_then : (s t : Scene) (b q : Lba) (bytes held : List ℕ) → IsAfterHarden s t b bytes → b.0 < capacity s → IsKnown s.entries s.since b (Data bytes)
    → is_dirty (s.hist.blocks b.0) ≡ true → ((q ≡ b) × (held ≡ bytes)) ⊎ (IsClean s q held) → IsClean t q held
clean_then s t b q bytes held after below known dirty is =
    let own = clean_own s t b bytes after below known in
    ⊎_elim
    (λ both. subst (λ (k : Lba). IsClean t k held) (sym both.0) (subst (λ (v : List ℕ). IsClean t b v) (sym both.1) own))
    (λ clean. clean_other s t b q bytes held after (λ same. true_not_false (ap (λ (k : Lba). is_dirty (s.hist.blocks k.0)) same ∙ dirty) clean.undirty) clean)
    is

-- the cache after the block was settled
pub cached_hardened : (s t : Scene) (b : Lba) (bytes : List ℕ) (old new : Contents) → IsAfterHarden s t b bytes → b.0 < capacity s → is_dirty (s.hist.blocks b.0) ≡ true
    → newest b old ≡ Some bytes → Settles old b bytes new → IsCached s old → IsCached t new
cached_hardened s t b bytes old new after below dirty is settled cached =
    let lba : ℕ → Lba = λ n. record { 0 = n } in
    record {
      dirty = λ q. ⊎_elim
          (λ (same : q.0 ≡ b.0).
          let here : blocks.newest (t.hist.blocks b.0) ≡ option_map Data (newest b new) =
          ap blocks.newest after.own ∙ sym (ap (option_map Data) settled.own) in
          subst (λ (k : Lba). blocks.newest (t.hist.blocks k.0) ≡ option_map Data (newest k new)) (ap lba (sym same)) here)
          (λ (other : q.0 ≢ b.0).
          ap blocks.newest (after.others q.0 other) ∙ (cached.dirty q ∙ sym (ap (option_map Data) (settled.others q (λ same. other (ap (λ (k : Lba). k.0) same))))))
          (cases_eq q.0 b.0);
      ages = ap (λ es. map (λ (k : Lba). k.0) (keys_of es)) settled.ages
          ∙ (keys_without b old.dirty (ap (λ es. lookup (is_at b) es) (sym settled.ages) ∙ settled.own) ∙ (ap (without_address b.0) cached.ages ∙ sym after.order));
      below = λ q held found. ⊎_elim
          (λ (same : q.0 ≡ b.0).
          let none : newest q new ≡ None = ap (λ (n : ℕ). newest (record { 0 = n }) new) same ∙ settled.own in
          absurd (cc))
          (λ (other : q.0 ≢ b.0).
          subst (λ (z : Size). q.0 < capacity_of z) (sym after.size)
          (cached.below q held (sym (settled.others q (λ same. other (ap (λ (k : Lba). k.0) same))) ∙ found)))
          (cases_eq q.0 b.0);
      known = λ q held found. ⊎_elim
          (λ (same : q.0 ≡ b.0).
          let none : newest q new ≡ None = ap (λ (n : ℕ). newest (record { 0 = n }) new) same ∙ settled.own in
          absurd (cc))
          (λ (other : q.0 ≢ b.0).
          known_then s t b q bytes (Data held) after (cached.known q held (sym (settled.others q (λ same. other (ap (λ (k : Lba). k.0) same))) ∙ found)))
          (cases_eq q.0 b.0);
      clean = λ q held found. clean_then s t b q bytes held after below (cached.known b bytes is) dirty
          (⊎_elim (λ both. inl both) (λ was. inr (cached.clean q held was)) (settled.clean q held found));
    }
