-- Parts of a drive that a turn which changes no newest value leaves fitting.
use Rattle.std.proofs.Common.{◌≡◌, ℕ, ◌<◌, true, false, List, [], ◌++◌, Option, Some, None, refl, sym, ap, ◌∙◌, subst, ⊎_elim, inl, inr, append-nil}
use Rattle.std.specs.Option.{option_map_or}
use Rattle.std.proofs.lemmas.Bool.{eqb-true, cases_Bool}
use Rattle.std.proofs.lemmas.List.Elements.{Contains-append_left}
use Rattle.std.proofs.lemmas.List.Sums.{fold-append}
use Rattle.disk_base.specs.declared.address.Lba.{Lba}
use Rattle.disk_base.specs.declared.address.Psn.{Psn}
use Rattle.disk_base.specs.declared.block.Value.{Value}
use Rattle.disk_base.specs.declared.block.Value.TheVariants.{Data}
use Rattle.disk_base.specs.declared.payload.Payload.{Payload}
use Rattle.disk_base.specs.declared.stage.Stage.{Stage}
use Rattle.platter_model.specs.declared.op.Op.{Op}
use Rattle.platter_model.specs.declared.op.Op.TheVariants.{Tried}
use Rattle.platter_model.specs.Sector.{is_faulty, faulty_after}
use Rattle.platter_model.specs.TrueLog.{supply_after, powered, is_unpowered, is_off, strays}
use Rattle.geometry_map.specs.Size.{capacity_of}
use Rattle.write_cache.specs.Contents.{Contents, IsCache, is_at, clean_data, with_clean, after_look}
use Rattle.write_cache.specs.Laws.{KeepsOthers}
use Rattle.sector_store.specs.Shapes.{try_of}
use Rattle.sector_store.specs.Stored.{stored}
use Rattle.block_machine.specs.declared.entry.Entry.{Entry}
use Rattle.block_machine.specs.declared.entry.Entry.TheVariants.{Put}
use Rattle.block_machine.specs.Blocks.{Blocks, is_dirty}
use Rattle.block_machine.specs.Blocks as blocks
use Rattle.drive_scene.specs.Scene.{Scene}
use Rattle.drive_scene.specs.Evidence.{IsKnown}
use Rattle.drive_core.specs.Fits.{IsClean, IsCached}
use Rattle.geometry_map.specs.declared.size.Size.{Size}

-- a scene after another whose blocks keep their newest values and what is stored
pub record IsGotOnly (s t : Scene) : Type 0 where
  pub size : t.size ≡ s.size
  pub map : t.map ≡ s.map
  pub newest : (n : ℕ) → blocks.newest (t.hist.blocks n) ≡ blocks.newest (s.hist.blocks n)
  pub dirty : (n : ℕ) → is_dirty (t.hist.blocks n) ≡ is_dirty (s.hist.blocks n)
  pub order : t.hist.dirty ≡ s.hist.dirty
  pub more_entries : List Entry
  pub entries : t.entries ≡ s.entries ++ more_entries
  pub more_ops : List Op
  pub since : t.since ≡ s.since ++ more_ops
  pub unstrayed : strays t.ops ≡ 0 → strays s.ops ≡ 0
  pub kept : (q : Lba) → stored t.map t.ops q ≡ stored s.map s.ops q

-- what is known stays known
pub known-more : (entries more : List Entry) (since ops : List Op) (b : Lba) (v : Value) → IsKnown entries since b v → IsKnown (entries ++ more) (since ++ ops) b v
known-more entries more since ops b v known =
    ⊎_elim (λ put. inl (put.0, put.1, Contains-append_left entries more (Put put.0 b put.1) put.2, put.3))
    (λ tried. inr (tried.0, tried.1, tried.2, tried.3, Contains-append_left since ops (Tried tried.0 tried.1 tried.2 (Some tried.3)) tried.4, tried.5)) known

pub known_got : (s t : Scene) (b : Lba) (v : Value) → IsGotOnly s t → IsKnown s.entries s.since b v → IsKnown t.entries t.since b v
known_got s t b v got known =
    let P : List Entry → List Op → Type 0 = λ es os. IsKnown es os b v in
    subst (λ (os : List Op). P t.entries os) (sym got.since) (subst (λ (es : List Entry). P es (s.since ++ got.more_ops)) (sym got.entries)
    (known-more s.entries got.more_entries s.since got.more_ops b v known))

pub clean_got : (s t : Scene) (b : Lba) (bytes : List ℕ) → IsGotOnly s t → IsClean s b bytes → IsClean t b bytes
clean_got s t b bytes got clean = record {
  below = subst (λ (z : Size). b.0 < capacity_of z) (sym got.size) clean.below;
  undirty = got.dirty b.0 ∙ clean.undirty;
  known = known_got s t b (Data bytes) got clean.known;
  stored = λ none. got.kept b ∙ clean.stored (got.unstrayed none);
}

pub cached_got : (s t : Scene) (cache : Contents) → IsGotOnly s t → IsCached s cache → IsCached t cache
cached_got s t cache got cached = record {
  dirty = λ b. got.newest b.0 ∙ cached.dirty b;
  ages = cached.ages ∙ sym got.order;
  below = λ b bytes is. subst (λ (z : Size). b.0 < capacity_of z) (sym got.size) (cached.below b bytes is);
  known = λ b bytes is. known_got s t b (Data bytes) got (cached.known b bytes is);
  clean = λ b bytes is. clean_got s t b bytes got (cached.clean b bytes is);
}

-- one block more is kept clean
pub cached_keep : (t : Scene) (cache : Contents) (b : Lba) (bytes : List ℕ) → KeepsOthers → IsCache cache → IsCached t cache → IsClean t b bytes
    → IsCached t (with_clean b bytes cache)
cached_keep t cache b bytes law once cached clean = record {
  dirty = cached.dirty;
  ages = cached.ages;
  below = cached.below;
  known = cached.known;
  clean = λ q w is. ⊎_elim
      (λ (same : is_at b q ≡ true).
      let one : b ≡ q = λ i. record { 0 = eqb-true b.0 q.0 same i } in
      let there : clean_data q (with_clean b bytes cache) ≡ Some bytes =
      subst (λ (x : Lba). clean_data x (with_clean b bytes cache) ≡ Some bytes) one (law b bytes cache once).0 in
      let value : bytes ≡ w = cc in
      subst (λ (x : Lba). IsClean t x w) one (subst (λ (ys : List ℕ). IsClean t b ys) value clean))
      (λ (other : is_at b q ≡ false). cached.clean q w ((law b bytes cache once).1 q w other is))
      (cases_Bool (is_at b q));
}

pub cached_look : (t : Scene) (cache : Contents) (b : Lba) → KeepsOthers → IsCache cache → IsCached t cache → IsCached t (after_look b cache)
cached_look t cache b law once cached = by (clean_data b cache) refl
  where
    by : (o : Option (List ℕ)) → clean_data b cache ≡ o → IsCached t (option_map_or (λ v. with_clean b v cache) o cache)
    by None is = cached
    by (Some v) is = cached_keep t cache b v law once cached (cached.clean b v is)

-- a try leaves the power as it was
pub is_off-try : (ops : List Op) (before : ℕ) (p : Psn) (stage : Stage) (found : Option Payload) → is_off (ops ++ try_of before p stage found) ≡ is_off ops
is_off-try ops before p stage found = ap is_unpowered (fold-append supply_after powered ops (try_of before p stage found))

-- nor does it make a write fault
pub faults-try : (ops : List Op) (before : ℕ) (p : Psn) (stage : Stage) (found : Option Payload) (q : Psn)
    → is_faulty q (ops ++ try_of before p stage found) ≡ is_faulty q ops
faults-try ops before p stage found q = fold-append (faulty_after q) false ops (try_of before p stage found)

-- a scene after a turn without operations that changes no block
pub quiet_got : (s t : Scene) (more : List Entry) → t.size ≡ s.size → t.map ≡ s.map → t.ops ≡ s.ops ++ [] → t.since ≡ s.since ++ [] → t.entries ≡ s.entries ++ more
    → t.hist.dirty ≡ s.hist.dirty → t.hist.blocks ≡ s.hist.blocks → IsGotOnly s t
quiet_got s t more size_is map_is ops_is since_is entries_is order blocks_are = record {
  size = size_is;
  map = map_is;
  newest = λ n. ap (λ (bs : Blocks). blocks.newest (bs n)) blocks_are;
  dirty = λ n. ap (λ (bs : Blocks). is_dirty (bs n)) blocks_are;
  order = order;
  more_entries = more;
  entries = entries_is;
  more_ops = [];
  since = since_is;
  unstrayed = λ none. ap strays (sym (append-nil s.ops)) ∙ (ap strays (sym ops_is) ∙ none);
  kept = λ b. λ i. stored (map_is i) ((ops_is ∙ append-nil s.ops) i) b;
}
