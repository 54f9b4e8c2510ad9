-- What settling and forgetting a block leave of a cache, block by block.
use Rattle.std.proofs.Common.{◌≡◌, ◌≢◌, ◌⊎◌, ℕ, Bool, true, false, cond, List, [], ◌∷◌, Option, Some, None, IfSome, refl, sym, ap, ◌∙◌, subst, inl, inr, ⊎_elim}
use Rattle.std.specs.Map.{lookup, remove_entry}
use Rattle.std.specs.Option.{option_map_or}
use Rattle.std.proofs.lemmas.Bool.{eq-eqb, ne_eqb, eqb-true}
use Rattle.disk_base.specs.declared.address.Lba.{Lba}
use Rattle.write_cache.specs.declared.cache.Look.TheVariants.{Dirty, Clean, Absent}
use Rattle.write_cache.specs.Contents.{Contents, IsCache, is_at, newest, clean_data, with_clean, without_dirty, without_clean, found_at, after_look}
use Rattle.write_cache.specs.Laws.{SettlesOne, ForgetsOne, KeepsOthers}
use Rattle.sector_store.specs.Caching.{LeavesOut, Settles}

-- a removal of what isn't there changes nothing
removed-none : {K X : Type 0} (test : K → Bool) (es : List (K × X)) → lookup test es ≡ None → remove_entry test es ≡ es
removed-none test [] none = refl
removed-none test (e ∷ es) none = (elim (test e.0) as (λ y. cond y (Some e.1) (lookup test es) ≡ None → cond y es (e ∷ remove_entry test es) ≡ e ∷ es) [
  | true ↦ λ none. absurd (cc)
  | false ↦ λ none. ap (λ rest. e ∷ rest) (removed-none test es none)
]) none

-- the cache after a block was settled: it isn't dirty, and others are clean as before
record IsSettled (b : Lba) (old mid : Contents) : Type 0 where
  dirty : mid.dirty ≡ remove_entry (is_at b) old.dirty
  clean : (q : Lba) (bytes : List ℕ) → is_at b q ≡ false → clean_data q mid ≡ Some bytes → clean_data q old ≡ Some bytes

settled : (b : Lba) (old mid : Contents) → KeepsOthers → IsCache old → (newest b old ≡ None → mid ≡ old)
    → IfSome (newest b old) (λ v. (mid ≡ with_clean b v (without_dirty b old)) ⊎ (mid ≡ without_dirty b old)) → IsSettled b old mid
settled b old mid keeps once not_dirty was = by (newest b old) refl was
  where
    by : (o : Option (List ℕ)) → newest b old ≡ o → IfSome o (λ v. (mid ≡ with_clean b v (without_dirty b old)) ⊎ (mid ≡ without_dirty b old)) → IsSettled b old mid
    by None none is =
        let same : mid ≡ old = not_dirty none in
        record {
          dirty = ap (λ (c : Contents). c.dirty) same ∙ sym (removed-none (is_at b) old.dirty none);
          clean = λ q bytes other found. subst (λ (c : Contents). clean_data q c ≡ Some bytes) same found;
        }
    by (Some v) some (inl kept) = record {
      dirty = ap (λ (c : Contents). c.dirty) kept;
      clean = λ q bytes other found. (keeps b v old once).1 q bytes other (subst (λ (c : Contents). clean_data q c ≡ Some bytes) kept found);
    }
    by (Some v) some (inr dropped) = record {
      dirty = ap (λ (c : Contents). c.dirty) dropped;
      clean = λ q bytes other found. subst (λ (c : Contents). clean_data q c ≡ Some bytes) dropped found;
    }

pub left_out : (b : Lba) (old mid new : Contents) → SettlesOne → ForgetsOne → KeepsOthers → IsCache old → IsCache mid → (newest b old ≡ None → mid ≡ old)
    → IfSome (newest b old) (λ v. (mid ≡ with_clean b v (without_dirty b old)) ⊎ (mid ≡ without_dirty b old))
    → new ≡ without_clean b mid → LeavesOut b old new
left_out b old mid new settles forgets keeps once mid_once not_dirty was is =
    let half = settled b old mid keeps once not_dirty was in
    let dirty : new.dirty ≡ remove_entry (is_at b) old.dirty = ap (λ (c : Contents). c.dirty) is ∙ half.dirty in
    record {
      dirty = dirty;
      seen = λ q. ap (lookup (is_at q)) dirty ∙ settles b q old once;
      clean = λ q bytes found. by q bytes (is_at b q) refl (sym (ap (clean_data q) is ∙ forgets b q mid mid_once) ∙ found);
    }
  where
    by : (q : Lba) (bytes : List ℕ) (t : Bool) → is_at b q ≡ t → cond t None (clean_data q mid) ≡ Some bytes → (is_at b q ≡ false) × (clean_data q old ≡ Some bytes)
    by q bytes true at found = absurd (cc)
    by q bytes false at found = (at, (settled b old mid keeps once not_dirty was).clean q bytes at found)

-- a test of addresses
same_address : (b q : Lba) → is_at b q ≡ true → q ≡ b
same_address b q same = let lba : ℕ → Lba = λ n. record { 0 = n } in sym (ap lba (eqb-true b.0 q.0 same))

other_address : (b q : Lba) → q ≢ b → is_at b q ≡ false
other_address b q other = ne_eqb b.0 q.0 (λ same. let lba : ℕ → Lba = λ n. record { 0 = n } in other (sym (ap lba same)))

kept_clean : (b q : Lba) (v held : List ℕ) (old : Contents) → IsCache old → KeepsOthers → clean_data q (with_clean b v old) ≡ Some held
    → (t : Bool) → is_at b q ≡ t → ((q ≡ b) × (held ≡ v)) ⊎ (clean_data q old ≡ Some held)
kept_clean b q v held old cache keeps found true same =
    let there : q ≡ b = same_address b q same in
    let own : clean_data b (with_clean b v old) ≡ Some v = (keeps b v old cache).0 in
    let both : Some held ≡ Some v = sym found ∙ (ap (λ (k : Lba). clean_data k (with_clean b v old)) there ∙ own) in
    inl (there, cc)
kept_clean b q v held old cache keeps found false other = inr ((keeps b v old cache).1 q held other found)

-- a block that was settled, told block by block
pub settles : (b : Lba) (v : List ℕ) (old new : Contents) → IsCache old → SettlesOne → KeepsOthers
    → (new ≡ with_clean b v (without_dirty b old)) ⊎ (new ≡ without_dirty b old) → Settles old b v new
settles b v old new cache settle keeps is =
    let P : Contents → Type 0 = λ c. Settles old b v c in
    let own : newest b (without_dirty b old) ≡ None = settle b b old cache ∙ ap (λ (t : Bool). cond t None (newest b old)) (eq-eqb b.0 b.0 refl) in
    let others : (q : Lba) → q ≢ b → newest q (without_dirty b old) ≡ newest q old =
    λ q other. settle b q old cache ∙ ap (λ (t : Bool). cond t None (newest q old)) (other_address b q other) in
    let with_it : P (with_clean b v (without_dirty b old)) = record {
      ages = refl;
      own = own;
      others = others;
      clean = λ q held found. kept_clean b q v held old cache keeps found (is_at b q) refl;
    } in
    let without_it : P (without_dirty b old) = record { ages = refl; own = own; others = others; clean = λ q held found. inr found } in
    ⊎_elim (λ e. subst P (sym e) with_it) (λ e. subst P (sym e) without_it) is

-- a dirty block isn't clean, so a look at it changes nothing
pub looked_at_dirty : (b : Lba) (v : List ℕ) (c : Contents) → IsCache c → newest b c ≡ Some v → after_look b c ≡ c
looked_at_dirty b v c cache dirty =
    let apart : clean_data b c ≡ None = cache.apart b (rw dirty refl) in
    ap (λ o. option_map_or (λ w. with_clean b w c) o c) apart

-- a look that finds dirty data finds the newest
pub found_dirty : (b : Lba) (v w : List ℕ) (c : Contents) → found_at b c ≡ Dirty v → newest b c ≡ Some w → v ≡ w
found_dirty b v w c found is =
    let both : Dirty v ≡ Dirty w = sym found ∙ ap (λ o. option_map_or Dirty o (option_map_or Clean (clean_data b c) Absent)) is in
    cc

-- what holds of what is there
pub if_some : {X : Type 0} (P : X → Type 0) (o : Option X) (x : X) → o ≡ Some x → IfSome o P → P x
if_some P o x is holds = let moved : IfSome (Some x) P = subst (λ p. IfSome p P) is holds in moved
