-- What holds of every cache is kept by each change.
use Rattle.std.proofs.Common.{◌≡◌, ℕ, ◌≤◌, Bool, true, false, cond, List, [], ◌∷◌, ◌++◌, length, Option, Some, None, IsSome, refl, sym, subst, ◌∙◌, arith, length-append}
use Rattle.std.proofs.lemmas.List.{length-take}
use Rattle.std.specs.List.{IsDistinct}
use Rattle.std.specs.Map.{lookup, remove_entry, set_value}
use Rattle.std.specs.Option.{option_map_or}
use Rattle.std.proofs.lemmas.Map.{lookup-set_value, keys-set_value, length-set_value}
use Rattle.lru.specs.LruCache.{promoted}
use Rattle.disk_base.specs.declared.address.Lba.{Lba}
use Rattle.write_cache.specs.Contents.{Contents, IsCache, IsFullFor, empty, newest, clean_data, is_at, with_newest, with_clean, without_dirty, without_clean, after_look, dirty_room}
use Rattle.write_cache.proofs.Addresses.{is_at_laws, same_address}
use Rattle.write_cache.proofs.Front.{looked}
use Rattle.write_cache.proofs.Halves.{IsDistinct-remove_entry, length-remove_entry-le, lookup-without, lookup-without_same, IsDistinct-front, lookup-front, lookup-push, IsDistinct-keys_push}

-- of a cache that holds nothing
pub IsCache-empty : IsCache empty
unfolding IsDistinct
IsCache-empty = record { dirty_fit = omega arith; clean_fit = omega arith; dirty_once = tt; clean_once = tt; apart = λ b h. refl }

-- of a cache with a block less among the clean ones
pub IsCache-without_clean : (b : Lba) (c : Contents) → IsCache c → IsCache (without_clean b c)
IsCache-without_clean b c s = let shorter = length-remove_entry-le (is_at b) c.clean in let fit = s.clean_fit in record {
  dirty_fit = s.dirty_fit;
  clean_fit = omega arith;
  dirty_once = s.dirty_once;
  clean_once = IsDistinct-remove_entry is_at (is_at b) c.clean s.clean_once;
  apart = λ q dirty. lookup-without is_at is_at_laws b q c.clean s.clean_once ∙ nothing (is_at b q) (clean_data q c) (s.apart q dirty);
}
  where
    nothing : (t : Bool) (o : Option (List ℕ)) → o ≡ None → cond t None o ≡ None
    nothing true o none = refl
    nothing false o none = none

-- of a cache with a block less among the dirty ones
pub IsCache-without_dirty : (b : Lba) (c : Contents) → IsCache c → IsCache (without_dirty b c)
IsCache-without_dirty b c s = let shorter = length-remove_entry-le (is_at b) c.dirty in let fit = s.dirty_fit in record {
  dirty_fit = omega arith;
  clean_fit = s.clean_fit;
  dirty_once = IsDistinct-remove_entry is_at (is_at b) c.dirty s.dirty_once;
  clean_once = s.clean_once;
  apart = λ q dirty. s.apart q (was (is_at b q) (newest q c) (subst IsSome (lookup-without is_at is_at_laws b q c.dirty s.dirty_once) dirty));
}
  where
    was : (t : Bool) (o : Option (List ℕ)) → IsSome (cond t None o) → IsSome o
    was true o some = cc
    was false o some = some

-- a block that was taken out isn't dirty
pub gone-without_dirty : (b : Lba) (c : Contents) → IsCache c → newest b (without_dirty b c) ≡ None
gone-without_dirty b c s = lookup-without_same is_at is_at_laws b c.dirty s.dirty_once

-- of a cache in which a block that isn't dirty is kept clean
pub IsCache-with_clean : (b : Lba) (v : List ℕ) (c : Contents) → IsCache c → newest b c ≡ None → IsCache (with_clean b v c)
IsCache-with_clean b v c s none = let long = length-take 63 (remove_entry (is_at b) c.clean) in record {
  dirty_fit = s.dirty_fit;
  clean_fit = omega arith;
  dirty_once = s.dirty_once;
  clean_once = IsDistinct-front is_at is_at_laws b 63 c.clean s.clean_once;
  apart = λ q dirty. lookup-front is_at is_at_laws b q v 63 c.clean (another q dirty (is_at q b) refl) (s.apart q dirty);
}
  where
    another : (q : Lba) → IsSome (newest q c) → (t : Bool) → is_at q b ≡ t → is_at q b ≡ false
    another q dirty true same = let some : IsSome {T = List ℕ} None = subst IsSome none (subst (λ k. IsSome (newest k c)) (same_address q b same) dirty) in cc
    another q dirty false other = other

-- of a cache after a look at a block that isn't dirty
IsCache-after_look : (b : Lba) (c : Contents) → IsCache c → newest b c ≡ None → IsCache (after_look b c)
IsCache-after_look b c s none = elim (clean_data b c) as (λ o. IsCache (option_map_or (λ v. with_clean b v c) o c)) [
  | None ↦ s
  | Some v ↦ IsCache-with_clean b v c s none
]

-- the same in the library's words
pub IsCache-promoted : (b : Lba) (c : Contents) → IsCache c → newest b c ≡ None → IsCache (record { dirty = c.dirty; clean = promoted (is_at b) c.clean })
IsCache-promoted b c s none = subst IsCache (sym (looked b c s.clean_fit)) (IsCache-after_look b c s none)

-- of a cache after a put that found room
pub IsCache-with_newest : (b : Lba) (v : List ℕ) (c : Contents) → IsCache c → (IsFullFor b c → ⊥) → IsCache (with_newest b v c)
IsCache-with_newest b v c s room = (elim (newest b c) as (λ o. newest b c ≡ o → IsCache (record { dirty = option_map_or (λ _. set_value (is_at b) c.dirty v) o (c.dirty ++ (b, v) ∷ []); clean = remove_entry (is_at b) c.clean })) [
  | None ↦ λ none. let fit = s.dirty_fit in let free : length c.dirty ≡ dirty_room → ⊥ = λ full. room (full, none) in let long = length-append c.dirty ((b, v) ∷ []) in
      let kept = IsCache-without_clean b c s in record {
        dirty_fit = omega arith;
        clean_fit = kept.clean_fit;
        dirty_once = IsDistinct-keys_push is_at is_at_laws b v c.dirty s.dirty_once none;
        clean_once = kept.clean_once;
        apart = λ q dirty. apart q (is_at b q) refl (λ other. subst IsSome (lookup-push (is_at q) c.dirty (b, v) (is_at_laws.symm q b ∙ other)) dirty);
      }
  | Some w ↦ λ some. let kept = IsCache-without_clean b c s in let there : IsSome (newest b c) = subst IsSome (sym some) refl in record {
    dirty_fit = subst (λ n. n ≤ dirty_room) (sym (length-set_value (is_at b) c.dirty v)) s.dirty_fit;
    clean_fit = kept.clean_fit;
    dirty_once = subst (IsDistinct is_at) (sym (keys-set_value (is_at b) c.dirty v)) s.dirty_once;
    clean_once = kept.clean_once;
    apart = λ q dirty. apart q (is_at b q) refl (λ other. subst IsSome (lookup-set_value is_at_laws (is_at b) (λ x y passes. is_at_laws.congr b x y passes) q v c.dirty there ∙ (rw other)) dirty);
  }
]) refl
  where
    -- b isn't clean any more, and of another block nothing changed
    apart : (q : Lba) (t : Bool) → is_at b q ≡ t → (is_at b q ≡ false → IsSome (newest q c)) → lookup (is_at q) (remove_entry (is_at b) c.clean) ≡ None
    apart q true same was = lookup-without is_at is_at_laws b q c.clean s.clean_once ∙ (rw same)
    apart q false other was = lookup-without is_at is_at_laws b q c.clean s.clean_once ∙ (rw other (s.apart q (was other)))
