-- What a use of a clean block does to the order, in the words of the library that keeps it and in ours.
use Rattle.std.proofs.Common.{◌≡◌, ℕ, suc, ◌-◌, ◌≤◌, ◌⊎◌, Bool, true, false, cond, List, [], ◌∷◌, length, take, Option, Some, None, Result, Ok, Err, IsSome, IsOk, OnOk, OnErr, refl, sym, ap, ◌∙◌, inl, inr, arith}
use Rattle.std.proofs.lemmas.List.{take_all}
use Rattle.std.specs.Map.{lookup, lookup_entry, remove_entry}
use Rattle.std.specs.Option.{option_map, option_map_or}
use Rattle.lru.specs.LruCache.{LruCache, lru_cache, promoted, put_entries}
use Rattle.lru.proofs.CallerLemmas.{Contains-lookup_entry}
use Rattle.disk_base.specs.declared.address.Lba.{Lba}
use Rattle.write_cache.specs.Contents.{Contents, is_at, in_front, clean_room, clean_data, with_clean, after_look}
use Rattle.write_cache.proofs.Addresses.{same_address}
use Rattle.write_cache.proofs.Halves.{remove_entry-none, length-remove_entry}

-- the value found is that of the entry found
lookup-lookup_entry : {K X : Type 0} (test : K → Bool) (es : List (K × X)) → lookup test es ≡ option_map (λ (e : K × X). e.1) (lookup_entry test es)
lookup-lookup_entry test [] = refl
lookup-lookup_entry {K} {X} test (e ∷ es) = elim (test e.0) as (λ y. cond y (Some e.1) (lookup test es) ≡ option_map (λ (f : K × X). f.1) (cond y (Some e) (lookup_entry test es))) [
  | true ↦ refl
  | false ↦ lookup-lookup_entry test es
]

-- the entry of b, which is there, goes in front of the others, and all of them stay
entry-front : (b : Lba) (v : List ℕ) (es : List (Lba × List ℕ)) (e : Lba × List ℕ) → length es ≤ clean_room → lookup_entry (is_at b) es ≡ Some e → ◌≡◌ {A = List (Lba × List ℕ)} ((e.0, v) ∷ remove_entry (is_at b) es) (in_front b v es)
entry-front b v es e fit some =
    let same : b ≡ e.0 = same_address b e.0 (Contains-lookup_entry (is_at b) es e some).1 in
    let shorter : suc (length (remove_entry (is_at b) es)) ≡ length es = length-remove_entry (is_at b) es e some in
    let all : take 63 (remove_entry (is_at b) es) ≡ remove_entry (is_at b) es = take_all 63 (remove_entry (is_at b) es) (omega arith) in
    ap (λ (k : Lba). (k, v) ∷ remove_entry (is_at b) es) (sym same) ∙ ap (λ (rest : List (Lba × List ℕ)). (b, v) ∷ rest) (sym all)

-- what a put does to the order
put_entries-front : (b : Lba) (v : List ℕ) (c : LruCache Lba (List ℕ)) → c.cap ≡ clean_room → length c.entries ≤ clean_room → put_entries is_at c b v ≡ in_front b v c.entries
put_entries-front b v c room fit = (elim (lookup_entry (is_at b) c.entries) as (λ o. lookup_entry (is_at b) c.entries ≡ o → option_map_or (λ e. (e.0, v) ∷ remove_entry (is_at b) c.entries) o ((b, v) ∷ take (c.cap - 1) c.entries) ≡ in_front b v c.entries) [
  | None ↦ λ none.
      let absent : lookup (is_at b) c.entries ≡ None = lookup-lookup_entry (is_at b) c.entries ∙ ap (option_map (λ (e : Lba × List ℕ). e.1)) none in
      rw (room, remove_entry-none (is_at b) c.entries absent)
  | Some e ↦ λ some. entry-front b v c.entries e fit some
]) refl

-- what a look does to the order
promoted-front : (b : Lba) (es : List (Lba × List ℕ)) → length es ≤ clean_room → promoted (is_at b) es ≡ option_map_or (λ v. in_front b v es) (lookup (is_at b) es) es
promoted-front b es fit = rw (lookup-lookup_entry (is_at b) es) ((elim (lookup_entry (is_at b) es) as (λ o. lookup_entry (is_at b) es ≡ o → option_map_or (λ e. e ∷ remove_entry (is_at b) es) o es ≡ option_map_or (λ v. in_front b v es) (option_map (λ (e : Lba × List ℕ). e.1) o) es) [
  | None ↦ λ none. refl
  | Some e ↦ λ some. entry-front b e.1 es e fit some
]) refl)

-- what is never there is not there
absent : {X : Type 0} (o : Option X) → (IsSome o → ⊥) → o ≡ None
absent None never = refl
absent (Some x) never = absurd (never refl)

-- a look at a block of a cache makes a clean one the most recent
pub looked : (b : Lba) (c : Contents) → length c.clean ≤ clean_room → ◌≡◌ {A = Contents} (record { dirty = c.dirty; clean = promoted (is_at b) c.clean }) (after_look b c)
looked b c fit = ap (λ (es : List (Lba × List ℕ)). let held : Contents = record { dirty = c.dirty; clean = es } in held) (promoted-front b c.clean fit) ∙ inside (clean_data b c)
  where
    inside : (o : Option (List ℕ)) → ◌≡◌ {A = Contents} (record { dirty = c.dirty; clean = option_map_or (λ v. in_front b v c.clean) o c.clean }) (option_map_or (λ v. with_clean b v c) o c)
    inside None = refl
    inside (Some v) = refl

-- a put that finds memory puts b in front; one that doesn't changes nothing, and b wasn't there
pub kept_or_refused : {V E : Type 0} (r : Result V E) (b : Lba) (v : List ℕ) (c new : LruCache Lba (List ℕ)) → c.cap ≡ clean_room → length c.entries ≤ clean_room
    → OnOk r (new ≡ lru_cache (put_entries is_at c b v) c.cap) → OnErr r (new ≡ c) → (IsSome (lookup (is_at b) c.entries) → IsOk r)
    → (new.entries ≡ in_front b v c.entries) ⊎ ((new.entries ≡ c.entries) × (lookup (is_at b) c.entries ≡ None))
kept_or_refused (Ok old) b v c new room fit ok err succeeds = inl (ap (λ (l : LruCache Lba (List ℕ)). l.entries) ok ∙ put_entries-front b v c room fit)
kept_or_refused (Err e) b v c new room fit ok err succeeds = inr (ap (λ (l : LruCache Lba (List ℕ)). l.entries) err, absent (lookup (is_at b) c.entries) (λ there. let ok = succeeds there in cc))
