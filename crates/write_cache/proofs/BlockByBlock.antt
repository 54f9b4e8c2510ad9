-- What the changes of a cache mean for one block; proofs of callers cite these.
use Rattle.std.proofs.Common.{◌≡◌, ℕ, zero, suc, Bool, true, false, cond, List, [], ◌∷◌, ◌++◌, take, Some, None, IsSome, refl, sym, subst, ◌∙◌}
use Rattle.std.specs.Map.{lookup, remove_entry, set_value}
use Rattle.std.specs.Option.{option_map_or}
use Rattle.std.proofs.lemmas.Map.{lookup-set_value}
use Rattle.disk_base.specs.declared.address.Lba.{Lba}
use Rattle.write_cache.specs.Contents.{is_at, newest, clean_data, with_clean}
use Rattle.write_cache.specs.Laws.{PutIsSeen, SettlesOne, ForgetsOne, KeepsOthers}
use Rattle.write_cache.proofs.Addresses.{is_at_laws, same_address}
use Rattle.write_cache.proofs.Halves.{lookup-push, lookup-without}

-- an entry behind all others is found by its key where no other is
lookup-push_same : {K X : Type 0} (test : K → Bool) (es : List (K × X)) (e : K × X) → test e.0 ≡ true → lookup test es ≡ None → lookup test (es ++ e ∷ []) ≡ Some e.1
lookup-push_same test [] e passes none = rw passes
lookup-push_same test (f ∷ es) e passes none = (elim (test f.0) as (λ y. cond y (Some f.1) (lookup test es) ≡ None → cond y (Some f.1) (lookup test (es ++ e ∷ [])) ≡ Some e.1) [
  | true ↦ λ none. cc
  | false ↦ λ none. lookup-push_same test es e passes none
]) none

-- what is found among the first is found among all
lookup-take : {K X : Type 0} (test : K → Bool) (n : ℕ) (es : List (K × X)) (w : X) → lookup test (take n es) ≡ Some w → lookup test es ≡ Some w
lookup-take test zero es w found = cc
lookup-take test (suc n) [] w found = found
lookup-take test (suc n) (e ∷ es) w found = (elim (test e.0) as (λ y. cond y (Some e.1) (lookup test (take n es)) ≡ Some w → cond y (Some e.1) (lookup test es) ≡ Some w) [
  | true ↦ λ found. found
  | false ↦ λ found. lookup-take test n es w found
]) found

-- a put, seen at one block
pub newest-with_newest : PutIsSeen
newest-with_newest b q v c = (elim (newest b c) as (λ o. newest b c ≡ o → lookup (is_at q) (option_map_or (λ _. set_value (is_at b) c.dirty v) o (c.dirty ++ (b, v) ∷ [])) ≡ cond (is_at b q) (Some v) (newest q c)) [
  | None ↦ λ none. pushed none (is_at b q) refl
  | Some w ↦ λ some. lookup-set_value is_at_laws (is_at b) (λ x y passes. is_at_laws.congr b x y passes) q v c.dirty (subst IsSome (sym some) refl)
]) refl
  where
    pushed : newest b c ≡ None → (t : Bool) → is_at b q ≡ t → lookup (is_at q) (c.dirty ++ (b, v) ∷ []) ≡ cond (is_at b q) (Some v) (newest q c)
    pushed none true same = rw same (lookup-push_same (is_at q) c.dirty (b, v) (is_at_laws.symm q b ∙ same) (subst (λ (k : Lba). newest k c ≡ None) (same_address b q same) none))
    pushed none false other = rw other (lookup-push (is_at q) c.dirty (b, v) (is_at_laws.symm q b ∙ other))

-- the dirty blocks without one, seen at one block
pub newest-without_dirty : SettlesOne
newest-without_dirty b q c s = lookup-without is_at is_at_laws b q c.dirty s.dirty_once

-- the clean blocks without one, seen at one block
pub clean_data-without_clean : ForgetsOne
clean_data-without_clean b q c s = lookup-without is_at is_at_laws b q c.clean s.clean_once

-- a block kept clean, seen at it and at another
pub clean_data-with_clean : KeepsOthers
clean_data-with_clean b v c s = (rw (is_at_laws.refl b), others)
  where
    others : (q : Lba) (w : List ℕ) → is_at b q ≡ false → clean_data q (with_clean b v c) ≡ Some w → clean_data q c ≡ Some w
    others q w other found =
        let behind : lookup (is_at q) (take 63 (remove_entry (is_at b) c.clean)) ≡ Some w = rw (is_at_laws.symm q b ∙ other) at found in
        let among : lookup (is_at q) (remove_entry (is_at b) c.clean) ≡ Some w = lookup-take (is_at q) 63 (remove_entry (is_at b) c.clean) w behind in
        rw other at (sym (lookup-without is_at is_at_laws b q c.clean s.clean_once) ∙ among)
