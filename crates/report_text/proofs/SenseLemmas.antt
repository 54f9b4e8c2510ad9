-- Sense data and the fields that their bytes give.
use Rattle.std.proofs.Common.{◌≡◌, ℕ, zero, suc, ◌+◌, ◌<◌, ◌^◌, Bool, true, false, List, ◌∷◌, ◌++◌, get_or, Option, Some, None, refl, ap, ◌∙◌, subst, Decides, arith}
use Rattle.std.specs.Prelude.{if◌then◌else◌, slice_index, replicate, ◌==◌}
use Rattle.std.specs.Option.{IfSome, ForSome}
use Rattle.std.specs.Int.{w32, to_be_bytes, from_be_bytes}
use Rattle.std.specs.Str.{bytes_eq}
use Rattle.std.proofs.lemmas.Bool.{false≢true}
use Rattle.std.proofs.lemmas.Nat.{be_bytes_4}
use Rattle.std.proofs.lemmas.Slice.Eq.{bytes_eq-Decides}
use Rattle.sense_data.specs.declared.sense.Sense.{Sense}
use Rattle.sense_data.specs.Sense.{IsSense, sense_bytes, fields_of, number_at}
use Rattle.report_text.specs.Fields.{sense_from}

-- four bytes of a number are bytes
pub four_bytes : (n i : ℕ) → get_or (to_be_bytes w32 n) i 0 < 256
four_bytes n zero = omega arith
four_bytes n (suc zero) = omega arith
four_bytes n (suc (suc zero)) = omega arith
four_bytes n (suc (suc (suc zero))) = omega arith
four_bytes n (suc (suc (suc (suc i)))) = omega arith

-- the bytes of a number, as a number, have these bytes
pub bytes_twice : (n : ℕ) → to_be_bytes w32 (from_be_bytes w32 (to_be_bytes w32 n)) ≡ to_be_bytes w32 n
bytes_twice n = be_bytes_4 (to_be_bytes w32 n) (from_be_bytes w32 (to_be_bytes w32 n)) refl (four_bytes n) refl

-- the fields of the bytes of sense data have these bytes
sense_twice : (key specific asc ascq : ℕ) (information : Option ℕ) (s : Sense) → s ≡ record { key = key; information = information; specific = specific; asc = asc; ascq = ascq }
    → sense_bytes (fields_of (sense_bytes s)) ≡ sense_bytes s
sense_twice key specific asc ascq None s e = rw e (ap (λ (bs : List ℕ). 0x70 ∷ 0 ∷ key ∷ (replicate 4 0 ++ (10 ∷ (bs ++ (asc ∷ ascq ∷ replicate 4 0))))) (bytes_twice specific))
sense_twice key specific asc ascq (Some n) s e = rw e (
    ap (λ (bs : List ℕ). 0xF0 ∷ 0 ∷ key ∷ (bs ++ (10 ∷ (to_be_bytes w32 (from_be_bytes w32 (to_be_bytes w32 specific)) ++ (asc ∷ ascq ∷ replicate 4 0))))) (bytes_twice n)
    ∙ ap (λ (bs : List ℕ). 0xF0 ∷ 0 ∷ key ∷ (to_be_bytes w32 n ++ (10 ∷ (bs ++ (asc ∷ ascq ∷ replicate 4 0))))) (bytes_twice specific))

-- four bytes are a number of 32 bits
small : (bs : List ℕ) (i : ℕ) → ((i : ℕ) → get_or bs i 0 < 256) → number_at bs i < 2 ^ 32
small bs i fit =
    let a = fit i in
    let b = fit (i + 1) in
    let c = fit (i + 2) in
    let d = fit (i + 3) in
    omega arith

pub fields_fit : (bs : List ℕ) → ((i : ℕ) → get_or bs i 0 < 256) → IsSense (fields_of bs)
fields_fit bs fit = record {
  key = fit 2;
  information = by_test (slice_index bs 0 == 0xF0);
  specific = small bs 8 fit;
  asc = fit 12;
  ascq = fit 13;
}
  where
    by_test : (b : Bool) → ForSome (if b then Some (number_at bs 3) else None) (λ n. n < 2 ^ 32)
    by_test true = λ x e. let same : number_at bs 3 ≡ x = cc in omega (arith, small bs 3 fit, same)
    by_test false = λ x e. let apart : ⊥ = cc in absurd apart

-- what is read, where every sense data of these bytes is found, is what their fields give, where these have the bytes
pub sense_is_from : (bytes : List ℕ) (result : Option Sense) → ((i : ℕ) → get_or bytes i 0 < 256)
    → IfSome result (λ s. sense_bytes s ≡ bytes) → ((s : Sense) → IsSense s → sense_bytes s ≡ bytes → result ≡ Some s)
    → result ≡ sense_from bytes
sense_is_from bytes result fit some only = by_test (bytes_eq (sense_bytes (fields_of bytes)) bytes) (bytes_eq-Decides (sense_bytes (fields_of bytes)) bytes) result some only
  where
    by_test : (b : Bool) → Decides b (sense_bytes (fields_of bytes) ≡ bytes) → (r : Option Sense) → IfSome r (λ s. sense_bytes s ≡ bytes)
        → ((s : Sense) → IsSense s → sense_bytes s ≡ bytes → r ≡ Some s) → r ≡ (if b then Some (fields_of bytes) else None)
    by_test true decides r some only = only (fields_of bytes) (fields_fit bytes fit) (decides.0 refl)
    by_test false decides None some only = refl
    by_test false decides (Some s) some only =
        let again : sense_bytes (fields_of bytes) ≡ bytes = subst (λ (t : List ℕ). sense_bytes (fields_of t) ≡ t) some (sense_twice s.key s.specific s.asc s.ascq s.information s refl) in
        absurd (false≢true (decides.1 again))
