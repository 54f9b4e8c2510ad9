-- The lists of a map, read back from the data of its records.
use Rattle.std.proofs.Common.{◌≡◌, ℕ, ◌+◌, ◌-◌, ◌*◌, ◌^◌, ◌<◌, ◌≤◌, zero, suc, List, [], ◌∷◌, ◌++◌, length, take, drop, min, refl, sym, ◌∙◌, ap, arith, length-drop, get_or, lit<}
use Rattle.std.specs.Prelude.{All, slice_range}
use Rattle.std.specs.List.{flat_map}
use Rattle.std.specs.Int.{w16, w32, to_be_bytes, from_be_bytes}
use Rattle.std.proofs.lemmas.Nat.{from_be_bytes-to_be_bytes_2, from_be_bytes-to_be_bytes_4}
use Rattle.std.proofs.lemmas.List.{length-take, take-append-drop, drop-drop}
use Rattle.std.proofs.lemmas.List.Elements.{All-head, All-tail, All-take, All-drop}
use Rattle.disk_base.specs.declared.address.Psn.{Psn}
use Rattle.geometry_map.specs.declared.size.Size.{Size}
use Rattle.geometry_map.specs.declared.pair.Pair.{Pair}
use Rattle.geometry_map.specs.Size.{total_of}
use Rattle.geometry_map.specs.DefectMap.{DefectMap, IsValidMap, sector, AscendsWithin, IsPair}
use Rattle.map_generations.specs.MapRecord.{sector_bytes, pair_bytes, record_bytes}
use Rattle.map_generations.specs.Laws.{RecordsTellMaps}
use Rattle.map_generations.specs.Reading.{sector_in, pair_in, sectors_in, pairs_in}
use Rattle.map_generations.proofs.SpareBounds.{spare_below}

-- the sectors fit four bytes
abbrev pub FitWords : List Psn → Type 0
FitWords [] = Unit {0}
FitWords (p ∷ ps) = (p.0 < 2 ^ 32) × FitWords ps

-- so do both of each pair
abbrev pub PairsFitWords : List Pair → Type 0
PairsFitWords [] = Unit {0}
PairsFitWords (pair ∷ pairs) = (pair.old.0 < 2 ^ 32) × (pair.new.0 < 2 ^ 32) × PairsFitWords pairs

-- sectors are read back from their bytes, whatever stands behind them
pub sectors-read_back : (ps : List Psn) (rest : List ℕ) → FitWords ps → sectors_in (length ps) (flat_map sector_bytes ps ++ rest) ≡ ps
sectors-read_back [] rest fit = refl
sectors-read_back (p ∷ ps) rest fit =
    ap (λ (n : ℕ). sector n ∷ sectors_in (length ps) (flat_map sector_bytes ps ++ rest)) (from_be_bytes-to_be_bytes_4 p.0 fit.0)
    ∙ ap (λ (qs : List Psn). p ∷ qs) (sectors-read_back ps rest fit.1)

-- and pairs
pub pairs-read_back : (pairs : List Pair) (rest : List ℕ) → PairsFitWords pairs → pairs_in (length pairs) (flat_map pair_bytes pairs ++ rest) ≡ pairs
pairs-read_back [] rest fit = refl
pairs-read_back (pair ∷ pairs) rest fit =
    let more : List Pair = pairs_in (length pairs) (flat_map pair_bytes pairs ++ rest) in
    let first : Psn → Psn → Pair = λ old new. record { old = old; new = new } in
    ap (λ (n : ℕ). first (sector n) (sector (from_be_bytes w32 (to_be_bytes w32 pair.new.0))) ∷ more) (from_be_bytes-to_be_bytes_4 pair.old.0 fit.0)
    ∙ ap (λ (n : ℕ). first pair.old (sector n) ∷ more) (from_be_bytes-to_be_bytes_4 pair.new.0 fit.1)
    ∙ ap (λ (qs : List Pair). pair ∷ qs) (pairs-read_back pairs rest fit.2)

-- one sector more is the one behind those
pub sectors_in-more : (n : ℕ) (bytes : List ℕ) → sectors_in (suc n) bytes ≡ sectors_in n bytes ++ sector_in (drop (4 * n) bytes) ∷ []
sectors_in-more zero bytes = refl
sectors_in-more (suc n) bytes =
    let next : 4 + 4 * n ≡ 4 * suc n = omega arith in
    ap (λ (ps : List Psn). sector_in bytes ∷ ps)
    (sectors_in-more n (drop 4 bytes)
    ∙ ap (λ (rest : List ℕ). sectors_in n (drop 4 bytes) ++ sector_in rest ∷ []) (drop-drop (4 * n) 4 bytes)
    ∙ ap (λ (k : ℕ). sectors_in n (drop 4 bytes) ++ sector_in (drop k bytes) ∷ []) next)

-- and one pair more
pub pairs_in-more : (n : ℕ) (bytes : List ℕ) → pairs_in (suc n) bytes ≡ pairs_in n bytes ++ pair_in (drop (8 * n) bytes) ∷ []
pairs_in-more zero bytes = refl
pairs_in-more (suc n) bytes =
    let next : 8 + 8 * n ≡ 8 * suc n = omega arith in
    ap (λ (pairs : List Pair). pair_in bytes ∷ pairs)
    (pairs_in-more n (drop 8 bytes)
    ∙ ap (λ (rest : List ℕ). pairs_in n (drop 8 bytes) ++ pair_in rest ∷ []) (drop-drop (8 * n) 8 bytes)
    ∙ ap (λ (k : ℕ). pairs_in n (drop 8 bytes) ++ pair_in (drop k bytes) ∷ []) next)

-- so many pairs are read as are asked for
pub pairs_in-length : (n : ℕ) (bytes : List ℕ) → length (pairs_in n bytes) ≡ n
pairs_in-length zero bytes = refl
pairs_in-length (suc n) bytes = ap suc (pairs_in-length n (drop 8 bytes))

-- sectors of a drive fit
ascending-fit : (low high : ℕ) (ps : List Psn) → high ≤ 4096 → AscendsWithin low high ps → FitWords ps
ascending-fit low high [] small ascends = tt
ascending-fit low high (p ∷ ps) small ascends = (omega (arith, ascends.1), ascending-fit (p.0 + 1) high ps small ascends.2)

-- pairs of a drive fit
pairs-fit : (size : Size) (primary : List Psn) (pairs : List Pair) → All (IsPair size primary) pairs → PairsFitWords pairs
pairs-fit size primary [] are = tt
pairs-fit size primary (pair ∷ pairs) are =
    let is : IsPair size primary pair = All-head (IsPair size primary) pair pairs are in
    let small : total_of size ≤ 4096 = size.within_limits.greatest in
    let below : pair.new.0 < total_of size = spare_below size primary pair.new.0 is.new in
    (omega (arith, is.old_to), omega arith, pairs-fit size primary pairs (All-tail (IsPair size primary) pair pairs are))

-- lists of the same length with the same bytes are the same
same_sectors : (ps qs : List Psn) (r s : List ℕ) → FitWords ps → FitWords qs → length ps ≡ length qs
    → flat_map sector_bytes ps ++ r ≡ flat_map sector_bytes qs ++ s → ps ≡ qs
same_sectors ps qs r s fit_p fit_q long e =
    sym (sectors-read_back ps r fit_p)
    ∙ ap (λ (t : List ℕ). sectors_in (length ps) t) e
    ∙ ap (λ (k : ℕ). sectors_in k (flat_map sector_bytes qs ++ s)) long
    ∙ sectors-read_back qs s fit_q

same_pairs : (ps qs : List Pair) (r s : List ℕ) → PairsFitWords ps → PairsFitWords qs → length ps ≡ length qs
    → flat_map pair_bytes ps ++ r ≡ flat_map pair_bytes qs ++ s → ps ≡ qs
same_pairs ps qs r s fit_p fit_q long e =
    sym (pairs-read_back ps r fit_p)
    ∙ ap (λ (t : List ℕ). pairs_in (length ps) t) e
    ∙ ap (λ (k : ℕ). pairs_in k (flat_map pair_bytes qs ++ s)) long
    ∙ pairs-read_back qs s fit_q

-- two bytes tell a number that fits them
same_counts : (a b : ℕ) → a < 2 ^ 16 → b < 2 ^ 16 → to_be_bytes w16 a ≡ to_be_bytes w16 b → a ≡ b
same_counts a b small_a small_b e =
    sym (from_be_bytes-to_be_bytes_2 a small_a) ∙ ap (λ (t : List ℕ). from_be_bytes w16 t) e ∙ from_be_bytes-to_be_bytes_2 b small_b

-- the data of the records tell the measures and both lists
pub records-tell : RecordsTellMaps
records-tell m n valid_m valid_n same =
    let measures = same 3 (lit< tt) in
    let room_m = m.size.within_limits.a_block in
    let room_n = n.size.within_limits.a_block in
    let most_m = m.size.within_limits.greatest in
    let most_n = n.size.within_limits.greatest in
    let cylinders : m.size.cylinders ≡ n.size.cylinders =
    same_counts _ _ (omega (arith, m.size.within_limits.few_cylinders)) (omega (arith, n.size.within_limits.few_cylinders)) (ap (λ (t : List ℕ). take 2 t) measures) in
    let reserved : m.size.reserved ≡ n.size.reserved =
    same_counts _ _ (omega arith) (omega arith) (ap (λ (t : List ℕ). take 2 (drop 4 t)) measures) in
    let primaries : length m.primary ≡ length n.primary =
    same_counts _ _ (omega (arith, valid_m.primary.few)) (omega (arith, valid_n.primary.few)) (ap (λ (t : List ℕ). take 2 (drop 6 t)) measures) in
    let growns : length m.grown ≡ length n.grown =
    same_counts _ _ (omega (arith, valid_m.grown.few)) (omega (arith, valid_n.grown.few)) (ap (λ (t : List ℕ). take 2 (drop 8 t)) measures) in
    let primary : m.primary ≡ n.primary =
    same_sectors m.primary n.primary _ _
    (ascending-fit 16 (total_of m.size) m.primary m.size.within_limits.greatest valid_m.primary.ascending)
    (ascending-fit 16 (total_of n.size) n.primary n.size.within_limits.greatest valid_n.primary.ascending)
    primaries (same 0 (lit< tt)) in
    let first : take 64 m.grown ≡ take 64 n.grown =
    same_pairs (take 64 m.grown) (take 64 n.grown) _ _
    (pairs-fit m.size m.primary (take 64 m.grown) (All-take (IsPair m.size m.primary) 64 m.grown valid_m.grown.pairs))
    (pairs-fit n.size n.primary (take 64 n.grown) (All-take (IsPair n.size n.primary) 64 n.grown valid_n.grown.pairs))
    (length-take 64 m.grown ∙ ap (λ (k : ℕ). min 64 k) growns ∙ sym (length-take 64 n.grown)) (same 1 (lit< tt)) in
    let later : drop 64 m.grown ≡ drop 64 n.grown =
    same_pairs (drop 64 m.grown) (drop 64 n.grown) _ _
    (pairs-fit m.size m.primary (drop 64 m.grown) (All-drop (IsPair m.size m.primary) 64 m.grown valid_m.grown.pairs))
    (pairs-fit n.size n.primary (drop 64 n.grown) (All-drop (IsPair n.size n.primary) 64 n.grown valid_n.grown.pairs))
    (length-drop 64 m.grown ∙ ap (λ (k : ℕ). k - 64) growns ∙ sym (length-drop 64 n.grown)) (same 2 (lit< tt)) in
    record {
      measures = record {
        cylinders = cylinders;
        heads = ap (λ (t : List ℕ). get_or t 2 0) measures;
        sectors = ap (λ (t : List ℕ). get_or t 3 0) measures;
        reserved = reserved;
      };
      primary = primary;
      grown = sym (take-append-drop 64 m.grown)
          ∙ ap (λ (front : List Pair). front ++ drop 64 m.grown) first
          ∙ ap (λ (behind : List Pair). take 64 n.grown ++ behind) later
          ∙ take-append-drop 64 n.grown;
    }

-- the lengths of a map's lists are read back from its measures
pub primary_count : (m : DefectMap) (bytes : List ℕ) → IsValidMap m → record_bytes m 3 ≡ bytes → from_be_bytes w16 (slice_range bytes 6 8) ≡ length m.primary
primary_count m bytes valid e =
    ap (λ (t : List ℕ). from_be_bytes w16 (slice_range t 6 8)) (sym e)
    ∙ from_be_bytes-to_be_bytes_2 (length m.primary) (omega (arith, valid.primary.few))

pub grown_count : (m : DefectMap) (bytes : List ℕ) → IsValidMap m → record_bytes m 3 ≡ bytes → from_be_bytes w16 (slice_range bytes 8 10) ≡ length m.grown
grown_count m bytes valid e =
    ap (λ (t : List ℕ). from_be_bytes w16 (slice_range t 8 10)) (sym e)
    ∙ from_be_bytes-to_be_bytes_2 (length m.grown) (omega (arith, valid.grown.few))

-- and so are the lists, from the other data
pub primary_read : (m : DefectMap) (bytes : List ℕ) (n : ℕ) → IsValidMap m → record_bytes m 0 ≡ bytes → n ≡ length m.primary → sectors_in n bytes ≡ m.primary
primary_read m bytes n valid e long =
    ap (λ (t : List ℕ). sectors_in n t) (sym e)
    ∙ ap (λ (k : ℕ). sectors_in k (record_bytes m 0)) long
    ∙ sectors-read_back m.primary _ (ascending-fit 16 (total_of m.size) m.primary m.size.within_limits.greatest valid.primary.ascending)

pub grown_read : (m : DefectMap) (first later : List ℕ) (n : ℕ) → IsValidMap m → record_bytes m 1 ≡ first → record_bytes m 2 ≡ later → n ≡ length m.grown
    → pairs_in (min n 64) first ++ pairs_in (n - 64) later ≡ m.grown
grown_read m first later n valid e f long =
    let front : pairs_in (min n 64) first ≡ take 64 m.grown =
    ap (λ (t : List ℕ). pairs_in (min n 64) t) (sym e)
    ∙ ap (λ (k : ℕ). pairs_in k (record_bytes m 1)) (let count : min n 64 ≡ length (take 64 m.grown) = omega (arith, length-take 64 m.grown) in count)
    ∙ pairs-read_back (take 64 m.grown) _ (pairs-fit m.size m.primary (take 64 m.grown) (All-take (IsPair m.size m.primary) 64 m.grown valid.grown.pairs)) in
    let behind : pairs_in (n - 64) later ≡ drop 64 m.grown =
    ap (λ (t : List ℕ). pairs_in (n - 64) t) (sym f)
    ∙ ap (λ (k : ℕ). pairs_in k (record_bytes m 2)) (let count : n - 64 ≡ length (drop 64 m.grown) = omega (arith, length-drop 64 m.grown) in count)
    ∙ pairs-read_back (drop 64 m.grown) _ (pairs-fit m.size m.primary (drop 64 m.grown) (All-drop (IsPair m.size m.primary) 64 m.grown valid.grown.pairs)) in
    rw (front, behind) (take-append-drop 64 m.grown)
