-- A payload's bytes taken apart into its heading and the data behind it.
use Rattle.std.proofs.Common.{◌≡◌, ℕ, zero, suc, ◌<◌, ◌≤◌, List, [], ◌∷◌, ◌++◌, length, take, drop, get_or, arith, sym, ap, ◌∙◌, refl, drop-cons, lit<}
use Rattle.std.specs.Int.{w32, w64, to_be_bytes, from_be_bytes}
use Rattle.std.specs.List.{AllByRecursion}
use Rattle.std.proofs.lemmas.Nat.{be_bytes_4, be_bytes_8, from_be_bytes-to_be_bytes_4, from_be_bytes-to_be_bytes_8}
use Rattle.disk_base.specs.declared.payload.Payload.{Payload}
use Rattle.disk_base.specs.Payload.{layout, IsPayload}

-- one item and what stands behind it
one : (bs : List ℕ) (i j : ℕ) → j ≡ suc i → j ≤ length bs → get_or bs i 0 ∷ drop j bs ≡ drop i bs
one bs i j e h = let lt : i < length bs = omega arith in rw e (sym (drop-cons bs i 0 lt))

-- four items and what stands behind them
four : (bs : List ℕ) (i j k l m : ℕ) → j ≡ suc i → k ≡ suc j → l ≡ suc k → m ≡ suc l → m ≤ length bs
    → get_or bs i 0 ∷ get_or bs j 0 ∷ get_or bs k 0 ∷ get_or bs l 0 ∷ drop m bs ≡ drop i bs
four bs i j k l m ej ek el em h =
    ap (λ t. get_or bs i 0 ∷ get_or bs j 0 ∷ get_or bs k 0 ∷ t) (one bs l m em h)
    ∙ ap (λ t. get_or bs i 0 ∷ get_or bs j 0 ∷ t) (one bs k l el (omega arith))
    ∙ ap (λ t. get_or bs i 0 ∷ t) (one bs j k ek (omega arith))
    ∙ one bs i j ej (omega arith)

-- a list of bytes, looked at by place
bytes_at : (xs : List ℕ) → AllByRecursion (λ b. b < 256) xs → (i : ℕ) → get_or xs i 0 < 256
bytes_at [] h i = lit< tt
bytes_at (x ∷ xs) h zero = h.0
bytes_at (x ∷ xs) h (suc i) = bytes_at xs h.1 i

-- the parts that are read from bytes are laid out as these bytes
pub laid_out : (bs : List ℕ) (psn address : ℕ) (block : List ℕ) → length bs ≡ 528 → ((i : ℕ) → get_or bs i 0 < 256)
    → psn ≡ from_be_bytes w32 (get_or bs 4 0 ∷ get_or bs 5 0 ∷ get_or bs 6 0 ∷ get_or bs 7 0 ∷ [])
    → address ≡ from_be_bytes w64 (get_or bs 8 0 ∷ get_or bs 9 0 ∷ get_or bs 10 0 ∷ get_or bs 11 0 ∷ get_or bs 12 0 ∷ get_or bs 13 0 ∷ get_or bs 14 0 ∷ get_or bs 15 0 ∷ [])
    → block ≡ drop 16 bs
    → get_or bs 0 0 ∷ get_or bs 1 0 ∷ get_or bs 2 0 ∷ get_or bs 3 0 ∷ (to_be_bytes w32 psn ++ (to_be_bytes w64 address ++ block)) ≡ bs
laid_out bs psn address block long small is_psn is_address is_block =
    let p : to_be_bytes w32 psn ≡ get_or bs 4 0 ∷ get_or bs 5 0 ∷ get_or bs 6 0 ∷ get_or bs 7 0 ∷ []
    = be_bytes_4 (get_or bs 4 0 ∷ get_or bs 5 0 ∷ get_or bs 6 0 ∷ get_or bs 7 0 ∷ []) psn refl (bytes_at (get_or bs 4 0 ∷ get_or bs 5 0 ∷ get_or bs 6 0 ∷ get_or bs 7 0 ∷ []) (small 4, (small 5, (small 6, (small 7, tt))))) is_psn in
    let a : to_be_bytes w64 address ≡ get_or bs 8 0 ∷ get_or bs 9 0 ∷ get_or bs 10 0 ∷ get_or bs 11 0 ∷ get_or bs 12 0 ∷ get_or bs 13 0 ∷ get_or bs 14 0 ∷ get_or bs 15 0 ∷ []
    = be_bytes_8 (get_or bs 8 0 ∷ get_or bs 9 0 ∷ get_or bs 10 0 ∷ get_or bs 11 0 ∷ get_or bs 12 0 ∷ get_or bs 13 0 ∷ get_or bs 14 0 ∷ get_or bs 15 0 ∷ []) address refl (bytes_at (get_or bs 8 0 ∷ get_or bs 9 0 ∷ get_or bs 10 0 ∷ get_or bs 11 0 ∷ get_or bs 12 0 ∷ get_or bs 13 0 ∷ get_or bs 14 0 ∷ get_or bs 15 0 ∷ []) (small 8, (small 9, (small 10, (small 11, (small 12, (small 13, (small 14, (small 15, tt))))))))) is_address in
    ap (λ t. get_or bs 0 0 ∷ get_or bs 1 0 ∷ get_or bs 2 0 ∷ get_or bs 3 0 ∷ t)
    (ap (λ t. t ++ (to_be_bytes w64 address ++ block)) p
    ∙ ap (λ t. get_or bs 4 0 ∷ get_or bs 5 0 ∷ get_or bs 6 0 ∷ get_or bs 7 0 ∷ t)
    (ap (λ t. t ++ block) a
    ∙ ap (λ t. get_or bs 8 0 ∷ get_or bs 9 0 ∷ get_or bs 10 0 ∷ get_or bs 11 0 ∷ get_or bs 12 0 ∷ get_or bs 13 0 ∷ get_or bs 14 0 ∷ get_or bs 15 0 ∷ t) is_block
    ∙ ap (λ t. get_or bs 8 0 ∷ get_or bs 9 0 ∷ get_or bs 10 0 ∷ get_or bs 11 0 ∷ t) (four bs 12 13 14 15 16 refl refl refl refl (omega arith))
    ∙ four bs 8 9 10 11 12 refl refl refl refl (omega arith))
    ∙ four bs 4 5 6 7 8 refl refl refl refl (omega arith))
    ∙ four bs 0 1 2 3 4 refl refl refl refl (omega arith)

-- a payload by its fields
made : ℕ → ℕ → ℕ → ℕ → ℕ → ℕ → List ℕ → Payload
made kind index state version psn address block =
    record { kind = kind; index = index; state = state; version = version; psn = record { 0 = psn }; address = address; block = block }

-- payloads that are laid out alike are alike
pub alike : (p q : Payload) → IsPayload p → IsPayload q → layout p ≡ layout q → p ≡ q
unfolding made
alike p q in_p in_q e =
    let kind : p.kind ≡ q.kind = ap (λ t. get_or t 0 0) e in
    let index : p.index ≡ q.index = ap (λ t. get_or t 1 0) e in
    let state : p.state ≡ q.state = ap (λ t. get_or t 2 0) e in
    let version : p.version ≡ q.version = ap (λ t. get_or t 3 0) e in
    let psn : p.psn.0 ≡ q.psn.0 =
    sym (from_be_bytes-to_be_bytes_4 p.psn.0 in_p.psn) ∙ ap (λ t. from_be_bytes w32 (take 4 (drop 4 t))) e ∙ from_be_bytes-to_be_bytes_4 q.psn.0 in_q.psn in
    let address : p.address ≡ q.address =
    sym (from_be_bytes-to_be_bytes_8 p.address in_p.address) ∙ ap (λ t. from_be_bytes w64 (take 8 (drop 8 t))) e ∙ from_be_bytes-to_be_bytes_8 q.address in_q.address in
    let block : p.block ≡ q.block = ap (λ t. drop 16 t) e in
    let same : made p.kind p.index p.state p.version p.psn.0 p.address p.block ≡ made q.kind q.index q.state q.version q.psn.0 q.address q.block
    = rw (kind, index, state, version, psn, address, block) in
    same
