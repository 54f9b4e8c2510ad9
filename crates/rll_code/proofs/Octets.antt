-- Lists cut into pieces of eight.
use Rattle.std.proofs.Common.{◌≡◌, ℕ, zero, suc, ◌*◌, ◌<◌, List, [], ◌∷◌, ◌++◌, length, take, drop, ◌-◌, refl, sym, ap, ◌∙◌, append_assoc, length-drop, arith}
use Rattle.std.proofs.lemmas.List.{append-nil, take-append-drop, length-take-le}
use Rattle.rll_code.specs.Bits.{octets}

-- what fills no piece is left out
pub octets_short : {X : Type 0} (xs : List X) → length xs < 8 → octets xs ≡ []
unfolding octets
octets_short [] less = refl
octets_short (a ∷ []) less = refl
octets_short (a ∷ b ∷ []) less = refl
octets_short (a ∷ b ∷ c ∷ []) less = refl
octets_short (a ∷ b ∷ c ∷ d ∷ []) less = refl
octets_short (a ∷ b ∷ c ∷ d ∷ e ∷ []) less = refl
octets_short (a ∷ b ∷ c ∷ d ∷ e ∷ f ∷ []) less = refl
octets_short (a ∷ b ∷ c ∷ d ∷ e ∷ f ∷ g ∷ []) less = refl
octets_short (a ∷ b ∷ c ∷ d ∷ e ∷ f ∷ g ∷ h ∷ rest) less = absurd (omega arith)

-- eight more in front are one piece more
pub octets_eight : {X : Type 0} (o rest : List X) → length o ≡ 8 → octets (o ++ rest) ≡ o ∷ octets rest
unfolding octets
octets_eight (a ∷ b ∷ c ∷ d ∷ e ∷ f ∷ g ∷ h ∷ []) rest long = refl
octets_eight [] rest long = absurd (omega arith)
octets_eight (a ∷ []) rest long = absurd (omega arith)
octets_eight (a ∷ b ∷ []) rest long = absurd (omega arith)
octets_eight (a ∷ b ∷ c ∷ []) rest long = absurd (omega arith)
octets_eight (a ∷ b ∷ c ∷ d ∷ []) rest long = absurd (omega arith)
octets_eight (a ∷ b ∷ c ∷ d ∷ e ∷ []) rest long = absurd (omega arith)
octets_eight (a ∷ b ∷ c ∷ d ∷ e ∷ f ∷ []) rest long = absurd (omega arith)
octets_eight (a ∷ b ∷ c ∷ d ∷ e ∷ f ∷ g ∷ []) rest long = absurd (omega arith)
octets_eight (a ∷ b ∷ c ∷ d ∷ e ∷ f ∷ g ∷ h ∷ i ∷ more) rest long = absurd (omega arith)

-- pieces of whole pieces and of what follows
pub octets-append : {X : Type 0} (i : ℕ) (xs ys : List X) → length xs ≡ 8 * i → octets (xs ++ ys) ≡ octets xs ++ octets ys
octets-append zero [] ys long = ap (λ l. l ++ octets ys) (sym (octets_short [] (omega arith)))
octets-append zero (x ∷ xs) ys long = absurd (omega arith)
octets-append (suc i) xs ys long =
    let o = take 8 xs in
    let rest = drop 8 xs in
    let split : xs ≡ o ++ rest = sym (take-append-drop 8 xs) in
    let eight : length o ≡ 8 = length-take-le 8 xs (omega arith) in
    let shorter : length rest ≡ 8 * i = length-drop 8 xs ∙ (let e : length xs - 8 ≡ 8 * i = omega arith in e) in
    ap (λ l. octets (l ++ ys)) split
    ∙ ap octets (append_assoc o rest ys)
    ∙ octets_eight o (rest ++ ys) eight
    ∙ ap (λ l. o ∷ l) (octets-append i rest ys shorter)
    ∙ ap (λ l. l ++ octets ys) (sym (ap octets split ∙ octets_eight o rest eight))

pub octets_one : {X : Type 0} (o : List X) → length o ≡ 8 → octets o ≡ o ∷ []
octets_one o eight = ap octets (sym (append-nil o)) ∙ octets_eight o [] eight ∙ ap (λ l. o ∷ l) (octets_short [] (omega arith))
