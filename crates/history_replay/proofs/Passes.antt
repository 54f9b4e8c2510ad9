-- Counting the scan's blocks up to 65,535 passes and to the place in the next.
use Rattle.std.proofs.Common.{◌≡◌, ◌∙◌, ap, sym, refl, ℕ, ◌+◌, ◌*◌, ◌/◌, ◌%◌, ◌<◌, ◌≤◌, min, Bool, true, List, ◌++◌, ◌∷◌, [], inl, inr, arith}
use Rattle.std.proofs.Math.Nat.{eq-or-lt_of_le}
use Rattle.std.proofs.lemmas.Nat.{div-add-mod', div-mul-add, mod-mul-add, mod_below}
use Rattle.scan_log.specs.declared.finding.Finding.{Finding}
use Rattle.scan_log.specs.declared.state.ScanState.{ScanState}
use Rattle.scan_log.specs.Findings.{newest_64}
use Rattle.block_machine.specs.declared.entry.Entry.{Entry}
use Rattle.block_machine.specs.declared.entry.Entry.TheVariants.{Scanned, Logged, Cut, PoweredOn, Tick}
use Rattle.block_machine.specs.Scan.{Scan, scan_after, scan_shown}
use Rattle.history_replay.specs.Kept.{ShowSame}

-- so many passes, and the place in the next
abbrev IsPlace : ℕ → ℕ → ℕ → ℕ → Type 0
IsPlace c n q r = (n / c ≡ q) × (n % c ≡ r)

place-of : (c q r n : ℕ) → r < c → n ≡ q * c + r → IsPlace c n q r
place-of c q r n less is =
    (ap (λ (k : ℕ). k / c) is ∙ div-mul-add q c r less, ap (λ (k : ℕ). k % c) is ∙ mod-mul-add q c r less)

next-in : (c n : ℕ) → n % c + 1 < c → IsPlace c (n + 1) (n / c) (n % c + 1)
next-in c n less =
    let whole : n / c * c + n % c ≡ n = div-add-mod' n c in
    let is : n + 1 ≡ n / c * c + (n % c + 1) = omega arith in
    place-of c (n / c) (n % c + 1) (n + 1) less is

next-over : (c n : ℕ) → 0 < c → n % c + 1 ≡ c → IsPlace c (n + 1) (n / c + 1) 0
next-over c n some end =
    let whole : n / c * c + n % c ≡ n = div-add-mod' n c in
    let is : n + 1 ≡ (n / c + 1) * c + 0 = omega arith in
    place-of c (n / c + 1) 0 (n + 1) some is

-- the last pass that is counted begins again
pub last_pass : (c n : ℕ) → 0 < c → n + 1 ≡ 65536 * c → min (65535 * c / c) 65535 ≡ min ((n + 1) / c) 65535
last_pass c n some is =
    let before : 65535 * c / c ≡ 65535 = (place-of c 65535 0 (65535 * c) some (omega arith)).0 in
    let after : (n + 1) / c ≡ 65536 = (place-of c 65536 0 (n + 1) some (omega arith)).0 in
    omega arith

abbrev AreAlike : ℕ → ℕ → ℕ → Type 0
AreAlike c a b = (min (a / c) 65535 ≡ min (b / c) 65535) × (a % c ≡ b % c)

alike-in : (c a b : ℕ) → a % c + 1 < c → AreAlike c a b → AreAlike c (a + 1) (b + 1)
alike-in c a b less same =
    let r = same.1 in
    let below : b % c + 1 < c = omega arith in
    let x = next-in c a less in
    let y = next-in c b below in
    let q = same.0 in (
      ap (λ (k : ℕ). min k 65535) x.0 ∙ q ∙ ap (λ (k : ℕ). min k 65535) (sym y.0),
      x.1 ∙ ap (λ (k : ℕ). k + 1) r ∙ sym y.1,
    )

min-more : (p q : ℕ) → min p 65535 ≡ min q 65535 → min (p + 1) 65535 ≡ min (q + 1) 65535
min-more p q e = omega arith

alike-over : (c a b : ℕ) → 0 < c → a % c + 1 ≡ c → AreAlike c a b → AreAlike c (a + 1) (b + 1)
alike-over c a b some end same =
    let r = same.1 in
    let over : b % c + 1 ≡ c = omega arith in
    let x = next-over c a some end in
    let y = next-over c b some over in (
      ap (λ (k : ℕ). min k 65535) x.0 ∙ min-more (a / c) (b / c) same.0 ∙ ap (λ (k : ℕ). min k 65535) (sym y.0),
      x.1 ∙ sym y.1,
    )

alike-more : (c a b : ℕ) → 0 < c → AreAlike c a b → AreAlike c (a + 1) (b + 1)
alike-more c a b some same =
    let below : a % c < c = mod_below a c some in
    let most : a % c + 1 ≤ c = omega arith in
    elim (eq-or-lt_of_le most) [ inl end ↦ alike-over c a b some end same | inr less ↦ alike-in c a b less same ]

-- shown the same
shown : (capacity : ℕ) (a b : Scan) → a.minutes ≡ b.minutes → AreAlike capacity a.scanned b.scanned → (active : Bool)
    → scan_shown capacity active a ≡ scan_shown capacity active b
shown capacity a b minutes same active =
    λ i. record { minutes = minutes i; active = active; passes = same.0 i; cursor = same.1 i; capacity = capacity }

alike-of : (capacity : ℕ) (a b : Scan) → ShowSame capacity a b → AreAlike capacity a.scanned b.scanned
alike-of capacity a b same = (ap (λ (s : ScanState). s.passes) (same.0 true), ap (λ (s : ScanState). s.cursor) (same.0 true))

minutes-of : (capacity : ℕ) (a b : Scan) → ShowSame capacity a b → a.minutes ≡ b.minutes
minutes-of capacity a b same = ap (λ (s : ScanState). s.minutes) (same.0 true)

-- scans that are shown the same are after an entry
pub scan_same : (capacity : ℕ) (a b : Scan) (e : Entry) → 0 < capacity → ShowSame capacity a b → ShowSame capacity (scan_after a e) (scan_after b e)
scan_same capacity a b (Scanned k what) some same =
    (shown capacity (scan_after a (Scanned k what)) (scan_after b (Scanned k what)) (minutes-of capacity a b same) (alike-more capacity a.scanned b.scanned some (alike-of capacity a b same)), same.1)
scan_same capacity a b (Logged finding) some same =
    (same.0, ap (λ (fs : List Finding). newest_64 (fs ++ finding ∷ [])) same.1)
scan_same capacity a b (Tick minutes) some same =
    (shown capacity (scan_after a (Tick minutes)) (scan_after b (Tick minutes)) (ap (λ (m : ℕ). min (m + minutes) 4294967295) (minutes-of capacity a b same)) (alike-of capacity a b same), same.1)
scan_same capacity a b Cut some same = (same.0, refl)
scan_same capacity a b (PoweredOn outcome) some same = (λ active. refl, refl)
scan_same capacity a b other some same = same

pub shown_then : (capacity : ℕ) (a b c : Scan) → ShowSame capacity a b → ShowSame capacity b c → ShowSame capacity a c
shown_then capacity a b c first second = (λ active. first.0 active ∙ second.0 active, first.1 ∙ second.1)
