-- Counting the blocks of a scan, at the end of a pass.
use Rattle.std.proofs.Common.{◌≡◌, ◌∙◌, ap, sym, ℕ, ◌+◌, ◌*◌, ◌/◌, ◌%◌, ◌<◌, min, arith}
use Rattle.std.specs.Prelude.{Option}
use Rattle.std.proofs.lemmas.Nat.{div-add-mod', div-mul-add, mod-mul-add}
use Rattle.read_recovery.specs.Stages.{Progress}
use Rattle.scanner_core.specs.Scan.{Scan, scan_of, passes_at_most, IsAfter}

-- the block behind the last one of a pass begins the next pass
over : (c n : ℕ) → 0 < c → n % c + 1 ≡ c → ((n + 1) / c ≡ n / c + 1) × ((n + 1) % c ≡ 0)
over c n some end =
    let whole : n / c * c + n % c ≡ n = div-add-mod' n c in
    let is : n + 1 ≡ (n / c + 1) * c + 0 = omega arith in
    (ap (λ (k : ℕ). k / c) is ∙ div-mul-add (n / c + 1) c 0 some, ap (λ (k : ℕ). k % c) is ∙ mod-mul-add (n / c + 1) c 0 some)

counted_once : (q p passes : ℕ) → passes ≡ min q 65535 → p ≡ min (passes + 1) 65535 → p ≡ min (q + 1) 65535
counted_once q p passes is more = omega arith

pub next_pass : (scan : Scan) (n p : ℕ) (step : Option Progress) → scan.cursor + 1 ≡ scan.capacity → p ≡ min (scan.passes + 1) passes_at_most → IsAfter n scan
    → IsAfter (n + 1) (scan_of scan.capacity 0 p step)
next_pass scan n p step last more is =
    let end : n % scan.capacity + 1 ≡ scan.capacity = ap (λ (k : ℕ). k + 1) (sym is.cursor) ∙ last in
    let next = over scan.capacity n (omega arith) end in
    record {
      cursor = sym next.1;
      passes = counted_once (n / scan.capacity) p scan.passes is.passes more ∙ ap (λ (k : ℕ). min k 65535) (sym next.0);
    }
