-- The defects before the sector tell its block.
use Rattle.std.proofs.Common.{◌≡◌, ◌≢◌, ◌<◌, ◌+◌, ◌-◌, ◌∙◌, ℕ, List, drop, get_or, ap, sym, subst, arith, inl, inr}
use Rattle.std.specs.Prelude.{Option, Some, None, MatchOption}
use Rattle.std.specs.List.Sorted.{IsNonDecreasingBy}
use Rattle.std.proofs.lemmas.Bool.Decides.{leb_tells}
use Rattle.geometry_map.specs.Slips.{slipped}
use Rattle.geometry_map.proofs.GapLemmas.{gaps-never-fall}
use Rattle.geometry_map.proofs.StartLemmas.{block_at, block_at-passed, block_at-defect, block_at-below, block_at-end, block-read, no-block-below}
use Rattle.geometry_map.proofs.placer.block_from.Goals as goal
use Rattle.geometry_map.proofs.placer.block_from.Goals.{else-below-gaps-via-then-below-gaps+else-from-below, else-below-gaps-via-else-below-gaps}

pub returns-in_err-offset : goal.returns-in_err-offset
returns-in_err-offset c primary high up same =
    let p : ℕ = c.args.p.0 in
    let below : c.args.p.0 < 16 = elim (leb_tells 16 c.args.p.0) [ inl w ↦ absurd (c.in_err-offset.ensures w.1) | inr w ↦ omega (arith, w.1) ] in
    let P : Option ℕ → Type 0 = λ r. MatchOption r ((b : ℕ) → slipped (16 + b) primary ≢ p) (λ b. slipped (16 + b) primary ≡ p) in
    subst P (sym c.from_residual.ensures) (λ b. no-block-below p primary b below)

pub returns-then-from-below : goal.returns-then-from-below
returns-then-from-below c primary high up same =
    let gaps : List ℕ = c.args.gaps.now in
    let k : ℕ = c.defects_below-below.result in
    let o : ℕ = c.in_ok-offset.offset in
    let passed : block_at o gaps ≡ block_at (o - k) (drop k gaps) =
    block_at-passed o k gaps c.defects_below-below.ensures.bound (c.defects_below-below.ensures.below (gaps-never-fall high primary gaps up same)) in
    let at : get_or gaps k 0 ≡ o - k = omega (arith, c.if-from-below.true, c.from.ensures, c.from-then-below-gaps.ensures) in
    let read : block_at (c.args.p.0 - 16) gaps ≡ None = ap (λ n. block_at n gaps) (sym c.in_ok-offset.ensures.1) ∙ passed ∙ block_at-defect (o - k) k gaps c.if-below-gaps.true at in
    block-read None gaps c.args.p.0 c.in_ok-offset.ensures.0 (sym read) primary high up same

pub returns : goal.returns
returns c primary high up same =
    let gaps : List ℕ = c.args.gaps.now in
    let k : ℕ = c.defects_below-below.result in
    let o : ℕ = c.in_ok-offset.offset in
    let passed : block_at o gaps ≡ block_at (o - k) (drop k gaps) =
    block_at-passed o k gaps c.defects_below-below.ensures.bound (c.defects_below-below.ensures.below (gaps-never-fall high primary gaps up same)) in
    let rest : block_at (o - k) (drop k gaps) ≡ Some (o - k) =
    elim c.else-below-gaps.branch [
      | else-below-gaps-via-then-below-gaps+else-from-below w ↦ (
          let above : o - k < get_or gaps k 0 =
          omega (arith, w.if-from-below.false, w.from.ensures, w.from-then-below-gaps.ensures, c.defects_below-below.ensures.few, c.defects_below-below.ensures.at w.if-below-gaps.true) in
          block_at-below (o - k) k gaps w.if-below-gaps.true above)
      | else-below-gaps-via-else-below-gaps w ↦ block_at-end (o - k) k gaps (omega (arith, w.if-below-gaps.false))
    ] in
    let read : block_at (c.args.p.0 - 16) gaps ≡ Some (o - k) = ap (λ n. block_at n gaps) (sym c.in_ok-offset.ensures.1) ∙ passed ∙ rest in
    block-read (Some (o - k)) gaps c.args.p.0 c.in_ok-offset.ensures.0 (sym read) primary high up same
