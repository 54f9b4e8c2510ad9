use Rattle.std.proofs.Common.{◌≡◌, ◌<◌, ◌+◌, ℕ, get_or, [], sym, subst, arith}
use Rattle.rs_sector.specs.Pivots.{IsColumn}
use Rattle.rs_sector.proofs.Pivoting.{window_start, column_cleared, rows_cleared, rows_zero_more, filled}
use Rattle.rs_sector.proofs.locate.cleared.Goals as goal
use Rattle.rs_sector.proofs.locate.cleared.Goals.{then-lead-ne0+else-inverse-eq0, else-lead-ne0}

pub loop-row-init : goal.loop-row-init
loop-row-init c =
    (window_start c.args.sums.now c.copy_from_slice.new.self c.args.degree c.fits-sums (omega arith) c.copy_from_slice.ensures.len c.copy_from_slice.ensures.after, λ j l. absurd (omega arith))

pub loop-row-preserved : goal.loop-row-preserved
loop-row-preserved c =
    elim c.if-lead-ne0.branch [
      | then-lead-ne0+else-inverse-eq0 w ↦
          let row : ℕ = c.loop-row.row in
          let pivot = c.requires.pivots.pivot row c.loop-row-test.true (filled (get_or c.args.pivots.now.inverses row 0) w.if-inverse-eq0.false) in (
            subst (λ p. IsColumn c.args.sums.now c.args.degree p c.if-lead-ne0.row_sums) (sym w.polynomial-is)
                (subst (IsColumn c.args.sums.now c.args.degree w.add_scaled.new.to) (sym w.row_sums-is)
                (column_cleared c.args.sums.now c.args.degree row c.loop-row.polynomial c.loop-row.row_sums w.add_scaled.new.to w.add_scaled-then-lead-ne0.new.to
                (get_or c.args.pivots.now.polynomials row []) (get_or c.args.pivots.now.row_sums row []) (get_or c.args.pivots.now.inverses row 0) w.mul-factor.result (omega arith) (omega arith) c.loop-row.invariant.0 pivot
                w.mul-factor.ensures w.add_scaled.ensures w.add_scaled-then-lead-ne0.ensures)),
            subst (λ s. (j : ℕ) → j < row + 1 → get_or s j 0 ≡ 0) (sym w.row_sums-is)
                (rows_cleared c.args.sums.now c.args.degree row c.loop-row.row_sums w.add_scaled-then-lead-ne0.new.to (get_or c.args.pivots.now.polynomials row []) (get_or c.args.pivots.now.row_sums row [])
                (get_or c.args.pivots.now.inverses row 0) w.mul-factor.result (omega arith) c.loop-row.invariant.0.sum_bytes pivot w.mul-factor.ensures w.add_scaled-then-lead-ne0.ensures c.loop-row.invariant.1),
          )
      | else-lead-ne0 w ↦ (
        subst (λ p. IsColumn c.args.sums.now c.args.degree p c.if-lead-ne0.row_sums) (sym w.polynomial-is)
            (subst (IsColumn c.args.sums.now c.args.degree c.loop-row.polynomial) (sym w.row_sums-is) c.loop-row.invariant.0),
        subst (λ s. (j : ℕ) → j < c.loop-row.row + 1 → get_or s j 0 ≡ 0) (sym w.row_sums-is) (rows_zero_more c.loop-row.row_sums c.loop-row.row w.if-lead-ne0.false c.loop-row.invariant.1),
      )
    ]
