-- A sector below the first spare or past the drive is no spare; between them it is one where it is no defect.
use Rattle.std.proofs.Common.{sym, ◌∙◌, ap, not, inl, inr, arith}
use Rattle.geometry_map.proofs.SpareLemmas.{spare-sound, spare-nowhere}
use Rattle.geometry_map.proofs.slips.is_spare.Goals as goal
use Rattle.geometry_map.proofs.slips.is_spare.Goals.{then-p-first_spare-via-then-p-first_spare, then-p-first_spare-via-else-p-first_spare+then-p-total}

pub returns-then-p-first_spare : goal.returns-then-p-first_spare
returns-then-p-first_spare c =
    elim c.then-p-first_spare.branch [
      | then-p-first_spare-via-then-p-first_spare w ↦ sym (spare-nowhere c.args.size.now c.args.primary.now c.args.p.0 c.requires (inl (omega arith)))
      | then-p-first_spare-via-else-p-first_spare+then-p-total w ↦ sym (spare-nowhere c.args.size.now c.args.primary.now c.args.p.0 c.requires (inr (omega arith)))
    ]

pub returns : goal.returns
returns c =
    ap not c.is_listed.ensures ∙ sym (spare-sound c.args.size.now c.args.primary.now c.args.p.0 c.requires (omega arith) (omega arith))
