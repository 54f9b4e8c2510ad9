-- the parts that are read are laid out as the bytes, and no others are
use Rattle.std.proofs.Common.{drop, ◌∙◌, sym, arith, length-drop}
use Rattle.std.proofs.lemmas.List.{take_all}
use Rattle.disk_base.proofs.Heading.{laid_out, alike}
use Rattle.disk_base.proofs.payload.payload_of.Goals as goal

pub returns-clause-laid_out : goal.returns-clause-laid_out
returns-clause-laid_out c =
    laid_out c.args.bytes.now _ _ _ c.told-bytes c.fits-bytes c.from_be_bytes.ensures c.from_be_bytes-2.ensures
    (c.copy_from_slice.ensures.after ∙ take_all 512 (drop 16 c.args.bytes.now) (omega (arith, length-drop 16 c.args.bytes.now)))

pub returns-clause-only : goal.returns-clause-only
returns-clause-only c p in_p e =
    sym (alike p _ in_p (record {
      kind = c.fits-bytes 0;
      index = c.fits-bytes 1;
      state = c.fits-bytes 2;
      version = c.fits-bytes 3;
      psn = c.from_be_bytes.type_inv;
      address = c.from_be_bytes-2.type_inv;
      long = c.copy_from_slice.ensures.len;
    }) (e ∙ sym (returns-clause-laid_out c)))
