use Rattle.std.proofs.Common.{Some, sym, ap, ◌∙◌, List, ℕ}
use Rattle.disk_base.specs.declared.address.Lba.{Lba}
use Rattle.write_cache.specs.Contents.{is_at}
use Rattle.write_cache.proofs.Places.{IsFirst-position, lookup-first, lookup-no_position}
use Rattle.write_cache.proofs.dirty.find.Goals as goal

pub returns-in_err-place : goal.returns-in_err-place
returns-in_err-place c =
    let none = rw c.as_slice.ensures.value at (sym c.in_err-place.ensures) in
    rw c.from_residual.ensures (sym (lookup-no_position (is_at c.args.b) c.args.list.now.items none))

pub returns : goal.returns
returns c =
    let here = rw c.as_slice.ensures.value at (sym c.in_ok-place.ensures) in
    let entry = c.index-as_slice-place.result in
    let is = rw c.as_slice-2.ensures.value at c.index-as_slice-place.is in
    let first = IsFirst-position (is_at c.args.b) c.args.list.now.items c.in_ok-place.place here entry in
    ap Some (c.block.ensures ∙ ap (λ (e : Lba × List ℕ). e.1) is) ∙ sym (lookup-first (is_at c.args.b) c.args.list.now.items c.in_ok-place.place entry first)
