use Rattle.std.proofs.Common.{Some, sym, ap, ◌∙◌, List, ℕ}
use Rattle.disk_base.specs.declared.address.Lba.{Lba}
use Rattle.write_cache.specs.Contents.{is_at}
use Rattle.write_cache.proofs.Places.{IsFirst-position, lookup-first, remove-first, lookup-no_position}
use Rattle.write_cache.proofs.Halves.{remove_entry-none}
use Rattle.write_cache.proofs.dirty.take.Goals as goal

pub returns-in_err-place-clause-data_was : goal.returns-in_err-place-clause-data_was
returns-in_err-place-clause-data_was c =
    let none = rw c.as_slice.ensures.value at (sym c.in_err-place.ensures) in
    rw c.from_residual.ensures (sym (lookup-no_position (is_at c.args.b) c.args.list.now.items none))

pub returns-in_err-place-clause-rest : goal.returns-in_err-place-clause-rest
returns-in_err-place-clause-rest c =
    let none = rw c.as_slice.ensures.value at (sym c.in_err-place.ensures) in
    sym (remove_entry-none (is_at c.args.b) c.args.list.now.items (lookup-no_position (is_at c.args.b) c.args.list.now.items none))

pub returns-clause-data_was : goal.returns-clause-data_was
returns-clause-data_was c =
    let here = rw c.as_slice.ensures.value at (sym c.in_ok-place.ensures) in
    let first = IsFirst-position (is_at c.args.b) c.args.list.now.items c.in_ok-place.place here c.remove.result in
    ap Some (ap (λ (e : Lba × List ℕ). e.1) c.remove.ensures.value) ∙ sym (lookup-first (is_at c.args.b) c.args.list.now.items c.in_ok-place.place c.remove.result first)

pub returns-clause-rest : goal.returns-clause-rest
returns-clause-rest c =
    let here = rw c.as_slice.ensures.value at (sym c.in_ok-place.ensures) in
    let first = IsFirst-position (is_at c.args.b) c.args.list.now.items c.in_ok-place.place here c.remove.result in
    c.remove.ensures.items ∙ remove-first (is_at c.args.b) c.args.list.now.items c.in_ok-place.place c.remove.result first
