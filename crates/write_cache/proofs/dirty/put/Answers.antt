use Rattle.std.proofs.Common.{sym, ◌∙◌, refl}
use Rattle.write_cache.specs.Contents.{is_at}
use Rattle.write_cache.proofs.Places.{IsFirst-position, lookup-first, lookup-no_position}
use Rattle.write_cache.proofs.Addresses.{refill-set, put_data-there, put_data-new}
use Rattle.write_cache.proofs.dirty.put.Goals as goal

pub returns-in-Some-clause-full : goal.returns-in-Some-clause-full
returns-in-Some-clause-full c =
    let here = rw c.as_slice.ensures.value at (sym c.in-Some.ensures) in
    let first = IsFirst-position (is_at c.args.b) c.args.list.now.items c.in-Some.place here c.new-held.result in
    let found = lookup-first (is_at c.args.b) c.args.list.now.items c.in-Some.place c.new-held.result first in
    (λ full. absurd (cc), λ full. let none = full.1 in cc)

pub returns-in-Some-clause-kept : goal.returns-in-Some-clause-kept
returns-in-Some-clause-kept c = λ _.
    let here = rw c.as_slice.ensures.value at (sym c.in-Some.ensures) in
    rw (c.deref_mut.ensures.value, c.new-held.ensures) (
    refill-set c.args.list.now.items c.in-Some.place (c.args.b, c.args.block.now)
    ∙ put_data-there c.args.b c.args.block.now c.args.list.now.items c.in-Some.place here)

pub returns-in-Ok-clause-kept : goal.returns-in-Ok-clause-kept
returns-in-Ok-clause-kept c = λ _.
    let none = rw c.as_slice.ensures.value at (sym c.in-None.ensures) in
    let absent = lookup-no_position (is_at c.args.b) c.args.list.now.items none in
    (rw c.new-held.ensures at c.in-Ok.ensures.ok) ∙ sym (put_data-new c.args.b c.args.block.now c.args.list.now.items absent)

pub returns-in-Err-clause-full : goal.returns-in-Err-clause-full
returns-in-Err-clause-full c =
    let none = rw c.as_slice.ensures.value at (sym c.in-None.ensures) in
    (λ _. (c.in-Err.ensures.full, lookup-no_position (is_at c.args.b) c.args.list.now.items none), λ _. refl)
