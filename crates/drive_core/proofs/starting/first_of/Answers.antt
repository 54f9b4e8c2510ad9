use Rattle.std.proofs.Common.{◌∙◌, sym, subst, Some, None}
use Rattle.geometry_map.specs.DefectMap.{DefectMap}
use Rattle.drive_core.proofs.Placing.{placed, there, nowhere}
use Rattle.drive_core.proofs.StartTurns.{MayStart, may_start, first-known, served_first, in_set, IfOk-map}
use Rattle.drive_core.specs.Starting.{IsFirst, IsFirstBy}
use Rattle.drive_core.proofs.starting.first_of.Goals as goal

pub first_by-requires-clause-served : goal.first_by-requires-clause-served
first_by-requires-clause-served c =
    let s = c.requires.may.0 in
    let may : MayStart c.requires.may.0 c.args.server.now c.args.c = may_start c.requires.may.0 c.args.server.now c.args.c c.requires.may.1 c.requires.waiting in
    served_first c.requires.may.0 c.args.server.now c.args.c c.index.result.now c.requires.may.1.fits may
    (there c.args.server.now.commands.items c.args.c c.in-Some-place.i c.index.result.now c.index.result.now
    (placed c.args.server.now.commands.items c.as_slice.result.now c.args.c c.place.result (Some c.in-Some-place.i) c.as_slice.ensures.value c.place.ensures c.in-Some-place.is)
    c.index.ensures)

pub unreachable-requires : goal.unreachable-requires
unreachable-requires c =
    let may : MayStart c.requires.may.0 c.args.server.now c.args.c = may_start c.requires.may.0 c.args.server.now c.args.c c.requires.may.1 c.requires.waiting in
    let none = nowhere c.args.server.now.commands.items c.args.c
    (placed c.args.server.now.commands.items c.as_slice.result.now c.args.c c.place.result None c.as_slice.ensures.value c.place.ensures c.in-None-place.is) in
    let some = may.a_is in
    cc

pub unreachable-requires-in-None : goal.unreachable-requires-in-None
unreachable-requires-in-None c =
    let may : MayStart c.requires.may.0 c.args.server.now c.args.c = may_start c.requires.may.0 c.args.server.now c.args.c c.requires.may.1 c.requires.waiting in
    let none = sym c.member.ensures ∙ c.in-None.is in
    let some = in_set c.requires.may.0 c.args.server.now c.args.c c.requires.may.1.fits may in
    cc

pub returns : goal.returns
returns c s work =
    let may : MayStart s c.args.server.now c.args.c = may_start s c.args.server.now c.args.c work c.requires.waiting in
    IfOk-map (IsFirstBy c.map.result.now c.args.server.now.known c.in-Some.member c.index.result.now) (IsFirst s c.args.c) c.first_by.result
    (λ x is. first-known s c.args.server.now c.args.c x c.in-Some.member c.index.result.now work.fits may
    (sym c.member.ensures ∙ c.in-Some.is)
    (there c.args.server.now.commands.items c.args.c c.in-Some-place.i c.index.result.now c.index.result.now
    (placed c.args.server.now.commands.items c.as_slice.result.now c.args.c c.place.result (Some c.in-Some-place.i) c.as_slice.ensures.value c.place.ensures c.in-Some-place.is)
    c.index.ensures)
    (subst (λ (m : DefectMap). IsFirstBy m c.args.server.now.known c.in-Some.member c.index.result.now x) c.map.ensures is))
    c.first_by.ensures
