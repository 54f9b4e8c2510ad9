use Rattle.std.proofs.Common.{◌∙◌, sym}
use Rattle.drive_core.proofs.Placing.{errand-there, errand-waiting, errand-nowhere}
use Rattle.drive_core.proofs.accepted.errand_at.Goals as goal

pub returns-in-Some-work : goal.returns-in-Some-work
returns-in-Some-work c =
    errand-there c.args.commands.now c.args.c c.in-Some.i c.index-commands-i.result
    (record { need = c.need.result; settings = c.settings.result; gives = c.gives_data.result }) c.in-Some-work.work
    (sym c.place.ensures ∙ c.in-Some.is) c.in-Some-work.is (λ j. record { need = c.need.ensures.value j; settings = c.settings.ensures j; gives = c.gives_data.ensures j })

pub returns-in-None-work : goal.returns-in-None-work
returns-in-None-work c =
    errand-waiting c.args.commands.now c.args.c c.in-Some.i c.index-commands-i.result (sym c.place.ensures ∙ c.in-Some.is) c.in-None-work.is

pub returns-in-None : goal.returns-in-None
returns-in-None c = errand-nowhere c.args.commands.now c.args.c (sym c.place.ensures ∙ c.in-None.is)
