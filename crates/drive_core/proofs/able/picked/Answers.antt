use Rattle.std.proofs.Common.{◌∙◌, ap, arith, Some}
use Rattle.drive_scene.proofs.Walking.{arrival-picked, behind-picked}
use Rattle.drive_core.proofs.able.picked.Goals as goal

pub returns-then-k-len : goal.returns-then-k-len
returns-then-k-len c s fits =
    arrival-picked s c.args.waiting.now c.args.x c.arriving-arrivals.result.items c.able_commands-commands.result.items c.deref.result.now
    c.len.result c.len-2.result c.able_destages-destages.result c.len-3.result c.index-deref-k.result
    (record {
      among = record { flightless = fits.flightless; arrivals = c.arriving-arrivals.ensures; commands = c.able_commands-commands.ensures.able s fits };
      arrivals = c.len.ensures.value;
      commands = c.len-2.ensures.value;
      destages = c.able_destages-destages.ensures.count s fits;
    })
    c.len-3.ensures.value c.deref.ensures.0 c.index-deref-k.is c.if-k-len.true

pub returns-else-k-len : goal.returns-else-k-len
returns-else-k-len c s fits =
    ap Some c.behind_arrivals.ensures
    ∙ behind-picked s c.args.waiting.now c.args.x c.arriving-arrivals.result.items c.able_commands-commands.result.items c.as_slice.result.now
    c.len.result c.len-2.result c.able_destages-destages.result c.len-else-k-len.result
    (record {
      among = record { flightless = fits.flightless; arrivals = c.arriving-arrivals.ensures; commands = c.able_commands-commands.ensures.able s fits };
      arrivals = c.len.ensures.value;
      commands = c.len-2.ensures.value;
      destages = c.able_destages-destages.ensures.count s fits;
    })
    c.len-else-k-len.ensures.value c.as_slice.ensures.value (omega arith) (omega arith)
