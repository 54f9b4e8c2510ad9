-- A map's two lists are short enough for a length in two bytes.
use Rattle.std.proofs.Common.{ap, arith, length}
use Rattle.defect_lists.specs.DefectData.{asked_sectors}
use Rattle.defect_lists.proofs.Sorting.{length-ascending}
use Rattle.defect_lists.proofs.Addresses.{asked_sectors-few}
use Rattle.defect_lists.proofs.reply.defect_reply.Goals as goal

pub heading-requires : goal.heading-requires
heading-requires c =
    omega (arith, c.len.ensures, ap length c.in_ok-sectors.ensures, length-ascending (asked_sectors c.args.map.now c.args.request.now), asked_sectors-few c.args.map.now c.args.request.now c.lists_are_valid.ensures)
