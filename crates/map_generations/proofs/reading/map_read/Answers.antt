-- The lists that are read are those of each map that may have these data.
use Rattle.std.proofs.Common.{sym, ◌∙◌, arith}
use Rattle.map_generations.proofs.ReadBack.{primary_count, grown_count, primary_read, grown_read, pairs_in-length}
use Rattle.map_generations.proofs.reading.map_read.Goals as goal

pub read_pairs-requires-2-clause-room : goal.read_pairs-requires-2-clause-room
read_pairs-requires-2-clause-room c =
    let long = pairs_in-length c.min.result c.args.records.now.pairs.now.block in
    rw (c.read_pairs.ensures, c.new-grown.ensures, long) (omega arith)

pub returns-clause-only : goal.returns-clause-only
returns-clause-only c m is state zeroth first second third =
    let sectors = primary_count m c.args.records.now.measures.now.block is.valid third in
    let pairs = grown_count m c.args.records.now.measures.now.block is.valid third in
    let primary = primary_read m c.args.records.now.sectors.now.block c.counts-sectors.result.0 is.valid zeroth (c.counts-sectors.ensures.sectors ∙ sectors) in
    let grown =
    grown_read m c.args.records.now.pairs.now.block c.args.records.now.later_pairs.now.block c.counts-sectors.result.1 is.valid first second
    (c.counts-sectors.ensures.pairs ∙ pairs) in
    c.numbered_map.ensures.only m is
    (rw (c.as_slice.ensures.value, c.sectors_of-primary.ensures) (sym primary))
    (rw (
      c.as_slice-2.ensures.value,
      c.read_pairs-2.ensures,
      c.read_pairs.ensures,
      c.new-grown.ensures,
      c.min.ensures,
      c.saturating_sub.ensures,
    ) (sym grown))
    state
