use Rattle.drive_core.proofs.Destages.{next_found}
use Rattle.drive_core.proofs.destaging.destage.Goals as goal

pub write_out-requires-clause-may : goal.write_out-requires-clause-may
write_out-requires-clause-may c = (
  c.requires.may.0,
  record {
    fits = c.requires.may.1.fits;
    is_next = next_found c.requires.may.0 c.in-Some.b c.destaged.result (c.destaged.ensures c.requires.may.0 c.requires.may.1.fits) c.in-Some.is;
  },
)

pub returns : goal.returns
returns c = record {
  moves = λ s may. c.write_out.ensures.moves s (record {
    fits = may.fits;
    is_next = next_found s c.in-Some.b c.destaged.result (c.destaged.ensures s may.fits) c.in-Some.is;
  });
}
