use Rattle.report_text.proofs.SenseLemmas.{sense_is_from}
use Rattle.report_text.proofs.fields.sense_from.Goals as goal

pub returns : goal.returns
returns c = sense_is_from c.args.bytes.now c.read.result c.fits-bytes c.read.ensures.some c.read.ensures.only
