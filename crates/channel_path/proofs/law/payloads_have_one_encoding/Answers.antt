use Rattle.channel_path.proofs.Back.{written_once}
use Rattle.channel_path.proofs.law.payloads_have_one_encoding.Goals as goal

pub returns : goal.returns
returns c = written_once c.data_have_one_encoding.ensures c.each_message_has_one_code.ensures.one
