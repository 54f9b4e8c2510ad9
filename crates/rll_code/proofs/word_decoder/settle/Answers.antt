use Rattle.rll_code.proofs.WordDecoderTable.{word_tables_settle}
use Rattle.rll_code.proofs.word_decoder.settle.Goals as goal

pub returns-clause-settles : goal.returns-clause-settles
returns-clause-settles c = (word_tables_settle c.args.state c.args.eight c.requires.state c.requires.eight).settles

pub returns-clause-bits : goal.returns-clause-bits
returns-clause-bits c = (word_tables_settle c.args.state c.args.eight c.requires.state c.requires.eight).bits

pub returns-clause-flags : goal.returns-clause-flags
returns-clause-flags c = (word_tables_settle c.args.state c.args.eight c.requires.state c.requires.eight).flags
