use Rattle.std.proofs.Common.{ap}
use Rattle.std.specs.Result.{result_ok}
use Rattle.hex.proofs.HexLemmas.{decode_of-encode_upper}
use Rattle.text_words.specs.Digits.{bytes_of}
use Rattle.text_words.proofs.laws.digits_read_again.Goals as goal

pub returns : goal.returns
unfolding bytes_of
returns c bytes fit = ap result_ok (decode_of-encode_upper bytes fit)
