-- the words so far hold what is carried after so many bytes
use Rattle.std.proofs.Common.{◌+◌, ◌*◌, ◌^◌, ◌<◌, ◌++◌, false, take}
use Rattle.std.specs.Prelude.{replicate}
use Rattle.std.specs.List.{flat_map}
use Rattle.bit_words.specs.Words.{word_bits}
use Rattle.rll_code.specs.Bits.{byte_bits}
use Rattle.rll_code.specs.Words.{Carries}
use Rattle.rll_code.proofs.word_encoder.encode_words.Given as goal

abbrev pub invariant-loop-j : goal.invariant-loop-j
invariant-loop-j l = record {
  carries : Carries (flat_map byte_bits (take (4 * l.j + 1) l.bytes)) (replicate 16 false ++ word_bits (take l.j l.out)) 16 l.state l.carry;
  small : l.carry < 2 ^ 20;
}
