-- word i of the four is the one that its bytes are dealt to
use Rattle.std.proofs.Common.{◌≡◌, [], get_or}
use Rattle.rs_sector.specs.Sector.{word_of}
use Rattle.channel_path.proofs.Reach.{dealt_word}
use Rattle.channel_path.proofs.reading.corrected_word.Goals as goal

pub returns-clause-some : goal.returns-clause-some
returns-clause-some c =
    let word : get_or c.args.words.now c.args.i [] ≡ word_of 148 c.args.heard.now.bytes c.args.i
    = dealt_word c.args.heard.now.bytes c.args.words.now c.args.i c.requires.below c.requires.words in
    rw (word, c.interleaved_flags.ensures) at c.nearest_by.ensures.some

pub returns-clause-none : goal.returns-clause-none
returns-clause-none c codeword reach =
    let word : get_or c.args.words.now c.args.i [] ≡ word_of 148 c.args.heard.now.bytes c.args.i
    = dealt_word c.args.heard.now.bytes c.args.words.now c.args.i c.requires.below c.requires.words in
    c.nearest_by.ensures.none codeword (rw (word, c.interleaved_flags.ensures) reach)
