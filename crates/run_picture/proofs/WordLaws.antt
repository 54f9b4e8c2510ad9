-- The words of a mark are the first of its entry's.
use Rattle.std.proofs.Common.{[], ◌∷◌, refl}
use Rattle.std.specs.Prelude.{decimal}
use Rattle.disk_base.specs.declared.block.Value.TheVariants.{Data, Lost}
use Rattle.block_machine.specs.declared.entry.Entry.TheVariants.{Arrived, Started, Get, Put, Harden, Passed, GiveUp, Page, Ended, Aborted, Asked, Mode, Scanned, Logged, Cut, PoweredOn, Tick, Blank, Fresh}
use Rattle.text_words.specs.Digits.{hex_of}
use Rattle.text_words.specs.Data.{sent_word, value_word, block_word}
use Rattle.script_text.specs.Spelling.{attribute_word}
use Rattle.report_text.specs.Entries.{page_word, sense_words, function_words, settings_words, seen_word, recovered_words}
use Rattle.run_picture.specs.Laws.{WordsAreTheReports}

pub first_words : WordsAreTheReports
first_words (Arrived c i t a cdb sent) = (decimal t.0 ∷ attribute_word a ∷ hex_of cdb ∷ sent_word sent ∷ [], refl)
first_words (Started c) = ([], refl)
first_words (Get c b (Data block)) = (value_word (Data block) ∷ [], refl)
first_words (Get c b Lost) = ([], refl)
first_words (Put c b block) = (block_word block ∷ [], refl)
first_words (Harden who b) = ([], refl)
first_words (Passed c from to) = ([], refl)
first_words (GiveUp b) = ([], refl)
first_words (Page c bytes) = (page_word bytes ∷ [], refl)
first_words (Ended c reply) = (sense_words reply.sense, refl)
first_words (Aborted c) = ([], refl)
first_words (Asked i what) = (function_words what, refl)
first_words (Mode settings) = (settings_words settings, refl)
first_words (Scanned b what) = (seen_word what ∷ [], refl)
first_words (Logged finding) = ([], refl)
first_words Cut = ([], refl)
first_words (PoweredOn outcome) = (recovered_words outcome, refl)
first_words (Tick minutes) = (decimal minutes ∷ [], refl)
first_words (Blank c) = ([], refl)
first_words (Fresh c) = ([], refl)
