-- An entry, printed, is read as the same entry.
use Rattle.std.proofs.Common.{◌≡◌, ℕ, ◌<◌, ◌≤◌, ◌/◌, Bool, true, false, List, [], ◌∷◌, Option, Some, None, refl, arith, lit<}
use Rattle.std.specs.Prelude.{decimal}
use Rattle.hex.specs.Hex.{encode_with, IsBytes}
use Rattle.disk_base.specs.declared.address.Tag.{Tag}
use Rattle.disk_base.specs.declared.block.Value.TheVariants.{Data}
use Rattle.disk_base.specs.declared.command.Attribute.{Attribute}
use Rattle.disk_base.specs.declared.command.Attribute.TheVariants.{Simple, Ordered, Head}
use Rattle.disk_base.specs.declared.command.DataOut.{DataOut}
use Rattle.disk_base.specs.declared.command.DataOut.TheVariants.{Nothing as NoData, Fill, Given}
use Rattle.disk_base.specs.declared.command.Function.TheVariants.{Abort, AbortSet, Clear, Reset}
use Rattle.sense_data.specs.declared.sense.Sense.{Sense}
use Rattle.block_machine.specs.declared.entry.Who.TheVariants.{Command, Drive}
use Rattle.block_machine.specs.declared.entry.Seen.TheVariants.{Skipped, Light, Heavy, Unread}
use Rattle.block_machine.specs.declared.entry.Recovered.TheVariants.{Ready, Corrupt, Formatting}
use Rattle.block_machine.specs.declared.entry.Entry.{Entry}
use Rattle.block_machine.specs.declared.entry.Entry.TheVariants.{Arrived, Started, Get, Put, Harden, Passed, GiveUp, Page, Ended, Aborted, Asked, Mode, Scanned, Logged, Cut, PoweredOn, Tick, Blank, Fresh}
use Rattle.text_words.specs.Data.{sent_word}
use Rattle.script_text.specs.Proper.{IsSent, IsCommand}
use Rattle.report_text.specs.Entries.{page_word, flag_word, entry_words}
use Rattle.report_text.specs.Fields.{number_of, sent_of, page_of}
use Rattle.report_text.specs.EntryReading.{entry_form, arrived, who_of, flag_of, entry_from}
use Rattle.report_text.specs.Proper.{IsShort, IsLong, MaySay, IsEntry}
use Rattle.report_text.proofs.FieldLaws.{number_again, short_again, small_again, bytes_again, byte_again, no_letter, other_digit, value_again, sense_again}

long_again : (n : ℕ) → IsLong n → number_of 0 18446744073709551615 (decimal n) ≡ Some n
long_again n fits = number_again 0 18446744073709551615 n (omega arith) fits (lit< tt)

eight_again : (i : ℕ) → 1 ≤ i → i ≤ 8 → number_of 1 8 (decimal i) ≡ Some i
eight_again i least most = number_again 1 8 i least most (lit< tt)

half_again : (n : ℕ) → n ≤ 65535 → number_of 0 65535 (decimal n) ≡ Some n
half_again n fits = number_again 0 65535 n (omega arith) fits (lit< tt)

sent_again : (sent : DataOut) → IsSent sent → sent_of (sent_word sent) ≡ Some sent
sent_again NoData fits = refl
sent_again (Fill byte) fits = rw (byte_again byte fits) refl
sent_again (Given bytes) fits = rw (bytes_again bytes fits) refl

arrived_again : (minutes c i : ℕ) (t : Tag) (a : Attribute) (cdb : List ℕ) (sent : DataOut) → IsShort c → IsCommand i t.0 cdb sent
    → entry_from minutes (entry_words (Arrived c i t a cdb sent)) ≡ Some (Arrived c i t a cdb sent)
unfolding entry_form arrived
arrived_again minutes c i t Simple cdb sent fits whole =
    rw (short_again c fits, eight_again i whole.from_one whole.to_eight, half_again t.0 whole.tag_fits, bytes_again cdb whole.bytes, whole.block, sent_again sent whole.data_are_bytes) refl
arrived_again minutes c i t Ordered cdb sent fits whole =
    rw (short_again c fits, eight_again i whole.from_one whole.to_eight, half_again t.0 whole.tag_fits, bytes_again cdb whole.bytes, whole.block, sent_again sent whole.data_are_bytes) refl
arrived_again minutes c i t Head cdb sent fits whole =
    rw (short_again c fits, eight_again i whole.from_one whole.to_eight, half_again t.0 whole.tag_fits, bytes_again cdb whole.bytes, whole.block, sent_again sent whole.data_are_bytes) refl

who_again : (c : ℕ) → IsShort c → who_of (decimal c) ≡ Some (Command c)
who_again c fits = rw (no_letter c 100 [] (omega (arith, fits)) (lit< tt), short_again c fits) refl

page_again : (bytes : List ℕ) → IsBytes bytes → page_of (page_word bytes) ≡ Some bytes
unfolding encode_with
page_again [] fits = refl
page_again (x ∷ rest) fits = rw (other_digit (x / 16) 45 (omega (arith, fits 0)) refl) (bytes_again (x ∷ rest) fits)

ended_again : (minutes c status : ℕ) (sense : Option Sense) → IsShort c → status < 256 → MaySay sense
    → entry_from minutes (entry_words (Ended c (record { status = status; sense = sense }))) ≡ Some (Ended c (record { status = status; sense = sense }))
unfolding entry_form
ended_again minutes c status None fits byte says = rw (short_again c fits, byte_again status byte) refl
ended_again minutes c status (Some s) fits byte says = rw (short_again c fits, byte_again status byte, sense_again s says) refl

flag_again : (b : Bool) → flag_of (flag_word b) ≡ b
flag_again true = refl
flag_again false = refl

pub entry_again : (minutes : ℕ) (e : Entry) → IsEntry minutes e → entry_from minutes (entry_words e) ≡ Some e
unfolding entry_form
entry_again minutes (Arrived c i t a cdb sent) fits = arrived_again minutes c i t a cdb sent fits.0 fits.1
entry_again minutes (Started c) fits = rw (short_again c fits) refl
entry_again minutes (Get c b value) fits = rw (short_again c fits.0, long_again b.0 fits.1, value_again value fits.2) refl
entry_again minutes (Put c b block) fits = rw (short_again c fits.0, long_again b.0 fits.1, value_again (Data block) fits.2) refl
entry_again minutes (Harden (Command c) b) fits = rw (who_again c fits.0, long_again b.0 fits.1) refl
entry_again minutes (Harden Drive b) fits = rw (long_again b.0 fits.1) refl
entry_again minutes (Passed c from to) fits = rw (short_again c fits.0, long_again from.0 fits.1, long_again to.0 fits.2) refl
entry_again minutes (GiveUp b) fits = rw (long_again b.0 fits) refl
entry_again minutes (Page c bytes) fits = rw (short_again c fits.0, page_again bytes fits.1) refl
entry_again minutes (Ended c reply) fits = ended_again minutes c reply.status reply.sense fits.0 fits.1 fits.2
entry_again minutes (Aborted c) fits = rw (short_again c fits) refl
entry_again minutes (Asked i (Abort tag)) fits = rw (eight_again i fits.0 fits.1, half_again tag.0 fits.2) refl
entry_again minutes (Asked i AbortSet) fits = rw (eight_again i fits.0 fits.1) refl
entry_again minutes (Asked i Clear) fits = rw (eight_again i fits.0 fits.1) refl
entry_again minutes (Asked i Reset) fits = rw (eight_again i fits.0 fits.1) refl
entry_again minutes (Mode s) fits =
    rw (small_again s.retry fits, flag_again s.awre, flag_again s.arre, flag_again s.per, flag_again s.wce, flag_again s.rcd, flag_again s.bms) refl
entry_again minutes (Scanned b Skipped) fits = rw (long_again b.0 fits) refl
entry_again minutes (Scanned b Light) fits = rw (long_again b.0 fits) refl
entry_again minutes (Scanned b Heavy) fits = rw (long_again b.0 fits) refl
entry_again minutes (Scanned b Unread) fits = rw (long_again b.0 fits) refl
entry_again minutes (Logged finding) fits = rw (small_again finding.status fits.0, long_again finding.b.0 fits.1, fits.2) refl
entry_again minutes Cut fits = refl
entry_again minutes (PoweredOn (Ready number)) fits = rw (long_again number fits) refl
entry_again minutes (PoweredOn (Corrupt slot)) fits = rw (small_again slot fits) refl
entry_again minutes (PoweredOn (Formatting number)) fits = rw (long_again number fits) refl
entry_again minutes (Tick n) fits = rw (half_again n fits) refl
entry_again minutes (Blank c) fits = rw (short_again c fits) refl
entry_again minutes (Fresh c) fits = rw (short_again c fits) refl
