-- What is read of an entry is in the ranges of its types, and lawful.
use Rattle.std.proofs.Common.{ℕ, Bool, true, false, List, [], ◌∷◌}
use Rattle.std.specs.Prelude.{codes, if◌then◌else◌}
use Rattle.std.specs.Option.{IfSome}
use Rattle.std.specs.Str.{bytes_eq}
use Rattle.hex.specs.Hex.{IsBytes}
use Rattle.disk_base.specs.Cdb.{is_command_block}
use Rattle.disk_base.specs.declared.block.Value.{Value}
use Rattle.disk_base.specs.declared.block.Value.TheVariants.{Data, Lost}
use Rattle.disk_base.specs.declared.command.Function.TheVariants.{AbortSet, Clear, Reset}
use Rattle.sense_data.specs.Sense.{IsSense}
use Rattle.block_machine.specs.declared.entry.Entry.TheVariants.{Started, Aborted, Blank, Fresh}
use Rattle.text_words.specs.Digits.{bytes_of, byte_of}
use Rattle.text_words.specs.Data.{value_of}
use Rattle.script_text.specs.Proper.{IsSent, IsAsked}
use Rattle.report_text.specs.Fields.{number_of, command_of, lone_number, block_of, tag_of, sent_of, page_of, sense_of}
use Rattle.report_text.specs.Findings.{finding_of}
use Rattle.report_text.specs.EntryReading.{entry_form, arrived, arrived_words, get_words, data_in, put_words, who_of, harden_words, pass_words, lose_words, page_words, end_words, function_of, func_words, mode_words, scanned_words, logged_words, recovered_of, on_words, cut_words, tick_words, entry_of, entry_from}
use Rattle.report_text.specs.declared.form.EntryForm.{EntryForm}
use Rattle.report_text.specs.declared.form.EntryForm.TheVariants.{Arrived as In, Started as Start, Get as Got, Put as PutForm, Harden as Hard, Passed as Pass, GiveUp as Lose, Page as PageForm, Ended as End, Aborted as Gone, Asked as Func, Mode as ModeForm, Scanned as ScannedForm, Logged as LoggedForm, Cut as CutForm, PoweredOn as On, Tick as TickForm, Blank as BlankForm, Fresh as FreshForm}
use Rattle.report_text.specs.Proper.{IsShort, IsBlock, IsValue, IsWho, IsRecovered, IsEntry}
use Rattle.report_text.proofs.ReadRanges.{through, past, required, either_way, none_range, one_range, two_range, three_range, mapped, IsFrom, number_range, command_range, lone_number_range, IsAddress, block_range, IsTag, tag_range, bytes_range, IsByte, byte_range, sent_range, page_range, value_range, sense_range, IsTold, finding_range}

arrived_range : (m : ℕ) (c i t a cdb sent : List ℕ) → IfSome (arrived c i t a cdb sent) (IsEntry m)
unfolding arrived
arrived_range m c i t a cdb sent =
    through IsShort (IsEntry m) (command_of c) _ (command_range c) (λ command short.
    through (IsFrom 1 8) (IsEntry m) (number_of 1 8 i) _ (number_range 1 8 i) (λ initiator from.
    through IsTag (IsEntry m) (tag_of t) _ (tag_range t) (λ tag fits.
    through IsBytes (IsEntry m) (bytes_of cdb) _ (bytes_range cdb) (λ block bytes.
    required (IsEntry m) (is_command_block block) _ (λ whole.
    through IsSent (IsEntry m) (sent_of sent) _ (sent_range sent) (λ given are.
    (short, record { from_one = from.0; to_eight = from.1; tag_fits = fits; bytes = bytes; block = whole; data_are_bytes = are })))))))

arrived_words_range : (m : ℕ) (words : List (List ℕ)) → IfSome (arrived_words words) (IsEntry m)
arrived_words_range m [] = tt
arrived_words_range m (c ∷ []) = tt
arrived_words_range m (c ∷ i ∷ []) = tt
arrived_words_range m (c ∷ i ∷ t ∷ []) = tt
arrived_words_range m (c ∷ i ∷ t ∷ a ∷ []) = tt
arrived_words_range m (c ∷ i ∷ t ∷ a ∷ cdb ∷ []) = tt
arrived_words_range m (c ∷ i ∷ t ∷ a ∷ cdb ∷ sent ∷ []) = arrived_range m c i t a cdb sent
arrived_words_range m (c ∷ i ∷ t ∷ a ∷ cdb ∷ sent ∷ more ∷ rest) = tt

get_range : (m : ℕ) (words : List (List ℕ)) → IfSome (get_words words) (IsEntry m)
get_range m = three_range (IsEntry m) _ (λ c b v.
    through IsShort (IsEntry m) (command_of c) _ (command_range c) (λ command short.
    through IsAddress (IsEntry m) (block_of b) _ (block_range b) (λ block long.
    through IsValue (IsEntry m) (value_of v) _ (value_range v) (λ value is. (short, long, is)))))

data_range : (value : Value) → IsValue value → IfSome (data_in value) IsBlock
data_range (Data block) is = is
data_range Lost is = tt

put_range : (m : ℕ) (words : List (List ℕ)) → IfSome (put_words words) (IsEntry m)
put_range m = three_range (IsEntry m) _ (λ c b v.
    through IsShort (IsEntry m) (command_of c) _ (command_range c) (λ command short.
    through IsAddress (IsEntry m) (block_of b) _ (block_range b) (λ block long.
    through IsValue (IsEntry m) (value_of v) _ (value_range v) (λ value is.
    through IsBlock (IsEntry m) (data_in value) _ (data_range value is) (λ bytes are. (short, long, are))))))

who_range : (word : List ℕ) → IfSome (who_of word) IsWho
who_range word = either_way IsWho (bytes_eq word (codes "d")) _ _ tt (through IsShort IsWho (command_of word) _ (command_range word) (λ c fits. fits))

harden_range : (m : ℕ) (words : List (List ℕ)) → IfSome (harden_words words) (IsEntry m)
harden_range m = two_range (IsEntry m) _ (λ who b.
    through IsWho (IsEntry m) (who_of who) _ (who_range who) (λ by is.
    through IsAddress (IsEntry m) (block_of b) _ (block_range b) (λ block long. (is, long))))

pass_range : (m : ℕ) (words : List (List ℕ)) → IfSome (pass_words words) (IsEntry m)
pass_range m = three_range (IsEntry m) _ (λ c from to.
    through IsShort (IsEntry m) (command_of c) _ (command_range c) (λ command short.
    through IsAddress (IsEntry m) (block_of from) _ (block_range from) (λ first low.
    through IsAddress (IsEntry m) (block_of to) _ (block_range to) (λ end high. (short, low, high)))))

lose_range : (m : ℕ) (words : List (List ℕ)) → IfSome (lose_words words) (IsEntry m)
lose_range m = one_range (IsEntry m) _ (λ b. through IsAddress (IsEntry m) (block_of b) _ (block_range b) (λ block long. long))

page_words_range : (m : ℕ) (words : List (List ℕ)) → IfSome (page_words words) (IsEntry m)
page_words_range m = two_range (IsEntry m) _ (λ c word.
    through IsShort (IsEntry m) (command_of c) _ (command_range c) (λ command short.
    through IsBytes (IsEntry m) (page_of word) _ (page_range word) (λ bytes are. (short, are))))

end_range : (m : ℕ) (words : List (List ℕ)) → IfSome (end_words words) (IsEntry m)
end_range m [] = tt
end_range m (c ∷ []) = tt
end_range m (c ∷ ss ∷ []) =
    through IsShort (IsEntry m) (command_of c) _ (command_range c) (λ command short.
    through IsByte (IsEntry m) (byte_of ss) _ (byte_range ss) (λ status byte. (short, byte, tt)))
end_range m (c ∷ ss ∷ word ∷ []) =
    through IsShort (IsEntry m) (command_of c) _ (command_range c) (λ command short.
    through IsByte (IsEntry m) (byte_of ss) _ (byte_range ss) (λ status byte.
    through IsSense (IsEntry m) (sense_of word) _ (sense_range word) (λ sense is. (short, byte, is))))
end_range m (c ∷ ss ∷ word ∷ more ∷ rest) = tt

function_range : (word : List ℕ) → IsAsked (function_of word)
function_range word = by_tests (bytes_eq word (codes "abortset")) (bytes_eq word (codes "clear"))
  where
    by_tests : (a b : Bool) → IsAsked (if a then AbortSet else if b then Clear else Reset)
    by_tests true b = tt
    by_tests false true = tt
    by_tests false false = tt

func_range : (m : ℕ) (words : List (List ℕ)) → IfSome (func_words words) (IsEntry m)
func_range m [] = tt
func_range m (i ∷ []) = tt
func_range m (i ∷ what ∷ []) = through (IsFrom 1 8) (IsEntry m) (number_of 1 8 i) _ (number_range 1 8 i) (λ initiator from. (from.0, from.1, function_range what))
func_range m (i ∷ what ∷ t ∷ []) =
    through (IsFrom 1 8) (IsEntry m) (number_of 1 8 i) _ (number_range 1 8 i) (λ initiator from.
    through IsTag (IsEntry m) (tag_of t) _ (tag_range t) (λ tag fits. (from.0, from.1, fits)))
func_range m (i ∷ what ∷ t ∷ more ∷ rest) = tt

mode_range : (m : ℕ) (words : List (List ℕ)) → IfSome (mode_words words) (IsEntry m)
mode_range m [] = tt
mode_range m (a ∷ []) = tt
mode_range m (a ∷ b ∷ []) = tt
mode_range m (a ∷ b ∷ c ∷ []) = tt
mode_range m (a ∷ b ∷ c ∷ retry ∷ []) = tt
mode_range m (a ∷ b ∷ c ∷ retry ∷ d ∷ []) = tt
mode_range m (a ∷ b ∷ c ∷ retry ∷ d ∷ e ∷ []) = tt
mode_range m (a ∷ b ∷ c ∷ retry ∷ d ∷ e ∷ f ∷ []) = through (IsFrom 0 255) (IsEntry m) (number_of 0 255 retry) _ (number_range 0 255 retry) (λ n from. from.1)
mode_range m (a ∷ b ∷ c ∷ retry ∷ d ∷ e ∷ f ∷ more ∷ rest) = tt

scanned_range : (m : ℕ) (words : List (List ℕ)) → IfSome (scanned_words words) (IsEntry m)
scanned_range m = two_range (IsEntry m) _ (λ b what. through IsAddress (IsEntry m) (block_of b) _ (block_range b) (λ block long. long))

logged_range : (m : ℕ) (words : List (List ℕ)) → IfSome (logged_words m words) (IsEntry m)
logged_range m = two_range (IsEntry m) _ (λ status b.
    past (IsEntry m) (number_of 0 255 status) _ (λ n.
    through IsAddress (IsEntry m) (block_of b) _ (block_range b) (λ block long.
    through (IsTold m) (IsEntry m) (finding_of m n block) _ (finding_range m n block long) (λ f told. told))))

recovered_range : (what n : List ℕ) → IfSome (recovered_of what n) IsRecovered
recovered_range what n =
    either_way IsRecovered (bytes_eq what (codes "ready")) _ _
    (through (IsFrom 0 18446744073709551615) IsRecovered (number_of 0 18446744073709551615 n) _ (number_range 0 18446744073709551615 n) (λ k from. from.1))
    (either_way IsRecovered (bytes_eq what (codes "corrupt")) _ _
    (through (IsFrom 0 255) IsRecovered (number_of 0 255 n) _ (number_range 0 255 n) (λ k from. from.1))
    (through (IsFrom 0 18446744073709551615) IsRecovered (number_of 0 18446744073709551615 n) _ (number_range 0 18446744073709551615 n) (λ k from. from.1)))

on_range : (m : ℕ) (words : List (List ℕ)) → IfSome (on_words words) (IsEntry m)
on_range m = two_range (IsEntry m) _ (λ what n. through IsRecovered (IsEntry m) (recovered_of what n) _ (recovered_range what n) (λ outcome is. is))

cut_range : (m : ℕ) (words : List (List ℕ)) → IfSome (cut_words words) (IsEntry m)
cut_range m = none_range (IsEntry m) _ tt

tick_range : (m : ℕ) (words : List (List ℕ)) → IfSome (tick_words words) (IsEntry m)
tick_range m = one_range (IsEntry m) _ (λ n. through (IsFrom 0 65535) (IsEntry m) (number_of 0 65535 n) _ (number_range 0 65535 n) (λ k from. from.1))

entry_of_range : (m : ℕ) (form : EntryForm) (words : List (List ℕ)) → IfSome (entry_of m form words) (IsEntry m)
entry_of_range m In words = arrived_words_range m words
entry_of_range m Start words = mapped IsShort (IsEntry m) (lone_number words) Started (lone_number_range words) (λ c fits. fits)
entry_of_range m Got words = get_range m words
entry_of_range m PutForm words = put_range m words
entry_of_range m Hard words = harden_range m words
entry_of_range m Pass words = pass_range m words
entry_of_range m Lose words = lose_range m words
entry_of_range m PageForm words = page_words_range m words
entry_of_range m End words = end_range m words
entry_of_range m Gone words = mapped IsShort (IsEntry m) (lone_number words) Aborted (lone_number_range words) (λ c fits. fits)
entry_of_range m Func words = func_range m words
entry_of_range m ModeForm words = mode_range m words
entry_of_range m ScannedForm words = scanned_range m words
entry_of_range m LoggedForm words = logged_range m words
entry_of_range m CutForm words = cut_range m words
entry_of_range m On words = on_range m words
entry_of_range m TickForm words = tick_range m words
entry_of_range m BlankForm words = mapped IsShort (IsEntry m) (lone_number words) Blank (lone_number_range words) (λ c fits. fits)
entry_of_range m FreshForm words = mapped IsShort (IsEntry m) (lone_number words) Fresh (lone_number_range words) (λ c fits. fits)

pub entry_range : (m : ℕ) (words : List (List ℕ)) → IfSome (entry_from m words) (IsEntry m)
entry_range m [] = tt
entry_range m (first ∷ words) = past (IsEntry m) (entry_form first) _ (λ form. entry_of_range m form words)
