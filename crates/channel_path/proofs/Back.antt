-- What a payload was written as reads as that payload.
use Rattle.std.proofs.Common.{◌≡◌, ℕ, zero, suc, ◌+◌, ◌*◌, ◌/◌, ◌%◌, ◌<◌, Bool, true, false, not, ◌&&◌, List, [], ◌∷◌, length, take, get_or, arith, sym, ap, ◌∙◌, refl, eq-eqb}
use Rattle.std.specs.Prelude.{map, ℤ}
use Rattle.std.specs.List.{All}
use Rattle.std.proofs.lemmas.Bool.{and_left}
use Rattle.std.proofs.lemmas.List.{ext_get_or, length-map, get_or-map}
use Rattle.std.proofs.lemmas.List.FromFn.{length-map-range_with_len, get_or-map-range_with_len}
use Rattle.disk_base.specs.declared.payload.Payload.{Payload}
use Rattle.disk_base.specs.declared.stage.How.{How}
use Rattle.disk_base.specs.declared.stage.How.TheVariants.{Light, Full, Erased}
use Rattle.disk_base.specs.Payload.{layout, IsPayload}
use Rattle.rs_sector.specs.Code.{IsCodeword, AllEncode, count_below, differs_at}
use Rattle.rs_sector.specs.Decoding.{is_marked, marked, differing_outside}
use Rattle.rs_sector.specs.Sector.{word_of, words_of, bytes_of}
use Rattle.rs_sector.specs.Laws.{HaveOneEncoding, JoinsAgain, DealsAgain}
use Rattle.rll_code.specs.Code.{IsCode}
use Rattle.rll_code.specs.Reading.{flags_read}
use Rattle.rll_code.specs.Laws.{OnesAreFollowed}
use Rattle.rll_code.specs.Laws as code
use Rattle.prml_viterbi.specs.Levels.{AreSpaced, SpacedGiveAllowed, InvertEachOther, level_word, clean_samples}
use Rattle.prml_viterbi.specs.Detected.{CleanSamplesTell}
use Rattle.channel_path.specs.Sector.{IsInReach, flags_of}
use Rattle.channel_path.specs.Laws.{HasOneEncoding, ReadsBack}
use Rattle.channel_path.proofs.Flags.{none_flagged}
use Rattle.channel_path.proofs.Reach.{dealt_word}

-- what is false with one default is so with the other
other_default : (bits : List Bool) (k : ℕ) → get_or bits k true ≡ false → get_or bits k false ≡ false
other_default [] k h = refl
other_default (b ∷ bits) zero h = h
other_default (b ∷ bits) (suc k) h = other_default bits k h

-- two 0s behind each 1, wherever the word ends
spaced : (channel : List Bool) → OnesAreFollowed channel → AreSpaced channel
spaced channel followed k one =
    let there = followed k one in
    let next : k + 1 ≡ suc k = omega arith in
    let second : k + 2 ≡ suc (suc k) = omega arith in
    (other_default channel (suc k) (rw next at there.1), other_default channel (suc (suc k)) (rw second at there.2))

-- no number passes a test that none passes
pub count-none : (test : ℕ → Bool) (n : ℕ) → ((k : ℕ) → test k ≡ false) → count_below test n ≡ 0
unfolding count_below
count-none test zero none = refl
count-none test (suc n) none = rw (count-none test n none, none n)

-- a word differs from itself nowhere
pub same_nowhere : (word : List ℕ) (k : ℕ) → differs_at word word k ≡ false
same_nowhere word k = rw (eq-eqb (get_or word k 0) (get_or word k 0) refl)

-- a codeword is in reach of itself where nothing is flagged
own_reach : (how : How) (codeword : List ℕ) (flags : List Bool) → IsCodeword codeword → ((k : ℕ) → get_or flags k false ≡ false) → IsInReach how codeword flags codeword
unfolding differing_outside marked
own_reach Light codeword flags is none = record { is_codeword = is; near = omega (arith, count-none (differs_at codeword codeword) 148 (same_nowhere codeword)) }
own_reach Full codeword flags is none = record { is_codeword = is; near = omega (arith, count-none (differs_at codeword codeword) 148 (same_nowhere codeword)) }
own_reach Erased codeword flags is none = record {
  is_codeword = is;
  near = omega (
    arith,
    count-none (λ k. differs_at codeword codeword k && not (is_marked flags k)) 148 (λ k. and_left _ _ (same_nowhere codeword k)),
    count-none (is_marked flags) 148 none,
  );
}

-- the bytes that four words are gathered to, by place
length-gathered : (n : ℕ) (words : List (List ℕ)) → length (bytes_of n words) ≡ 4 * n
unfolding bytes_of
length-gathered n words = length-map-range_with_len (λ i. get_or (get_or words (i % 4) []) (i / 4) 0) 0 (4 * n)

pub gathered_at : (n : ℕ) (words : List (List ℕ)) (k d : ℕ) → k < 4 * n → get_or (bytes_of n words) k d ≡ get_or (get_or words (k % 4) []) (k / 4) 0
unfolding bytes_of
gathered_at n words k d h = get_or-map-range_with_len (λ i. get_or (get_or words (i % 4) []) (i / 4) 0) 0 (4 * n) k k d h (omega arith)

-- the bytes of four codewords are bytes
gathered_bytes : (words : List (List ℕ)) → ((i : ℕ) → i < 4 → IsCodeword (get_or words i [])) → All (λ b. b < 256) (bytes_of 148 words)
gathered_bytes words codewords k d h =
    rw (gathered_at 148 words k d (omega (arith, length-gathered 148 words))) ((codewords (k % 4) (omega arith)).bytes (k / 4))

-- the four words that bytes are dealt to
length-dealt : (n : ℕ) (bytes : List ℕ) → length (words_of n bytes) ≡ 4
unfolding words_of
length-dealt n bytes = length-map-range_with_len (word_of n bytes) 0 4

-- the four words of data that codewords begin with are those that were encoded
data_first : (plain words : List (List ℕ)) → length plain ≡ 4 → length words ≡ 4 → AllEncode plain words → plain ≡ map (take 132) words
data_first plain words p w encoded = ext_get_or [] plain (map (take 132) words) (omega (arith, length-map words (take {A = ℕ} 132)))
    (λ i h. sym ((encoded i (omega arith)).plain_first) ∙ sym (get_or-map (take 132) words i [] [] (omega arith)))

-- the bytes of a payload
length-layout : (payload : Payload) → IsPayload payload → length (layout payload) ≡ 528
length-layout payload ranges = omega (arith, ranges.long)

-- a payload is written in one way
pub written_once : HaveOneEncoding → ((bytes : List ℕ) → code.HasOneCode bytes) → HasOneEncoding
written_once one once payload a b p q =
    let words : p.words ≡ q.words = ext_get_or [] p.words q.words (p.four ∙ sym q.four)
    (λ i h. let lt : i < 4 = omega (arith, p.four) in
    one (get_or p.words i []) (get_or q.words i []) (p.checked i lt).codeword (q.checked i lt).codeword ((p.checked i lt).plain_first ∙ sym ((q.checked i lt).plain_first))) in
    let coded : IsCode (bytes_of 148 q.words) p.channel = rw words at p.coded in
    p.clean ∙ ap (λ channel. clean_samples (level_word channel)) (once (bytes_of 148 q.words) p.channel q.channel coded q.coded) ∙ sym q.clean

-- what a payload was written as reads as that payload
pub reads_back : SpacedGiveAllowed → CleanSamplesTell → InvertEachOther → JoinsAgain → DealsAgain
    → ((bytes : List ℕ) (channel : List Bool) → All (λ b. b < 256) bytes → IsCode bytes channel → code.ReadsBack bytes channel)
    → ((bytes : List ℕ) (channel : List Bool) → IsCode bytes channel → OnesAreFollowed channel)
    → ReadsBack
reads_back allowed tell invert joins deals back followed p payload samples how ranges own e =
    let codewords : (i : ℕ) → i < 4 → IsCodeword (get_or e.words i []) = λ i h. (e.checked i h).codeword in
    let word : List ℤ = level_word e.channel in
    let dealt : words_of 148 (bytes_of 148 e.words) ≡ e.words = deals 148 e.words e.four (λ i h. (codewords i h).long) in
    let read = back (bytes_of 148 e.words) e.channel (gathered_bytes e.words codewords) e.coded in
    record {
      bytes = bytes_of 148 e.words;
      flags = flags_read e.channel;
      heard = record {
        word = word;
        detected = rw e.clean (tell word (allowed e.channel (spaced e.channel (followed (bytes_of 148 e.words) e.channel e.coded))));
        bytes_are = rw (invert.bits e.channel) (sym read.bytes_back);
        flags_are = rw (invert.bits e.channel);
      };
      codewords = e.words;
      in_reach = record {
        four = e.four;
        each = λ i h. rw (← dealt_word (bytes_of 148 e.words) e.words i h (sym dealt))
            (own_reach how (get_or e.words i []) (flags_of (flags_read e.channel) i) (codewords i h) (none_flagged (flags_read e.channel) _ i read.none_flagged));
      };
      joined = sym (joins 132 (layout payload) (length-layout payload ranges))
          ∙ ap (bytes_of 132) (data_first (words_of 132 (layout payload)) e.words (length-dealt 132 (layout payload)) e.four e.checked);
      ranges = ranges;
      of_sector = own;
    }
