-- What the decoder has read after so many bytes.
use Rattle.std.proofs.Common.{◌≡◌, ℕ, ◌+◌, ◌*◌, ◌/◌, ◌%◌, ◌<◌, ◌≤◌, Bool, true, false, not, eqb, List, [], ◌∷◌, ◌++◌, map, length, take, drop, get_or, set, refl, sym, subst, ap, ◌∙◌, append_assoc, length-append, length-drop, arith}
use Rattle.std.proofs.lemmas.List.{append-nil, take-append-drop, drop-append-le, drop-drop, drop_all, length-take-le, take_more_set, take_all, map_push}
use Rattle.rll_code.specs.Bits.{byte_bits, octets}
use Rattle.rll_code.specs.Reading.{BitRead, unread, reading, reading_after, byte_of, is_flagged, bytes_read, flags_read}
use Rattle.rll_code.specs.Steps.{IsState, right_beginnings, channel_waiting, places_waiting, spelled, Settles, Keeps, Reads}
use Rattle.rll_code.proofs.Octets.{octets_short, octets-append, octets_one}
use Rattle.rll_code.proofs.Settling.{below_ten}
use Rattle.rll_code.proofs.Spelling.{spelled-bound, spelled_joined, spelled_cut, flags_spell}

abbrev bit_of : BitRead → Bool
bit_of b = b.bit

abbrev flag_of : BitRead → Bool
flag_of b = b.flagged

places_few : (state : ℕ) → IsState 10 state → places_waiting state ≤ 3
places_few state known = below_ten (λ n. length (get_or right_beginnings n []) / 2 ≤ 3) (omega arith) (omega arith) (omega arith) (omega arith) (omega arith) (omega arith) (omega arith) (omega arith) (omega arith) (omega arith) (state / 256) known.0

-- the bytes so far are read, and so are the bits kept
pub record Decoded (channel : List Bool) (out : List ℕ) (flags : List Bool) (state bits marks i : ℕ) : Type 0 where
  pub done : List BitRead
  pub kept : List BitRead
  pub reads : reading channel ≡ done ++ (kept ++ reading (channel_waiting state ++ drop (16 * i + 6) channel))
  pub whole : length done ≡ 8 * i
  pub keeps : Keeps kept state bits marks
  pub bytes : take i out ≡ map byte_of (octets done)
  pub flagged : take i flags ≡ map is_flagged (octets done)

pub kept-bound : (kept : List BitRead) (state bits marks : ℕ) → Keeps kept state bits marks → (bits < 8) × (marks < 8)
kept-bound kept state bits marks k =
    (omega (arith, k.bits_kept, spelled-bound bit_of kept state 3 k.places), omega (arith, k.marks_kept, spelled-bound flag_of kept state 3 k.places))

-- kept bits and what two times eight channel bits give: eight bits, and bits to keep
pub sixteen_read : (kept : List BitRead) (state bits marks : ℕ) (xs : List Bool) (b1 f1 then : ℕ) (ys : List Bool) (b2 f2 last read marked : ℕ) → Keeps kept state bits marks → Settles state xs b1 f1 then → Settles then ys b2 f2 last → read ≡ bits * 256 + b1 * 16 + b2 → marked ≡ marks * 256 + f1 * 16 + f2
    → ((read < 2048) × (marked < 2048)) × Reads kept state (xs ++ ys) (read / 8) (not (eqb (marked / 8) 0)) last (read % 8) (marked % 8)
sixteen_read kept state bits marks xs b1 f1 then ys b2 f2 last read marked keeps first second is_read is_marked =
    let all = kept ++ (first.given ++ second.given) in
    let lengths : length all + places_waiting last ≡ 11 = omega (arith, keeps.places, first.places, second.places, length-append kept (first.given ++ second.given), length-append first.given second.given) in
    let waits = places_few last second.known in
    let cut : length (drop 8 all) + places_waiting last ≡ 3 = omega (arith, length-drop 8 all) in
    let spelled_bits : read ≡ spelled bit_of all last =
    is_read ∙ (let e : bits * 256 + b1 * 16 + b2 ≡ spelled bit_of kept state * 256 + spelled bit_of first.given then * 16 + spelled bit_of second.given last = omega (arith, keeps.bits_kept, first.bits_given, second.bits_given) in e)
    ∙ spelled_joined bit_of kept first.given second.given state then last first.places second.places in
    let spelled_marks : marked ≡ spelled flag_of all last =
    is_marked ∙ (let e : marks * 256 + f1 * 16 + f2 ≡ spelled flag_of kept state * 256 + spelled flag_of first.given then * 16 + spelled flag_of second.given last = omega (arith, keeps.marks_kept, first.flags_given, second.flags_given) in e)
    ∙ spelled_joined flag_of kept first.given second.given state then last first.places second.places in
    let bits_cut = spelled_cut bit_of all last 8 cut in
    let marks_cut = spelled_cut flag_of all last 8 cut in
    let bounds : (read < 2048) × (marked < 2048) = (omega (arith, spelled_bits, spelled-bound bit_of all last 11 lengths), omega (arith, spelled_marks, spelled-bound flag_of all last 11 lengths)) in (
      bounds,
      record {
        eight = take 8 all;
        rest = drop 8 all;
        long = length-take-le 8 all (omega arith);
        given = λ more.
            let after = reading (channel_waiting last ++ more) in
            ap (λ l. kept ++ reading (channel_waiting state ++ l)) (append_assoc xs ys more)
            ∙ ap (λ l. kept ++ l) (first.reads (ys ++ more) ∙ ap (λ l. first.given ++ l) (second.reads more) ∙ sym (append_assoc first.given second.given after))
            ∙ sym (append_assoc kept (first.given ++ second.given) after)
            ∙ ap (λ l. l ++ after) (sym (take-append-drop 8 all))
            ∙ append_assoc (take 8 all) (drop 8 all) after;
        byte_given = ap (λ n. n / 8) spelled_bits ∙ bits_cut.above;
        flag_given = ap (λ n. not (eqb (n / 8) 0)) spelled_marks ∙ ap (λ n. not (eqb n 0)) marks_cut.above ∙ flags_spell (take 8 all);
        keeps = record {
          places = cut;
          bits_kept = ap (λ n. n % 8) spelled_bits ∙ bits_cut.below;
          marks_kept = ap (λ n. n % 8) spelled_marks ∙ marks_cut.below;
          known = second.known;
        };
      },
    )

-- sixteen channel bits and what follows them
pub sixteen : (xs : List Bool) (at : ℕ) (c d : ℕ) → byte_bits c ≡ take 8 (drop at xs) → byte_bits d ≡ take 8 (drop (at + 8) xs) → drop at xs ≡ (byte_bits c ++ byte_bits d) ++ drop (at + 16) xs
sixteen xs at c d first second =
    sym (take-append-drop 8 (drop at xs))
    ∙ ap (λ l. l ++ drop 8 (drop at xs)) (sym first)
    ∙ ap (λ l. byte_bits c ++ l) (drop-drop 8 at xs ∙ sym (take-append-drop 8 (drop (at + 8) xs)) ∙ ap (λ l. l ++ drop 8 (drop (at + 8) xs)) (sym second)
    ∙ ap (λ l. byte_bits d ++ l) (drop-drop 8 (at + 8) xs ∙ (let e : at + 8 + 8 ≡ at + 16 = omega arith in ap (λ n. drop n xs) e)))
    ∙ sym (append_assoc (byte_bits c) (byte_bits d) (drop (at + 16) xs))

-- one byte more
pub decoded_more : (channel : List Bool) (out : List ℕ) (flags : List Bool) (state bits marks i n : ℕ) (xs : List Bool) (byte : ℕ) (flagged : Bool) (last next_bits next_marks : ℕ) → i + 1 ≡ n → (so_far : Decoded channel out flags state bits marks i) → Reads so_far.kept state xs byte flagged last next_bits next_marks → drop (16 * i + 6) channel ≡ xs ++ drop (16 * i + 6 + 16) channel → i < length out → i < length flags
    → Decoded channel (set out i byte) (set flags i flagged) last next_bits next_marks n
decoded_more channel out flags state bits marks i n xs byte flagged last next_bits next_marks one so_far step holds within within_flags =
    let at = 16 * i + 6 in
    let more = drop (at + 16) channel in
    let next : at + 16 ≡ 16 * (i + 1) + 6 = omega arith in
    let after = reading (channel_waiting last ++ more) in
    let pieces : octets (so_far.done ++ step.eight) ≡ octets so_far.done ++ step.eight ∷ [] =
    octets-append i so_far.done step.eight so_far.whole ∙ ap (λ l. octets so_far.done ++ l) (octets_one step.eight step.long) in
    subst (Decoded channel (set out i byte) (set flags i flagged) last next_bits next_marks) one
    (record {
      done = so_far.done ++ step.eight;
      kept = step.rest;
      reads =
          so_far.reads
          ∙ ap (λ l. so_far.done ++ (so_far.kept ++ reading (channel_waiting state ++ l))) holds
          ∙ ap (λ l. so_far.done ++ l) (step.given more)
          ∙ sym (append_assoc so_far.done step.eight (step.rest ++ after))
          ∙ ap (λ n. (so_far.done ++ step.eight) ++ (step.rest ++ reading (channel_waiting last ++ drop n channel))) next;
      whole = omega (arith, length-append so_far.done step.eight, so_far.whole, step.long);
      keeps = step.keeps;
      bytes =
          take_more_set out i byte within
          ∙ ap (λ l. l ++ byte ∷ []) so_far.bytes
          ∙ ap (λ v. map byte_of (octets so_far.done) ++ v ∷ []) step.byte_given
          ∙ sym (map_push byte_of (octets so_far.done) step.eight)
          ∙ ap (map byte_of) (sym pieces);
      flagged =
          take_more_set flags i flagged within_flags
          ∙ ap (λ l. l ++ flagged ∷ []) so_far.flagged
          ∙ ap (λ v. map is_flagged (octets so_far.done) ++ v ∷ []) step.flag_given
          ∙ sym (map_push is_flagged (octets so_far.done) step.eight)
          ∙ ap (map is_flagged) (sym pieces);
    })

-- channel bits that wait give few bits
waiting_reads : (state : ℕ) → IsState 10 state → length (reading (channel_waiting state ++ [])) ≤ 3
unfolding reading_after
waiting_reads state known = below_ten (λ n. length (reading (get_or right_beginnings n [] ++ [])) ≤ 3) (omega arith) (omega arith) (omega arith) (omega arith) (omega arith) (omega arith) (omega arith) (omega arith) (omega arith) (omega arith) (state / 256) known.0

-- all bytes
pub decoded_all : (channel : List Bool) (out : List ℕ) (flags : List Bool) (state bits marks i : ℕ) → Decoded channel out flags state bits marks i → i ≡ length out → length flags ≡ length out → length channel ≡ 16 * i + 6 → (out ≡ bytes_read channel) × (flags ≡ flags_read channel)
decoded_all channel out flags state bits marks i so_far all each long =
    let last = so_far.kept ++ reading (channel_waiting state ++ []) in
    let nothing : drop (16 * i + 6) channel ≡ [] = drop_all (16 * i + 6) channel (omega arith) in
    let read : reading channel ≡ so_far.done ++ last = so_far.reads ∙ ap (λ l. so_far.done ++ (so_far.kept ++ reading (channel_waiting state ++ l))) nothing in
    let few : length last < 8 = omega (arith, length-append so_far.kept (reading (channel_waiting state ++ [])), waiting_reads state so_far.keeps.known, so_far.keeps.places) in
    let pieces : octets (reading channel) ≡ octets so_far.done =
    ap octets read ∙ octets-append i so_far.done last so_far.whole ∙ ap (λ l. octets so_far.done ++ l) (octets_short last few) ∙ append-nil (octets so_far.done) in (
      sym (take_all i out (omega arith)) ∙ so_far.bytes ∙ ap (map byte_of) (sym pieces),
      sym (take_all i flags (omega arith)) ∙ so_far.flagged ∙ ap (map is_flagged) (sym pieces),
    )

six : (xs : List Bool) → 6 ≤ length xs → xs ≡ get_or xs 0 false ∷ get_or xs 1 false ∷ get_or xs 2 false ∷ get_or xs 3 false ∷ get_or xs 4 false ∷ get_or xs 5 false ∷ drop 6 xs
six (a ∷ b ∷ c ∷ d ∷ e ∷ f ∷ rest) long = refl
six [] long = absurd (omega arith)
six (a ∷ []) long = absurd (omega arith)
six (a ∷ b ∷ []) long = absurd (omega arith)
six (a ∷ b ∷ c ∷ []) long = absurd (omega arith)
six (a ∷ b ∷ c ∷ d ∷ []) long = absurd (omega arith)
six (a ∷ b ∷ c ∷ d ∷ e ∷ []) long = absurd (omega arith)

-- nothing begins with two 1s
two_ones : (xs : List Bool) → reading (true ∷ true ∷ xs) ≡ unread ∷ reading xs
unfolding reading_after
two_ones xs = refl

-- before the first byte
pub decoded_none : (channel : List Bool) (out : List ℕ) (flags : List Bool) (xs : List Bool) (b f state : ℕ) → 6 ≤ length channel → xs ≡ true ∷ true ∷ get_or channel 0 false ∷ get_or channel 1 false ∷ get_or channel 2 false ∷ get_or channel 3 false ∷ get_or channel 4 false ∷ get_or channel 5 false ∷ [] → Settles 0 xs b f state → Decoded channel out flags state (b % 8) (f % 8) 0
unfolding octets
decoded_none channel out flags xs b f state long is start =
    let all = start.given in
    let after = reading (channel_waiting state ++ drop 6 channel) in
    let waits = places_few state start.known in
    let places : length all + places_waiting state ≡ 4 = start.places in
    let cut : length (drop 1 all) + places_waiting state ≡ 3 = omega (arith, length-drop 1 all) in
    let bits_cut = spelled_cut bit_of all state 1 cut in
    let marks_cut = spelled_cut flag_of all state 1 cut in
    let padded : true ∷ true ∷ channel ≡ xs ++ drop 6 channel = ap (λ l. true ∷ true ∷ l) (six channel long) ∙ ap (λ l. l ++ drop 6 channel) (sym is) in
    let read : unread ∷ reading channel ≡ all ++ after = sym (two_ones channel) ∙ ap reading padded ∙ start.reads (drop 6 channel) in
    record {
      done = [];
      kept = drop 1 all;
      reads = ap (drop 1) read ∙ drop-append-le 1 all after (omega arith);
      whole = refl;
      keeps = record {
        places = cut;
        bits_kept = ap (λ n. n % 8) start.bits_given ∙ bits_cut.below;
        marks_kept = ap (λ n. n % 8) start.flags_given ∙ marks_cut.below;
        known = start.known;
      };
      bytes = refl;
      flagged = refl;
    }
