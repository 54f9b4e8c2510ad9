-- The decoder's tables give what settling four pairs gives, tried at each state and eight channel bits.
use Rattle.std.proofs.Common.{◌≡◌, ℕ, ◌+◌, ◌*◌, ◌<◌, Bool, true, ◌&&◌, zip, nat_eq, List, ◌++◌, length, get_or, refl, sym, subst, ap, ◌∙◌, eqb-true, arith, ◌/◌, []}
use Rattle.std.proofs.lemmas.Bool.{and_parts}
use Rattle.std.proofs.lemmas.Slice.Zip.{get_or-zip}
use Rattle.rll_code.specs.Bits.{byte_bits, low_bits}
use Rattle.rll_code.specs.Reading.{reading}
use Rattle.rll_code.specs.Steps.{IsState, right_beginnings, channel_waiting, places_waiting, spelled, Settles}
use Rattle.rll_code.specs.declared.tables.TheConstants.{BITS, FLAGS, WAITING}
use Rattle.rll_code.proofs.Settling.{state_of, waiting_in, Settled, settle_pairs, ArePairs, pairs_read, waiting-state, waiting-known}
use Rattle.rll_code.proofs.TableTests.{all_from, by_place, state_passes}

abbrev eight_settled : ℕ → ℕ → Settled
eight_settled line channel = settle_pairs (waiting_in line) (byte_bits channel)

-- whether bits, flags and a next state are what settling the channel bits gives
abbrev pub matches : Settled → ℕ → ℕ × (ℕ × ℕ) → Bool
matches s places x =
    nat_eq x.1.1 (state_of s.waits) && (nat_eq (length s.given + places_waiting (state_of s.waits)) (4 + places) && (nat_eq x.0 (spelled (λ b. b.bit) s.given (state_of s.waits)) && nat_eq x.1.0 (spelled (λ b. b.flagged) s.given (state_of s.waits))))

abbrev passes : ℕ → ℕ → ℕ × (ℕ × ℕ) → Bool
passes line channel x = matches (eight_settled line channel) (length (get_or right_beginnings line []) / 2) x

tables_pass : all_from (by_place passes) 0 (zip BITS (zip FLAGS WAITING)) ≡ true
unfolding all_from low_bits
tables_pass = refl

eight_are_pairs : (n : ℕ) → ArePairs (byte_bits n)
unfolding low_bits
eight_are_pairs n = tt

-- a next state that passes is the one that is settled
pub passed_settles : (state : ℕ) (xs : List Bool) (bits flags next : ℕ) → IsState 10 state → ArePairs xs → matches (settle_pairs (waiting_in (state / 256)) xs) (length (get_or right_beginnings (state / 256) []) / 2) (bits, (flags, next)) ≡ true → Settles state xs bits flags next
passed_settles state xs bits flags next known pairs passed =
    let s = settle_pairs (waiting_in (state / 256)) xs in
    let after = state_of s.waits in
    let same_next = nat_eq next after in
    let same_places = nat_eq (length s.given + places_waiting after) (4 + places_waiting state) in
    let same_bits = nat_eq bits (spelled (λ b. b.bit) s.given after) in
    let same_flags = nat_eq flags (spelled (λ b. b.flagged) s.given after) in
    let parts = and_parts same_next (same_places && (same_bits && same_flags)) passed in
    let others = and_parts same_places (same_bits && same_flags) parts.1 in
    let both = and_parts same_bits same_flags others.1 in
    let e : after ≡ next = sym (eqb-true next after parts.0) in
    record {
      given = s.given;
      reads = λ more.
          ap (λ w. reading (w ++ (xs ++ more))) (sym (waiting-known state known))
          ∙ pairs_read (waiting_in (state / 256)) xs more pairs
          ∙ ap (λ w. s.given ++ reading (w ++ more)) (sym (waiting-state s.waits).0 ∙ ap channel_waiting e);
      places = subst (λ n. length s.given + places_waiting n ≡ 4 + places_waiting state) e (eqb-true (length s.given + places_waiting after) (4 + places_waiting state) others.0);
      bits_given = subst (λ n. bits ≡ spelled (λ b. b.bit) s.given n) e (eqb-true bits (spelled (λ b. b.bit) s.given after) both.0);
      flags_given = subst (λ n. flags ≡ spelled (λ b. b.flagged) s.given n) e (eqb-true flags (spelled (λ b. b.flagged) s.given after) both.1);
      known = subst (IsState 10) e (waiting-state s.waits).1;
    }

settles : (bits flags nexts : List ℕ) → length bits ≡ 2560 → length flags ≡ 2560 → length nexts ≡ 2560 → length (zip flags nexts) ≡ 2560 → length (zip bits (zip flags nexts)) ≡ 2560 → all_from (by_place passes) 0 (zip bits (zip flags nexts)) ≡ true → (state channel : ℕ) → IsState 10 state → channel < 256 → Settles state (byte_bits channel) (get_or bits (state + channel) 0) (get_or flags (state + channel) 0) (get_or nexts (state + channel) 0)
settles bits flags nexts long_bits long_flags long_nexts long_pairs long pass state channel known fits =
    let at = state + channel in
    let begins : state / 256 * 256 + channel ≡ at = omega (arith, known.1) in
    let inside = known.0 in
    let pair = get_or-zip flags nexts at (0, 0) (omega arith) (omega arith) in
    let entry = get_or-zip bits (zip flags nexts) at (0, (0, 0)) (omega arith) (omega arith) in
    let is : get_or (zip bits (zip flags nexts)) at (0, (0, 0)) ≡ (get_or bits at 0, (get_or flags at 0, get_or nexts at 0)) = entry ∙ ap (λ x. (get_or bits at 0, x)) pair in
    passed_settles state (byte_bits channel) (get_or bits at 0) (get_or flags at 0) (get_or nexts at 0) known (eight_are_pairs channel)
    (subst (λ x. passes (state / 256) channel x ≡ true) is
    (subst (λ n. passes (state / 256) channel (get_or (zip bits (zip flags nexts)) n (0, (0, 0))) ≡ true) begins
    (state_passes passes (zip bits (zip flags nexts)) pass (state / 256) channel (0, (0, 0)) fits (omega arith))))

-- what the tables hold for a state and eight channel bits
pub tables_settle : (state channel : ℕ) → IsState 10 state → channel < 256 → Settles state (byte_bits channel) (get_or BITS (state + channel) 0) (get_or FLAGS (state + channel) 0) (get_or WAITING (state + channel) 0)
tables_settle = settles BITS FLAGS WAITING refl refl refl refl refl tables_pass
