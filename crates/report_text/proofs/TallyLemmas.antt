-- Counts stay within the number of entries.
use Rattle.std.proofs.Common.{◌≡◌, ℕ, ◌+◌, ◌-◌, ◌<◌, ◌≤◌, ◌==◌, Bool, true, false, List, [], ◌∷◌, length, get_or, drop, sym, ap, ◌∙◌, add-one, le_refl, le-add_right, drop-cons, arith}
use Rattle.std.specs.Prelude.{fold, if◌then◌else◌}
use Rattle.block_machine.specs.declared.entry.Entry.{Entry}
use Rattle.block_machine.specs.declared.entry.Entry.TheVariants.{Arrived, Ended, Aborted, Cut}
use Rattle.report_text.specs.declared.tally.Tally.{Tally}
use Rattle.report_text.specs.Summary.{IsWithin, with_end, tally_after}

-- one item more is folded in
pub fold-more : {S T : Type 0} (f : S → T → S) (s : S) (items : List T) (i : ℕ) (d : T) → i < length items
    → fold f (f s (get_or items i d)) (drop (i + 1) items) ≡ fold f s (drop i items)
fold-more f s items i d within = sym (ap (fold f s) (drop-cons items i d within) ∙ ap (λ n. fold f (f s (get_or items i d)) (drop n items)) (sym (add-one i)))

-- a greater number is a bound as well
pub within_more : (m n : ℕ) (t : Tally) → m ≤ n → IsWithin m t → IsWithin n t
within_more m n t le fits = record {
  commands = omega (arith, fits.commands, le);
  good = omega (arith, fits.good, le);
  check = omega (arith, fits.check, le);
  full = omega (arith, fits.full, le);
  aborted = omega (arith, fits.aborted, le);
  inside_or_cut = omega (arith, fits.inside_or_cut, le);
}

-- where each count is higher by one at most, so is the bound
within_one : (n : ℕ) (t u : Tally) → u.commands ≤ t.commands + 1 → u.good ≤ t.good + 1 → u.check ≤ t.check + 1 → u.full ≤ t.full + 1
    → u.aborted ≤ t.aborted + 1 → u.inside + u.cut ≤ t.inside + t.cut + 1 → IsWithin n t → IsWithin (n + 1) u
within_one n t u commands good check full aborted inside_or_cut fits = record {
  commands = omega (arith, commands, fits.commands);
  good = omega (arith, good, fits.good);
  check = omega (arith, check, fits.check);
  full = omega (arith, full, fits.full);
  aborted = omega (arith, aborted, fits.aborted);
  inside_or_cut = omega (arith, inside_or_cut, fits.inside_or_cut);
}

same : {count : ℕ} → count ≤ count + 1
same {count} = le-add_right count 1

-- one command more ended
within_end : (n status : ℕ) (t : Tally) → IsWithin n t → IsWithin (n + 1) (with_end status t)
within_end n status t fits = by_tests (status == 0) (status == 2) (status == 40)
  where
    by_tests : (a b c : Bool) → IsWithin (n + 1) (if a then record t { good = t.good + 1 } else if b then record t { check = t.check + 1 } else if c then record t { full = t.full + 1 } else t)
    by_tests true b c = within_one n t _ same (le_refl _) same same same same fits
    by_tests false true c = within_one n t _ same same (le_refl _) same same same fits
    by_tests false false true = within_one n t _ same same same (le_refl _) same same fits
    by_tests false false false = within_one n t _ same same same same same same fits

-- one fewer in
one_out : (n : ℕ) (t : Tally) → IsWithin n t → IsWithin n (record t { inside = t.inside - 1 })
one_out n t fits = record {
  commands = fits.commands;
  good = fits.good;
  check = fits.check;
  full = fits.full;
  aborted = fits.aborted;
  inside_or_cut = omega (arith, fits.inside_or_cut);
}

-- one entry more
pub within_after : (n : ℕ) (t : Tally) (e : Entry) → IsWithin n t → IsWithin (n + 1) (tally_after t e)
within_after n t (Arrived c i tag a cdb sent) fits = within_one n t _ (le_refl _) same same same same (omega arith) fits
within_after n t (Ended c reply) fits = within_end n reply.status _ (one_out n t fits)
within_after n t (Aborted c) fits = within_one n t _ same same same same (le_refl _) (omega arith) fits
within_after n t Cut fits = within_one n t _ same same same same same (omega arith) fits
within_after n t other fits = within_more n (n + 1) t (omega arith) fits

-- entries more
pub within_behind : (n : ℕ) (t : Tally) (entries : List Entry) → IsWithin n t → IsWithin (n + length entries) (fold tally_after t entries)
within_behind n t [] fits = within_more n (n + 0) t (omega arith) fits
within_behind n t (e ∷ entries) fits =
    within_more (n + 1 + length entries) (n + length (e ∷ entries)) _ (omega arith) (within_behind (n + 1) (tally_after t e) entries (within_after n t e fits))
