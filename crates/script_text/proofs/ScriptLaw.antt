-- What was read, printed, reads back as the same script.
use Rattle.std.proofs.Common.{◌≡◌, ℕ, zero, suc, ◌+◌, ◌-◌, ◌*◌, ◌<◌, ◌≤◌, ◌&&◌, Bool, true, false, not, List, [], ◌∷◌, ◌++◌, length, map, Option, Some, None, Result, Ok, Err, IfOk, is_none, refl, sym, ap, ◌∙◌, subst, arith, append_assoc, append-nil, length-append, lit<, lit≤}
use Rattle.std.specs.Prelude.{codes, decimal, nat_le, nat_lt}
use Rattle.std.specs.List.{list_all, list_any}
use Rattle.std.specs.Str.{bytes_eq}
use Rattle.std.proofs.lemmas.Bool.{and_parts, leb-true, ltb-true, le-leb, not-true}
use Rattle.std.proofs.lemmas.List.{map-append, length-map}
use Rattle.std.proofs.lemmas.List.Folds.{list_all-append}
use Rattle.hex.specs.Hex.{IsBytes}
use Rattle.disk_base.specs.declared.address.Psn.{Psn}
use Rattle.disk_base.specs.declared.command.Attribute.{Attribute}
use Rattle.disk_base.specs.declared.command.Attribute.TheVariants.{Simple, Ordered, Head}
use Rattle.disk_base.specs.declared.command.DataOut.{DataOut}
use Rattle.disk_base.specs.declared.command.DataOut.TheVariants.{Nothing as NoData, Fill, Given}
use Rattle.disk_base.specs.declared.command.Function.TheVariants.{Abort, AbortSet, Clear, Reset}
use Rattle.platter_model.specs.declared.damage.Lasting.{Lasting}
use Rattle.platter_model.specs.declared.damage.Lasting.TheVariants.{Hard, Soft, Plus, Minus}
use Rattle.platter_model.specs.declared.damage.Effect.{Effect}
use Rattle.platter_model.specs.declared.damage.Effect.TheVariants.{Drop, Add}
use Rattle.platter_model.specs.declared.damage.Left.{Left}
use Rattle.platter_model.specs.declared.damage.Left.TheVariants.{Old, New, Nothing}
use Rattle.platter_model.specs.declared.world.World.TheVariants.{Damage, Fault, Cut, Arm, Power, Minutes}
use Rattle.text_words.specs.Line.{words_of}
use Rattle.text_words.specs.Digits.{hex_of}
use Rattle.text_words.specs.Number.{number}
use Rattle.text_words.proofs.Numerals.{number-decimal}
use Rattle.script_text.specs.declared.phase.TaskName.{TaskName}
use Rattle.script_text.specs.declared.script.Line.{Line}
use Rattle.script_text.specs.declared.script.Line.TheVariants.{Command, Function, Scan, Destage, Go, World}
use Rattle.script_text.specs.declared.why.Why.{Why}
use Rattle.script_text.specs.declared.why.Why.TheVariants.{Bytes, Shape, Disk, Place, Tag as TagAgain, Limit, Later}
use Rattle.script_text.specs.Steps.{◌>>=◌, demand, or_else}
use Rattle.script_text.specs.Measures.{Measures, is_within_limits, total_of}
use Rattle.script_text.specs.Forms.{form_of}
use Rattle.script_text.specs.Grammar.{well_formed, fitting, within_limits, measures_from, disk_of, primary_of, line_of}
use Rattle.script_text.specs.Spelling.{joined, disk_words, primary_words, attribute_word, sent_words, left_word, line_words}
use Rattle.script_text.specs.Phase.{Waiting, is_taken, phase_after}
use Rattle.script_text.specs.Weight.{weight_of}
use Rattle.script_text.specs.Served.{is_served}
use Rattle.script_text.specs.Standing.{Reading, at_start, drive_of, capacity_of, is_empty, within_lines, is_printable, is_comment, is_world, takes_primary, with_measures, with_primary, with_line, with_words, with_all_words, with_text}
use Rattle.script_text.specs.Meaning.{Asked, Refusal, lines_of, goes_on, behind_lines, asked_at_end, ends, script_of}
use Rattle.script_text.specs.Print.{text_of_lines, disk_lines, script_lines, print_of}
use Rattle.script_text.specs.Proper.{IsSent, IsLasting, IsEffect, IsHarm, IsProper}
use Rattle.script_text.specs.Laws.{body_line, ScriptsReadAgain}
use Rattle.script_text.proofs.LineLaw.{line_again}
use Rattle.script_text.proofs.StepLemmas.{through, past, required, either_way, bind_assoc}
use Rattle.script_text.proofs.ProperLines.{IsSector, sector_range, line_proper}
use Rattle.script_text.proofs.CleanLines.{is_word, is_clean, is_graphic, both, decimal_word, signed_word, graphic_hex, block_word, by_words, clean_text, clean_lines}

-- the words of printed lines

attribute_clean : (a : Attribute) → is_word (attribute_word a) ≡ true
attribute_clean Simple = refl
attribute_clean Ordered = refl
attribute_clean Head = refl

one_byte : (byte : ℕ) → byte < 256 → IsBytes (byte ∷ [])
one_byte byte fits zero = fits
one_byte byte fits (suc k) = lit< tt

sent_clean : (sent : DataOut) → IsSent sent → list_all is_word (sent_words sent) ≡ true
sent_clean NoData fits = refl
sent_clean (Fill byte) fits = both (list_all is_graphic (hex_of (byte ∷ []))) true (graphic_hex (byte ∷ []) (one_byte byte fits)) refl
sent_clean (Given bytes) fits = both (list_all is_graphic (hex_of bytes)) true (graphic_hex bytes fits) refl

damage_clean : (total p f l : ℕ) (lasting : Lasting) (effect : Effect) → total ≤ 4096 → IsHarm total (record { p = record { 0 = p }; first = f; count = l; lasting = lasting; effect = effect })
    → is_clean (line_words (World (Damage (record { p = record { 0 = p }; first = f; count = l; lasting = lasting; effect = effect })))) ≡ true
damage_clean total p f l lasting effect small fits = by_parts lasting effect fits.lasting fits.effect
  where
    sector : is_word (decimal p) ≡ true
    sector = decimal_word p (omega (arith, fits.sector))

    first : is_word (decimal f) ≡ true
    first = decimal_word f (omega (arith, fits.within))

    count : is_word (decimal l) ≡ true
    count = decimal_word l (omega (arith, fits.within))

    by_parts : (lasting : Lasting) (effect : Effect) → IsLasting lasting → IsEffect effect
        → is_clean (line_words (World (Damage (record { p = record { 0 = p }; first = f; count = l; lasting = lasting; effect = effect })))) ≡ true
    by_parts Hard Drop lasts does = rw (sector, first, count) refl
    by_parts (Soft n) Drop lasts does = rw (sector, first, count, decimal_word n (omega (arith, lasts.1))) refl
    by_parts Plus Drop lasts does = rw (sector, first, count) refl
    by_parts Minus Drop lasts does = rw (sector, first, count) refl
    by_parts Hard (Add d) lasts does = rw (sector, first, count, signed_word d does.1) refl
    by_parts (Soft n) (Add d) lasts does = rw (sector, first, count, decimal_word n (omega (arith, lasts.1)), signed_word d does.1) refl
    by_parts Plus (Add d) lasts does = rw (sector, first, count, signed_word d does.1) refl
    by_parts Minus (Add d) lasts does = rw (sector, first, count, signed_word d does.1) refl

left_clean : (left : Left) → is_word (left_word left) ≡ true
left_clean Old = refl
left_clean New = refl
left_clean Nothing = refl

-- the words of a line of the body are clean
line_clean : (total : ℕ) (line : Line) → total ≤ 4096 → IsProper total line → is_clean (line_words line) ≡ true
line_clean total (Command i t a cdb sent) small fits =
    rw (decimal_word i (omega (arith, fits.to_eight)), decimal_word t.0 (omega (arith, fits.tag_fits)), attribute_clean a, block_word cdb fits.bytes fits.block, sent_clean sent fits.data_are_bytes) refl
line_clean total (Function i (Abort t)) small fits = rw (decimal_word i (omega (arith, fits.1)), decimal_word t.0 (omega (arith, fits.2))) refl
line_clean total (Function i AbortSet) small fits = rw (decimal_word i (omega (arith, fits.1))) refl
line_clean total (Function i Clear) small fits = rw (decimal_word i (omega (arith, fits.1))) refl
line_clean total (Function i Reset) small fits = rw (decimal_word i (omega (arith, fits.1))) refl
line_clean total (Scan n) small fits = rw (decimal_word n (omega (arith, fits.1))) refl
line_clean total (Destage n) small fits = rw (decimal_word n (omega (arith, fits.1))) refl
line_clean total Go small fits = refl
line_clean total (World (Damage d)) small fits = damage_clean total d.p.0 d.first d.count d.lasting d.effect small fits
line_clean total (World (Fault p)) small fits = rw (decimal_word p.0 (omega (arith, fits.1))) refl
line_clean total (World Cut) small fits = refl
line_clean total (World (Arm k tear)) small fits = rw (decimal_word k (omega (arith, fits.1)), left_clean tear.left, decimal_word tear.scar (omega (arith, fits.2))) refl
line_clean total (World Power) small fits = refl
line_clean total (World (Minutes n)) small fits = rw (decimal_word n (omega (arith, fits))) refl

-- the first word of a line of the body is none of the heading's
abbrev is_body : List (List ℕ) → Bool
is_body [] = false
is_body (first ∷ rest) = not (bytes_eq first (codes "disk")) && not (bytes_eq first (codes "primary"))

line_in_body : (line : Line) → is_body (line_words line) ≡ true
line_in_body (Command i t a cdb sent) = refl
line_in_body (Function i (Abort t)) = refl
line_in_body (Function i AbortSet) = refl
line_in_body (Function i Clear) = refl
line_in_body (Function i Reset) = refl
line_in_body (Scan n) = refl
line_in_body (Destage n) = refl
line_in_body Go = refl
line_in_body (World (Damage d)) = refl
line_in_body (World (Fault p)) = refl
line_in_body (World Cut) = refl
line_in_body (World (Arm k tear)) = refl
line_in_body (World Power) = refl
line_in_body (World (Minutes n)) = refl

-- the lines that were read so far, as they are printed
abbrev lines_in : Option Measures → List Psn → List Line → List (List (List ℕ))
lines_in o primary lines = disk_lines o ++ (map primary_words primary ++ map line_words lines)

abbrev so_far : Reading → List (List (List ℕ))
so_far s = lines_in s.measures s.primary s.lines

-- what was read, printed, reads again; and the limits of what was read
record ReadsAgain (s : Reading) : Type 0 where
  some : 1 ≤ total_of (drive_of s)
  few : total_of (drive_of s) ≤ 4096
  light : s.weight ≤ 60000
  clean : list_all is_clean (so_far s) ≡ true
  again : length (so_far s) ≤ 65536 → behind_lines 1 at_start (map (joined []) (so_far s)) ≡ Ok s

at_start_again : ReadsAgain at_start
at_start_again = record { some = lit≤ tt; few = lit≤ tt; light = lit≤ tt; clean = refl; again = λ few. refl }

-- one line more

first_read : (n : ℕ) (r : Result Reading Why) (t u : Reading) (f g : Reading → Result Reading Refusal) → ((s : Reading) → f s ≡ Ok t → g s ≡ Ok u) → goes_on n r f ≡ Ok t → goes_on n r g ≡ Ok u
first_read n (Ok s) t u f g rest e = rest s e
first_read n (Err why) t u f g rest e = absurd (cc)

behind_more : (n : ℕ) (s t u : Reading) (lines : List (List ℕ)) (line : List ℕ) (m : ℕ) → m ≡ n + length lines → behind_lines n s lines ≡ Ok t → with_text m t line ≡ Ok u
    → behind_lines n s (lines ++ line ∷ []) ≡ Ok u
behind_more n s t u [] line m number e last =
    let same : s ≡ t = cc in
    let first : n ≡ m = omega arith in
    let here : with_text n s line ≡ Ok u = rw (first, same) last in
    ap (λ r. goes_on n r (λ t. behind_lines (n + 1) t [])) here
behind_more n s t u (first ∷ rest) line m number e last =
    first_read n (with_text n s first) t u (λ t. behind_lines (n + 1) t rest) (λ t. behind_lines (n + 1) t (rest ++ line ∷ []))
    (λ one e. behind_more (n + 1) one t u rest line m (omega arith) e last) e

abbrev LinesAgain : List (List (List ℕ)) → Reading → Type 0
LinesAgain lines s = length lines ≤ 65536 → behind_lines 1 at_start (map (joined []) lines) ≡ Ok s

more_again : (lines : List (List (List ℕ))) (s t : Reading) (words : List (List ℕ)) → LinesAgain lines s → is_clean words ≡ true
    → ((n : ℕ) → n ≤ 65536 → by_words n s words ≡ Ok t) → LinesAgain (lines ++ words ∷ []) t
more_again lines s t words before clean step few =
    let count : length (lines ++ words ∷ []) ≡ length lines + 1 = length-append lines (words ∷ []) in
    let many : length (map (joined []) lines) ≡ length lines = length-map lines (joined []) in
    let last : with_text (1 + length lines) s (joined [] words) ≡ Ok t = clean_text (1 + length lines) s words clean ∙ step (1 + length lines) (omega (arith, count)) in
    ap (behind_lines 1 at_start) (map-append (joined []) lines (words ∷ []))
    ∙ behind_more 1 at_start s t (map (joined []) lines) (joined [] words) (1 + length lines) (omega (arith, many)) (before (omega (arith, count))) last

more_clean : (lines : List (List (List ℕ))) (words : List (List ℕ)) → list_all is_clean lines ≡ true → is_clean words ≡ true → list_all is_clean (lines ++ words ∷ []) ≡ true
more_clean lines words before clean =
    list_all-append is_clean lines (words ∷ []) ∙ both (list_all is_clean lines) (is_clean words && true) before (both (is_clean words) true clean refl)

one_more : (s t : Reading) (words : List (List ℕ)) → ReadsAgain s → so_far t ≡ so_far s ++ words ∷ [] → is_clean words ≡ true → ((n : ℕ) → n ≤ 65536 → by_words n s words ≡ Ok t)
    → 1 ≤ total_of (drive_of t) → total_of (drive_of t) ≤ 4096 → t.weight ≤ 60000 → ReadsAgain t
one_more s t words read longer clean step some few light = record {
  some = some;
  few = few;
  light = light;
  clean = subst (λ lines. list_all is_clean lines ≡ true) (sym longer) (more_clean (so_far s) words read.clean clean);
  again = subst (λ lines. LinesAgain lines t) (sym longer) (more_again (so_far s) s t words read.again clean step);
}

-- the `disk` line

record AreMeasures (c h s r : ℕ) : Type 0 where
  cylinders : c ≤ 1024
  heads : h ≤ 16
  sectors : s ≤ 64
  some : 48 ≤ c * h * s
  few : c * h * s ≤ 4096
  reserved : 16 + r < c * h * s

bounds : (c h s r : ℕ) → is_within_limits (record { cylinders = c; heads = h; sectors = s; reserved = r }) ≡ true → AreMeasures c h s r
bounds c h s r within =
    let p1 = and_parts (nat_le 1 c) _ within in
    let p2 = and_parts (nat_le c 1024) _ p1.1 in
    let p3 = and_parts (nat_le 1 h) _ p2.1 in
    let p4 = and_parts (nat_le h 16) _ p3.1 in
    let p5 = and_parts (nat_le 1 s) _ p4.1 in
    let p6 = and_parts (nat_le s 64) _ p5.1 in
    let p7 = and_parts (nat_le 48 (c * h * s)) _ p6.1 in
    let p8 = and_parts (nat_le (c * h * s) 4096) (nat_lt (16 + r) (c * h * s)) p7.1 in
    record { cylinders = leb-true c 1024 p2.0; heads = leb-true h 16 p4.0; sectors = leb-true s 64 p6.0; some = leb-true 48 (c * h * s) p7.0; few = leb-true (c * h * s) 4096 p8.0; reserved = ltb-true (16 + r) (c * h * s) p8.1 }

within_again : (m : Measures) → is_within_limits m ≡ true → within_limits m ≡ Ok m
within_again m within = ap (λ b. demand b Disk >>= (λ _. Ok m)) within

disk_again : (c h s r : ℕ) → is_within_limits (record { cylinders = c; heads = h; sectors = s; reserved = r }) ≡ true
    → disk_of (decimal c ∷ decimal h ∷ decimal s ∷ decimal r ∷ []) ≡ Ok (record { cylinders = c; heads = h; sectors = s; reserved = r })
unfolding measures_from
disk_again c h s r within =
    let b = bounds c h s r within in
    rw (
      number-decimal 0 65535 c (omega arith) (omega (arith, b.cylinders)) (omega (arith, b.cylinders)),
      number-decimal 0 255 h (omega arith) (omega (arith, b.heads)) (omega (arith, b.heads)),
      number-decimal 0 255 s (omega arith) (omega (arith, b.sectors)) (omega (arith, b.sectors)),
      number-decimal 0 65535 r (omega arith) (omega (arith, b.few, b.reserved)) (omega (arith, b.few, b.reserved)),
    )
    (within_again (record { cylinders = c; heads = h; sectors = s; reserved = r }) within)

disk_clean : (c h s r : ℕ) → is_within_limits (record { cylinders = c; heads = h; sectors = s; reserved = r }) ≡ true
    → is_clean (disk_words (record { cylinders = c; heads = h; sectors = s; reserved = r })) ≡ true
disk_clean c h s r within =
    let b = bounds c h s r within in
    rw (decimal_word c (omega (arith, b.cylinders)), decimal_word h (omega (arith, b.heads)), decimal_word s (omega (arith, b.sectors)), decimal_word r (omega (arith, b.few, b.reserved))) refl

abbrev Within : Measures → Type 0
Within m = is_within_limits m ≡ true

disk_read : (words : List (List ℕ)) → IfOk (disk_of words) Within
unfolding measures_from
disk_read [] = tt
disk_read (c ∷ []) = tt
disk_read (c ∷ h ∷ []) = tt
disk_read (c ∷ h ∷ s ∷ []) = tt
disk_read (c ∷ h ∷ s ∷ r ∷ []) =
    past Within (well_formed (number 0 65535 c)) _ (λ _.
    past Within (well_formed (number 0 255 h)) _ (λ _.
    past Within (well_formed (number 0 255 s)) _ (λ _.
    past Within (well_formed (number 0 65535 r)) _ (λ _.
    past Within (fitting (number 0 65535 c)) _ (λ cylinders.
    past Within (fitting (number 0 255 h)) _ (λ heads.
    past Within (fitting (number 0 255 s)) _ (λ sectors.
    past Within (fitting (number 0 65535 r)) _ (λ reserved.
    required Within (is_within_limits (record { cylinders = cylinders; heads = heads; sectors = sectors; reserved = reserved })) Disk _ (λ within. within)))))))))
disk_read (c ∷ h ∷ s ∷ r ∷ more ∷ rest) = tt

with_first : (n : ℕ) (waiting : Waiting) (weight : ℕ) (m : Measures) → n ≤ 65536
    → with_measures n (record { measures = None; primary = []; lines = []; waiting = waiting; weight = weight }) m
    ≡ Ok (record { measures = Some m; primary = []; lines = []; waiting = waiting; weight = weight })
unfolding with_measures
with_first n waiting weight m few = rw (le-leb n 65536 few) refl

by_disk : (n : ℕ) (s : Reading) (m : Measures) → is_within_limits m ≡ true → by_words n s (disk_words m) ≡ with_measures n s m
unfolding with_words
by_disk n s m within = ap (λ r. r >>= (λ m. with_measures n s m)) (disk_again m.cylinders m.heads m.sectors m.reserved within)

disk_more : (o : Option Measures) (primary : List Psn) (lines : List Line) (waiting : Waiting) (weight : ℕ) (m : Measures)
    → (is_none o && (is_empty primary && is_empty lines)) ≡ true → is_within_limits m ≡ true
    → ReadsAgain (record { measures = o; primary = primary; lines = lines; waiting = waiting; weight = weight })
    → ReadsAgain (record { measures = Some m; primary = primary; lines = lines; waiting = waiting; weight = weight })
disk_more None [] [] waiting weight m first within read =
    let b = bounds m.cylinders m.heads m.sectors m.reserved within in
    let s : Reading = record { measures = None; primary = []; lines = []; waiting = waiting; weight = weight } in
    let t : Reading = record { measures = Some m; primary = []; lines = []; waiting = waiting; weight = weight } in
    one_more s t (disk_words m) read refl (disk_clean m.cylinders m.heads m.sectors m.reserved within)
    (λ n few. by_disk n s m within ∙ with_first n waiting weight m few) (omega (arith, b.some)) b.few read.light
disk_more None [] (x ∷ xs) waiting weight m first within read = absurd (cc)
disk_more None (p ∷ ps) lines waiting weight m first within read = absurd (cc)
disk_more (Some old) primary lines waiting weight m first within read = absurd (cc)

measures_step : (n : ℕ) (s : Reading) (m : Measures) → ReadsAgain s → is_within_limits m ≡ true → IfOk (with_measures n s m) ReadsAgain
unfolding with_measures
measures_step n s m read within =
    required ReadsAgain (is_none s.measures && (is_empty s.primary && is_empty s.lines)) Place _ (λ first.
    past ReadsAgain (within_lines n) _ (λ _. disk_more s.measures s.primary s.lines s.waiting s.weight m first within read))

-- a `primary` line

primary_read : (total : ℕ) (words : List (List ℕ)) → 1 ≤ total → IfOk (primary_of total words) (IsSector 16 total)
primary_read total [] some = tt
primary_read total (p ∷ []) some = sector_range 16 total p some
primary_read total (p ∷ more ∷ rest) some = tt

primary_again : (total : ℕ) (p : Psn) → total ≤ 4096 → IsSector 16 total p → primary_of total (decimal p.0 ∷ []) ≡ Ok p
primary_again total p few at = rw (number-decimal 16 (total - 1) p.0 at.0 (omega (arith, at.1)) (omega (arith, few, at.1))) refl

by_primary : (n : ℕ) (s : Reading) (p : Psn) → total_of (drive_of s) ≤ 4096 → IsSector 16 (total_of (drive_of s)) p → by_words n s (primary_words p) ≡ with_primary n s p
unfolding with_words
by_primary n s p few at = ap (λ r. r >>= (λ p. with_primary n s p)) (primary_again (total_of (drive_of s)) p few at)

with_taken : (n : ℕ) (s : Reading) (p : Psn) → n ≤ 65536 → takes_primary s p ≡ true → is_empty s.lines ≡ true → with_primary n s p ≡ Ok (record s { primary = s.primary ++ p ∷ [] })
unfolding with_primary
with_taken n s p few takes none =
    let whole : Result Reading Why = Ok (record s { primary = s.primary ++ p ∷ [] }) in
    ap (λ b. demand b Disk >>= (λ _. demand (is_empty s.lines) Place >>= (λ _. within_lines n >>= (λ _. whole)))) takes
    ∙ ap (λ b. demand b Place >>= (λ _. within_lines n >>= (λ _. whole))) none
    ∙ ap (λ b. demand b Limit >>= (λ _. whole)) (le-leb n 65536 few)

defect_longer : (disk : List (List (List ℕ))) (ps : List Psn) (p : Psn)
    → disk ++ (map primary_words (ps ++ p ∷ []) ++ []) ≡ (disk ++ (map primary_words ps ++ [])) ++ primary_words p ∷ []
defect_longer disk ps p =
    ap (λ t. disk ++ t) (append-nil (map primary_words (ps ++ p ∷ [])) ∙ map-append primary_words ps (p ∷ []))
    ∙ sym (append_assoc disk (map primary_words ps) (primary_words p ∷ []))
    ∙ ap (λ t. (disk ++ t) ++ primary_words p ∷ []) (sym (append-nil (map primary_words ps)))

primary_more : (o : Option Measures) (primary : List Psn) (lines : List Line) (waiting : Waiting) (weight : ℕ) (p : Psn)
    → takes_primary (record { measures = o; primary = primary; lines = lines; waiting = waiting; weight = weight }) p ≡ true → is_empty lines ≡ true
    → IsSector 16 (total_of (drive_of (record { measures = o; primary = primary; lines = lines; waiting = waiting; weight = weight }))) p
    → ReadsAgain (record { measures = o; primary = primary; lines = lines; waiting = waiting; weight = weight })
    → ReadsAgain (record { measures = o; primary = primary ++ p ∷ []; lines = lines; waiting = waiting; weight = weight })
primary_more o primary [] waiting weight p takes none at read =
    let s : Reading = record { measures = o; primary = primary; lines = []; waiting = waiting; weight = weight } in
    let t : Reading = record { measures = o; primary = primary ++ p ∷ []; lines = []; waiting = waiting; weight = weight } in
    let clean : is_clean (primary_words p) ≡ true = rw (decimal_word p.0 (omega (arith, read.few, at.1))) refl in
    one_more s t (primary_words p) read (defect_longer (disk_lines o) primary p) clean
    (λ n few. by_primary n s p read.few at ∙ with_taken n s p few takes none) read.some read.few read.light
primary_more o primary (x ∷ xs) waiting weight p takes none at read = absurd (cc)

primary_step : (n : ℕ) (s : Reading) (p : Psn) → ReadsAgain s → IsSector 16 (total_of (drive_of s)) p → IfOk (with_primary n s p) ReadsAgain
unfolding with_primary
primary_step n s p read at =
    required ReadsAgain (takes_primary s p) Disk _ (λ takes.
    required ReadsAgain (is_empty s.lines) Place _ (λ none.
    past ReadsAgain (within_lines n) _ (λ _. primary_more s.measures s.primary s.lines s.waiting s.weight p takes none at read)))

-- a line of the body

by_body : (n : ℕ) (s : Reading) (words : List (List ℕ)) (line : Line) → is_body words ≡ true → body_line (total_of (drive_of s)) words ≡ Ok line → by_words n s words ≡ with_line n s line
unfolding with_words
by_body n s [] line body e = absurd (cc)
by_body n s (first ∷ rest) line body e =
    let parts = and_parts (not (bytes_eq first (codes "disk"))) (not (bytes_eq first (codes "primary"))) body in
    let no_disk : bytes_eq first (codes "disk") ≡ false = not-true (bytes_eq first (codes "disk")) parts.0 in
    let no_primary : bytes_eq first (codes "primary") ≡ false = not-true (bytes_eq first (codes "primary")) parts.1 in
    let read : (or_else Shape (form_of first) >>= (λ form. line_of (total_of (drive_of s)) form rest >>= (λ line. with_line n s line))) ≡ with_line n s line =
    bind_assoc (or_else Shape (form_of first)) (λ form. line_of (total_of (drive_of s)) form rest) (λ line. with_line n s line)
    ∙ ap (λ r. r >>= (λ line. with_line n s line)) e in
    rw (no_disk, no_primary) read

-- the standing behind a line of the body
abbrev behind : Reading → Line → Reading
behind s line = record s { lines = s.lines ++ line ∷ []; waiting = phase_after s.waiting line; weight = s.weight + weight_of (capacity_of (drive_of s)) line }

-- what a line of the body has to pass, but for its number
record Stands (s : Reading) (line : Line) : Type 0 where
  placed : not (is_world line && s.waiting.something) ≡ true
  free : not (is_taken s.waiting line) ≡ true
  light : nat_le (s.weight + weight_of (capacity_of (drive_of s)) line) 60000 ≡ true
  served : is_served line ≡ true

with_standing : (n : ℕ) (s : Reading) (line : Line) → n ≤ 65536 → Stands s line → with_line n s line ≡ Ok (behind s line)
unfolding with_line
with_standing n s line few stands =
    let whole : Result Reading Why = Ok (behind s line) in
    let light : (nat_le n 65536 && nat_le (s.weight + weight_of (capacity_of (drive_of s)) line) 60000) ≡ true = both (nat_le n 65536) _ (le-leb n 65536 few) stands.light in
    ap (λ b. demand b Place >>= (λ _. demand (not (is_taken s.waiting line)) TagAgain >>= (λ _. demand (nat_le n 65536 && nat_le (s.weight + weight_of (capacity_of (drive_of s)) line) 60000) Limit >>= (λ _. demand (is_served line) Later >>= (λ _. whole))))) stands.placed
    ∙ ap (λ b. demand b TagAgain >>= (λ _. demand (nat_le n 65536 && nat_le (s.weight + weight_of (capacity_of (drive_of s)) line) 60000) Limit >>= (λ _. demand (is_served line) Later >>= (λ _. whole)))) stands.free
    ∙ ap (λ b. demand b Limit >>= (λ _. demand (is_served line) Later >>= (λ _. whole))) light
    ∙ ap (λ b. demand b Later >>= (λ _. whole)) stands.served

body_longer : (disk primary : List (List (List ℕ))) (lines : List Line) (line : Line)
    → disk ++ (primary ++ map line_words (lines ++ line ∷ [])) ≡ (disk ++ (primary ++ map line_words lines)) ++ line_words line ∷ []
body_longer disk primary lines line =
    ap (λ t. disk ++ (primary ++ t)) (map-append line_words lines (line ∷ []))
    ∙ ap (λ t. disk ++ t) (sym (append_assoc primary (map line_words lines) (line_words line ∷ [])))
    ∙ sym (append_assoc disk (primary ++ map line_words lines) (line_words line ∷ []))

body_more : (s : Reading) (line : Line) → ReadsAgain s → IsProper (total_of (drive_of s)) line → Stands s line → ReadsAgain (behind s line)
body_more s line read proper stands =
    one_more s (behind s line) (line_words line) read (body_longer (disk_lines s.measures) (map primary_words s.primary) s.lines line)
    (line_clean (total_of (drive_of s)) line read.few proper)
    (λ n few. by_body n s (line_words line) line (line_in_body line) (line_again (total_of (drive_of s)) line read.few proper) ∙ with_standing n s line few stands)
    read.some read.few (leb-true (s.weight + weight_of (capacity_of (drive_of s)) line) 60000 stands.light)

line_step : (n : ℕ) (s : Reading) (line : Line) → ReadsAgain s → IsProper (total_of (drive_of s)) line → IfOk (with_line n s line) ReadsAgain
unfolding with_line
line_step n s line read proper =
    required ReadsAgain (not (is_world line && s.waiting.something)) Place _ (λ placed.
    required ReadsAgain (not (is_taken s.waiting line)) TagAgain _ (λ free.
    required ReadsAgain (nat_le n 65536 && nat_le (s.weight + weight_of (capacity_of (drive_of s)) line) 60000) Limit _ (λ fits.
    required ReadsAgain (is_served line) Later _ (λ served.
    body_more s line read proper (record { placed = placed; free = free; light = (and_parts (nat_le n 65536) _ fits).1; served = served })))))

-- any line

words_step : (n : ℕ) (s : Reading) (first : List ℕ) (rest : List (List ℕ)) → ReadsAgain s → IfOk (with_words n s first rest) ReadsAgain
unfolding with_words
words_step n s first rest read =
    either_way ReadsAgain (bytes_eq first (codes "disk")) _ _
    (λ _. through Within ReadsAgain (disk_of rest) _ (disk_read rest) (λ m within. measures_step n s m read within))
    (λ _. either_way ReadsAgain (bytes_eq first (codes "primary")) _ _
    (λ _. through (IsSector 16 (total_of (drive_of s))) ReadsAgain (primary_of (total_of (drive_of s)) rest) _ (primary_read (total_of (drive_of s)) rest read.some) (λ p at. primary_step n s p read at))
    (λ _. past ReadsAgain (or_else Shape (form_of first)) _ (λ form.
    through (IsProper (total_of (drive_of s))) ReadsAgain (line_of (total_of (drive_of s)) form rest) _ (line_proper (total_of (drive_of s)) form rest read.some) (λ line proper. line_step n s line read proper))))

all_words_step : (n : ℕ) (s : Reading) (words : List (List ℕ)) → ReadsAgain s → IfOk (with_all_words n s words) ReadsAgain
all_words_step n s [] read = tt
all_words_step n s (first ∷ rest) read = required ReadsAgain (not (list_any is_empty (first ∷ rest))) Shape _ (λ _. words_step n s first rest read)

text_step : (n : ℕ) (s : Reading) (line : List ℕ) → ReadsAgain s → IfOk (with_text n s line) ReadsAgain
unfolding with_text
text_step n s line read =
    required ReadsAgain (list_all is_printable line) Bytes _ (λ _.
    either_way ReadsAgain (is_comment line) _ _
    (λ _. past ReadsAgain (within_lines n) _ (λ _. read))
    (λ _. all_words_step n s (words_of line) read))

goes_on_again : (n : ℕ) (r : Result Reading Why) (f : Reading → Result Reading Refusal) → IfOk r ReadsAgain → ((s : Reading) → ReadsAgain s → IfOk (f s) ReadsAgain) → IfOk (goes_on n r f) ReadsAgain
goes_on_again n (Ok s) f read rest = rest s read
goes_on_again n (Err why) f read rest = tt

lines_again : (n : ℕ) (s : Reading) (lines : List (List ℕ)) → ReadsAgain s → IfOk (behind_lines n s lines) ReadsAgain
lines_again n s [] read = read
lines_again n s (line ∷ lines) read =
    goes_on_again n (with_text n s line) (λ t. behind_lines (n + 1) t lines) (text_step n s line read) (λ t next. lines_again (n + 1) t lines next)

-- the end of the lines

record PrintsAgain (asked : Asked) : Type 0 where
  clean : list_all is_clean (script_lines asked) ≡ true
  again : length (script_lines asked) ≤ 65536 → ends (behind_lines 1 at_start (map (joined []) (script_lines asked))) ≡ Ok asked

-- what waits at the end is carried out by a line `go`
at_end : (o : Option Measures) (primary : List Psn) (lines : List Line) (something : Bool) (commands : List TaskName) (weight : ℕ)
    → ReadsAgain (record { measures = o; primary = primary; lines = lines; waiting = record { something = something; commands = commands }; weight = weight })
    → PrintsAgain (asked_at_end (record { measures = o; primary = primary; lines = lines; waiting = record { something = something; commands = commands }; weight = weight }))
at_end o primary lines false commands weight read = record { clean = read.clean; again = λ few. ap ends (read.again few) }
at_end o primary lines true commands weight read =
    let s : Reading = record { measures = o; primary = primary; lines = lines; waiting = record { something = true; commands = commands }; weight = weight } in
    let next : ReadsAgain (behind s Go) = body_more s Go read tt (record { placed = refl; free = refl; light = le-leb (weight + 0) 60000 (omega (arith, read.light)); served = refl }) in
    record { clean = next.clean; again = λ few. ap ends (next.again few) }

abbrev Again : Asked → Type 0
Again asked = length (lines_of (text_of_lines (script_lines asked))) ≤ 65536 → ends (behind_lines 1 at_start (lines_of (text_of_lines (script_lines asked)))) ≡ Ok asked

printed_again : (asked : Asked) → PrintsAgain asked → Again asked
printed_again asked end few =
    let lines : lines_of (text_of_lines (script_lines asked)) ≡ map (joined []) (script_lines asked) = clean_lines (script_lines asked) end.clean in
    let count : length (lines_of (text_of_lines (script_lines asked))) ≡ length (script_lines asked) = ap length lines ∙ length-map (script_lines asked) (joined []) in
    ap (λ texts. ends (behind_lines 1 at_start texts)) lines ∙ end.again (omega (arith, few, count))

ended_again : (r : Result Reading Refusal) (asked : Asked) → IfOk r ReadsAgain → ends r ≡ Ok asked → Again asked
ended_again (Ok s) asked read e =
    let same : asked_at_end s ≡ asked = cc in
    subst Again same (printed_again (asked_at_end s) (at_end s.measures s.primary s.lines s.waiting.something s.waiting.commands s.weight read))
ended_again (Err refusal) asked read e = absurd (cc)

pub script_again : ScriptsReadAgain
unfolding script_of print_of
script_again bytes asked e few = ended_again (behind_lines 1 at_start (lines_of bytes)) asked (lines_again 1 at_start (lines_of bytes) at_start_again) e few
