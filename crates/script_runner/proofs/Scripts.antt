-- A script that was read can be carried out: its lines are served, and take fewer turns than a drive can number.
use Rattle.std.proofs.Common.{◌≡◌, ◌∙◌, ap, sym, refl, subst, ℕ, ◌+◌, ◌<◌, ◌≤◌, zero, suc, Bool, true, false, not, List, [], ◌∷◌, ◌++◌, arith, nat_lt, Result, Ok, Err, IfOk, cond, length}
use Rattle.std.proofs.lemmas.Bool.{leb-true, ltb-true}
use Rattle.std.specs.Prelude.{◌&&◌, nat_le, codes, is_none, All, sum_by}
use Rattle.std.specs.List.{list_all, list_any}
use Rattle.std.specs.Str.{bytes_eq}
use Rattle.std.proofs.lemmas.List.{length_push}
use Rattle.std.proofs.lemmas.List.Sums.{sum_by-append}
use Rattle.disk_base.specs.declared.address.Psn.{Psn}
use Rattle.geometry_map.specs.declared.size.Size.{Size}
use Rattle.geometry_map.specs.DefectMap.{AscendsWithin}
use Rattle.platter_model.specs.declared.world.World.TheVariants.{Damage, Minutes}
use Rattle.text_words.specs.Line.{words_of}
use Rattle.text_words.specs.Number.{number}
use Rattle.block_machine.proofs.Booleans.{both}
use Rattle.script_text.specs.declared.script.Line.{Line}
use Rattle.script_text.specs.declared.script.Line.TheVariants.{Command, Function, Destage, Go, World}
use Rattle.script_text.specs.declared.script.Script.{Script}
use Rattle.script_text.specs.declared.why.Why.{Why}
use Rattle.script_text.specs.declared.why.Why.TheVariants.{Bytes, Shape, Disk, Place, Tag, Limit, Later}
use Rattle.script_text.specs.Steps.{or_else}
use Rattle.script_text.specs.Measures.{Measures, measures_of, given_or_default, total_of, is_within_limits}
use Rattle.script_text.specs.Grammar.{measures_from, disk_of, primary_of, line_of, well_formed, fitting}
use Rattle.script_text.specs.Forms.{form_of}
use Rattle.script_text.specs.Phase.{is_taken}
use Rattle.script_text.specs.Served.{is_served}
use Rattle.script_text.specs.Weight.{weight_of}
use Rattle.script_text.specs.Proper.{IsProper}
use Rattle.script_text.specs.Standing.{Reading, at_start, drive_of, capacity_of, with_measures, with_primary, with_line, with_words, with_all_words, with_text, takes_primary, is_world, within_lines, is_empty, is_printable, is_comment}
use Rattle.script_text.specs.Meaning.{Asked, Refusal, goes_on, behind_lines, asked_at_end, ends, lines_of, script_of, asked_by}
use Rattle.script_text.proofs.StepLemmas.{through, past, required, either_way}
use Rattle.script_text.proofs.ProperLines.{IsSector, sector_range, line_proper}
use Rattle.drive_scene.specs.Able.{turns_at_most}
use Rattle.report_text.specs.declared.run.Run.{Run}
use Rattle.script_runner.specs.Each.{Each}
use Rattle.script_runner.specs.Measure.{turns_of_line, turns_of_lines, turns_by_weight}
use Rattle.script_runner.specs.Script.{blocks_of, HasMeasures, IsServedLine, CanBeCarriedOut}
use Rattle.script_runner.specs.Outcome.{HasFewTurns}
use Rattle.script_runner.proofs.Costs.{lines_few}
use Rattle.script_runner.proofs.Each.{each_append, each_weaker}

-- a line that is served, on a drive of so many sectors
record IsGoodLine (total : ℕ) (line : Line) : Type 0 where
  proper : IsProper total line
  served : is_served line ≡ true

-- what holds of the reading of a script before a line of this number
record Sound (n : ℕ) (s : Reading) : Type 0 where
  limits : is_within_limits (drive_of s) ≡ true
  ascends : AscendsWithin 16 (total_of (drive_of s)) s.primary
  few : length s.primary ≤ 128
  kept : length s.primary ≤ (drive_of s).reserved
  lines : Each (IsGoodLine (total_of (drive_of s))) s.lines
  counted : length s.lines < n
  most : length s.lines ≤ 65536
  weighed : s.weight ≡ sum_by (weight_of (capacity_of (drive_of s))) s.lines
  light : s.weight ≤ 60000

-- drives have at most 4096 sectors, and some
sectors : (m : Measures) → is_within_limits m ≡ true → (1 ≤ total_of m) × (total_of m ≤ 4096)
sectors m within =
    let p1 = both (nat_le 1 m.cylinders) _ within in
    let p2 = both (nat_le m.cylinders 1024) _ p1.1 in
    let p3 = both (nat_le 1 m.heads) _ p2.1 in
    let p4 = both (nat_le m.heads 16) _ p3.1 in
    let p5 = both (nat_le 1 m.sectors) _ p4.1 in
    let p6 = both (nat_le m.sectors 64) _ p5.1 in
    let p7 = both (nat_le 48 (total_of m)) _ p6.1 in
    let p8 = both (nat_le (total_of m) 4096) (nat_lt (16 + m.reserved) (total_of m)) p7.1 in
    let least = leb-true 48 (total_of m) p7.0 in
    (omega (arith, least), leb-true (total_of m) 4096 p8.0)

abbrev Within : Measures → Type 0
Within m = is_within_limits m ≡ true

disk_read : (words : List (List ℕ)) → IfOk (disk_of words) Within
unfolding measures_from
disk_read [] = tt
disk_read (c ∷ []) = tt
disk_read (c ∷ h ∷ []) = tt
disk_read (c ∷ h ∷ s ∷ []) = tt
disk_read (c ∷ h ∷ s ∷ r ∷ []) =
    past Within (well_formed (number 0 65535 c)) _ (λ _.
    past Within (well_formed (number 0 255 h)) _ (λ _.
    past Within (well_formed (number 0 255 s)) _ (λ _.
    past Within (well_formed (number 0 65535 r)) _ (λ _.
    past Within (fitting (number 0 65535 c)) _ (λ cylinders.
    past Within (fitting (number 0 255 h)) _ (λ heads.
    past Within (fitting (number 0 255 s)) _ (λ sectors.
    past Within (fitting (number 0 65535 r)) _ (λ reserved.
    required Within (is_within_limits (record { cylinders = cylinders; heads = heads; sectors = sectors; reserved = reserved })) Disk _ (λ within. within)))))))))
disk_read (c ∷ h ∷ s ∷ r ∷ more ∷ rest) = tt

-- an empty list
no_items : {A : Type 0} (xs : List A) → is_empty xs ≡ true → xs ≡ []
no_items [] e = refl
no_items (x ∷ xs) e = absurd (cc)

later : (n : ℕ) (s : Reading) → Sound n s → Sound (n + 1) s
later n s sound = let c = sound.counted in record { limits = sound.limits; ascends = sound.ascends; few = sound.few; kept = sound.kept; lines = sound.lines; counted = omega arith; most = sound.most; weighed = sound.weighed; light = sound.light }

-- the `disk` line stands first
measures_step : (n : ℕ) (s : Reading) (m : Measures) → Sound n s → is_within_limits m ≡ true → IfOk (with_measures n s m) (Sound (n + 1))
unfolding with_measures
measures_step n s m sound within =
    required (Sound (n + 1)) (is_none s.measures && (is_empty s.primary && is_empty s.lines)) Place _ (λ first.
    past (Sound (n + 1)) (within_lines n) _ (λ _.
    let empty = both (is_empty s.primary) (is_empty s.lines) (both (is_none s.measures) _ first).1 in
    let primary = no_items s.primary empty.0 in
    let lines = no_items s.lines empty.1 in
    let counted = sound.counted in
    record {
      limits = within;
      ascends = subst (AscendsWithin 16 (total_of m)) (sym primary) tt;
      few = rw primary (omega arith);
      kept = rw primary (omega arith);
      lines = subst (Each (IsGoodLine (total_of m))) (sym lines) tt;
      counted = omega arith;
      most = rw lines (omega arith);
      weighed = (let none : s.weight ≡ 0 = sound.weighed ∙ ap (sum_by (weight_of (capacity_of (drive_of s)))) lines in none ∙ (rw lines refl));
      light = sound.light;
    }))

ascends_more : (low high : ℕ) (xs : List Psn) (p : Psn) → AscendsWithin low high xs → list_all (λ q. nat_lt q.0 p.0) xs ≡ true → low ≤ p.0 → p.0 < high → AscendsWithin low high (xs ++ p ∷ [])
ascends_more low high [] p up above from to = (from, to, tt)
ascends_more low high (x ∷ xs) p up above from to =
    let now = both (nat_lt x.0 p.0) (list_all (λ q. nat_lt q.0 p.0) xs) above in
    let lt = ltb-true x.0 p.0 now.0 in
    (up.0, up.1, ascends_more (x.0 + 1) high xs p up.2 now.1 (omega (arith, lt)) to)

primary_read : (total : ℕ) (words : List (List ℕ)) → 1 ≤ total → IfOk (primary_of total words) (IsSector 16 total)
primary_read total [] some = tt
primary_read total (p ∷ []) some = sector_range 16 total p some
primary_read total (p ∷ more ∷ rest) some = tt

primary_step : (n : ℕ) (s : Reading) (p : Psn) → Sound n s → IsSector 16 (total_of (drive_of s)) p → IfOk (with_primary n s p) (Sound (n + 1))
unfolding with_primary
primary_step n s p sound at =
    required (Sound (n + 1)) (takes_primary s p) Disk _ (λ takes.
    required (Sound (n + 1)) (is_empty s.lines) Place _ (λ none.
    past (Sound (n + 1)) (within_lines n) _ (λ _.
    let room = both (nat_lt (length s.primary) 128) _ takes in
    let above = both (nat_lt (length s.primary) (drive_of s).reserved) _ room.1 in
    let few = ltb-true (length s.primary) 128 room.0 in
    let kept = ltb-true (length s.primary) (drive_of s).reserved above.0 in
    let one = length_push s.primary p in
    let counted = sound.counted in
    record {
      limits = sound.limits;
      ascends = ascends_more 16 (total_of (drive_of s)) s.primary p sound.ascends above.1 at.0 at.1;
      few = omega arith;
      kept = omega arith;
      lines = sound.lines;
      counted = omega arith;
      most = sound.most;
      weighed = sound.weighed;
      light = sound.light;
    })))

-- a line of the body
line_step : (n : ℕ) (s : Reading) (line : Line) → Sound n s → IsProper (total_of (drive_of s)) line → IfOk (with_line n s line) (Sound (n + 1))
unfolding with_line
line_step n s line sound proper =
    required (Sound (n + 1)) (not (is_world line && s.waiting.something)) Place _ (λ placed.
    required (Sound (n + 1)) (not (is_taken s.waiting line)) Tag _ (λ free.
    required (Sound (n + 1)) (nat_le n 65536 && nat_le (s.weight + weight_of (capacity_of (drive_of s)) line) 60000) Limit _ (λ fits.
    required (Sound (n + 1)) (is_served line) Later _ (λ served.
    let parts = both (nat_le n 65536) _ fits in
    let number = leb-true n 65536 parts.0 in
    let weight = leb-true (s.weight + weight_of (capacity_of (drive_of s)) line) 60000 parts.1 in
    let counted = sound.counted in
    let one = length_push s.lines line in
    let before = sound.weighed in
    let sum = sum_by-append (weight_of (capacity_of (drive_of s))) s.lines (line ∷ []) in
    record {
      limits = sound.limits;
      ascends = sound.ascends;
      few = sound.few;
      kept = sound.kept;
      lines = each_append (IsGoodLine (total_of (drive_of s))) s.lines (line ∷ []) sound.lines (record { proper = proper; served = served }, tt);
      counted = omega arith;
      most = omega arith;
      weighed = omega arith;
      light = weight;
    }))))

words_step : (n : ℕ) (s : Reading) (first : List ℕ) (rest : List (List ℕ)) → Sound n s → IfOk (with_words n s first rest) (Sound (n + 1))
unfolding with_words
words_step n s first rest sound =
    let some = (sectors (drive_of s) sound.limits).0 in
    either_way (Sound (n + 1)) (bytes_eq first (codes "disk")) _ _
    (λ _. through Within (Sound (n + 1)) (disk_of rest) _ (disk_read rest) (λ m within. measures_step n s m sound within))
    (λ _. either_way (Sound (n + 1)) (bytes_eq first (codes "primary")) _ _
    (λ _. through (IsSector 16 (total_of (drive_of s))) (Sound (n + 1)) (primary_of (total_of (drive_of s)) rest) _ (primary_read (total_of (drive_of s)) rest some) (λ p at. primary_step n s p sound at))
    (λ _. past (Sound (n + 1)) (or_else Shape (form_of first)) _ (λ form.
    through (IsProper (total_of (drive_of s))) (Sound (n + 1)) (line_of (total_of (drive_of s)) form rest) _ (line_proper (total_of (drive_of s)) form rest some) (λ line proper. line_step n s line sound proper))))

all_words_step : (n : ℕ) (s : Reading) (words : List (List ℕ)) → Sound n s → IfOk (with_all_words n s words) (Sound (n + 1))
all_words_step n s [] sound = tt
all_words_step n s (first ∷ rest) sound = required (Sound (n + 1)) (not (list_any is_empty (first ∷ rest))) Shape _ (λ _. words_step n s first rest sound)

text_step : (n : ℕ) (s : Reading) (line : List ℕ) → Sound n s → IfOk (with_text n s line) (Sound (n + 1))
unfolding with_text
text_step n s line sound =
    required (Sound (n + 1)) (list_all is_printable line) Bytes _ (λ _.
    either_way (Sound (n + 1)) (is_comment line) _ _
    (λ _. past (Sound (n + 1)) (within_lines n) _ (λ _. later n s sound))
    (λ _. all_words_step n s (words_of line) sound))

-- a script so far, whatever its next line's number
abbrev IsSound : Reading → Type 0
IsSound s = (n : ℕ) × Sound n s

goes_on_sound : (n : ℕ) (r : Result Reading Why) (f : Reading → Result Reading Refusal) → IfOk r (Sound (n + 1)) → ((s : Reading) → Sound (n + 1) s → IfOk (f s) IsSound) → IfOk (goes_on n r f) IsSound
goes_on_sound n (Ok s) f sound rest = rest s sound
goes_on_sound n (Err why) f sound rest = tt

lines_sound : (n : ℕ) (s : Reading) (lines : List (List ℕ)) → Sound n s → IfOk (behind_lines n s lines) IsSound
lines_sound n s [] sound = (n, sound)
lines_sound n s (line ∷ lines) sound = goes_on_sound n (with_text n s line) (λ t. behind_lines (n + 1) t lines) (text_step n s line sound) (λ t next. lines_sound (n + 1) t lines next)

begins : Sound 1 at_start
begins = record { limits = refl; ascends = tt; few = omega arith; kept = omega arith; lines = tt; counted = omega arith; most = omega arith; weighed = refl; light = omega arith }

-- what is asked for can be carried out
record IsGoodAsked (asked : Asked) : Type 0 where
  limits : is_within_limits (given_or_default asked.measures) ≡ true
  primary : AscendsWithin 16 (total_of (given_or_default asked.measures)) asked.primary
  few : length asked.primary ≤ 128
  kept : length asked.primary ≤ (given_or_default asked.measures).reserved
  lines : Each (IsGoodLine (total_of (given_or_default asked.measures))) asked.lines
  turns : turns_of_lines (capacity_of (given_or_default asked.measures)) asked.lines < turns_at_most

asked_sound : (s : Reading) → IsSound s → IsGoodAsked (asked_at_end s)
asked_sound s sound = go s.waiting.something
  where
    it : Sound sound.0 s
    it = sound.1

    few_turns : (lines : List Line) → turns_of_lines (capacity_of (drive_of s)) lines ≤ turns_by_weight (capacity_of (drive_of s)) lines
    few_turns lines = let total = (sectors (drive_of s) it.limits).1 in lines_few (capacity_of (drive_of s)) lines (omega arith)

    go : (b : Bool) → IsGoodAsked (record { measures = s.measures; primary = s.primary; lines = cond b (s.lines ++ Go ∷ []) s.lines })
    go false =
        let turns = few_turns s.lines in
        let weighed = it.weighed in
        let most = it.most in
        let light = it.light in
        record { limits = it.limits; primary = it.ascends; few = it.few; kept = it.kept; lines = it.lines; turns = omega arith }
    go true =
        let turns = few_turns s.lines in
        let weighed = it.weighed in
        let most = it.most in
        let light = it.light in
        let sum = sum_by-append (turns_of_line (capacity_of (drive_of s))) s.lines (Go ∷ []) in
        record {
          limits = it.limits;
          primary = it.ascends;
          few = it.few;
          kept = it.kept;
          lines = each_append (IsGoodLine (total_of (drive_of s))) s.lines (Go ∷ []) it.lines (record { proper = tt; served = refl }, tt);
          turns = omega arith;
        }

asked_of : (r : Result Reading Refusal) (asked : Asked) → IfOk r IsSound → ends r ≡ Ok asked → IsGoodAsked asked
asked_of (Ok s) asked sound e = let same : asked_at_end s ≡ asked = cc in subst IsGoodAsked same (asked_sound s sound)
asked_of (Err refusal) asked sound e = absurd (cc)

script_good : (bytes : List ℕ) (asked : Asked) → script_of bytes ≡ Ok asked → IsGoodAsked asked
unfolding script_of
script_good bytes asked e = asked_of (behind_lines 1 at_start (lines_of bytes)) asked (lines_sound 1 at_start (lines_of bytes) begins) e

-- a line that is served by its text is one that the drive serves
served_line : (size : Size) (line : Line) → IsGoodLine (total_of (measures_of size)) line → IsServedLine size line
served_line size (Command i t a cdb sent) good = good.served
served_line size (Function i what) good = tt
served_line size (World (Minutes n)) good = tt
served_line size (World (Damage d)) good = (good.proper.sector, good.proper.within)
served_line size (Destage count) good = tt
served_line size Go good = tt
served_line size line good = let h = good.served in absurd (cc)

each_all : {A : Type 0} (P : A → Type 0) (xs : List A) → Each P xs → All P xs
each_all P [] h k d lt = absurd (omega arith)
each_all P (x ∷ xs) h zero d lt = h.0
each_all P (x ∷ xs) h (suc k) d lt = each_all P xs h.1 k d (omega arith)

pub can_be_carried_out : (bytes : List ℕ) (script : Script) → script_of bytes ≡ Ok (asked_by script) → (size : Size) → HasMeasures script.size size → CanBeCarriedOut size script
can_be_carried_out bytes script e size is =
    let good = subst (λ (m : Measures). AscendsWithin 16 (total_of m) script.primary.items × (length script.primary.items ≤ m.reserved) × Each (IsGoodLine (total_of m)) script.lines
    × (turns_of_lines (capacity_of m) script.lines < turns_at_most)) (sym is)
    (let g = script_good bytes (asked_by script) e in (g.primary, g.kept, g.lines, g.turns)) in
    record {
      primary = record { ascending = good.0; few = (script_good bytes (asked_by script) e).few; kept_back = good.1 };
      lines = each_all (IsServedLine size) script.lines (each_weaker (IsGoodLine (total_of (measures_of size))) (IsServedLine size) script.lines (served_line size) good.2);
      few = good.3;
    }

-- and its drive has at most 4096 blocks
pub few_blocks : (bytes : List ℕ) (script : Script) → script_of bytes ≡ Ok (asked_by script) → blocks_of script ≤ 4096
few_blocks bytes script e =
    let good = script_good bytes (asked_by script) e in
    let total = (sectors (given_or_default (asked_by script).measures) good.limits).1 in
    omega arith

-- so its run has few turns
pub bounded_run : (bytes : List ℕ) (script : Script) (run : Run) → script_of bytes ≡ Ok (asked_by script) → run.script ≡ script → length run.turns ≤ turns_of_lines (blocks_of run.script) run.script.lines → HasFewTurns run
bounded_run bytes script run e same few =
    let small : blocks_of run.script ≤ 4096 = subst (λ (s : Script). blocks_of s ≤ 4096) (sym same) (few_blocks bytes script e) in
    let most = lines_few (blocks_of run.script) run.script.lines small in
    omega arith
