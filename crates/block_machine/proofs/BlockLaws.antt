-- Proofs of the laws on the values of a block.
use Rattle.std.proofs.Common.{◌≡◌, ◌∙◌, ap, sym, subst, refl, ℕ, Bool, true, false, not, cond, nat_eq, List, [], ◌∷◌, ◌++◌, length, length-append, arith}
use Rattle.std.specs.Prelude.{◌-◌, ◌==◌, fold, slice_get, Option, Some, None}
use Rattle.std.specs.List.{list_all, list_any}
use Rattle.std.specs.Option.{option_map_or}
use Rattle.std.proofs.lemmas.Bool.{eq-eqb, ne_eqb}
use Rattle.std.proofs.lemmas.Slice.Eq.{bytes_eq-Decides}
use Rattle.disk_base.specs.Along.{all_along}
use Rattle.disk_base.specs.declared.address.Lba.{Lba}
use Rattle.disk_base.specs.declared.block.Value.{Value}
use Rattle.disk_base.specs.declared.block.Value.TheVariants.{Data, Lost}
use Rattle.sense_data.specs.Attentions.{Waiting}
use Rattle.block_machine.specs.declared.array.BlockState.{BlockState}
use Rattle.block_machine.specs.declared.entry.Entry.{Entry}
use Rattle.block_machine.specs.declared.entry.Entry.TheVariants.{Get, Put, Harden, GiveUp, Cut}
use Rattle.block_machine.specs.declared.turn.Turn.{Turn}
use Rattle.block_machine.specs.Blocks.{zeros, same_value, blocks_at_start, hardened_with, newest, allowed, is_dirty, may_get, after_get, after_put, after_harden, after_cut}
use Rattle.block_machine.specs.State.{state_at_start}
use Rattle.block_machine.specs.History.{entries_of}
use Rattle.block_machine.specs.Laws.{OfLegalHistories, IsLegal, renews, is_cut, newest_after, last_put, ReadsGiveWhatWasPutLast, HardenedValuesStay, FirstReadSettles, BeginningsAreLegal}
use Rattle.block_machine.specs.Turns.{turn_after, turn_lawful}
use Rattle.block_machine.proofs.Alongs.{along_first, along_second, parted_twice}
use Rattle.block_machine.proofs.Projection.{legal_blocks}
use Rattle.block_machine.proofs.OneBlock.{block_after, block_allows, one_along, kept_along}
use Rattle.block_machine.proofs.Booleans.{both, or_false}

-- the place of the last of a list that isn't empty
last_place : {X : Type 0} (xs : List X) (v : X) → length (xs ++ v ∷ []) - 1 ≡ length xs
last_place xs v = let long = length-append xs (v ∷ []) in omega arith

-- what stands behind a list
at_end : {X : Type 0} (xs : List X) (v : X) → slice_get (xs ++ v ∷ []) (length xs) ≡ Some v
at_end [] v = refl
at_end (x ∷ xs) v = at_end xs v

-- the last of a list that ends with this
pub last_of : {X : Type 0} (xs : List X) (v : X) → slice_get (xs ++ v ∷ []) (length (xs ++ v ∷ []) - 1) ≡ Some v
last_of xs v = rw last_place (at_end xs v)

-- a value that is the same
pub same_is : (d : List ℕ) (v : Value) → same_value (Data d) v ≡ true → v ≡ Data d
same_is d (Data e) h = ap Data (sym ((bytes_eq-Decides d e).0 h))
same_is d Lost h = absurd (cc)

-- the only value of a list
only_is : (d : List ℕ) (v : Value) → list_any (same_value (Data d)) (v ∷ []) ≡ true → v ≡ Data d
only_is d v h = same_is d v (or_false (same_value (Data d) v) h)

-- a list with a last value isn't empty
last_nonempty : (xs : List Value) (v : Value) → slice_get xs (length xs - 1) ≡ Some v → not (length xs == 0) ≡ true
last_nonempty [] v h = absurd (cc)
last_nonempty (x ∷ xs) v h = ap not (ne_eqb (length (x ∷ xs)) 0 (omega arith))

-- a block that has a newest value is dirty
newest_dirty : (s : BlockState) (v : Value) → newest s ≡ Some v → is_dirty s ≡ true
newest_dirty s v h = last_nonempty s.newer v h

-- a list that isn't empty has a last value
last_some : {X : Type 0} (x : X) (xs : List X) → slice_get (x ∷ xs) (length xs) ≡ None → ⊥
last_some x [] h = cc
last_some x (y ∷ ys) h = last_some y ys h

nonempty_last : (xs : List Value) → not (length xs == 0) ≡ true → slice_get xs (length xs - 1) ≡ None → ⊥
nonempty_last [] e h = cc
nonempty_last (x ∷ xs) e h = let place : length (x ∷ xs) - 1 ≡ length xs = omega arith in last_some x xs (ap (λ i. slice_get (x ∷ xs) i) (sym place) ∙ h)

-- a block that is dirty has a newest value
pub dirty_newest : (s : BlockState) → is_dirty s ≡ true → newest s ≡ None → ⊥
dirty_newest s e h = nonempty_last s.newer e h

-- the block has this value: on the medium alone, or as the newest
pub data Holds : BlockState → Value → Type 0 where
  clean : {s : BlockState} {v : Value} → s ≡ hardened_with v → Holds s v
  dirty : {s : BlockState} {v : Value} → newest s ≡ Some v → Holds s v

-- a clean block gives its value alone
clean_gives : (s : BlockState) (v : Value) (d : List ℕ) → s ≡ hardened_with v → may_get s (Data d) ≡ true → v ≡ Data d
clean_gives s v d e h = only_is d v (ap (λ (s : BlockState). may_get s (Data d)) (sym e) ∙ h)

-- a dirty one its newest
pub dirty_gives : (s : BlockState) (v : Value) (d : List ℕ) → newest s ≡ Some v → may_get s (Data d) ≡ true → v ≡ Data d
dirty_gives s v d e h =
    let is : may_get s (Data d) ≡ option_map_or (same_value (Data d)) (newest s) false =
    ap (λ (t : Bool). cond t (option_map_or (same_value (Data d)) (newest s) false) (list_any (same_value (Data d)) s.base)) (newest_dirty s v e) in
    same_is d v (ap (λ (o : Option Value). option_map_or (same_value (Data d)) o false) (sym e) ∙ sym is ∙ h)

pub gives : (s : BlockState) (v : Value) (d : List ℕ) → Holds s v → may_get s (Data d) ≡ true → v ≡ Data d
gives s v d (clean e) h = clean_gives s v d e h
gives s v d (dirty e) h = dirty_gives s v d e h

-- a clean block keeps its value when it is got
clean_got : (s : BlockState) (v w : Value) → s ≡ hardened_with v → may_get s w ≡ true → after_get s w ≡ hardened_with v
clean_got s v (Data d) e h = ap (λ (s : BlockState). after_get s (Data d)) e ∙ ap hardened_with (sym (clean_gives s v d e h))
clean_got s v Lost e h = e

-- a dirty block stays as it is
dirty_got : (s : BlockState) (w : Value) → is_dirty s ≡ true → after_get s w ≡ s
dirty_got s (Data d) e = ap (λ (t : Bool). cond t s (hardened_with (Data d))) e
dirty_got s Lost e = refl

get_holds : (t : Bool) (s : BlockState) (v w : Value) → cond t (may_get s w) true ≡ true → Holds s v → Holds (cond t (after_get s w) s) v
get_holds false s v w h i = i
get_holds true s v w h (clean e) = clean (clean_got s v w e h)
get_holds true s v w h (dirty e) = dirty (ap newest (dirty_got s w (newest_dirty s v e)) ∙ e)

put_holds : (t : Bool) (s : BlockState) (v w : Value) → Holds s v → Holds (cond t (after_put s w) s) (cond t w v)
put_holds false s v w i = i
put_holds true s v w i = dirty (last_of s.newer w)

harden_holds : (t : Bool) (s : BlockState) (v : Value) → cond t (is_dirty s) true ≡ true → Holds s v → Holds (cond t (after_harden s) s) v
harden_holds false s v h i = i
harden_holds true s v h (clean e) = let no : false ≡ true = ap is_dirty (sym e) ∙ h in absurd (cc)
harden_holds true s v h (dirty e) = clean (ap (λ (o : Option Value). option_map_or hardened_with o s) e)

-- without a cut each entry keeps that the block has the value that was put last
pub keeps_holds : (b : ℕ) (s : BlockState) (v : Value) (e : Entry) → block_allows b s e ≡ true → not (is_cut e) ≡ true → Holds s v → Holds (block_after b s e) (newest_after b v e)
keeps_holds b s v (Get c a w) h q i = get_holds (nat_eq b a.0) s v w h i
keeps_holds b s v (Put c a w) h q i = put_holds (nat_eq b a.0) s v (Data w) i
keeps_holds b s v (GiveUp a) h q i = put_holds (nat_eq b a.0) s v Lost i
keeps_holds b s v (Harden who a) h q i = harden_holds (nat_eq b a.0) s v h i
keeps_holds b s v Cut h q i = absurd (cc)
keeps_holds b s v other h q i = i

-- what a block allows at an entry about itself
pub allowed_here : (b : ℕ) (x : Bool) → cond (nat_eq b b) x true ≡ true → x ≡ true
allowed_here b x h = ap (λ (t : Bool). cond t x true) (sym (eq-eqb b b refl)) ∙ h

-- along the entries of a legal history each block allows them
pub block_along : (capacity : ℕ) (waiting : Waiting) (turns : List Turn) (b : ℕ) (entries : List Entry) → IsLegal capacity waiting turns → entries_of turns ≡ entries
    → all_along (block_after b) (block_allows b) (hardened_with zeros) entries ≡ true
block_along capacity waiting turns b entries h e =
    ap (λ (xs : List Entry). all_along (block_after b) (block_allows b) (hardened_with zeros) xs) (sym e)
    ∙ one_along capacity b blocks_at_start (entries_of turns) (legal_blocks capacity (state_at_start waiting) turns h)

-- the state of a block after entries, from the start
state_of : ℕ → List Entry → BlockState
state_of b entries = fold (block_after b) (hardened_with zeros) entries

module _ (b : ℕ) (s : BlockState) (before : List Entry) (e : Entry) (after : List Entry)
    (h : all_along (block_after b) (block_allows b) s (before ++ e ∷ after) ≡ true) where
  -- what comes before an entry is allowed, the entry itself, and what comes behind it
  pub part_before : all_along (block_after b) (block_allows b) s before ≡ true
  part_before = along_first (block_after b) (block_allows b) s before (e ∷ after) h

  pub part_behind : all_along (block_after b) (block_allows b) (fold (block_after b) s before) (e ∷ after) ≡ true
  part_behind = along_second (block_after b) (block_allows b) s before (e ∷ after) h

  pub part_here : block_allows b (fold (block_after b) s before) e ≡ true
  part_here = (both (block_allows b (fold (block_after b) s before) e) _ part_behind).0

  pub part_after : all_along (block_after b) (block_allows b) (block_after b (fold (block_after b) s before) e) after ≡ true
  part_after = (both (block_allows b (fold (block_after b) s before) e) _ part_behind).1

pub reads_give_what_was_put_last : OfLegalHistories ReadsGiveWhatWasPutLast
reads_give_what_was_put_last capacity waiting turns legal b get no_cut =
    let before : List Entry = get.before in
    let here : Entry = Get get.reader b (Data get.block) in
    let h = block_along capacity waiting turns b.0 (before ++ here ∷ get.behind) legal get.whole in
    let i : Holds (fold (block_after b.0) (hardened_with zeros) before) (last_put b.0 before) =
    kept_along (block_after b.0) (block_allows b.0) (newest_after b.0) (λ e. not (is_cut e)) Holds (keeps_holds b.0)
    (hardened_with zeros) zeros before (part_before b.0 (hardened_with zeros) before here get.behind h) no_cut (clean refl) in
    gives (fold (block_after b.0) (hardened_with zeros) before) (last_put b.0 before) get.block i
    (allowed_here b.0 _ (part_here b.0 (hardened_with zeros) before here get.behind h))

-- where a block is dirty, this is its newest value
IsNewest : BlockState → Value → Type 0
IsNewest s v = is_dirty s ≡ true → newest s ≡ Some v

-- a block that is hardened has no newest value
hardened_newest : (w v : Value) → IsNewest (hardened_with w) v
unfolding IsNewest
hardened_newest w v h = absurd (cc)

get_newest : (t x : Bool) (s : BlockState) (v w : Value) → IsNewest s v → IsNewest (cond t (cond x s (hardened_with w)) s) v
get_newest false x s v w i = i
get_newest true true s v w i = i
get_newest true false s v w i = hardened_newest w v

got_newest : (t : Bool) (s : BlockState) (v w : Value) → IsNewest s v → IsNewest (cond t (after_get s w) s) v
got_newest t s v (Data d) i = get_newest t (is_dirty s) s v (Data d) i
got_newest false s v Lost i = i
got_newest true s v Lost i = i

put_newest : (t : Bool) (s : BlockState) (v w : Value) → IsNewest s v → IsNewest (cond t (after_put s w) s) (cond t w v)
unfolding IsNewest
put_newest false s v w i = i
put_newest true s v w i = λ h. last_of s.newer w

option_newest : (o : Option Value) (s : BlockState) (v : Value) → IsNewest s v → IsNewest (option_map_or hardened_with o s) v
option_newest None s v i = i
option_newest (Some w) s v i = hardened_newest w v

harden_newest : (t : Bool) (s : BlockState) (v : Value) → IsNewest s v → IsNewest (cond t (after_harden s) s) v
harden_newest false s v i = i
harden_newest true s v i = option_newest (newest s) s v i

cut_newest : (x : Bool) (s : BlockState) (v : Value) → IsNewest s v → IsNewest (cond x (record { base = allowed s; newer = [] }) s) v
unfolding IsNewest
cut_newest false s v i = i
cut_newest true s v i = λ h. absurd (cc)

-- each entry keeps that the newest value of a dirty block is the one that was put last
keeps_newest : (b : ℕ) (s : BlockState) (v : Value) (e : Entry) → block_allows b s e ≡ true → true ≡ true → IsNewest s v → IsNewest (block_after b s e) (newest_after b v e)
keeps_newest b s v (Get c a w) h q i = got_newest (nat_eq b a.0) s v w i
keeps_newest b s v (Put c a w) h q i = put_newest (nat_eq b a.0) s v (Data w) i
keeps_newest b s v (GiveUp a) h q i = put_newest (nat_eq b a.0) s v Lost i
keeps_newest b s v (Harden who a) h q i = harden_newest (nat_eq b a.0) s v i
keeps_newest b s v Cut h q i = cut_newest (is_dirty s) s v i
keeps_newest b s v other h q i = i

-- a test that always passes
pub all_pass : {X : Type 0} (xs : List X) → list_all (λ x. true) xs ≡ true
all_pass [] = refl
all_pass (x ∷ xs) = all_pass xs

newest_along : (b : ℕ) (entries : List Entry) → all_along (block_after b) (block_allows b) (hardened_with zeros) entries ≡ true
    → IsNewest (state_of b entries) (last_put b entries)
unfolding state_of
newest_along b entries h = kept_along (block_after b) (block_allows b) (newest_after b) (λ e. true) IsNewest (keeps_newest b)
    (hardened_with zeros) zeros entries h (all_pass entries) (hardened_newest zeros zeros)

-- the block has this value on the medium, and no newer one
IsClean : BlockState → Value → Type 0
IsClean s v = s ≡ hardened_with v

get_clean : (t : Bool) (s : BlockState) (v w : Value) → cond t (may_get s w) true ≡ true → IsClean s v → IsClean (cond t (after_get s w) s) v
unfolding IsClean
get_clean false s v w h e = e
get_clean true s v w h e = clean_got s v w e h

put_clean : (t : Bool) (s u : BlockState) (v : Value) → not t ≡ true → IsClean s v → IsClean (cond t u s) v
put_clean false s u v h e = e
put_clean true s u v h e = absurd (cc)

harden_clean : (t : Bool) (s : BlockState) (v : Value) → cond t (is_dirty s) true ≡ true → IsClean s v → IsClean (cond t (after_harden s) s) v
unfolding IsClean
harden_clean false s v h e = e
harden_clean true s v h e = let no : false ≡ true = ap is_dirty (sym e) ∙ h in absurd (cc)

cut_clean : (s : BlockState) (v : Value) → IsClean s v → IsClean (after_cut s) v
unfolding IsClean
cut_clean s v e = ap after_cut e

-- each entry that doesn't renew the block keeps it clean with its value
keeps_clean : (b : ℕ) (s : BlockState) (v : Value) (e : Entry) → block_allows b s e ≡ true → not (renews b e) ≡ true → IsClean s v → IsClean (block_after b s e) v
keeps_clean b s v (Get c a w) h q i = get_clean (nat_eq b a.0) s v w h i
keeps_clean b s v (Put c a w) h q i = put_clean (nat_eq b a.0) s (after_put s (Data w)) v q i
keeps_clean b s v (GiveUp a) h q i = put_clean (nat_eq b a.0) s (after_put s Lost) v q i
keeps_clean b s v (Harden who a) h q i = harden_clean (nat_eq b a.0) s v h i
keeps_clean b s v Cut h q i = cut_clean s v i
keeps_clean b s v other h q i = i

-- nothing is counted
same_along : {G X : Type 0} (g : G) (xs : List X) → fold (λ (v : G) (x : X). v) g xs ≡ g
same_along g [] = refl
same_along g (x ∷ xs) = same_along g xs

stays_clean : (b : ℕ) (s : BlockState) (v : Value) (entries : List Entry) → all_along (block_after b) (block_allows b) s entries ≡ true
    → list_all (λ e. not (renews b e)) entries ≡ true → IsClean s v → IsClean (fold (block_after b) s entries) v
stays_clean b s v entries h q i =
    subst (λ (w : Value). IsClean (fold (block_after b) s entries) w) (same_along v entries)
    (kept_along (block_after b) (block_allows b) (λ (w : Value) (e : Entry). w) (λ e. not (renews b e)) IsClean (keeps_clean b) s v entries h q i)

-- .. so a read behind such entries gives the value
read_clean : (b : Lba) (s : BlockState) (v : Value) (between after : List Entry) (c : ℕ) (d : List ℕ)
    → all_along (block_after b.0) (block_allows b.0) s (between ++ Get c b (Data d) ∷ after) ≡ true → list_all (λ e. not (renews b.0 e)) between ≡ true
    → IsClean s v → v ≡ Data d
unfolding IsClean
read_clean b s v between after c d h q i =
    clean_gives (fold (block_after b.0) s between) v d
    (stays_clean b.0 s v between (part_before b.0 s between (Get c b (Data d)) after h) q i)
    (allowed_here b.0 _ (part_here b.0 s between (Get c b (Data d)) after h))

-- the block itself changes at an entry about it
pub changed_here : (b : ℕ) (s u : BlockState) → cond (nat_eq b b) u s ≡ u
changed_here b s u = ap (λ (t : Bool). cond t u s) (eq-eqb b b refl)

pub hardened_values_stay : OfLegalHistories HardenedValuesStay
unfolding IsNewest IsClean state_of
hardened_values_stay capacity waiting turns legal b get harden q =
    let before : List Entry = harden.before in
    let here : Entry = Harden harden.who b in
    let got : Entry = Get get.reader b (Data get.block) in
    let rest : List Entry = harden.behind ++ got ∷ get.behind in
    let h = block_along capacity waiting turns b.0 (before ++ here ∷ rest) legal
    (parted_twice (entries_of turns) before harden.behind get.before get.behind here got get.whole harden.whole) in
    let s : BlockState = fold (block_after b.0) (hardened_with zeros) before in
    let dirty_then : is_dirty s ≡ true = allowed_here b.0 _ (part_here b.0 (hardened_with zeros) before here rest h) in
    let newest_then : newest s ≡ Some (last_put b.0 before) =
    newest_along b.0 before (part_before b.0 (hardened_with zeros) before here rest h) dirty_then in
    let clean_then : block_after b.0 s here ≡ hardened_with (last_put b.0 before) =
    changed_here b.0 s (after_harden s) ∙ ap (λ (o : Option Value). option_map_or hardened_with o s) newest_then in
    read_clean b (block_after b.0 s here) (last_put b.0 before) harden.behind get.behind get.reader get.block
    (part_after b.0 (hardened_with zeros) before here rest h) q clean_then

-- a block that isn't dirty
IsQuiet : BlockState → Value → Type 0
IsQuiet s v = is_dirty s ≡ false

pub got_quiet : (x : Bool) (s : BlockState) (v w : Value) → is_dirty s ≡ false → is_dirty (cond x s (hardened_with w)) ≡ false
got_quiet true s v w e = e
got_quiet false s v w e = refl

get_quiet : (t : Bool) (s : BlockState) (v w : Value) → IsQuiet s v → IsQuiet (cond t (after_get s w) s) v
unfolding IsQuiet
get_quiet false s v w e = e
get_quiet true s v (Data d) e = got_quiet (is_dirty s) s v (Data d) e
get_quiet true s v Lost e = e

put_quiet : (t : Bool) (s u : BlockState) (v : Value) → not t ≡ true → IsQuiet s v → IsQuiet (cond t u s) v
put_quiet false s u v h e = e
put_quiet true s u v h e = absurd (cc)

harden_quiet : (t : Bool) (s : BlockState) (v : Value) → cond t (is_dirty s) true ≡ true → IsQuiet s v → IsQuiet (cond t (after_harden s) s) v
unfolding IsQuiet
harden_quiet false s v h e = e
harden_quiet true s v h e = let no : false ≡ true = sym e ∙ h in absurd (cc)

cuts_quiet : (x : Bool) (s : BlockState) (base : List Value) → is_dirty s ≡ x → is_dirty (cond x (record { base = base; newer = [] }) s) ≡ false
cuts_quiet true s base e = refl
cuts_quiet false s base e = e

pub cut_quiet : (s : BlockState) → is_dirty (after_cut s) ≡ false
cut_quiet s = cuts_quiet (is_dirty s) s (allowed s) refl

keeps_quiet : (b : ℕ) (s : BlockState) (v : Value) (e : Entry) → block_allows b s e ≡ true → not (renews b e) ≡ true → IsQuiet s v → IsQuiet (block_after b s e) v
unfolding IsQuiet
keeps_quiet b s v (Get c a w) h q i = get_quiet (nat_eq b a.0) s v w i
keeps_quiet b s v (Put c a w) h q i = put_quiet (nat_eq b a.0) s (after_put s (Data w)) v q i
keeps_quiet b s v (GiveUp a) h q i = put_quiet (nat_eq b a.0) s (after_put s Lost) v q i
keeps_quiet b s v (Harden who a) h q i = harden_quiet (nat_eq b a.0) s v h i
keeps_quiet b s v Cut h q i = cut_quiet s
keeps_quiet b s v other h q i = i

stays_quiet : (b : ℕ) (s : BlockState) (entries : List Entry) → all_along (block_after b) (block_allows b) s entries ≡ true
    → list_all (λ e. not (renews b e)) entries ≡ true → is_dirty s ≡ false → is_dirty (fold (block_after b) s entries) ≡ false
unfolding IsQuiet
stays_quiet b s entries h q i =
    kept_along (block_after b) (block_allows b) (λ (w : Value) (e : Entry). w) (λ e. not (renews b e)) IsQuiet (keeps_quiet b) s Lost entries h q i

-- what was got of a block that isn't dirty is what it has
pub got_clean : (s : BlockState) (d : List ℕ) → is_dirty s ≡ false → after_get s (Data d) ≡ hardened_with (Data d)
got_clean s d e = ap (λ (t : Bool). cond t s (hardened_with (Data d))) e

pub first_read_settles : OfLegalHistories FirstReadSettles
unfolding IsClean
first_read_settles capacity waiting turns legal b later earlier before since is q1 q2 =
    let one : Entry = Get earlier.reader b (Data earlier.block) in
    let two : Entry = Get later.reader b (Data later.block) in
    let rest : List Entry = earlier.behind ++ two ∷ later.behind in
    let behind : List Entry = since ++ one ∷ rest in
    let whole : entries_of turns ≡ before ++ Cut ∷ behind =
    parted_twice (entries_of turns) before since earlier.before rest Cut one
    (parted_twice (entries_of turns) earlier.before earlier.behind later.before later.behind one two later.whole earlier.whole) is in
    let h = block_along capacity waiting turns b.0 (before ++ Cut ∷ behind) legal whole in
    let s : BlockState = after_cut (fold (block_after b.0) (hardened_with zeros) before) in
    let h1 : all_along (block_after b.0) (block_allows b.0) s behind ≡ true = part_after b.0 (hardened_with zeros) before Cut behind h in
    let u : BlockState = fold (block_after b.0) s since in
    let quiet : is_dirty u ≡ false =
    stays_quiet b.0 s since (part_before b.0 s since one rest h1) q1 (cut_quiet (fold (block_after b.0) (hardened_with zeros) before)) in
    let settled : block_after b.0 u one ≡ hardened_with (Data earlier.block) =
    changed_here b.0 u (after_get u (Data earlier.block)) ∙ got_clean u earlier.block quiet in
    let same : Data earlier.block ≡ Data later.block =
    read_clean b (block_after b.0 u one) (Data earlier.block) earlier.behind later.behind later.reader later.block (part_after b.0 s since one rest h1) q2 settled in
    cc

pub beginnings_are_legal : BeginningsAreLegal
beginnings_are_legal capacity waiting turns more h = along_first (turn_after capacity) (turn_lawful capacity) (state_at_start waiting) turns more h
