-- Proofs of the laws on the values of a block over earlier power cuts, and on which blocks are dirty.
use Rattle.std.proofs.Common.{◌≡◌, ◌≢◌, ◌∙◌, ap, sym, subst, refl, ℕ, zero, suc, ◌<◌, Bool, true, false, not, cond, nat_eq, List, [], ◌∷◌, ◌++◌, length, length-append, get_or, arith}
use Rattle.std.specs.Prelude.{◌||◌, ◌==◌, fold, AllPairs, Option, Some, None}
use Rattle.std.specs.List.{list_all, list_any}
use Rattle.std.specs.Option.{option_map_or}
use Rattle.std.proofs.lemmas.Bool.{eq-eqb, eqb-true, eqb-false, ne_eqb}
use Rattle.std.proofs.lemmas.List.Kept.{AllPairs-filter}
use Rattle.std.proofs.lemmas.List.Quantifiers.{all_pairs_push}
use Rattle.disk_base.specs.Along.{all_along}
use Rattle.disk_base.specs.declared.block.Value.{Value}
use Rattle.disk_base.specs.declared.block.Value.TheVariants.{Data, Lost}
use Rattle.block_machine.specs.declared.array.BlockState.{BlockState}
use Rattle.block_machine.specs.declared.entry.Entry.{Entry}
use Rattle.block_machine.specs.declared.entry.Entry.TheVariants.{Get, Put, Harden, GiveUp, Cut}
use Rattle.block_machine.specs.declared.turn.Label.{Label}
use Rattle.block_machine.specs.declared.turn.Label.TheVariants.{Arrive, Work, Job, Scan, Destage, World}
use Rattle.block_machine.specs.declared.turn.Turn.{Turn}
use Rattle.block_machine.specs.Blocks.{Blocks, zeros, blocks_at_start, blocks_after, hardened_with, newest, is_dirty, after_get, after_put, after_harden, with_address, without_address, dirty_after}
use Rattle.block_machine.specs.State.{State, state_at_start}
use Rattle.block_machine.specs.Steps.{entry_after, entries_after, begun}
use Rattle.block_machine.specs.Turns.{turn_after}
use Rattle.block_machine.specs.History.{turns_after, entries_of}
use Rattle.block_machine.specs.Laws.{OfLegalHistories, renews, is_cut, newest_after, values_after}
use Rattle.block_machine.specs.KeptValues.{ReadsGiveTheirOwnWrite, pending_after, values_from, RuledOutValuesStayOut, DirtyBlocksArePending}
use Rattle.block_machine.proofs.Alongs.{fold_both, parted_twice}
use Rattle.block_machine.proofs.OneBlock.{block_after, block_allows, one_after, kept_along}
use Rattle.block_machine.proofs.BlockLaws.{Holds, dirty, gives, keeps_holds, last_of, dirty_newest, changed_here, got_clean, cut_quiet, allowed_here, block_along, all_pass, part_before, part_here, part_after}
use Rattle.block_machine.proofs.Values.{Within, keeps_within, hardened_within, given_found}
use Rattle.block_machine.proofs.Projection.{blocks_of_turns}
use Rattle.block_machine.proofs.Booleans.{both, none_of}

-- an entry that doesn't renew a block leaves its newest value
put_no_more : (t : Bool) (v w : Value) → not t ≡ true → cond t w v ≡ v
put_no_more false v w h = refl
put_no_more true v w h = absurd (cc)

newest_stays_one : (b : ℕ) (v : Value) (e : Entry) → not (renews b e) ≡ true → newest_after b v e ≡ v
newest_stays_one b v (Put c a w) h = put_no_more (nat_eq b a.0) v (Data w) h
newest_stays_one b v (GiveUp a) h = put_no_more (nat_eq b a.0) v Lost h
newest_stays_one b v other h = refl

pub newest_stays : (b : ℕ) (v : Value) (entries : List Entry) → list_all (λ e. not (renews b e)) entries ≡ true → fold (newest_after b) v entries ≡ v
newest_stays b v [] h = refl
newest_stays b v (e ∷ entries) h =
    let now = both (not (renews b e)) _ h in
    ap (λ (w : Value). fold (newest_after b) w entries) (newest_stays_one b v e now.0) ∙ newest_stays b v entries now.1

pub reads_give_their_own_write : OfLegalHistories ReadsGiveTheirOwnWrite
reads_give_their_own_write capacity waiting turns legal b get put no_cut none =
    let before : List Entry = put.before in
    let here : Entry = Put put.writer b put.block in
    let got : Entry = Get get.reader b (Data get.block) in
    let rest : List Entry = put.behind ++ got ∷ get.behind in
    let h = block_along capacity waiting turns b.0 (before ++ here ∷ rest) legal
    (parted_twice (entries_of turns) before put.behind get.before get.behind here got get.whole put.whole) in
    let s : BlockState = fold (block_after b.0) (hardened_with zeros) before in
    let u : BlockState = block_after b.0 s here in
    let put_there : u ≡ after_put s (Data put.block) = changed_here b.0 s (after_put s (Data put.block)) in
    let h1 : all_along (block_after b.0) (block_allows b.0) u rest ≡ true = part_after b.0 (hardened_with zeros) before here rest h in
    let has : Holds u (Data put.block) = subst (λ (x : BlockState). Holds x (Data put.block)) (sym put_there) (dirty (last_of s.newer (Data put.block))) in
    let t : BlockState = fold (block_after b.0) u put.behind in
    let i : Holds t (fold (newest_after b.0) (Data put.block) put.behind) =
    kept_along (block_after b.0) (block_allows b.0) (newest_after b.0) (λ e. not (is_cut e)) Holds (keeps_holds b.0)
    u (Data put.block) put.behind (part_before b.0 u put.behind got get.behind h1) no_cut has in
    let same : Data get.block ≡ Data put.block =
    sym (gives t (fold (newest_after b.0) (Data put.block) put.behind) get.block i (allowed_here b.0 _ (part_here b.0 u put.behind got get.behind h1)))
    ∙ newest_stays b.0 (Data put.block) put.behind none in
    cc

-- what a block's state becomes at an entry about it or about another
one_dirty : (t : Bool) (s u : BlockState) (x : Bool) → is_dirty u ≡ x → is_dirty (cond t u s) ≡ cond t x (is_dirty s)
one_dirty true s u x e = e
one_dirty false s u x e = refl

same_dirty : (t : Bool) (s u : BlockState) → is_dirty u ≡ is_dirty s → is_dirty (cond t u s) ≡ is_dirty s
same_dirty true s u e = e
same_dirty false s u e = refl

got_dirty : (x : Bool) (s : BlockState) (v : Value) → is_dirty s ≡ x → is_dirty (cond x s (hardened_with v)) ≡ is_dirty s
got_dirty true s v e = refl
got_dirty false s v e = sym e

get_dirty : (s : BlockState) (v : Value) → is_dirty (after_get s v) ≡ is_dirty s
get_dirty s (Data d) = got_dirty (is_dirty s) s (Data d) refl
get_dirty s Lost = refl

put_dirty : (s : BlockState) (v : Value) → is_dirty (after_put s v) ≡ true
put_dirty s v = let long = length-append s.newer (v ∷ []) in ap not (ne_eqb (length (s.newer ++ v ∷ [])) 0 (omega arith))

harden_one : (o : Option Value) (x : Bool) (s : BlockState) → newest s ≡ o → is_dirty s ≡ x → is_dirty (option_map_or hardened_with o s) ≡ false
harden_one (Some v) x s e f = refl
harden_one None false s e f = f
harden_one None true s e f = absurd (dirty_newest s f e)

harden_clean : (s : BlockState) → is_dirty (after_harden s) ≡ false
harden_clean s = harden_one (newest s) (is_dirty s) s refl refl

-- a block is dirty after an entry where something is pending for it
pub one_pending : (b : ℕ) (s : BlockState) (e : Entry) → is_dirty (block_after b s e) ≡ pending_after b (is_dirty s) e
one_pending b s (Get c a v) = same_dirty (nat_eq b a.0) s (after_get s v) (get_dirty s v)
one_pending b s (Put c a v) = one_dirty (nat_eq b a.0) s (after_put s (Data v)) true (put_dirty s (Data v))
one_pending b s (GiveUp a) = one_dirty (nat_eq b a.0) s (after_put s Lost) true (put_dirty s Lost)
one_pending b s (Harden who a) = one_dirty (nat_eq b a.0) s (after_harden s) false (harden_clean s)
one_pending b s Cut = cut_quiet s
one_pending b s other = refl

pub pending_along : (b : ℕ) (s : BlockState) (entries : List Entry) → is_dirty (fold (block_after b) s entries) ≡ fold (pending_after b) (is_dirty s) entries
pending_along b s [] = refl
pending_along b s (e ∷ entries) =
    pending_along b (block_after b s e) entries ∙ ap (λ (p : Bool). fold (pending_after b) p entries) (one_pending b s e)

pub ruled_out_values_stay_out : OfLegalHistories RuledOutValuesStayOut
ruled_out_values_stay_out capacity waiting turns legal b later earlier quiet =
    let before : List Entry = earlier.before in
    let one : Entry = Get earlier.reader b (Data earlier.block) in
    let two : Entry = Get later.reader b (Data later.block) in
    let rest : List Entry = earlier.behind ++ two ∷ later.behind in
    let v : Value = Data earlier.block in
    let h = block_along capacity waiting turns b.0 (before ++ one ∷ rest) legal
    (parted_twice (entries_of turns) before earlier.behind later.before later.behind one two later.whole earlier.whole) in
    let s : BlockState = fold (block_after b.0) (hardened_with zeros) before in
    let h1 = part_after b.0 (hardened_with zeros) before one rest h in
    let u : BlockState = block_after b.0 s one in
    let settled : u ≡ hardened_with v =
    changed_here b.0 s (after_get s v) ∙ got_clean s earlier.block (pending_along b.0 (hardened_with zeros) before ∙ quiet) in
    let has : Within u (v ∷ []) = subst (λ (x : BlockState). Within x (v ∷ [])) (sym settled) (hardened_within v (v ∷ []) (λ f k. k)) in
    let t : BlockState = fold (block_after b.0) u earlier.behind in
    let i : Within t (values_from b.0 v earlier.behind) =
    kept_along (block_after b.0) (block_allows b.0) (values_after b.0) (λ e. true) Within (keeps_within b.0) u (v ∷ []) earlier.behind
    (part_before b.0 u earlier.behind two later.behind h1) (all_pass earlier.behind) has in
    i.each later.block (given_found (is_dirty t) t later.block refl (allowed_here b.0 _ (part_here b.0 u earlier.behind two later.behind h1)))

-- the blocks of a state after entries, one by one
pub one_block : (b : ℕ) (blocks : Blocks) (entries : List Entry) → fold blocks_after blocks entries b ≡ fold (block_after b) (blocks b) entries
one_block b blocks [] = refl
one_block b blocks (e ∷ entries) =
    one_block b (blocks_after blocks e) entries ∙ ap (λ (s : BlockState). fold (block_after b) s entries) (one_after b blocks e)

-- the list of dirty addresses after turns is that after all their entries
dirty_of_entries : (capacity : ℕ) (label : Label) (s : State) (entries : List Entry)
    → (entries_after capacity label s entries).dirty ≡ fold dirty_after s.dirty entries
dirty_of_entries capacity label s [] = refl
dirty_of_entries capacity label s (e ∷ entries) = dirty_of_entries capacity label (entry_after capacity label s e) entries

dirty_begun : (s : State) (label : Label) → (begun s label).dirty ≡ s.dirty
dirty_begun s (Arrive i) = refl
dirty_begun s (Work c) = refl
dirty_begun s (Job j) = refl
dirty_begun s Scan = refl
dirty_begun s Destage = refl
dirty_begun s (World w) = refl

dirty_of_turn : (capacity : ℕ) (s : State) (turn : Turn) → (turn_after capacity s turn).dirty ≡ fold dirty_after s.dirty turn.entries
dirty_of_turn capacity s turn =
    dirty_of_entries capacity turn.label (begun s turn.label) turn.entries
    ∙ ap (λ (addresses : List ℕ). fold dirty_after addresses turn.entries) (dirty_begun s turn.label)

dirty_of_turns : (capacity : ℕ) (s : State) (turns : List Turn) → (turns_after capacity s turns).dirty ≡ fold dirty_after s.dirty (entries_of turns)
dirty_of_turns capacity s [] = refl
dirty_of_turns capacity s (turn ∷ turns) =
    dirty_of_turns capacity (turn_after capacity s turn) turns
    ∙ ap (λ (addresses : List ℕ). fold dirty_after addresses (entries_of turns)) (dirty_of_turn capacity s turn)
    ∙ sym (fold_both dirty_after s.dirty turn.entries (entries_of turns))

-- an address is among some
abbrev has : ℕ → List ℕ → Bool
has b addresses = list_any (λ a. a == b) addresses

eq_other_way : (a b : ℕ) (t : Bool) → nat_eq b a ≡ t → nat_eq a b ≡ t
eq_other_way a b true e = eq-eqb a b (sym (eqb-true b a e))
eq_other_way a b false e = ne_eqb a b (λ same. eqb-false b a e (sym same))

or_cond : (y t u w : Bool) → w ≡ cond t true u → (y || w) ≡ cond t true (y || u)
or_cond true true u w e = refl
or_cond true false u w e = refl
or_cond false t u w e = e

has_last : (b a : ℕ) (addresses : List ℕ) (t : Bool) → nat_eq a b ≡ t → has b (addresses ++ a ∷ []) ≡ cond t true (has b addresses)
has_last b a [] true e = ap (λ (x : Bool). x || false) e
has_last b a [] false e = ap (λ (x : Bool). x || false) e
has_last b a (x ∷ addresses) t e = or_cond (x == b) t (has b addresses) _ (has_last b a addresses t e)

-- one that is put there already stays once
has_with_one : (x : Bool) (b a : ℕ) (addresses : List ℕ) (t : Bool) → nat_eq a b ≡ t → has a addresses ≡ x
    → has b (cond x addresses (addresses ++ a ∷ [])) ≡ cond t true (has b addresses)
has_with_one false b a addresses t e h = has_last b a addresses t e
has_with_one true b a addresses true e h = ap (λ (n : ℕ). has n addresses) (sym (eqb-true a b e)) ∙ h
has_with_one true b a addresses false e h = refl

has_with : (b a : ℕ) (addresses : List ℕ) → has b (with_address a addresses) ≡ cond (nat_eq b a) true (has b addresses)
has_with b a addresses = has_with_one (has a addresses) b a addresses (nat_eq b a) (eq_other_way a b (nat_eq b a) refl) refl

-- .. and one that is taken away isn't there
has_without_one : (t u : Bool) (b a x : ℕ) (addresses : List ℕ) → nat_eq b a ≡ t → nat_eq x a ≡ u
    → has b (without_address a addresses) ≡ cond t false (has b addresses) → has b (cond (not u) (x ∷ without_address a addresses) (without_address a addresses)) ≡ cond t false (nat_eq x b || has b addresses)
has_without_one true true b a x addresses e f h = h
has_without_one true false b a x addresses e f h =
    let other : nat_eq x b ≡ false = ap (λ (n : ℕ). nat_eq x n) (eqb-true b a e) ∙ f in
    ap (λ (y : Bool). y || has b (without_address a addresses)) other ∙ h
has_without_one false true b a x addresses e f h =
    let other : nat_eq x b ≡ false = ap (λ (n : ℕ). nat_eq n b) (eqb-true x a f) ∙ eq_other_way a b false e in
    h ∙ sym (ap (λ (y : Bool). y || has b addresses) other)
has_without_one false false b a x addresses e f h = ap (λ (y : Bool). nat_eq x b || y) h

none_there : (t : Bool) → false ≡ cond t false false
none_there true = refl
none_there false = refl

has_without : (b a : ℕ) (addresses : List ℕ) → has b (without_address a addresses) ≡ cond (nat_eq b a) false (has b addresses)
has_without b a [] = none_there (nat_eq b a)
has_without b a (x ∷ addresses) = has_without_one (nat_eq b a) (nat_eq x a) b a x addresses refl refl (has_without b a addresses)

-- the addresses have a block where something is pending for it
address_pending : (b : ℕ) (addresses : List ℕ) (e : Entry) → has b (dirty_after addresses e) ≡ pending_after b (has b addresses) e
address_pending b addresses (Put c a v) = has_with b a.0 addresses
address_pending b addresses (GiveUp a) = has_with b a.0 addresses
address_pending b addresses (Harden who a) = has_without b a.0 addresses
address_pending b addresses Cut = refl
address_pending b addresses other = refl

addresses_along : (b : ℕ) (addresses : List ℕ) (entries : List Entry) → has b (fold dirty_after addresses entries) ≡ fold (pending_after b) (has b addresses) entries
addresses_along b addresses [] = refl
addresses_along b addresses (e ∷ entries) =
    addresses_along b (dirty_after addresses e) entries ∙ ap (λ (p : Bool). fold (pending_after b) p entries) (address_pending b addresses e)

-- each address stands once
Once : List ℕ → Type 0
Once addresses = AllPairs (λ a b. a ≢ b) addresses

not_there : (b : ℕ) (addresses : List ℕ) (k d : ℕ) → has b addresses ≡ false → k < length addresses → get_or addresses k d ≢ b
not_there b [] k d h within = absurd (omega arith)
not_there b (x ∷ addresses) zero d h within = eqb-false x b (none_of (x == b) _ h).0
not_there b (x ∷ addresses) (suc k) d h within = not_there b addresses k d (none_of (x == b) _ h).1 (omega arith)

once_with : (x : Bool) (a : ℕ) (addresses : List ℕ) → has a addresses ≡ x → Once addresses → Once (cond x addresses (addresses ++ a ∷ []))
unfolding Once
once_with true a addresses h once = once
once_with false a addresses h once = all_pairs_push (λ a b. a ≢ b) addresses a once (λ k d within. not_there a addresses k d h within)

once_after : (addresses : List ℕ) (e : Entry) → Once addresses → Once (dirty_after addresses e)
unfolding Once
once_after addresses (Put c a v) once = once_with (has a.0 addresses) a.0 addresses refl once
once_after addresses (GiveUp a) once = once_with (has a.0 addresses) a.0 addresses refl once
once_after addresses (Harden who a) once = AllPairs-filter (λ a b. a ≢ b) (λ x. not (x == a.0)) addresses once
once_after addresses Cut once = λ i j d lt within. absurd (omega arith)
once_after addresses other once = once

once_along : (addresses : List ℕ) (entries : List Entry) → Once addresses → Once (fold dirty_after addresses entries)
once_along addresses [] once = once
once_along addresses (e ∷ entries) once = once_along (dirty_after addresses e) entries (once_after addresses e once)

pub dirty_blocks_are_pending : DirtyBlocksArePending
unfolding Once
dirty_blocks_are_pending capacity waiting turns =
    let s : State = state_at_start waiting in
    let entries : List Entry = entries_of turns in
    let there = dirty_of_turns capacity s turns in
    record {
      blocks = λ b. ap (λ (blocks : Blocks). is_dirty (blocks b)) (blocks_of_turns capacity s turns)
          ∙ ap is_dirty (one_block b blocks_at_start entries) ∙ pending_along b (hardened_with zeros) entries;
      addresses = λ b. ap (λ (addresses : List ℕ). has b addresses) there ∙ addresses_along b [] entries;
      once = subst (λ (addresses : List ℕ). AllPairs (λ a b. a ≢ b) addresses) (sym there) (once_along [] entries (λ i j d lt within. absurd (omega arith)));
    }
