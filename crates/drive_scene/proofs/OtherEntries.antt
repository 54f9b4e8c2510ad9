-- What the entries of a turn leave: commands that they aren't of, blocks that they aren't on, and moves in flight.
use Rattle.std.proofs.Common.{◌≡◌, ◌≢◌, ◌∙◌, ap, sym, refl, subst, ℕ, ◌≤◌, Bool, true, false, cond, not, List, [], ◌∷◌, map, filter, length, take, Option, Some, None, Result, Ok, Err, arith, length-append}
use Rattle.std.specs.Prelude.{◌==◌, ◌&&◌, ◌||◌, All, AllPairs, fold}
use Rattle.std.specs.List.{list_all, list_any}
use Rattle.std.specs.Option.{option_and_then}
use Rattle.std.proofs.lemmas.Bool.{eqb-true, eqb-false, ne_eqb}
use Rattle.std.proofs.lemmas.List.Elements.{All-nil, All-filter, All-weaker, filter_passes}
use Rattle.std.proofs.lemmas.List.Kept.{AllPairs-filter}
use Rattle.disk_base.specs.declared.address.Lba.{Lba}
use Rattle.disk_base.specs.declared.address.Tag.{Tag}
use Rattle.disk_base.specs.declared.command.Attribute.{Attribute}
use Rattle.disk_base.specs.declared.command.DataOut.{DataOut}
use Rattle.sense_data.specs.declared.sense.Sense.{Sense}
use Rattle.mode_pages.specs.declared.settings.Settings.{Settings}
use Rattle.geometry_map.specs.declared.pair.Pair.{Pair}
use Rattle.task_set.specs.declared.member.Member.{Member}
use Rattle.task_set.specs.declared.task.Task.{Task}
use Rattle.task_set.specs.Members.{member_of, with_arrived, with_started, without}
use Rattle.cdb_reader.specs.declared.plan.Deed.TheVariants as deed
use Rattle.cdb_reader.specs.Request.{Request, ReadDefectData}
use Rattle.block_machine.specs.declared.entry.Entry.{Entry}
use Rattle.block_machine.specs.declared.entry.Entry.TheVariants.{Arrived, Started, Get, Put, Harden, Passed, GiveUp, Page, Ended, Aborted, Mode, Cut}
use Rattle.block_machine.specs.declared.entry.Who.TheVariants.{Command}
use Rattle.block_machine.specs.declared.turn.Label.{Label}
use Rattle.block_machine.specs.declared.turn.Label.TheVariants.{Arrive, Work}
use Rattle.block_machine.specs.Blocks.{Blocks, blocks_after}
use Rattle.block_machine.specs.Deeds.{done, page_done}
use Rattle.block_machine.specs.DriveOnly.{has_defect_length}
use Rattle.block_machine.specs.State.{State, owed_by, is_full}
use Rattle.block_machine.specs.Steps.{begun, entry_after, entries_after, arrived_after, duties_done, task_arrived}
use Rattle.block_machine.specs.Turns.{is_answered, are_aborted}
use Rattle.block_machine.proofs.Booleans.{both, not_is, neither, none_of}
use Rattle.move_table.specs.declared.flight.Flight.{Flight}
use Rattle.move_table.specs.Table.{is_of_write, is_owned_by, taken}
use Rattle.drive_scene.specs.Background.{flights_by}
use Rattle.drive_scene.specs.After.{settings_by}
use Rattle.drive_scene.specs.GoodTurn.{is_on, is_entry_of}
use Rattle.drive_scene.proofs.Tables.{put_at-other}
use Rattle.drive_scene.proofs.Keyed.{find-dropped_other}

-- a command is in, or isn't, and owes as before
pub record IsUntouched (h k : State) (q : ℕ) : Type 0 where
  pub member : member_of k.set q ≡ member_of h.set q
  pub duty : k.duties q ≡ h.duties q

pub same_owed : (h k : State) (q : ℕ) → IsUntouched h k q → owed_by k q ≡ owed_by h q
same_owed h k q is = λ i. option_and_then (λ (m : Member). (is.duty i).owes) (is.member i)

pub untouched_then : (g h k : State) (q : ℕ) → IsUntouched g h q → IsUntouched h k q → IsUntouched g k q
untouched_then g h k q first later = record { member = later.member ∙ first.member; duty = later.duty ∙ first.duty }

-- another command of a set, where one starts, and where one comes
other_started : (n q : ℕ) → q ≢ n → (set : List Member) → member_of (with_started set n) q ≡ member_of set q
other_started n q other [] = refl
other_started n q other (m ∷ ms) = by (other_started n q other ms) (m.task.c == n) refl
  where
    by : member_of (with_started ms n) q ≡ member_of ms q → (b : Bool) → (m.task.c == n) ≡ b
        → (let x : Member = cond b (record m { started = true }) m in cond (x.task.c == q) (Some x) (member_of (with_started ms n) q)) ≡ cond (m.task.c == q) (Some m) (member_of ms q)
    by rest true e =
        let missed : (m.task.c == q) ≡ false = ne_eqb m.task.c q (λ same. other (sym same ∙ eqb-true m.task.c n e)) in
        rw missed rest
    by rest false e = ap (λ (o : Option Member). cond (m.task.c == q) (Some m) o) rest

other_arrived : (set : List Member) (t : Task) (q : ℕ) → q ≢ t.c → member_of (with_arrived set t) q ≡ member_of set q
other_arrived [] t q other = ap (λ (b : Bool). cond b (Some (record { task = t; started = false })) None) (ne_eqb t.c q (λ same. other (sym same)))
other_arrived (m ∷ ms) t q other = ap (λ (o : Option Member). cond (m.task.c == q) (Some m) o) (other_arrived ms t q other)

module _ (c q : ℕ) (other : q ≢ c) where
  -- a number that is the command's
  elsewhere : (n : ℕ) → (n == c) ≡ true → q ≢ n
  elsewhere n own same = other (same ∙ eqb-true n c own)

  page_other : (h : State) (asks : Result Request Sense) (n : ℕ) (bytes : List ℕ) → q ≢ n → duties_done h (page_done asks n bytes) q ≡ h.duties q
  page_other h (Ok (ReadDefectData primary grown format allocation)) n bytes ne = by (has_defect_length allocation bytes)
    where
      by : (b : Bool) → duties_done h (cond b (done n (deed.Page (take 2 bytes))) None) q ≡ h.duties q
      by true = put_at-other n q _ h.duties ne
      by false = refl
  page_other h (Ok request) n bytes ne = put_at-other n q _ h.duties ne
  page_other h (Err sense) n bytes ne = put_at-other n q _ h.duties ne

  -- an entry of a command leaves the others
  entry_other : (capacity : ℕ) (h : State) (e : Entry) → is_entry_of c e ≡ true → IsUntouched h (entry_after capacity (Work c) h e) q
  entry_other capacity h (Started n) own =
      record { member = other_started n q (elsewhere n own) h.set; duty = put_at-other n q _ h.duties (elsewhere n own) }
  entry_other capacity h (Ended n reply) own = record {
    member = find-dropped_other (λ (m : Member). m.task.c) n q h.set (elsewhere n own);
    duty = put_at-other n q _ h.duties (elsewhere n own);
  }
  entry_other capacity h (Get n b v) own = record { member = refl; duty = put_at-other n q _ h.duties (elsewhere n own) }
  entry_other capacity h (Put n b v) own = record { member = refl; duty = put_at-other n q _ h.duties (elsewhere n own) }
  entry_other capacity h (Harden (Command n) b) own = record { member = refl; duty = put_at-other n q _ h.duties (elsewhere n own) }
  entry_other capacity h (Passed n from to) own = record { member = refl; duty = put_at-other n q _ h.duties (elsewhere n own) }
  entry_other capacity h (Page n bytes) own = record { member = refl; duty = page_other h (h.duties n).asks n bytes (elsewhere n own) }
  entry_other capacity h (Mode settings) own = record { member = refl; duty = put_at-other c q _ h.duties other }
  entry_other capacity h e own = absurd (cc)

  pub entries_other : (capacity : ℕ) (h : State) (entries : List Entry) → list_all (is_entry_of c) entries ≡ true
      → IsUntouched h (entries_after capacity (Work c) h entries) q
  entries_other capacity h [] own = record { member = refl; duty = refl }
  entries_other capacity h (e ∷ entries) own =
      let two = both (is_entry_of c e) (list_all (is_entry_of c) entries) own in
      let next : State = entry_after capacity (Work c) h e in
      untouched_then h next (entries_after capacity (Work c) next entries) q (entry_other capacity h e two.0) (entries_other capacity next entries two.1)

  pub begun_other : (h : State) → IsUntouched h (begun h (Work c)) q
  begun_other h = record { member = refl; duty = put_at-other c q _ h.duties other }

  -- and the mode values with which they started
  setting_other : (now : Settings) (each : ℕ → Settings) (e : Entry) → is_entry_of c e ≡ true → settings_by now each e q ≡ each q
  setting_other now each (Started n) own = put_at-other n q now each (elsewhere n own)
  setting_other now each e own = refl

  pub settings_other : (now : Settings) (each : ℕ → Settings) (entries : List Entry) → list_all (is_entry_of c) entries ≡ true
      → fold (settings_by now) each entries q ≡ each q
  settings_other now each [] own = refl
  settings_other now each (e ∷ entries) own =
      let two = both (is_entry_of c e) (list_all (is_entry_of c) entries) own in
      settings_other now (settings_by now each e) entries two.1 ∙ setting_other now each e two.0

-- the power goes
abbrev pub is_cut : Entry → Bool
is_cut Cut = true
is_cut other = false

uncut : (c : ℕ) (e : Entry) → is_entry_of c e ≡ true → is_cut e ≡ false
uncut c Cut own = absurd (cc)
uncut c e own = refl

pub own_uncut : (c : ℕ) (entries : List Entry) → list_all (is_entry_of c) entries ≡ true → list_any is_cut entries ≡ false
own_uncut c [] own = refl
own_uncut c (e ∷ entries) own =
    let two = both (is_entry_of c e) (list_all (is_entry_of c) entries) own in
    neither (is_cut e) (list_any is_cut entries) (uncut c e two.0) (own_uncut c entries two.1)

-- an entry leaves a block that it isn't on, unless the power goes
off_block : (b : Lba) (blocks : Blocks) (e : Entry) → is_on b e ≡ false → is_cut e ≡ false → blocks_after blocks e b.0 ≡ blocks b.0
off_block b blocks (Get c p v) off on = put_at-other p.0 b.0 _ blocks (λ same. eqb-false p.0 b.0 off (sym same))
off_block b blocks (Put c p v) off on = put_at-other p.0 b.0 _ blocks (λ same. eqb-false p.0 b.0 off (sym same))
off_block b blocks (GiveUp p) off on = put_at-other p.0 b.0 _ blocks (λ same. eqb-false p.0 b.0 off (sym same))
off_block b blocks (Harden who p) off on = put_at-other p.0 b.0 _ blocks (λ same. eqb-false p.0 b.0 off (sym same))
off_block b blocks Cut off on = absurd (cc)
off_block b blocks e off on = refl

pub blocks_off : (capacity : ℕ) (label : Label) (h : State) (b : Lba) (entries : List Entry) → list_any (is_on b) entries ≡ false → list_any is_cut entries ≡ false
    → (entries_after capacity label h entries).blocks b.0 ≡ h.blocks b.0
blocks_off capacity label h b [] off on = refl
blocks_off capacity label h b (e ∷ entries) off on =
    let offs = none_of (is_on b e) (list_any (is_on b) entries) off in
    let ons = none_of (is_cut e) (list_any is_cut entries) on in
    blocks_off capacity label (entry_after capacity label h e) b entries offs.1 ons.1 ∙ off_block b h.blocks e offs.0 ons.0

-- commands come, and none fewer
more_came : (n : ℕ) (e : Entry) → n ≤ arrived_after n e
more_came n (Arrived c i t a cdb sent) = omega arith
more_came n e = omega arith

pub arrived_more : (capacity : ℕ) (label : Label) (h : State) (entries : List Entry) → h.arrived ≤ (entries_after capacity label h entries).arrived
arrived_more capacity label h [] = omega arith
arrived_more capacity label h (e ∷ entries) =
    omega (arith, more_came h.arrived e, arrived_more capacity label (entry_after capacity label h e) entries)

-- new data of a command that is aborted are dropped
abbrev pub is_dropped : ℕ → Flight → Bool
is_dropped c f = is_of_write f.job.why && is_owned_by c f.job.owner

-- the moves that entries leave in flight are some of those before
module _ (P : Flight → Type 0) where
  one_left : (flights : List Flight) (e : Entry) → All P flights → All P (flights_by flights e)
  one_left flights (Aborted c) all = All-filter (λ (f : Flight). not (is_dropped c f)) P flights all
  one_left flights Cut all = All-nil P
  one_left flights e all = all

  pub all_left : (flights : List Flight) (entries : List Entry) → All P flights → All P (fold flights_by flights entries)
  all_left flights [] all = all
  all_left flights (e ∷ entries) all = all_left (flights_by flights e) entries (one_left flights e all)

module _ (R : Flight → Flight → Type 0) where
  one_pairs_left : (flights : List Flight) (e : Entry) → AllPairs R flights → AllPairs R (flights_by flights e)
  one_pairs_left flights (Aborted c) all = AllPairs-filter R (λ (f : Flight). not (is_dropped c f)) flights all
  one_pairs_left flights Cut all = λ i j d below within. absurd (omega arith)
  one_pairs_left flights e all = all

  pub pairs_left : (flights : List Flight) (entries : List Entry) → AllPairs R flights → AllPairs R (fold flights_by flights entries)
  pairs_left flights [] all = all
  pairs_left flights (e ∷ entries) all = pairs_left (flights_by flights e) entries (one_pairs_left flights e all)

-- so no more spares are taken
pub fewer_taken : (p : Flight → Bool) (flights : List Flight) → length (taken (filter p flights)) ≤ length (taken flights)
fewer_taken p [] = omega arith
fewer_taken p (f ∷ fs) = by (p f) (fewer_taken p fs)
  where
    by : (b : Bool) → length (taken (filter p fs)) ≤ length (taken fs) → length (taken (cond b (f ∷ filter p fs) (filter p fs))) ≤ length (taken (f ∷ fs))
    by true rest =
        omega (
          arith,
          rest,
          length-append (map (λ (pair : Pair). pair.new) f.job.chain) (taken (filter p fs)),
          length-append (map (λ (pair : Pair). pair.new) f.job.chain) (taken fs),
        )
    by false rest = omega (arith, rest, length-append (map (λ (pair : Pair). pair.new) f.job.chain) (taken fs))

one_fewer : (flights : List Flight) (e : Entry) → length (taken (flights_by flights e)) ≤ length (taken flights)
one_fewer flights (Aborted c) = fewer_taken (λ (f : Flight). not (is_dropped c f)) flights
one_fewer flights Cut = omega arith
one_fewer flights e = omega arith

pub taken_left : (flights : List Flight) (entries : List Entry) → length (taken (fold flights_by flights entries)) ≤ length (taken flights)
taken_left flights [] = omega arith
taken_left flights (e ∷ entries) = omega (arith, one_fewer flights e, taken_left (flights_by flights e) entries)

-- entries that abort commands, and nothing else
pub are_aborts : (cs : List ℕ) (entries : List Entry) → are_aborted cs entries ≡ true → entries ≡ map Aborted cs
are_aborts [] [] is = refl
are_aborts (c ∷ cs) (Aborted d ∷ entries) is =
    let two = both (c == d) (are_aborted cs entries) is in
    let own = eqb-true c d two.0 in
    let rest = are_aborts cs entries two.1 in
    λ i. Aborted (sym own i) ∷ rest i
are_aborts cs entries is = absurd (cc)

-- the new data of these commands are dropped
pub drops_aborted : (c : ℕ) (flights : List Flight) (cs : List ℕ) → list_any (λ d. d == c) cs ≡ true
    → All (λ f. is_dropped c f ≡ false) (fold flights_by flights (map Aborted cs))
drops_aborted c flights [] among = absurd (cc)
drops_aborted c flights (d ∷ ds) among =
    by (λ more. drops_aborted c (flights_by flights (Aborted d)) ds more) (d == c) refl among
  where
    Left : List Flight → Type 0
    Left fs = All (λ (f : Flight). is_dropped c f ≡ false) fs

    by : (list_any (λ e. e == c) ds ≡ true → All (λ f. is_dropped c f ≡ false) (fold flights_by (flights_by flights (Aborted d)) (map Aborted ds)))
        → (t : Bool) → (d == c) ≡ t → (t || list_any (λ e. e == c) ds) ≡ true
        → All (λ f. is_dropped c f ≡ false) (fold flights_by (flights_by flights (Aborted d)) (map Aborted ds))
    by later true is here =
        let kept : All (λ (f : Flight). is_dropped d f ≡ false) (flights_by flights (Aborted d)) =
        All-weaker (λ (f : Flight). not (is_dropped d f) ≡ true) (λ (f : Flight). is_dropped d f ≡ false) (λ f passes. not_is (is_dropped d f) passes)
        (flights_by flights (Aborted d)) (filter_passes (λ (f : Flight). not (is_dropped d f)) flights) in
        all_left (λ (f : Flight). is_dropped c f ≡ false) (flights_by flights (Aborted d)) (map Aborted ds)
        (subst (λ (n : ℕ). All (λ (f : Flight). is_dropped n f ≡ false) (flights_by flights (Aborted d))) (eqb-true d c is) kept)
    by later false is here = later here

-- and other commands stay in
pub stays_in : (q : ℕ) (cs : List ℕ) (set : List Member) → list_any (λ d. d == q) cs ≡ false → member_of (fold without set cs) q ≡ member_of set q
stays_in q [] set none = refl
stays_in q (d ∷ ds) set none =
    let two = none_of (d == q) (list_any (λ e. e == q) ds) none in
    stays_in q ds (without set d) two.1 ∙ find-dropped_other (λ (m : Member). m.task.c) d q set (λ same. eqb-false d q two.0 (sym same))

-- a command comes, and there is room for it or not
module _ (capacity i c j q : ℕ) (t : Tag) (a : Attribute) (cdb : List ℕ) (sent : DataOut) (other : q ≢ c) where
  comes_other : (h : State) → IsUntouched h (entry_after capacity (Arrive i) h (Arrived c j t a cdb sent)) q
  comes_other h = record { member = by (is_full h); duty = put_at-other c q _ h.duties other }
    where
      by : (b : Bool) → member_of (cond b h.set (with_arrived h.set (task_arrived capacity c j t a cdb sent))) q ≡ member_of h.set q
      by true = refl
      by false = other_arrived h.set (task_arrived capacity c j t a cdb sent) q other

  pub arrives_other : (h : State) (full : Bool) (rest : List Entry) → is_answered full c rest ≡ true
      → IsUntouched h (entries_after capacity (Arrive i) h (Arrived c j t a cdb sent ∷ rest)) q
  arrives_other h full [] is = comes_other h
  arrives_other h true (Ended d reply ∷ []) is =
      let own : d ≡ c = eqb-true d c (both (d == c) _ is).0 in
      let at : State = entry_after capacity (Arrive i) h (Arrived c j t a cdb sent) in
      untouched_then h at (entry_after capacity (Arrive i) at (Ended d reply)) q (comes_other h) (record {
        member = find-dropped_other (λ (m : Member). m.task.c) d q at.set (λ same. other (same ∙ own));
        duty = put_at-other d q _ at.duties (λ same. other (same ∙ own));
      })
  arrives_other h full rest is = absurd (cc)
