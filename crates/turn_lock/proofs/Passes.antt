-- What a pass keeps by itself.
use Rattle.std.proofs.Common.{◌≡◌, ◌⊎◌, inl, inr, ℕ, ◌+◌, ◌<◌, ◌≤◌, Bool, true, false, cond, eqb, leb, ltb, List, [], ◌∷◌, ◌++◌, length, refl, ap, sym, ◌∙◌, subst, ⊎_elim, arith, append-nil, Some, length-append}
use Rattle.std.specs.Prelude.{Result, Ok, Err, OnErr}
use mathlib.Core.List.{IsPrefix}
use native.Mathlib.Decide.{dec_le}
use Rattle.std.proofs.lemmas.Bool.Decides.{nat_tests}
use Rattle.atomic_table.specs.Table.{Me}
use Rattle.turn_lock.specs.declared.view.View.{View}
use Rattle.turn_lock.specs.Lists.{times, once, gained, longer, Follows, OneBegins, Within, rises}
use Rattle.turn_lock.specs.View.{newcomer, with_had, settled, joined, merged}
use Rattle.turn_lock.specs.Rule.{Meaning, Comes}
use Rattle.turn_lock.specs.Pass.{IsPass, Knows, Rests, Turn, Met, InSeen}
use Rattle.turn_lock.proofs.Beginnings.{prefix_length, prefix_whole, longer_length, longer_begins, follows_length}
use Rattle.turn_lock.proofs.Counts.{times-append, times-cons, all_numbers}

pub rises_le : (low : ℕ) (xs : List ℕ) (high : ℕ) → rises low xs high ≡ true → low ≤ high
rises_le low [] high r = grind (arith, nat_tests)
rises_le low (x ∷ xs) high r =
    let a : ltb low x ≡ true = grind (arith, nat_tests) in
    let b : rises x xs high ≡ true = grind (arith, nat_tests) in
    let c = rises_le x xs high b in
    grind (arith, nat_tests)

pub rises_more : (low : ℕ) (xs : List ℕ) (high more : ℕ) → rises low xs high ≡ true → high ≤ more → rises low xs more ≡ true
rises_more low [] high more r le = grind (arith, nat_tests)
rises_more low (x ∷ xs) high more r le =
    let a : ltb low x ≡ true = grind (arith, nat_tests) in
    let b : rises x xs high ≡ true = grind (arith, nat_tests) in
    let c = rises_more x xs high more b le in
    grind (arith, nat_tests)

rises_push : (low : ℕ) (xs : List ℕ) (high y : ℕ) → rises low xs high ≡ true → high < y → rises low (xs ++ y ∷ []) y ≡ true
rises_push low [] high y r lt = grind (arith, nat_tests)
rises_push low (x ∷ xs) high y r lt =
    let a : ltb low x ≡ true = grind (arith, nat_tests) in
    let b : rises x xs high ≡ true = grind (arith, nat_tests) in
    let c = rises_push x xs high y b lt in
    grind (arith, nat_tests)

rises_within : (low : ℕ) (xs : List ℕ) (high x : ℕ) → rises low xs high ≡ true → high < x → times x xs ≡ 0
rises_within low [] high x r lt = refl
rises_within low (y ∷ xs) high x r lt =
    let a : ltb low y ≡ true = grind (arith, nat_tests) in
    let b : rises y xs high ≡ true = grind (arith, nat_tests) in
    let c = rises_within y xs high x b lt in
    let d = rises_le y xs high b in
    let e : ◌≡◌ {A = ℕ} (cond (eqb y x) 1 0) 0 = grind (arith, nat_tests) in
    omega (arith, times-cons x y xs, c, e)

single_within : (y x : ℕ) → y < x → times x (y ∷ []) ≡ 0
single_within y x lt = let e : ◌≡◌ {A = ℕ} (cond (eqb y x) 1 0) 0 = grind (arith, nat_tests) in omega (arith, times-cons x y [], e)

gained_rises : {U : Type 0} (low : ℕ) (mine : List ℕ) (seen before log : List U) → rises low mine (length seen) ≡ true → length seen ≤ length before → Follows before log → rises low (mine ++ gained (Some before) log) (length log) ≡ true
gained_rises {U} low mine seen before log r le f = ⊎_elim
    (λ (e : length log ≡ length before).
    let none : ltb (length before) (length log) ≡ false = grind (arith, nat_tests) in
    let same : mine ++ gained (Some before) log ≡ mine = ap (λ (b : Bool). mine ++ cond b (length log ∷ []) []) none ∙ append-nil mine in
    subst (λ (xs : List ℕ). rises low xs (length log) ≡ true) (sym same) (rises_more low mine (length seen) (length log) r (omega arith)))
    (λ (e : length log ≡ length before + 1).
    let one : ltb (length before) (length log) ≡ true = grind (arith, nat_tests) in
    let more : mine ++ gained (Some before) log ≡ mine ++ length log ∷ [] = ap (λ (b : Bool). mine ++ cond b (length log ∷ []) []) one in
    subst (λ (xs : List ℕ). rises low xs (length log) ≡ true) (sym more) (rises_push low mine (length seen) (length log) r (omega arith)))
    (follows_length before log f)

-- Who has all parts has made or met all turns, and has seen the whole list
whole_by : {U : Type 0} (first : ℕ) (seen log : List U) (mine met : List ℕ) → IsPrefix seen log → rises first mine (length seen) ≡ true → Within met (length seen) → ((x : ℕ) → times x (mine ++ met) ≡ once first (length log) x) → Dec (length log ≤ length seen) → length log ≤ length seen
whole_by first seen log mine met pre up inside all (yes d) = d
whole_by first seen log mine met pre up inside all (no n) =
    let n' : length seen < length log = omega arith in
    let low = rises_le first mine (length seen) up in
    let here : once first (length log) (length log) ≡ 1 = grind (arith, nat_tests) in
    let none : times (length log) (mine ++ met) ≡ 0 = omega (arith, times-append (length log) mine met, rises_within first mine (length seen) (length log) up n', inside (length log) n') in
    absurd (omega (arith, all (length log), here, none))

-- what mine becomes where the list stays, and where it has one turn more
gained_is : {U : Type 0} (mine : List ℕ) (before log : List U) → Follows before log → ((log ≡ before) × (mine ++ gained (Some before) log ≡ mine)) ⊎ ((t : U) × (log ≡ before ++ t ∷ []) × (mine ++ gained (Some before) log ≡ mine ++ length log ∷ []))
gained_is {U} mine before log f = ⊎_elim
    (λ (e : log ≡ before).
    let len = ap length e in
    let none : ltb (length before) (length log) ≡ false = grind (arith, nat_tests) in
    inl (e, ap (λ (b : Bool). mine ++ cond b (length log ∷ []) []) none ∙ append-nil mine))
    (λ (t : (t : U) × (log ≡ before ++ t ∷ [])).
    let len : length log ≡ length before + 1 = ap length t.1 ∙ omega (arith, length-append before (t.0 ∷ [])) in
    let one : ltb (length before) (length log) ≡ true = grind (arith, nat_tests) in
    inr (t.0, t.1, ap (λ (b : Bool). mine ++ cond b (length log ∷ []) []) one))
    f

turn_of : {U K : Type 0} (v w : View U K) (before : List U) → w ≡ settled w.seen (with_had before v) → Follows before w.seen → IsPrefix v.seen before → Turn before v w
turn_of {U} {K} v w before is f begins =
    let mine : w.mine ≡ v.mine ++ gained (Some before) w.seen = ap (λ (z : View U K). z.mine) is in record {
      begins = begins;
      after = ⊎_elim
          (λ (e : (w.seen ≡ before) × (v.mine ++ gained (Some before) w.seen ≡ v.mine)). inl (e.0, mine ∙ e.1))
          (λ (e : (t : U) × (w.seen ≡ before ++ t ∷ []) × (v.mine ++ gained (Some before) w.seen ≡ v.mine ++ length w.seen ∷ [])). inr (e.0, e.1, mine ∙ e.2))
          (gained_is v.mine before w.seen f);
      met_is = ap (λ (z : View U K). z.met) is;
      refused_is = ap (λ (z : View U K). z.refused) is;
      released = ap (λ (z : View U K). z.had) is;
    }

module _ {U K : Type 0} where
  -- What a call that claimed the turn did: the claim left the seat as mid, and the release as end
  pub after : {X : Type 0} (me mid end : Me X (View U K)) (before : List U) (held : List (ℕ × X)) (parts amount parts' amount' : ℕ) → IsPass me parts amount → mid ≡ (with_had before me.0, held) → end ≡ (settled end.0.seen mid.0, []) → Follows before end.0.seen → IsPrefix me.0.seen before → parts' ≡ parts → amount' ≡ amount + length (gained (Some before) end.0.seen) → IsPass end parts' amount' × Turn before me.0 end.0
  after {X} me mid end before held parts amount parts' amount' i claim release f begins same more =
      let v : View U K = me.0 in
      let w : View U K = end.0 in
      let log = w.seen in
      let is : w ≡ settled log (with_had before v) = ap (λ (m : Me X (View U K)). m.0) release ∙ ap (λ (m : Me X (View U K)). settled log m.0) claim in
      let le = prefix_length v.seen before begins in
      let t : (Rests w) × (length w.mine + length w.met ≡ (length v.mine + length v.met) + length (gained (Some before) log)) × InSeen w =
      subst (λ (z : View U K). (Rests z) × (length z.mine + length z.met ≡ (length v.mine + length v.met) + length (gained (Some before) log)) × InSeen z) (sym is) (
        (refl, i.rests.1, i.rests.2),
        omega (arith, length-append v.mine (gained (Some before) log)),
        (gained_rises v.first v.mine v.seen before log i.in_seen.0 le f, (λ x lt. i.in_seen.1 x (⊎_elim (λ (e : length log ≡ length before). omega arith) (λ (e : length log ≡ length before + 1). omega arith) (follows_length before log f)))),
      ) in (
        record {
          empty = ap (λ (m : Me X (View U K)). m.1) release;
          rests = t.0;
          in_seen = t.2;
          part = omega (arith, i.part, same);
          counted = omega (arith, t.1, more, i.counted);
        },
        turn_of v w before is f begins,
      )

  pub new_in_seen : (v : View U K) → InSeen v → InSeen (newcomer v.kept v.first v.seen)
  new_in_seen v inside =
      let le = rises_le v.first v.mine (length v.seen) inside.0 in
      let low : leb v.first (length v.seen) ≡ true = grind (arith, nat_tests) in
      (low, (λ x lt. refl))

  -- what the meeting of two passes tells
  pub met_by : (v w u : View U K) → u ≡ merged (joined v w) → OneBegins v.seen w.seen → ((x : ℕ) → times x (v.mine ++ v.met) + times x (w.mine ++ w.met) ≤ 1) → Met v w u
  met_by v w u is one few = record {
    one_begins = one;
    seen_is = ap (λ (z : View U K). z.seen) is;
    ours_begins = subst (IsPrefix v.seen) (ap (λ (z : View U K). z.seen) (sym is)) (longer_begins v.seen w.seen one).0;
    theirs_begins = subst (IsPrefix w.seen) (ap (λ (z : View U K). z.seen) (sym is)) (longer_begins v.seen w.seen one).1;
    mine_is = ap (λ (z : View U K). z.mine) is;
    met_is = ap (λ (z : View U K). z.met) is;
    refused_is = ap (λ (z : View U K). z.refused) is;
    none_twice = few;
  }

  pub met_in_seen : (v w u : View U K) → u ≡ merged (joined v w) → InSeen v → InSeen w → InSeen u
  met_in_seen v w u is inv inw =
      let long = longer_length v.seen w.seen in
      let high = length (longer v.seen w.seen) in
      subst InSeen (sym is) (
        rises_more v.first v.mine (length v.seen) high inv.0 long.0,
        (λ x lt. omega (arith, times-append x v.met (w.mine ++ w.met), times-append x w.mine w.met, inv.1 x (omega (arith, long.0)), inw.1 x (omega (arith, long.1)), rises_within w.first w.mine (length w.seen) x inw.0 (omega (arith, long.1)))),
      )

  pub met_counts : (v w u : View U K) → u ≡ merged (joined v w) → length u.mine + length u.met ≡ (length v.mine + length v.met) + (length w.mine + length w.met)
  met_counts v w u is = subst (λ (z : View U K). length z.mine + length z.met ≡ (length v.mine + length v.met) + (length w.mine + length w.met)) (sym is) (omega (arith, length-append v.met (w.mine ++ w.met), length-append w.mine w.met))

  pub closes : {H : Type 0} (m : Meaning H U K) (v : View U K) (h : H) (kept : K) (first : ℕ) → Knows kept first v → Comes m v h → Rests v → InSeen v → length v.mine + length v.met ≡ m.total h
      → (m.turns h ≡ v.seen) × ((x : ℕ) → times x (v.mine ++ v.met) ≡ once first (length (m.turns h)) x)
  closes m v h kept first knows came idle inside counts =
      let log = m.turns h in
      let few : (x : ℕ) → times x (v.mine ++ v.met) ≤ once first (length log) x = λ x.
      subst (λ (f : ℕ). times x (v.mine ++ v.met) ≤ once f (length log) x) knows.1 (omega (arith, came.own kept knows.0 x, times-append x (v.mine ++ v.met) v.theirs)) in
      let all = all_numbers first (length log) (v.mine ++ v.met) few (omega (arith, length-append v.mine v.met, counts, came.total kept knows.0, knows.1)) in
      let up : rises first v.mine (length v.seen) ≡ true = subst (λ (f : ℕ). rises f v.mine (length v.seen) ≡ true) knows.1 inside.0 in
      (sym (prefix_whole v.seen log came.seen (whole_by first v.seen log v.mine v.met came.seen up inside.1 all (dec_le (length log) (length v.seen)))), all)

-- what holds, holds at an error too
pub on_err_of : {T E P : Type 0} (r : Result T E) → P → OnErr r P
on_err_of (Ok x) p = tt
on_err_of (Err e) p = p

pub comes_as : {H U K : Type 0} {m : Meaning H U K} (v w : View U K) (h : H) → v ≡ w → Comes m v h → Comes m w h
comes_as {H} {U} {K} {m} v w h e c = subst (λ (z : View U K). Comes m z h) e c
