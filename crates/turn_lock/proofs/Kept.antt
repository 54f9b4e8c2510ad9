-- Each step keeps the rule.
use Rattle.std.proofs.Common.{◌≡◌, ◌≢◌, inl, inr, ℕ, zero, suc, ◌+◌, ◌*◌, ◌%◌, ◌<◌, ◌≤◌, Bool, true, false, true≢false, cond, List, [], ◌∷◌, ◌++◌, length, set, take, bit_or, refl, ap, sym, ◌∙◌, subst, ⊎_elim, arith, Option, Some, None, length-set, length-append}
use Rattle.std.specs.Prelude.{slice_index, Result, Ok, Err, IfOk, OnErr}
use mathlib.Core.Option.{none, some, some-injective, some-ne-none}
use mathlib.Core.List.{IsPrefix}
use lib.ListN.{get_elem?}
use native.Mathlib.Decide.{dec_le}
use Rattle.std.proofs.lemmas.List.{take-append-le, take_all}
use Rattle.atomic_table.specs.Table.{State, Me, Step, step, rest, Act, keeps, takes, gives, Allows, Splits, Joins, opening}
use Rattle.atomic_table.proofs.Lists.{at_set, set_here, set_else, set_again, at_snoc, at_longer}
use Rattle.std.proofs.lemmas.List.Sums.{sum_by_push}
use Rattle.turn_lock.specs.declared.view.View.{View}
use Rattle.turn_lock.specs.Lists.{times, once, gained, Follows, Goes}
use Rattle.turn_lock.specs.View.{numbers, nobody, newcomer, with_had, settled, refused_once, joined, merged, IsHarmless}
use Rattle.turn_lock.specs.Rule.{Meaning, Fits, AreViews, IsInTurn, Claims, Releases, Compares, start}
use Rattle.turn_lock.proofs.Beginnings.{prefix_self, prefix_follows, prefix_either, prefix_longer, follows_length}
use Rattle.turn_lock.proofs.Counts.{total_set, total_at, times-append, once_none, once_most, or_one, gained_counts}

-- the word of n turns, at a step that sets its last bit, and at one that leaves it
words_set : (ws : List ℕ) (n : ℕ) (b : Bool) → ws ≡ (2 * n + cond b 1 0) ∷ [] → set ws 0 (bit_or (slice_index ws 0) 1) ≡ (2 * n + 1) ∷ []
words_set ws n b e = subst (λ (v : List ℕ). set v 0 (bit_or (slice_index v 0) 1) ≡ (2 * n + 1) ∷ []) (sym e) (ap (λ (k : ℕ). k ∷ []) (or_one n b))

words_left : (ws : List ℕ) (k : ℕ) → ws ≡ k ∷ [] → set ws 0 (slice_index ws 0) ≡ k ∷ []
words_left ws k e = subst (λ (v : List ℕ). set v 0 (slice_index v 0) ≡ k ∷ []) (sym e) refl

words_new : (ws : List ℕ) (k n : ℕ) → ws ≡ k ∷ [] → set ws 0 n ≡ n ∷ []
words_new ws k n e = subst (λ (v : List ℕ). set v 0 n ≡ n ∷ []) (sym e) refl

even_is : (n : ℕ) → (2 * n + 0) % 2 ≡ 0
even_is n = omega arith

odd_is : (n : ℕ) → (2 * n + 1) % 2 ≡ 1
odd_is n = omega arith

found_is : (ws : List ℕ) (k : ℕ) → ws ≡ k ∷ [] → slice_index ws 0 ≡ k
found_is ws k e = ap (λ (v : List ℕ). slice_index v 0) e

only_home : {H : Type 0} (h h' : H) (a b : ℕ × Option H) → a ≡ (0, Some h) → b ≡ (0, Some h') → a ∷ [] ≡ b ∷ [] → h ≡ h'
only_home {H} h h' a b p q e = let one : a ≡ b = cc (e) in let two : Some h ≡ Some h' = ap (λ (z : ℕ × Option H). z.1) (sym p ∙ one ∙ q) in cc (two)

goes_follows : {U : Type 0} (stepped : List U → List U → Type 0) (xs ys : List U) → Goes stepped xs ys → Follows xs ys
goes_follows {U} stepped xs ys g = ⊎_elim (λ (e : ys ≡ xs). inl e) (λ (t : (t : U) × (ys ≡ xs ++ t ∷ []) × stepped xs ys). inr (t.0, t.1)) g

-- what a step's clauses say of the list after it
pub goes_of : {U A E : Type 0} (stepped : List U → List U → Type 0) (tells : A → Type 0) (xs ys : List U) (answer : Result A E) → ((a : A) → tells a → stepped xs ys) → Follows xs ys → IfOk answer tells → OnErr answer (ys ≡ xs) → Goes stepped xs ys
goes_of {U} stepped tells xs ys (Ok a) f follows told none' = ⊎_elim (λ (e : ys ≡ xs). inl e) (λ (t : (t : U) × (ys ≡ xs ++ t ∷ [])). inr (t.0, t.1, f a told)) follows
goes_of stepped tells xs ys (Err e) f follows told none' = inl none'

path_by : {U : Type 0} (stepped : List U → List U → Type 0) (xs ys : List U) (n : ℕ) (t : U) → ys ≡ xs ++ t ∷ [] → stepped xs ys → (n < length xs → stepped (take n xs) (take (n + 1) xs)) → n < length ys → Dec (n + 1 ≤ length xs) → stepped (take n ys) (take (n + 1) ys)
path_by {U} stepped xs ys n t is s before lt (yes low) =
    let a : take n ys ≡ take n xs = ap (take n) is ∙ take-append-le n xs (t ∷ []) (omega arith) in
    let b : take (n + 1) ys ≡ take (n + 1) xs = ap (take (n + 1)) is ∙ take-append-le (n + 1) xs (t ∷ []) low in
    subst (λ (z : List U × List U). stepped z.0 z.1) (λ i. (sym a i, sym b i)) (before (omega arith))
path_by {U} stepped xs ys n t is s before lt (no high) =
    let len : length ys ≡ length xs + 1 = ap length is ∙ omega (arith, length-append xs (t ∷ [])) in
    let here : n ≡ length xs = omega arith in
    let a : take n ys ≡ xs = ap (λ (k : ℕ). take k ys) here ∙ ap (take (length xs)) is ∙ take-append-le (length xs) xs (t ∷ []) (omega arith) ∙ take_all (length xs) xs (omega arith) in
    let b : take (n + 1) ys ≡ ys = take_all (n + 1) ys (omega arith) in
    subst (λ (z : List U × List U). stepped z.0 z.1) (λ i. (sym a i, sym b i)) s

path_on : {U : Type 0} (stepped : List U → List U → Type 0) (first : ℕ) (xs ys : List U) → Goes stepped xs ys → ((n : ℕ) → first ≤ n → n < length xs → stepped (take n xs) (take (n + 1) xs))
    → (n : ℕ) → first ≤ n → n < length ys → stepped (take n ys) (take (n + 1) ys)
path_on {U} stepped first xs ys g path n low lt = ⊎_elim
    (λ (e : ys ≡ xs). subst (λ (z : List U). stepped (take n z) (take (n + 1) z)) (sym e) (path n low (omega (arith, ap length e))))
    (λ (t : (t : U) × (ys ≡ xs ++ t ∷ []) × stepped xs ys). path_by stepped xs ys n t.0 t.1 t.2 (λ l. path n low l) lt (dec_le (n + 1) (length xs)))
    g

at_below : {A : Type 0} (l : List A) (i : ℕ) (a : A) → get_elem? l i ≡ some a → i < length l
at_below [] i a e = absurd (some-ne-none a (sym e))
at_below (x ∷ xs) zero a e = omega arith
at_below (x ∷ xs) (suc i) a e = omega (arith, at_below xs i a e)

module _ {U K : Type 0} where
  pub quiet_is_harmless : IsHarmless (λ (v : View U K). v)
  quiet_is_harmless = record { kept = λ v. refl; first = λ v. refl; seen = λ v. refl; beside = λ v. refl; had = λ v. refl; numbers_are = λ v. refl }

  pub counted_is_harmless : IsHarmless {U = U} {K = K} refused_once
  counted_is_harmless = record { kept = λ v. refl; first = λ v. refl; seen = λ v. refl; beside = λ v. refl; had = λ v. refl; numbers_are = λ v. refl }

module _ {H U K : Type 0} (m : Meaning H U K) where
  abbrev V : Type 0
  V = View U K

  abbrev St : Type 0
  St = State (Option H) V

  -- the views after one of them became w
  fits_set : (log log' : List U) (first : ℕ) (kept : K) (vs : List V) (id : ℕ) (w : V) → ((j : ℕ) (u : V) → get_elem? vs j ≡ some u → Fits log first kept u) → Follows log log' → Fits log' first kept w
      → (j : ℕ) (u : V) → get_elem? (set vs id w) j ≡ some u → Fits log' first kept u
  fits_set log log' first kept vs id w all f mine j u e = ⊎_elim
      (λ (t : (j ≡ id) × (w ≡ u)). subst (Fits log' first kept) t.1 mine)
      (λ (t : (j ≢ id) × (get_elem? vs j ≡ some u)). let o = all j u t.1 in record { seen = prefix_follows u.seen log log' o.seen f; beside = prefix_follows u.beside log log' o.beside f; same = o.same })
      (at_set vs id j w u e)

  pub opens : (h : H) → m.total h ≡ 0 → (n : ℕ) → n ≡ 2 * length (m.turns h) → IsInTurn m (opening (n ∷ []) (Some h ∷ []) (start m h))
  opens h empty n is =
      let log = m.turns h in
      let only : (j : ℕ) (u : V) → get_elem? (start m h ∷ []) j ≡ some u → start m h ≡ u = λ j u e. elim j as (λ i. get_elem? (start m h ∷ []) i ≡ some u → start m h ≡ u) [
        | zero ↦ λ f. some-injective (start m h) u f
        | suc i ↦ λ f. absurd (some-ne-none u (sym f))
      ] e in
      record {
        log = log;
        first = length log;
        kept = m.kept h;
        busy = false;
        holder = 0;
        words = ap (λ (k : ℕ). k ∷ []) (omega (arith, is));
        deep = refl;
        from = omega arith;
        home = λ _. (h, refl, record { turns_are = refl; kept_is = refl; total_is = omega (arith, empty) });
        views = record {
          held = λ e. absurd (true≢false (sym e));
          had = λ j u e. inl (ap (λ (v : V). v.had) (sym (only j u e)));
          fits = λ j u e. subst (Fits log (length log) (m.kept h)) (only j u e) record { seen = prefix_self log; beside = (log, refl); same = λ k s. (cc (s), refl) };
          counted = λ x. sym (once_none (length log) x);
        };
        path = λ n low high. absurd (omega arith);
      }

  -- the same lock with other views
  same_but_views : (s : St) (r : IsInTurn m s) (words' : List ℕ) (vs : List V) → words' ≡ s.words → AreViews r.log r.first r.kept r.busy r.holder vs → IsInTurn m record { words = words'; homes = s.homes; views = vs }
  same_but_views s r words' vs same views = record { log = r.log; first = r.first; kept = r.kept; busy = r.busy; holder = r.holder; words = same ∙ r.words; deep = r.deep; from = r.from; home = r.home; views = views; path = r.path }

  -- a view that had nothing, and has nothing after, and counts the same
  rests : (s : St) (r : IsInTurn m s) (id : ℕ) (v w : V) (words' : List ℕ) → get_elem? s.views id ≡ some v → v.had ≡ None → w.had ≡ None → words' ≡ s.words → Fits r.log r.first r.kept w
      → ((x : ℕ) → times x (numbers w) ≡ times x (numbers v)) → IsInTurn m record { words = words'; homes = s.homes; views = set s.views id w }
  rests s r id v w words' at idle idle' same fit counts = same_but_views s r words' (set s.views id w) same record {
    held = λ e. let h = r.views.held e in
        let apart : r.holder ≢ id = λ i. let clash : some h.0 ≡ some v = sym h.1 ∙ ap (get_elem? s.views) i ∙ at in let eq = some-injective h.0 v clash in absurd (cc (h.2, idle, eq)) in
        (h.0, set_else s.views id r.holder w apart ∙ h.1, h.2);
    had = λ j u e. ⊎_elim
        (λ (t : (j ≡ id) × (w ≡ u)). inl (ap (λ (z : V). z.had) (sym t.1) ∙ idle'))
        (λ (t : (j ≢ id) × (get_elem? s.views j ≡ some u)). r.views.had j u t.1)
        (at_set s.views id j w u e);
    fits = fits_set r.log r.log r.first r.kept s.views id w r.views.fits (inl refl) fit;
    counted = λ x. let t = total_set (λ (z : V). times x (numbers z)) s.views id v w at in let c = r.views.counted x in let n = counts x in omega arith;
  }

  abbrev Claimable : (V → V) → Step (Option H) → ℕ → V → St → Type 0
  Claimable refuse st id v s = (w : V) × (a : Act (Option H)) × Rattle.atomic_table.specs.Table.Valid s.homes [] a
      × IsInTurn m (Rattle.atomic_table.specs.Table.stepped s 0 (bit_or (slice_index s.words 0) 1) id [] w a)
      × Claims m refuse st (v, []) (slice_index s.words 0) (w, Rattle.atomic_table.specs.Table.carried_after [] a)

  claim_free : (refuse : V → V) (st : Step (Option H)) (id : ℕ) (v : V) (s : St) (r : IsInTurn m s) → get_elem? s.views id ≡ some v → id < length s.views → r.busy ≡ false → Claimable refuse st id v s
  claim_free refuse st id v s r at here free =
      let h = r.home free in
      let log = m.turns h.0 in
      let w : V = with_had log v in
      let fit = r.views.fits id v at in
      let even : s.words ≡ (2 * length r.log + 0) ∷ [] = r.words ∙ ap (λ (b : Bool). (2 * length r.log + cond b 1 0) ∷ []) free in
      let idle : (j : ℕ) (u : V) → get_elem? s.views j ≡ some u → u.had ≡ None = λ j u e. ⊎_elim (λ (n : u.had ≡ None). n) (λ (b : (r.busy ≡ true) × (j ≡ r.holder) × (u.had ≡ Some r.log)). absurd (true≢false (sym b.0 ∙ free))) (r.views.had j u e) in (
        w,
        takes 0 (Some h.0),
        h.1,
        record {
          log = r.log;
          first = r.first;
          kept = r.kept;
          busy = true;
          holder = id;
          words = words_set s.words (length r.log) false even;
          deep = length-set s.homes 0 none ∙ r.deep;
          from = r.from;
          home = λ e. absurd (true≢false e);
          views = record {
            held = λ _. (w, set_here s.views id w here, ap (λ (l : List U). Some l) h.2.turns_are);
            had = λ j u e. ⊎_elim
                (λ (t : (j ≡ id) × (w ≡ u)). inr (refl, t.0, ap (λ (z : V). z.had) (sym t.1) ∙ ap (λ (l : List U). Some l) h.2.turns_are))
                (λ (t : (j ≢ id) × (get_elem? s.views j ≡ some u)). inl (idle j u t.1))
                (at_set s.views id j w u e);
            fits = fits_set r.log r.log r.first r.kept s.views id w r.views.fits (inl refl) record { seen = fit.seen; beside = fit.beside; same = fit.same };
            counted = λ x. let t = total_set (λ (z : V). times x (numbers z)) s.views id v w at in let c = r.views.counted x in omega arith;
          };
          path = r.path;
        },
        (
          (λ _. (
            h.0,
            refl,
            record {
              seen = subst (IsPrefix v.seen) (sym h.2.turns_are) fit.seen;
              kept = λ k e. h.2.kept_is ∙ sym (fit.same k e).0;
              total = λ k e. let f = (fit.same k e).1 in let t = h.2.total_is in let l = ap length h.2.turns_are in omega arith;
              own = λ k e x. let f = (fit.same k e).1 in let l = ap length h.2.turns_are in
                  subst (λ (z : ℕ × ℕ). times x (numbers v) ≤ once z.0 z.1 x) (λ i. (sym f i, sym l i)) (let t = total_at (λ (z : V). times x (numbers z)) s.views id v at in let c = r.views.counted x in omega arith);
              path = λ k e n low high.
                  let f = fit.same k e in
                  let len = ap length h.2.turns_are in
                  let p : m.stepped r.kept (take n r.log) (take (n + 1) r.log) = r.path n (omega (arith, f.1)) (omega (arith, len)) in
                  subst (λ (z : K × List U). m.stepped z.0 (take n z.1) (take (n + 1) z.1)) (λ i. (sym f.0 i, sym h.2.turns_are i)) p;
            },
          )),
          (λ odd. absurd (odd (ap (λ (k : ℕ). k % 2) (found_is s.words _ even) ∙ even_is (length r.log)))),
        ),
      )

  claim_busy : (refuse : V → V) → IsHarmless refuse → (st : Step (Option H)) (id : ℕ) (v : V) (s : St) (r : IsInTurn m s) → get_elem? s.views id ≡ some v → v.had ≡ None → r.busy ≡ true → Claimable refuse st id v s
  claim_busy refuse ok st id v s r at idle busy =
      let fit = r.views.fits id v at in
      let odd : s.words ≡ (2 * length r.log + 1) ∷ [] = r.words ∙ ap (λ (b : Bool). (2 * length r.log + cond b 1 0) ∷ []) busy in (
        refuse v,
        keeps,
        tt,
        rests s r id v (refuse v) _ at idle (ok.had v ∙ idle) (words_set s.words (length r.log) true odd ∙ sym odd)
            record {
              seen = subst (λ (l : List U). IsPrefix l r.log) (sym (ok.seen v)) fit.seen;
              beside = subst (λ (l : List U). IsPrefix l r.log) (sym (ok.beside v)) fit.beside;
              same = λ k e. let f = fit.same k (sym (ok.kept v) ∙ e) in (f.0, ok.first v ∙ f.1);
            }
            (λ x. ap (times x) (ok.numbers_are v)),
        (
          (λ even. absurd (let o = odd_is (length r.log) in let f = found_is s.words _ odd in omega (arith, ap (λ (k : ℕ). k % 2) f))),
          (λ _. refl),
        ),
      )

  by_busy : (b : Bool) → (P : Type 0) → (b ≡ true → P) → (b ≡ false → P) → P
  by_busy true P busy free = busy refl
  by_busy false P busy free = free refl

  pub claims : (slots : ℕ) (refuse : V → V) → IsHarmless refuse → (st : Step (Option H)) (id : ℕ) (v : V) → v.had ≡ None
      → Allows (IsInTurn m) slots id (v, []) 0 (λ n. bit_or n 1) (Claims m refuse st (v, []))
  claims slots refuse ok st id v idle s r deep at bound = by_busy r.busy (Claimable refuse st id v s) (claim_busy refuse ok st id v s r at idle) (claim_free refuse st id v s r at (at_below s.views id v at))

  -- the value goes home, with a list that follows the one that came
  pub releases : (slots : ℕ) (st : Step (Option H)) (id : ℕ) (v : V) (h : H) (before : List U) (k : K) (new : ℕ) → v.had ≡ Some before → v.kept ≡ Some k → m.kept h ≡ k → Goes (m.stepped k) before (m.turns h)
      → m.total h + v.first ≡ length (m.turns h) → new ≡ 2 * length (m.turns h) → Allows (IsInTurn m) slots id (v, (0, Some h) ∷ []) 0 (λ _. new) (Releases m st (v, (0, Some h) ∷ []))
  releases slots st id v h before k new holds knows same follows total is s r deep at bound =
      let log' = m.turns h in
      let w : V = settled log' v in
      let fit = r.views.fits id v at in
      let held : (r.busy ≡ true) × (id ≡ r.holder) × (v.had ≡ Some r.log) = ⊎_elim (λ (n : v.had ≡ None). absurd (cc (n, holds))) (λ (b : (r.busy ≡ true) × (id ≡ r.holder) × (v.had ≡ Some r.log)). b) (r.views.had id v at) in
      let was : before ≡ r.log = cc (holds, held.2) in
      let follows' : Follows r.log log' = subst (λ (l : List U). Follows l log') was (goes_follows (m.stepped k) before log' follows) in
      let knows' = fit.same k knows in
      let goes : Goes (m.stepped r.kept) r.log log' = subst (λ (z : K × List U). Goes (m.stepped z.0) z.1 log') (λ i. (knows'.0 i, was i)) follows in (
        w,
        gives,
        tt,
        record {
          log = log';
          first = r.first;
          kept = r.kept;
          busy = false;
          holder = id;
          words = words_new s.words _ new r.words ∙ ap (λ (n : ℕ). n ∷ []) (omega (arith, is));
          deep = length-set s.homes 0 (some (Some h)) ∙ r.deep;
          from = let f = r.from in ⊎_elim (λ (e : length log' ≡ length r.log). omega arith) (λ (e : length log' ≡ length r.log + 1). omega arith) (follows_length r.log log' follows');
          home = λ _. (h, set_here s.homes 0 (some (Some h)) (let d = r.deep in omega arith), record { turns_are = refl; kept_is = same ∙ knows'.0; total_is = let f = knows'.1 in omega arith });
          views = record {
            held = λ e. absurd (true≢false (sym e));
            had = λ j u e. inl (⊎_elim
                (λ (t : (j ≡ id) × (w ≡ u)). ap (λ (z : V). z.had) (sym t.1))
                (λ (t : (j ≢ id) × (get_elem? s.views j ≡ some u)). ⊎_elim (λ (n : u.had ≡ None). n) (λ (b : (r.busy ≡ true) × (j ≡ r.holder) × (u.had ≡ Some r.log)). absurd (t.0 (b.1 ∙ sym held.1))) (r.views.had j u t.1))
                (at_set s.views id j w u e));
            fits = fits_set r.log log' r.first r.kept s.views id w r.views.fits follows' record { seen = prefix_self log'; beside = prefix_follows v.beside r.log log' fit.beside follows'; same = fit.same };
            counted = λ x. let t = total_set (λ (z : V). times x (numbers z)) s.views id v w at in let c = r.views.counted x in
                let g = gained_counts r.first r.log log' x r.from follows' in
                let n : gained v.had log' ≡ gained (Some r.log) log' = ap (λ (o : Option (List U)). gained o log') held.2 in
                let gs = ap (times x) n in
                omega (
                  arith,
                  times-append x ((v.mine ++ gained v.had log') ++ v.met) v.theirs,
                  times-append x (v.mine ++ gained v.had log') v.met,
                  times-append x v.mine (gained v.had log'),
                  times-append x (v.mine ++ v.met) v.theirs,
                  times-append x v.mine v.met,
                );
          };
          path = path_on (m.stepped r.kept) r.first r.log log' goes r.path;
        },
        (λ h' e. let same : h' ≡ h = sym (only_home h h' _ _ refl refl e) in ap (λ (z : H). (settled (m.turns z) v, [])) (sym same)),
      )

  pub splits : (id : ℕ) (v : V) → Splits (IsInTurn m) id v v (newcomer v.kept v.first v.seen)
  splits id v s r at =
      let new : V = newcomer v.kept v.first v.seen in
      let fit = r.views.fits id v at in
      subst (λ (vs : List V). IsInTurn m record { words = s.words; homes = s.homes; views = vs ++ new ∷ [] }) (sym (set_again s.views id v at)) (same_but_views s r s.words (s.views ++ new ∷ []) refl record {
        held = λ e. let h = r.views.held e in (h.0, at_longer s.views (new ∷ []) r.holder h.0 h.1, h.2);
        had = λ j u e. ⊎_elim (λ (t : get_elem? s.views j ≡ some u). r.views.had j u t) (λ (t : new ≡ u). inl (ap (λ (z : V). z.had) (sym t))) (at_snoc s.views new u j e);
        fits = λ j u e. ⊎_elim (λ (t : get_elem? s.views j ≡ some u). r.views.fits j u t) (λ (t : new ≡ u). subst (Fits r.log r.first r.kept) t record { seen = fit.seen; beside = (r.log, refl); same = fit.same }) (at_snoc s.views new u j e);
        counted = λ x. let c = r.views.counted x in let p = sum_by_push (λ (z : V). times x (numbers z)) s.views new in omega arith;
      })

  pub joins : (id : ℕ) (v : V) (other : ℕ) (w : V) → v.had ≡ None → w.had ≡ None → v.theirs ≡ [] → w.theirs ≡ [] → Joins (IsInTurn m) id v other w (joined v w) nobody
  joins id v other w idle idle' alone alone' s r at apart there =
      let both : V = joined v w in
      let theirs : get_elem? s.views other ≡ some w = ⊎_elim (λ (t : (other ≡ id) × (both ≡ w)). absurd (apart t.0)) (λ (t : (other ≢ id) × (get_elem? s.views other ≡ some w)). t.1) (at_set s.views id other both w there) in
      let fit = r.views.fits id v at in
      let fit' = r.views.fits other w theirs in
      let all : (j : ℕ) (u : V) → get_elem? (set s.views id both) j ≡ some u → Fits r.log r.first r.kept u = fits_set r.log r.log r.first r.kept s.views id both r.views.fits (inl refl) record { seen = fit.seen; beside = fit'.seen; same = fit.same } in
      same_but_views s r s.words (set (set s.views id both) other nobody) refl record {
        held = λ e. let h = r.views.held e in
            let one : r.holder ≢ id = λ i. let clash : some h.0 ≡ some v = sym h.1 ∙ ap (get_elem? s.views) i ∙ at in let eq = some-injective h.0 v clash in absurd (cc (h.2, idle, eq)) in
            let two : r.holder ≢ other = λ i. let clash : some h.0 ≡ some w = sym h.1 ∙ ap (get_elem? s.views) i ∙ theirs in let eq = some-injective h.0 w clash in absurd (cc (h.2, idle', eq)) in
            (h.0, set_else (set s.views id both) other r.holder nobody two ∙ set_else s.views id r.holder both one ∙ h.1, h.2);
        had = λ j u e. ⊎_elim
            (λ (t : (j ≡ other) × (nobody ≡ u)). inl (ap (λ (z : V). z.had) (sym t.1)))
            (λ (t : (j ≢ other) × (get_elem? (set s.views id both) j ≡ some u)). ⊎_elim
            (λ (q : (j ≡ id) × (both ≡ u)). inl (ap (λ (z : V). z.had) (sym q.1) ∙ idle))
            (λ (q : (j ≢ id) × (get_elem? s.views j ≡ some u)). r.views.had j u q.1)
            (at_set s.views id j both u t.1))
            (at_set (set s.views id both) other j nobody u e);
        fits = fits_set r.log r.log r.first r.kept (set s.views id both) other nobody all (inl refl) record { seen = (r.log, refl); beside = (r.log, refl); same = λ k e. absurd cc };
        counted = λ x. let f : V → ℕ = λ z. times x (numbers z) in
            let a = total_set f s.views id v both at in let b = total_set f (set s.views id both) other w nobody there in let c = r.views.counted x in
            let t = ap (times x) alone in let t' = ap (times x) alone' in
            omega (arith, times-append x (v.mine ++ v.met) v.theirs, times-append x v.mine v.met, times-append x (w.mine ++ w.met) w.theirs, times-append x w.mine w.met, times-append x (v.mine ++ v.met) (w.mine ++ w.met));
      }

  pub compares : (slots : ℕ) (st : Step (Option H)) (id : ℕ) (v : V) → v.had ≡ None → Allows (IsInTurn m) slots id (v, []) 0 (λ n. n) (Compares m st (v, []))
  compares slots st id v idle s r deep at bound =
      let fit = r.views.fits id v at in
      let w : V = merged v in
      let count : (x : ℕ) → times x (numbers w) ≡ times x (numbers v) = λ x. omega (arith, times-append x (v.mine ++ (v.met ++ v.theirs)) [], times-append x v.mine (v.met ++ v.theirs), times-append x v.met v.theirs, times-append x (v.mine ++ v.met) v.theirs, times-append x v.mine v.met) in (
        w,
        keeps,
        tt,
        rests s r id v w _ at idle idle (words_left s.words _ r.words ∙ sym r.words) record { seen = prefix_longer v.seen v.beside r.log fit.seen fit.beside; beside = (r.log, refl); same = fit.same } count,
        (
          refl,
          prefix_either v.seen v.beside r.log fit.seen fit.beside,
          (λ x. let t = total_at (λ (z : V). times x (numbers z)) s.views id v at in let c = r.views.counted x in omega (arith, once_most r.first (length r.log) x, times-append x (v.mine ++ v.met) v.theirs)),
        ),
      )

  -- no fact here reads what the step was
  abbrev any_step : Step (Option H)
  any_step = step 0 0 0 0 none

  -- the same at a view that a seat has
  pub claims_as : (slots : ℕ) (refuse : V → V) → IsHarmless refuse → (id : ℕ) (me : Me (Option H) V) → me.1 ≡ [] → me.0.had ≡ None
      → Allows (IsInTurn m) slots id me 0 (λ n. bit_or n 1) (Claims m refuse any_step me)
  claims_as slots refuse ok id me empty idle = subst (λ (c : List (ℕ × Option H)). Allows (IsInTurn m) slots id (me.0, c) 0 (λ n. bit_or n 1) (Claims m refuse any_step (me.0, c))) (sym empty) (claims slots refuse ok any_step id me.0 idle)

  -- the slot is in hand
  pub in_hand : (refuse : V → V) (me me' : Me (Option H) V) (n : ℕ) → me.1 ≡ [] → n % 2 ≡ 0 → Claims m refuse any_step me n me' → (x : Option H) × (me'.1 ≡ (0, x) ∷ Rattle.atomic_table.specs.Table.rest me'.1)
  in_hand refuse me me' n empty even c =
      let got = c.0 even in
      let is : me'.1 ≡ (0, Some got.0) ∷ me.1 = ap (λ (z : Me (Option H) V). z.1) got.1 in
      (Some got.0, subst (λ (z : List (ℕ × Option H)). z ≡ (0, Some got.0) ∷ Rattle.atomic_table.specs.Table.rest z) (sym is) refl)

  pub releases_as : (slots : ℕ) (id : ℕ) (me : Me (Option H) V) (h : H) (before : List U) (k : K) (new : ℕ) → me.1 ≡ (0, Some h) ∷ [] → me.0.had ≡ Some before → me.0.kept ≡ Some k → m.kept h ≡ k
      → Goes (m.stepped k) before (m.turns h) → m.total h + me.0.first ≡ length (m.turns h) → new ≡ 2 * length (m.turns h) → Allows (IsInTurn m) slots id me 0 (λ _. new) (Releases m any_step me)
  releases_as slots id me h before k new holds had knows same follows total is =
      subst (λ (c : List (ℕ × Option H)). Allows (IsInTurn m) slots id (me.0, c) 0 (λ _. new) (Releases m any_step (me.0, c))) (sym holds) (releases slots any_step id me.0 h before k new had knows same follows total is)

  -- the same after the value was put back
  pub puts_back : (slots : ℕ) (id : ℕ) (me0 me : Me (Option H) V) (x : Option H) (h : H) (before : List U) (k : K) (new : ℕ) → me0.1 ≡ (0, x) ∷ [] → me ≡ (me0.0, (0, Some h) ∷ rest me0.1) → me0.0.had ≡ Some before → me0.0.kept ≡ Some k
      → m.kept h ≡ k → Goes (m.stepped k) before (m.turns h) → m.total h + me0.0.first ≡ length (m.turns h) → new ≡ 2 * length (m.turns h) → Allows (IsInTurn m) slots id me 0 (λ _. new) (Releases m any_step me)
  puts_back slots id me0 me x h before k new was is had knows same follows total word =
      let v : me.0 ≡ me0.0 = ap (λ (z : Me (Option H) V). z.0) is in
      releases_as slots id me h before k new
      (ap (λ (z : Me (Option H) V). z.1) is ∙ ap (λ (l : List (ℕ × Option H)). (0, Some h) ∷ rest l) was)
      (ap (λ (z : V). z.had) v ∙ had) (ap (λ (z : V). z.kept) v ∙ knows) same follows (ap (λ (z : V). m.total h + z.first) v ∙ total) word

  pub compares_as : (slots : ℕ) (id : ℕ) (me : Me (Option H) V) → me.1 ≡ [] → me.0.had ≡ None → Allows (IsInTurn m) slots id me 0 (λ n. n) (Compares m any_step me)
  compares_as slots id me empty idle = subst (λ (c : List (ℕ × Option H)). Allows (IsInTurn m) slots id (me.0, c) 0 (λ n. n) (Compares m any_step (me.0, c))) (sym empty) (compares slots any_step id me.0 idle)

  pub opens_as : (h h' : H) (before items : List (Option H)) → items ≡ before ++ Some h ∷ [] → before ≡ [] → h' ≡ h → m.total h ≡ 0 → (n : ℕ) → n ≡ 2 * length (m.turns h) → IsInTurn m (opening (n ∷ []) items (start m h'))
  opens_as h h' before items is none' same empty n word = let is' : items ≡ Some h ∷ [] = is ∙ ap (λ (l : List (Option H)). l ++ Some h ∷ []) none' in subst (λ (z : List (Option H) × H). IsInTurn m (opening (n ∷ []) z.0 (start m z.1))) (λ i. (sym is' i, sym same i)) (opens h empty n word)

module _ {H U K : Type 0} (turns : H → List U) where
  pub was_put_back : (me0 me me' : Me (Option H) (View U K)) (x : Option H) (h : H) → me0.1 ≡ (0, x) ∷ [] → me ≡ (me0.0, (0, Some h) ∷ rest me0.1) → ((h' : H) → me.1 ≡ (0, Some h') ∷ [] → me' ≡ (settled (turns h') me.0, []))
      → (me'.0.seen ≡ turns h) × (me' ≡ (settled me'.0.seen me0.0, []))
  was_put_back me0 me me' x h was is r =
      let v : me.0 ≡ me0.0 = ap (λ (z : Me (Option H) (View U K)). z.0) is in
      let e : me' ≡ (settled (turns h) me.0, []) = r h (ap (λ (z : Me (Option H) (View U K)). z.1) is ∙ ap (λ (l : List (ℕ × Option H)). (0, Some h) ∷ rest l) was) in
      let seen : me'.0.seen ≡ turns h = ap (λ (z : Me (Option H) (View U K)). z.0.seen) e in
      (seen, e ∙ (λ i. (settled (sym seen i) (v i), [])))
