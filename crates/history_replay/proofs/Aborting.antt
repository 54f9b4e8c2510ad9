-- Commands that end by a function, one after another.
use Rattle.std.proofs.Common.{◌≡◌, ◌≢◌, ◌∙◌, ap, sym, refl, ℕ, suc, ◌+◌, ◌-◌, ◌<◌, ◌≤◌, inl, inr, Bool, true, false, cond, List, [], ◌∷◌, length, filter, get_or, drop, arith}
use Rattle.std.specs.Prelude.{◌&&◌, ◌==◌}
use Rattle.std.proofs.lemmas.List.{drop_more, drop_all, length-drop}
use Rattle.std.proofs.lemmas.Bool.{cases_eq, eq-eqb, ne_eqb}
use Rattle.task_set.specs.declared.member.Member.{Member}
use Rattle.task_set.specs.Members.{numbers}
use Rattle.block_machine.specs.declared.entry.Entry.{Entry}
use Rattle.block_machine.specs.declared.entry.Entry.TheVariants.{Aborted}
use Rattle.block_machine.specs.Turns.{are_aborted}
use Rattle.history_replay.specs.Arrival.{aborts}

-- members from k on are those that entries from j on have to end
abbrev pub AbortsTo : (Member → Bool) → List Member → List Entry → ℕ → ℕ → Type 0
AbortsTo p ms es k j =
    (are_aborted (numbers (filter p ms)) es ≡ are_aborted (numbers (filter p (drop k ms))) (drop j es)) × (j ≤ length es)

first-aborted : (c : ℕ) (cs : List ℕ) (e : Entry) (es : List Entry) → are_aborted (c ∷ cs) (e ∷ es) ≡ (aborts c e && are_aborted cs es)
first-aborted c cs (Aborted d) es = refl
first-aborted c cs other es = refl

none-left : (es : List Entry) → are_aborted [] es ≡ (length es == 0)
none-left [] = refl
none-left (e ∷ es) =
    let some : suc (length es) ≢ 0 = omega arith in
    sym (ne_eqb (suc (length es)) 0 some)

none-behind : (j n : ℕ) → j ≤ n → (n - j == 0) ≡ (j == n)
none-behind j n h =
    elim (cases_eq j n) [
      | inl e ↦ let z : n - j ≡ 0 = omega arith in eq-eqb (n - j) 0 z ∙ sym (eq-eqb j n e)
      | inr ne ↦ let z : n - j ≢ 0 = omega arith in ne_eqb (n - j) 0 z ∙ sym (ne_eqb j n ne)
    ]

module _ (p : Member → Bool) (ms : List Member) (es : List Entry) (k j : ℕ) where
  member-front : (m : Member) → k < length ms → m ≡ get_or ms k m → drop k ms ≡ m ∷ drop (k + 1) ms
  member-front m less is = drop_more ms k m less ∙ ap (λ (x : Member). x ∷ drop (k + 1) ms) (sym is)

  -- what is left where the next member is one that is named, or isn't
  member-next : (m : Member) (b : Bool) → k < length ms → m ≡ get_or ms k m → p m ≡ b
      → are_aborted (numbers (filter p (drop k ms))) (drop j es)
      ≡ are_aborted (numbers (cond b (m ∷ filter p (drop (k + 1) ms)) (filter p (drop (k + 1) ms)))) (drop j es)
  member-next m b less is has =
      ap (λ (l : List Member). are_aborted (numbers (filter p l)) (drop j es)) (member-front m less is)
      ∙ ap (λ (t : Bool). are_aborted (numbers (cond t (m ∷ filter p (drop (k + 1) ms)) (filter p (drop (k + 1) ms)))) (drop j es)) has

  -- the next member isn't named
  pub named_skip : (m : Member) → k < length ms → m ≡ get_or ms k m → p m ≡ false → AbortsTo p ms es k j → AbortsTo p ms es (k + 1) j
  named_skip m less is other to = (to.0 ∙ member-next m false less is other, to.1)

  entry-next : (m : Member) (e : Entry) (b : Bool) → k < length ms → m ≡ get_or ms k m → p m ≡ true → j < length es → e ≡ get_or es j e
      → aborts m.task.c e ≡ b → AbortsTo p ms es k j
      → are_aborted (numbers (filter p ms)) es ≡ (b && are_aborted (numbers (filter p (drop (k + 1) ms))) (drop (j + 1) es))
  entry-next m e b less is named below at ends to =
      let cs = numbers (filter p (drop (k + 1) ms)) in
      let rest = drop (j + 1) es in
      let front : drop j es ≡ e ∷ rest = drop_more es j e below ∙ ap (λ (x : Entry). x ∷ rest) (sym at) in
      to.0 ∙ member-next m true less is named
      ∙ ap (λ (l : List Entry). are_aborted (m.task.c ∷ cs) l) front
      ∙ first-aborted m.task.c cs e rest
      ∙ ap (λ (t : Bool). t && are_aborted cs rest) ends

  -- it is named, and the next entry ends it
  pub named_more : (m : Member) (e : Entry) → k < length ms → m ≡ get_or ms k m → p m ≡ true → j < length es → e ≡ get_or es j e
      → aborts m.task.c e ≡ true → AbortsTo p ms es k j → AbortsTo p ms es (k + 1) (j + 1)
  named_more m e less is named below at ends to =
      let fits : j + 1 ≤ length es = omega arith in
      (entry-next m e true less is named below at ends to, fits)

  -- another entry comes next
  pub named_other : (m : Member) (e : Entry) → k < length ms → m ≡ get_or ms k m → p m ≡ true → j < length es → e ≡ get_or es j e
      → aborts m.task.c e ≡ false → AbortsTo p ms es k j → are_aborted (numbers (filter p ms)) es ≡ false
  named_other m e less is named below at ends to = entry-next m e false less is named below at ends to

  -- no entry is left
  pub named_missing : (m : Member) → k < length ms → m ≡ get_or ms k m → p m ≡ true → length es ≤ j → AbortsTo p ms es k j
      → are_aborted (numbers (filter p ms)) es ≡ false
  named_missing m less is named past to =
      let cs = numbers (filter p (drop (k + 1) ms)) in
      to.0 ∙ member-next m true less is named ∙ ap (λ (l : List Entry). are_aborted (m.task.c ∷ cs) l) (drop_all j es past)

  -- no member is left
  pub named_end : length ms ≤ k → AbortsTo p ms es k j → are_aborted (numbers (filter p ms)) es ≡ (j == length es)
  named_end all to =
      to.0 ∙ ap (λ (l : List Member). are_aborted (numbers (filter p l)) (drop j es)) (drop_all k ms all)
      ∙ none-left (drop j es)
      ∙ ap (λ (n : ℕ). n == 0) (length-drop j es)
      ∙ none-behind j (length es) to.1
