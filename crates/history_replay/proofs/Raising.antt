-- Raising an attention for one initiator after another.
use Rattle.std.proofs.Common.{◌≡◌, ◌∙◌, ap, sym, subst, refl, ℕ, suc, ◌+◌, ◌-◌, ◌<◌, ◌≤◌, Bool, true, false, cond, length, arith, get_or-set_other}
use Rattle.std.specs.Prelude.{fold}
use Rattle.std.specs.List.{range_with_len}
use Rattle.sense_data.specs.declared.attention.Attention.{Attention}
use Rattle.sense_data.specs.Attentions.{Waiting, raised, waiting_for, with_attention}

-- after an attention was raised for one initiator, if it is told
abbrev pub told : (ℕ → Bool) → Attention → Waiting → ℕ → Waiting
told test a waiting i = cond (test i) (raised waiting i a) waiting

-- initiators from n on are told, and nothing was raised for them yet
abbrev pub RaisedTo : (ℕ → Bool) → Attention → Waiting → Waiting → ℕ → Type 0
RaisedTo test a before now n =
    (fold (told test a) before (range_with_len 1 8) ≡ fold (told test a) now (range_with_len n (9 - n)))
    × ((j : ℕ) → n ≤ j → waiting_for now j ≡ waiting_for before j)

-- what waits for another initiator stays
waits_on : (waiting : Waiting) (a : Attention) (i j : ℕ) → 1 ≤ i → i < j → waiting_for (raised waiting i a) j ≡ waiting_for waiting j
waits_on waiting a i j low less =
    get_or-set_other waiting (i - 1) (j - 1) (with_attention a (waiting_for waiting i)) _ (λ e. omega arith)

told_on : (b : Bool) (waiting : Waiting) (a : Attention) (i j : ℕ) → 1 ≤ i → i < j → waiting_for (cond b (raised waiting i a) waiting) j ≡ waiting_for waiting j
told_on b waiting a i j low less =
    elim b as (λ v. waiting_for (cond v (raised waiting i a) waiting) j ≡ waiting_for waiting j) [
      | true ↦ waits_on waiting a i j low less
      | false ↦ refl
    ]

-- before the first
pub raised_begin : (test : ℕ → Bool) (a : Attention) (before : Waiting) → RaisedTo test a before before 1
raised_begin test a before = (refl, λ j h. refl)

-- one more initiator
pub raised_more : (test : ℕ → Bool) (a : Attention) (before now after : Waiting) (n : ℕ) → 1 ≤ n → n < 9 → after ≡ told test a now n
    → RaisedTo test a before now n → RaisedTo test a before after (n + 1)
raised_more test a before now after n low high is to =
    let e : 9 - n ≡ suc (9 - (n + 1)) = omega arith in (
      to.0 ∙ ap (λ k. fold (told test a) now (range_with_len n k)) e
          ∙ ap (λ (w : Waiting). fold (told test a) w (range_with_len (n + 1) (9 - (n + 1)))) (sym is),
      λ j h. ap (λ (w : Waiting). waiting_for w j) is ∙ told_on (test n) now a n j low (omega arith) ∙ to.1 j (omega arith),
    )

-- behind the last
pub raised_end : (test : ℕ → Bool) (a : Attention) (before now : Waiting) (n : ℕ) → 9 ≤ n → RaisedTo test a before now n
    → now ≡ fold (told test a) before (range_with_len 1 8)
raised_end test a before now n past to =
    let e : 9 - n ≡ 0 = omega arith in
    sym (to.0 ∙ ap (λ k. fold (told test a) now (range_with_len n k)) e)

-- there is still room for the next
pub room_here : (a : Attention) (before now : Waiting) (i : ℕ) → waiting_for now i ≡ waiting_for before i
    → length (with_attention a (waiting_for before i)) ≤ 8 → length (with_attention a (waiting_for now i)) ≤ 8
room_here a before now i same room = subst (λ l. length (with_attention a l) ≤ 8) (sym same) room
