-- No command ends twice, and one that is gone does nothing more.
use Rattle.std.proofs.Common.{◌≡◌, ◌∙◌, ap, sym, refl, ℕ, ◌≤◌, Bool, true, false, not, cond, nat_eq, List, [], ◌∷◌, ◌++◌, length, arith}
use Rattle.std.specs.Prelude.{◌||◌, filter}
use Rattle.std.proofs.lemmas.Bool.{eq-eqb, eqb-true, eqb-false, ne_eqb}
use Rattle.disk_base.specs.Along.{all_along}
use Rattle.sense_data.specs.declared.reply.Reply.{Reply}
use Rattle.block_machine.specs.declared.entry.Entry.{Entry}
use Rattle.block_machine.specs.declared.entry.Entry.TheVariants.{Arrived, Started, Ended, Aborted, Cut}
use Rattle.block_machine.specs.History.{entries_of}
use Rattle.block_machine.specs.Laws.{OfTaskLegalHistories, is_end_of, NoneEndsTwice}
use Rattle.block_machine.specs.Stages.{Stage, Coming, Queued, AtWork, Gone, stage_after, fits_stage}
use Rattle.block_machine.proofs.StageLaw.{entries_fit_their_stage}
use Rattle.block_machine.proofs.Booleans.{both, true_not_false}

-- a command that is gone stays so
gone_if : (t : Bool) (stage : Stage) → (not t || false) ≡ true → cond t stage Gone ≡ Gone
gone_if true stage h = absurd (cc)
gone_if false stage h = refl

gone_same : (t : Bool) → cond t Gone Gone ≡ Gone
gone_same true = refl
gone_same false = refl

gone_one : (c : ℕ) (e : Entry) → fits_stage c Gone e ≡ true → stage_after c Gone e ≡ Gone
gone_one c (Arrived d i t a cdb sent) h = gone_if (nat_eq c d) Queued h
gone_one c (Started d) h = gone_if (nat_eq c d) AtWork h
gone_one c (Ended d reply) h = gone_same (nat_eq c d)
gone_one c (Aborted d) h = gone_same (nat_eq c d)
gone_one c Cut h = refl
gone_one c other h = refl

-- .. and doesn't end
apart_if : (t : Bool) (c d : ℕ) → nat_eq c d ≡ t → (not t || false) ≡ true → nat_eq d c ≡ false
apart_if true c d e h = absurd (cc)
apart_if false c d e h = ne_eqb d c (λ same. eqb-false c d e (sym same))

gone_is_over : (c : ℕ) (e : Entry) → fits_stage c Gone e ≡ true → is_end_of c e ≡ false
gone_is_over c (Ended d reply) h = apart_if (nat_eq c d) c d refl h
gone_is_over c (Aborted d) h = apart_if (nat_eq c d) c d refl h
gone_is_over c other h = refl

none_behind : (c : ℕ) (entries : List Entry) → all_along (stage_after c) (fits_stage c) Gone entries ≡ true → filter (is_end_of c) entries ≡ []
none_behind c [] h = refl
none_behind c (e ∷ entries) h =
    let now = both (fits_stage c Gone e) _ h in
    ap (λ (t : Bool). cond t (e ∷ filter (is_end_of c) entries) (filter (is_end_of c) entries)) (gone_is_over c e now.0)
    ∙ none_behind c entries (ap (λ (stage : Stage). all_along (stage_after c) (fits_stage c) stage entries) (sym (gone_one c e now.0)) ∙ now.1)

pub gone_for_good : (c : ℕ) (reply : Reply) (entries behind : List Entry) → all_along (stage_after c) (fits_stage c) Gone (entries ++ Ended c reply ∷ behind) ≡ true → ⊥
gone_for_good c reply [] behind h = true_not_false (eq-eqb c c refl) (gone_is_over c (Ended c reply) (both (fits_stage c Gone (Ended c reply)) _ h).0)
gone_for_good c reply (e ∷ entries) behind h =
    let now = both (fits_stage c Gone e) _ h in
    gone_for_good c reply entries behind
    (ap (λ (stage : Stage). all_along (stage_after c) (fits_stage c) stage (entries ++ Ended c reply ∷ behind)) (sym (gone_one c e now.0)) ∙ now.1)

-- at its end a command goes
end_leaves : (c : ℕ) (stage : Stage) (e : Entry) → is_end_of c e ≡ true → stage_after c stage e ≡ Gone
end_leaves c stage (Ended d reply) h = ap (λ (t : Bool). cond t Gone stage) (eq-eqb c d (sym (eqb-true d c h)))
end_leaves c stage (Aborted d) h = ap (λ (t : Bool). cond t Gone stage) (eq-eqb c d (sym (eqb-true d c h)))
end_leaves c stage other h = absurd (cc)

one_more : (t : Bool) (c : ℕ) (stage : Stage) (e : Entry) (entries : List Entry) → is_end_of c e ≡ t
    → all_along (stage_after c) (fits_stage c) (stage_after c stage e) entries ≡ true → length (filter (is_end_of c) entries) ≤ 1
    → length (cond t (e ∷ filter (is_end_of c) entries) (filter (is_end_of c) entries)) ≤ 1
one_more true c stage e entries is h few =
    let none : length (filter (is_end_of c) entries) ≡ 0 =
    ap length (none_behind c entries (ap (λ (x : Stage). all_along (stage_after c) (fits_stage c) x entries) (sym (end_leaves c stage e is)) ∙ h)) in
    omega arith
one_more false c stage e entries is h few = few

at_most_one : (c : ℕ) (stage : Stage) (entries : List Entry) → all_along (stage_after c) (fits_stage c) stage entries ≡ true → length (filter (is_end_of c) entries) ≤ 1
at_most_one c stage [] h = omega arith
at_most_one c stage (e ∷ entries) h =
    let now = both (fits_stage c stage e) _ h in
    one_more (is_end_of c e) c stage e entries refl now.1 (at_most_one c (stage_after c stage e) entries now.1)

pub none_ends_twice : OfTaskLegalHistories NoneEndsTwice
none_ends_twice capacity waiting turns legal c = at_most_one c Coming (entries_of turns) (entries_fit_their_stage capacity waiting turns legal c)
