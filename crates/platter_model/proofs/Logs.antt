-- One operation more, for the true log, the power and the strays.
use Rattle.std.proofs.Common.{◌≡◌, ◌≢◌, ℕ, ◌+◌, ◌<◌, ◌≤◌, Bool, true, false, List, [], ◌∷◌, ◌++◌, length, take, refl, sym, ◌∙◌, ap, subst, arith, append_assoc, append-nil, add-one, map, get_or}
use Rattle.std.specs.Prelude.{if◌then◌else◌}
use Rattle.std.proofs.lemmas.List.Sums.{fold_push}
use Rattle.std.proofs.lemmas.Option.{slice_get_read}
use Rattle.std.proofs.lemmas.List.{map-append}
use Rattle.disk_base.specs.declared.address.Psn.{Psn}
use Rattle.disk_base.specs.declared.payload.Payload.{Payload}
use Rattle.platter_model.specs.declared.damage.Tear.{Tear}
use Rattle.platter_model.specs.declared.op.Op.{Op}
use Rattle.platter_model.specs.declared.op.Op.TheVariants.{Wrote, Torn, WriteFailed, Damaged, Faulty, Fetched, Tried, Cut, Power}
use Rattle.platter_model.specs.Sector.{is_faulty}
use Rattle.platter_model.proofs.Lists.{length-push, take-next}
use Rattle.platter_model.specs.TrueLog.{off_after, Supply, powered, failing, unpowered, supply, supply_after, is_unpowered, is_off, MayFollow, TrueFrom, IsTrueLog, is_stray, strays_from, strays}

-- a true list with an operation that may follow is true
pub true_from-push : (before ops : List Op) (op : Op) → TrueFrom before ops → MayFollow (before ++ ops) op → TrueFrom before (ops ++ op ∷ [])
true_from-push before [] op true_so_far may = (let P : List Op → Type 0 = λ os. MayFollow os op in subst P (append-nil before) may, tt)
true_from-push before (o ∷ ops) op true_so_far may = (
  true_so_far.0,
  true_from-push (before ++ o ∷ []) ops op true_so_far.1
      (let P : List Op → Type 0 = λ os. MayFollow os op in subst P (sym (append_assoc before (o ∷ []) ops)) may),
)

-- the power after one operation more
pub supply-push : (ops : List Op) (op : Op) → supply (ops ++ op ∷ []) ≡ supply_after (supply ops) op
supply-push ops op = fold_push supply_after powered ops op

pub true_log-push : (ops : List Op) (op : Op) → TrueFrom [] ops → MayFollow ops op → supply_after (supply ops) op ≢ failing → IsTrueLog (ops ++ op ∷ [])
true_log-push ops op true_so_far may whole = record {
  each = true_from-push [] ops op true_so_far may;
  whole = λ fails. whole (sym (supply-push ops op) ∙ fails);
}

-- strays of one operation more
strays_from-push : (before ops : List Op) (op : Op) → strays_from before (ops ++ op ∷ []) ≡ strays_from before ops + (if is_stray (before ++ ops) op then 1 else 0)
strays_from-push before [] op = rw (append-nil before) (omega arith)
strays_from-push before (o ∷ ops) op =
    rw (strays_from-push (before ++ o ∷ []) ops op, append_assoc before (o ∷ []) ops) (omega arith)

pub strays-push : (ops : List Op) (op : Op) → strays (ops ++ op ∷ []) ≡ strays ops + (if is_stray ops op then 1 else 0)
strays-push ops op = strays_from-push [] ops op

pub one_at_most : (b : Bool) → (if b then 1 else 0) ≤ 1
one_at_most true = omega arith
one_at_most false = omega arith

strays_from-le : (before ops : List Op) → strays_from before ops ≤ length ops
strays_from-le before [] = omega arith
strays_from-le before (o ∷ ops) = omega (arith, one_at_most (is_stray before o), strays_from-le (before ++ o ∷ []) ops)

pub strays-le : (ops : List Op) → strays ops ≤ length ops
strays-le ops = strays_from-le [] ops

-- the power is on where it is neither off nor going off
powered_if : (s : Supply) → s ≢ failing → is_unpowered s ≡ false → s ≡ powered
powered_if powered whole on = refl
powered_if failing whole on = absurd (whole refl)
powered_if unpowered whole on = let never : ⊥ = cc in absurd never

pub is_powered : (ops : List Op) → supply ops ≢ failing → is_off ops ≡ false → supply ops ≡ powered
is_powered ops whole on = powered_if (supply ops) whole on

unpowered_if : (s : Supply) → is_unpowered s ≡ true → s ≡ unpowered
unpowered_if powered off = let never : ⊥ = cc in absurd never
unpowered_if failing off = let never : ⊥ = cc in absurd never
unpowered_if unpowered off = refl

pub is_not_powered : (ops : List Op) → is_off ops ≡ true → supply ops ≡ unpowered
is_not_powered ops off = unpowered_if (supply ops) off

-- of two supplies
pub powered_isnt_failing : powered ≢ failing
powered_isnt_failing same = cc

pub powered_isnt_unpowered : powered ≢ unpowered
powered_isnt_unpowered same = cc

pub unpowered_isnt_failing : unpowered ≢ failing
unpowered_isnt_failing same = cc

failing_isnt_unpowered : failing ≢ unpowered
failing_isnt_unpowered same = cc

-- the power is off by the flag that is kept
off_by_cases : (s : Supply) (op : Op) → off_after (is_unpowered s) op ≡ is_unpowered (supply_after s op)
off_by_cases s (Wrote payload) = refl
off_by_cases s (Torn payload tear) = refl
off_by_cases s (WriteFailed p) = refl
off_by_cases s (Damaged damage) = refl
off_by_cases s (Faulty p) = refl
off_by_cases s (Fetched p attempt) = refl
off_by_cases s (Tried at p stage found) = refl
off_by_cases s Cut = refl
off_by_cases s Power = refl

pub off_moves : (ops more : List Op) (op : Op) (off after : Bool) → more ≡ ops ++ op ∷ [] → off ≡ is_off ops → after ≡ off_after off op → after ≡ is_off more
off_moves ops more op off after more_is is after_is =
    after_is ∙ (ap (λ b. off_after b op) is ∙ (off_by_cases (supply ops) op ∙ (ap is_unpowered (sym (supply-push ops op)) ∙ ap is_off (sym more_is))))

-- the log, its strays and its length move on
pub log_moves : (now ops more : List Op) (op : Op) → ops ≡ now → more ≡ ops ++ op ∷ [] → IsTrueLog ops → (IsTrueLog now → MayFollow now op) → (IsTrueLog now → supply_after (supply now) op ≢ failing) → IsTrueLog more
log_moves now ops more op ops_are more_is true_so_far may whole =
    let P : List Op → Type 0 = λ os. IsTrueLog os in
    let true_now : IsTrueLog now = subst P ops_are true_so_far in
    let Q : List Op → Type 0 = λ os. IsTrueLog (os ++ op ∷ []) in
    subst P (sym more_is) (subst Q (sym ops_are) (true_log-push now op true_now.each (may true_now) (whole true_now)))

pub strays_move : (now ops more : List Op) (op : Op) (count one : ℕ) (stray : Bool) → ops ≡ now → more ≡ ops ++ op ∷ [] → count ≡ strays ops → one ≡ (if stray then 1 else 0) → stray ≡ is_stray now op → count + one ≡ strays more
strays_move now ops more op count one stray ops_are more_is is one_is stray_is =
    ap (λ n. n + one) is ∙ (ap (λ n. strays ops + n) (one_is ∙ ap (λ b. if b then 1 else 0) (stray_is ∙ ap (λ os. is_stray os op) (sym ops_are))) ∙ (sym (strays-push ops op) ∙ ap strays (sym more_is)))

pub long_moves : (ops more : List Op) (op : Op) → more ≡ ops ++ op ∷ [] → length more ≡ length ops + 1
long_moves ops more op more_is = ap length more_is ∙ (length-push ops op ∙ sym (add-one (length ops)))

-- a torn write and the cut
pub log_tears : (now ops torn more : List Op) (payload : Payload) (tear : Tear) (p : Psn) → ops ≡ now → torn ≡ ops ++ Torn payload tear ∷ [] → more ≡ torn ++ Cut ∷ [] → IsTrueLog ops
    → is_off now ≡ false → payload.psn ≡ p → is_faulty p now ≡ false → IsTrueLog more
log_tears now ops torn more payload tear p ops_are torn_is more_is true_so_far on own sound =
    let P : List Op → Type 0 = λ os. IsTrueLog os in
    let Q : List Op → Type 0 = λ os. IsTrueLog (os ++ Cut ∷ []) in
    let fails : supply (ops ++ Torn payload tear ∷ []) ≡ failing = supply-push ops (Torn payload tear) in
    let on_then : is_off ops ≡ false = ap is_off ops_are ∙ on in
    let sound_then : is_faulty payload.psn ops ≡ false = ap (λ q. is_faulty q ops) own ∙ (ap (λ os. is_faulty p os) ops_are ∙ sound) in
    subst P (sym more_is) (subst Q (sym torn_is) (true_log-push (ops ++ Torn payload tear ∷ []) Cut
    (true_from-push [] ops (Torn payload tear) true_so_far.each (is_powered ops true_so_far.whole on_then, sound_then))
    (λ off. failing_isnt_unpowered (sym fails ∙ off))
    unpowered_isnt_failing))

pub off_tears : (torn more : List Op) → more ≡ torn ++ Cut ∷ [] → true ≡ is_off more
off_tears torn more more_is = ap is_unpowered (sym (supply-push torn Cut)) ∙ ap is_off (sym more_is)

pub strays_tear : (ops torn more : List Op) (payload : Payload) (tear : Tear) (count : ℕ) → torn ≡ ops ++ Torn payload tear ∷ [] → more ≡ torn ++ Cut ∷ [] → count ≡ strays ops → count ≡ strays more
strays_tear ops torn more payload tear count torn_is more_is is =
    let first : strays torn ≡ strays ops + 0 = ap strays torn_is ∙ strays-push ops (Torn payload tear) in
    let second : strays more ≡ strays torn + 0 = ap strays more_is ∙ strays-push torn Cut in
    omega arith

-- a list of writes alone
pub writes_keep_power : (payloads : List Payload) → supply (map Wrote payloads) ≡ powered
writes_keep_power [] = refl
writes_keep_power (payload ∷ payloads) = writes_keep_power payloads

pub writes_bring_no_fault : (p : Psn) (payloads : List Payload) → is_faulty p (map Wrote payloads) ≡ false
writes_bring_no_fault p [] = refl
writes_bring_no_fault p (payload ∷ payloads) = writes_bring_no_fault p payloads

-- one write more from the factory
pub written_next : (payloads : List Payload) (i : ℕ) (payload : Payload) → i < length payloads → payload ≡ get_or payloads i payload
    → map Wrote (take i payloads) ++ Wrote payload ∷ [] ≡ map Wrote (take (i + 1) payloads)
written_next payloads i payload below is =
    rw (add-one, take-next payloads i payload (slice_get_read payloads (length payloads) i payload refl below is)) (sym (map-append Wrote (take i payloads) (payload ∷ [])))

pub factory_may : (payloads : List Payload) (payload : Payload) (ops : List Op) → ops ≡ map Wrote payloads → MayFollow ops (Wrote payload)
factory_may payloads payload ops is = (ap supply is ∙ writes_keep_power payloads, ap (λ os. is_faulty payload.psn os) is ∙ writes_bring_no_fault payload.psn payloads)
