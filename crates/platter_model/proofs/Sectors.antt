-- One operation more, for what is kept of the sectors.
use Rattle.std.proofs.Common.{◌≡◌, ◌≢◌, ℕ, ◌<◌, Bool, true, false, ◌||◌, List, [], ◌∷◌, ◌++◌, length, Option, Some, None, refl, sym, ◌∙◌, ap, subst, inl, inr, slice_set, get_or, ℤ}
use Rattle.std.specs.List.{slice_get}
use Rattle.std.specs.Prelude.{if◌then◌else◌}
use Rattle.std.proofs.lemmas.Bool.{eq-eqb}
use Rattle.std.proofs.lemmas.Bool.Decides.{eqb_tells}
use Rattle.std.proofs.lemmas.Option.{slice_get_within, slice_get_read}
use Rattle.std.proofs.lemmas.List.Sums.{fold_push}
use Rattle.disk_base.specs.declared.address.Psn.{Psn}
use Rattle.disk_base.specs.declared.payload.Payload.{Payload}
use Rattle.channel_path.specs.Sector.{IsEncoded}
use Rattle.platter_model.specs.declared.damage.Damage.{Damage}
use Rattle.platter_model.specs.declared.damage.Tear.{Tear}
use Rattle.platter_model.specs.declared.damage.Left.{Left}
use Rattle.platter_model.specs.declared.damage.Left.TheVariants.{Old, New, Nothing}
use Rattle.platter_model.specs.declared.op.Op.{Op}
use Rattle.platter_model.specs.declared.op.Op.TheVariants.{Wrote, Torn, Damaged, Faulty}
use Rattle.platter_model.specs.declared.sector.Sector.{Sector}
use Rattle.platter_model.specs.Sector.{is_sector, writes, left_of, meant_after, meant, faulty_after}
use Rattle.platter_model.specs.Given.{IsUnflawed}
use Rattle.platter_model.specs.Places.{newest, settles, changes_meant, brings, IsSector, AreSectors, LeavesSamples}
use Rattle.platter_model.proofs.Lists.{length-push, slice_get-set_same, slice_get-set_other}
use Rattle.platter_model.proofs.Newest.{newest-last}

-- the place that is kept moves on
place_moves : (test : Op → Bool) (ops : List Op) (op : Op) (before after : Option ℕ) → before ≡ newest test ops (length ops)
    → after ≡ (if test op then Some (length ops) else before) → after ≡ newest test (ops ++ op ∷ []) (length (ops ++ op ∷ []))
place_moves test ops op before after was is =
    is ∙ (ap (λ place. if test op then Some (length ops) else place) was ∙ (sym (newest-last test ops op) ∙ sym (ap (λ n. newest test (ops ++ op ∷ []) n) (length-push ops op))))

-- what is kept for p moves on
pub sector_moves : (ops : List Op) (op : Op) (p : Psn) (s t : Sector) → IsSector ops p s
    → t.meant ≡ (if settles p op then Some (length ops) else s.meant)
    → t.written ≡ (if writes p op then Some (length ops) else s.written)
    → t.flaw ≡ (if brings p op then Some (length ops) else s.flaw)
    → t.faulty ≡ faulty_after p s.faulty op
    → IsUnflawed (meant_after p (meant p ops) op) t.unflawed
    → IsSector (ops ++ op ∷ []) p t
sector_moves ops op p s t kept meant_is written_is flaw_is faulty_is unflawed_is = record {
  meant_at = place_moves (settles p) ops op s.meant t.meant kept.meant_at meant_is;
  written_at = place_moves (writes p) ops op s.written t.written kept.written_at written_is;
  flaw_at = place_moves (brings p) ops op s.flaw t.flaw kept.flaw_at flaw_is;
  fault = faulty_is ∙ (ap (λ b. faulty_after p b op) kept.fault ∙ sym (fold_push (faulty_after p) false ops op));
  unflawed = rw (fold_push (meant_after p) None ops op) unflawed_is;
}

-- a sector is another one, by its number
not_sector : (p q : Psn) → p.0 ≢ q.0 → is_sector p q ≡ false
not_sector p q other = elim (eqb_tells q.0 p.0) [ inl same ↦ absurd (other (sym same.1)) | inr tells ↦ tells.0 ]

own_sector : (p q : Psn) → p.0 ≡ q.0 → is_sector p q ≡ true
own_sector p q same = eq-eqb q.0 p.0 (sym same)

sectors_move_own : (ops : List Op) (op : Op) (sectors : List Sector) (k : ℕ) (item t : Sector) → slice_get sectors k ≡ Some item → AreSectors ops sectors
    → ((p : Psn) → p.0 ≡ k → IsSector ops p item → IsSector (ops ++ op ∷ []) p t)
    → (q : Psn) (s : Sector) → q.0 ≡ k → slice_get (slice_set sectors k t) q.0 ≡ Some s → IsSector (ops ++ op ∷ []) q s
sectors_move_own ops op sectors k item t here kept own q s same is =
    let there : slice_get (slice_set sectors k t) k ≡ Some t = slice_get-set_same sectors k t (slice_get_within sectors k item here) in
    let at : slice_get (slice_set sectors k t) k ≡ Some s = ap (λ n. slice_get (slice_set sectors k t) n) (sym same) ∙ is in
    let found : t ≡ s = cc in
    let was : slice_get sectors q.0 ≡ Some item = ap (λ n. slice_get sectors n) same ∙ here in
    let P : Sector → Type 0 = λ x. IsSector (ops ++ op ∷ []) q x in
    subst P found (own q same (kept q item was))

-- a list of sectors of which one moved on, and the others keep
pub sectors_move : (ops : List Op) (op : Op) (sectors : List Sector) (k : ℕ) (item t : Sector) → slice_get sectors k ≡ Some item → AreSectors ops sectors
    → ((p : Psn) → p.0 ≡ k → IsSector ops p item → IsSector (ops ++ op ∷ []) p t)
    → ((q : Psn) (s : Sector) → q.0 ≢ k → IsSector ops q s → IsSector (ops ++ op ∷ []) q s)
    → AreSectors (ops ++ op ∷ []) (slice_set sectors k t)
sectors_move ops op sectors k item t here kept own others q s is =
    elim (eqb_tells q.0 k) [
      | inl same ↦ sectors_move_own ops op sectors k item t here kept own q s same.1 is
      | inr tells ↦ others q s tells.1 (kept q s (sym (slice_get-set_other sectors k q.0 t tells.1) ∙ is))
    ]

-- each operation, for its own sector and for another

pub wrote_other : (ops : List Op) (payload : Payload) (q : Psn) (s : Sector) → q.0 ≢ payload.psn.0 → IsSector ops q s → IsSector (ops ++ Wrote payload ∷ []) q s
wrote_other ops payload q s other kept =
    let no : is_sector q payload.psn ≡ false = not_sector q payload.psn other in
    sector_moves ops (Wrote payload) q s s kept (rw no refl) (rw no refl) refl refl (rw no kept.unflawed)

pub wrote_own : (ops : List Op) (payload : Payload) (p : Psn) (s t : Sector) → p.0 ≡ payload.psn.0 → IsSector ops p s → IsEncoded payload t.unflawed
    → t ≡ record s { unflawed = t.unflawed; meant = Some (length ops); written = Some (length ops) } → IsSector (ops ++ Wrote payload ∷ []) p t
wrote_own ops payload p s t same kept encoded rest =
    let own : is_sector p payload.psn ≡ true = own_sector p payload.psn same in
    sector_moves ops (Wrote payload) p s t kept (rw own (ap (λ x. x.meant) rest)) (rw own (ap (λ x. x.written) rest)) (ap (λ x. x.flaw) rest) (ap (λ x. x.faulty) rest) (rw own encoded)

pub torn_other : (ops : List Op) (payload : Payload) (tear : Tear) (q : Psn) (s : Sector) → q.0 ≢ payload.psn.0 → IsSector ops q s → IsSector (ops ++ Torn payload tear ∷ []) q s
torn_other ops payload tear q s other kept =
    let no : is_sector q payload.psn ≡ false = not_sector q payload.psn other in
    sector_moves ops (Torn payload tear) q s s kept (rw no refl) (rw no refl) (rw no refl) refl (rw no kept.unflawed)

torn_unflawed : (left : Left) (payload : Payload) (before : Option Payload) (old new : List ℤ) → IsUnflawed before old → LeavesSamples left payload old new → IsUnflawed (left_of left payload before) new
torn_unflawed Old payload before old new was leaves = let P : List ℤ → Type 0 = λ xs. IsUnflawed before xs in subst P (sym leaves) was
torn_unflawed New payload before old new was leaves = leaves
torn_unflawed Nothing payload before old new was leaves = leaves

pub torn_own : (ops : List Op) (payload : Payload) (tear : Tear) (p : Psn) (s t : Sector) → p.0 ≡ payload.psn.0 → IsSector ops p s → LeavesSamples tear.left payload s.unflawed t.unflawed
    → t ≡ record s { unflawed = t.unflawed; meant = (if changes_meant tear.left then Some (length ops) else s.meant); written = Some (length ops); flaw = Some (length ops) }
    → IsSector (ops ++ Torn payload tear ∷ []) p t
torn_own ops payload tear p s t same kept leaves rest =
    let own : is_sector p payload.psn ≡ true = own_sector p payload.psn same in
    sector_moves ops (Torn payload tear) p s t kept (rw own (ap (λ x. x.meant) rest)) (rw own (ap (λ x. x.written) rest)) (rw own (ap (λ x. x.flaw) rest)) (ap (λ x. x.faulty) rest)
    (rw own (torn_unflawed tear.left payload (meant p ops) s.unflawed t.unflawed kept.unflawed leaves))

pub damaged_other : (ops : List Op) (damage : Damage) (q : Psn) (s : Sector) → q.0 ≢ damage.p.0 → IsSector ops q s → IsSector (ops ++ Damaged damage ∷ []) q s
damaged_other ops damage q s other kept =
    let no : is_sector q damage.p ≡ false = not_sector q damage.p other in
    sector_moves ops (Damaged damage) q s s kept refl refl (rw no refl) refl kept.unflawed

pub damaged_own : (ops : List Op) (damage : Damage) (p : Psn) (s : Sector) → p.0 ≡ damage.p.0 → IsSector ops p s → IsSector (ops ++ Damaged damage ∷ []) p (record s { flaw = Some (length ops) })
damaged_own ops damage p s same kept =
    let own : is_sector p damage.p ≡ true = own_sector p damage.p same in
    sector_moves ops (Damaged damage) p s (record s { flaw = Some (length ops) }) kept refl refl (rw own refl) refl kept.unflawed

faulty_same : (b : Bool) → b || false ≡ b
faulty_same true = refl
faulty_same false = refl

faulty_set : (b : Bool) → b || true ≡ true
faulty_set true = refl
faulty_set false = refl

pub faulty_other : (ops : List Op) (p q : Psn) (s : Sector) → q.0 ≢ p.0 → IsSector ops q s → IsSector (ops ++ Faulty p ∷ []) q s
faulty_other ops p q s other kept =
    let no : is_sector q p ≡ false = not_sector q p other in
    sector_moves ops (Faulty p) q s s kept refl refl refl (rw no (sym (faulty_same s.faulty))) kept.unflawed

pub faulty_own : (ops : List Op) (p q : Psn) (s : Sector) → q.0 ≡ p.0 → IsSector ops q s → IsSector (ops ++ Faulty p ∷ []) q (record s { faulty = true })
faulty_own ops p q s same kept =
    let own : is_sector q p ≡ true = own_sector q p same in
    sector_moves ops (Faulty p) q s (record s { faulty = true }) kept refl refl refl (rw own (sym (faulty_set s.faulty))) kept.unflawed

-- an operation that is no write, damage or fault changes nothing for a sector
pub nothing_moves : (ops : List Op) (op : Op) (sectors : List Sector)
    → ((p : Psn) → (settles p op ≡ false) × (writes p op ≡ false) × (brings p op ≡ false) × ((b : Bool) → faulty_after p b op ≡ b) × ((m : Option Payload) → meant_after p m op ≡ m))
    → AreSectors ops sectors → AreSectors (ops ++ op ∷ []) sectors
nothing_moves ops op sectors nothing kept p s is =
    let no = nothing p in
    let was : IsSector ops p s = kept p s is in
    sector_moves ops op p s s was (rw no.0 refl) (rw no.1 refl) (rw no.2 refl) (sym (no.3 s.faulty)) (rw (no.4 (meant p ops)) was.unflawed)

-- one operation more, where its sector stands in a list and is changed there
pub write_one : (ops : List Op) (sectors : List Sector) (payload : Payload) (item t : Sector) (n : ℕ) → n ≡ length ops → payload.psn.0 < length sectors
    → item ≡ get_or sectors payload.psn.0 item → AreSectors ops sectors → IsEncoded payload t.unflawed
    → t ≡ record item { unflawed = t.unflawed; meant = Some n; written = Some n }
    → AreSectors (ops ++ Wrote payload ∷ []) (slice_set sectors payload.psn.0 t)
write_one ops sectors payload item t n long below is kept encoded rest =
    sectors_move ops (Wrote payload) sectors payload.psn.0 item t (slice_get_read sectors (length sectors) payload.psn.0 item refl below is) kept
    (λ p same was. wrote_own ops payload p item t same was encoded (rest ∙ ap (λ k. record item { unflawed = t.unflawed; meant = Some k; written = Some k }) long))
    (wrote_other ops payload)

pub tear_one : (ops : List Op) (sectors : List Sector) (payload : Payload) (tear : Tear) (item t : Sector) (n : ℕ) → n ≡ length ops → payload.psn.0 < length sectors
    → item ≡ get_or sectors payload.psn.0 item → AreSectors ops sectors → LeavesSamples tear.left payload item.unflawed t.unflawed
    → t ≡ record item { unflawed = t.unflawed; meant = (if changes_meant tear.left then Some n else item.meant); written = Some n; flaw = Some n }
    → AreSectors (ops ++ Torn payload tear ∷ []) (slice_set sectors payload.psn.0 t)
tear_one ops sectors payload tear item t n long below is kept leaves rest =
    sectors_move ops (Torn payload tear) sectors payload.psn.0 item t (slice_get_read sectors (length sectors) payload.psn.0 item refl below is) kept
    (λ p same was. torn_own ops payload tear p item t same was leaves
    (rest ∙ ap (λ k. record item { unflawed = t.unflawed; meant = (if changes_meant tear.left then Some k else item.meant); written = Some k; flaw = Some k }) long))
    (torn_other ops payload tear)

pub blemish_one : (ops : List Op) (sectors : List Sector) (damage : Damage) (item : Sector) (n : ℕ) → n ≡ length ops → damage.p.0 < length sectors
    → item ≡ get_or sectors damage.p.0 item → AreSectors ops sectors
    → AreSectors (ops ++ Damaged damage ∷ []) (slice_set sectors damage.p.0 (record item { flaw = Some n }))
blemish_one ops sectors damage item n long below is kept =
    sectors_move ops (Damaged damage) sectors damage.p.0 item (record item { flaw = Some n }) (slice_get_read sectors (length sectors) damage.p.0 item refl below is) kept
    (λ p same was. let P : ℕ → Type 0 = λ k. IsSector (ops ++ Damaged damage ∷ []) p (record item { flaw = Some k }) in subst P (sym long) (damaged_own ops damage p item same was))
    (damaged_other ops damage)

pub fail_one : (ops : List Op) (sectors : List Sector) (p : Psn) (item : Sector) → p.0 < length sectors
    → item ≡ get_or sectors p.0 item → AreSectors ops sectors
    → AreSectors (ops ++ Faulty p ∷ []) (slice_set sectors p.0 (record item { faulty = true }))
fail_one ops sectors p item below is kept =
    sectors_move ops (Faulty p) sectors p.0 item (record item { faulty = true }) (slice_get_read sectors (length sectors) p.0 item refl below is) kept
    (λ q same was. faulty_own ops p q item same was)
    (λ q s other was. faulty_other ops p q s other was)
