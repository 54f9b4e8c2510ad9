-- One operation more, for all that is kept.
use Rattle.std.proofs.Common.{◌≡◌, ℕ, suc, ◌<◌, ◌≤◌, List, [], ◌∷◌, ◌++◌, length, take, Option, Some, None, refl, sym, ◌∙◌, ap, subst, arith, inl, inr, get_or, pos, replicate, false}
use Rattle.std.specs.List.{slice_get}
use Rattle.std.proofs.lemmas.Option.{slice_get_within, slice_get_read}
use Rattle.disk_base.specs.declared.address.Psn.{Psn}
use Rattle.platter_model.specs.declared.damage.Attempt.{Attempt}
use Rattle.platter_model.specs.declared.op.Op.{Op}
use Rattle.platter_model.specs.declared.op.Op.TheVariants.{Wrote, Torn, WriteFailed, Damaged, Faulty, Fetched, Tried, Cut, Power}
use Rattle.platter_model.specs.declared.sector.Sector.{Sector}
use Rattle.platter_model.specs.Sector.{meant, is_faulty}
use Rattle.platter_model.specs.Places.{newest, settles, payload_at, brings, link_for, IsWithin, IsSector, AreSectors, IsKept}
use Rattle.platter_model.proofs.Lists.{slice_get-left, slice_get-last, length-push, slice_get-push_cases}
use Rattle.platter_model.proofs.Newest.{newest-left}
use Rattle.platter_model.proofs.AtPlaces.{meant_at_place}

-- what is kept for the sector at its place
sector_at : (ops : List Op) (sectors : List Sector) (p : Psn) (item : Sector) → p.0 < length sectors → item ≡ get_or sectors p.0 item → AreSectors ops sectors → IsSector ops p item
sector_at ops sectors p item below is kept = kept p item (slice_get_read sectors (length sectors) p.0 item refl below is)

pub flaw_link : (ops : List Op) (sectors : List Sector) (p : Psn) (item : Sector) → p.0 < length sectors → item ≡ get_or sectors p.0 item → AreSectors ops sectors
    → item.flaw ≡ newest (brings p) ops (length ops)
flaw_link ops sectors p item below is kept = (sector_at ops sectors p item below is kept).flaw_at

pub meant_link : (ops : List Op) (sectors : List Sector) (p : Psn) (item : Sector) → p.0 < length sectors → item ≡ get_or sectors p.0 item → AreSectors ops sectors
    → item.meant ≡ newest (settles p) ops (length ops)
meant_link ops sectors p item below is kept = (sector_at ops sectors p item below is kept).meant_at

-- what is kept beside a fetch tells what was meant at it
pub meant_from_link : (ops : List Op) (links : List (Option ℕ)) (sectors : List Sector) (at : ℕ) (link : Option ℕ) (p : Psn) (attempt : Attempt) → IsKept ops links sectors
    → link ≡ get_or links at link → slice_get ops at ≡ Some (Fetched p attempt) → payload_at ops link ≡ meant p (take at ops)
meant_from_link ops links sectors at link p attempt kept is fetched =
    let below : at < length ops = slice_get_within ops at (Fetched p attempt) fetched in
    let long : at < length links = omega (arith, kept.beside) in
    let there : Some link ≡ Some (newest (settles p) ops at) = sym (slice_get_read links (length links) at link refl long is) ∙ kept.linked at (Fetched p attempt) fetched in
    let same : link ≡ newest (settles p) ops at = cc in
    ap (λ m. payload_at ops m) same ∙ sym (meant_at_place p ops at (omega arith))

-- operations that come later change no link
link_for-left : (ops more : List Op) (k : ℕ) (op : Op) → k ≤ length ops → link_for (ops ++ more) k op ≡ link_for ops k op
link_for-left ops more k (Torn payload tear) within = newest-left (brings payload.psn) ops more k within
link_for-left ops more k (Damaged damage) within = newest-left (brings damage.p) ops more k within
link_for-left ops more k (Fetched p attempt) within = newest-left (settles p) ops more k within
link_for-left ops more k (Wrote payload) within = refl
link_for-left ops more k (WriteFailed p) within = refl
link_for-left ops more k (Faulty p) within = refl
link_for-left ops more k (Tried at p stage found) within = refl
link_for-left ops more k Cut within = refl
link_for-left ops more k Power within = refl

linked_moves : (ops : List Op) (links : List (Option ℕ)) (op : Op) (link : Option ℕ) → length links ≡ length ops
    → ((k : ℕ) (o : Op) → slice_get ops k ≡ Some o → slice_get links k ≡ Some (link_for ops k o))
    → link ≡ link_for ops (length ops) op
    → (k : ℕ) (o : Op) → slice_get (ops ++ op ∷ []) k ≡ Some o → slice_get (links ++ link ∷ []) k ≡ Some (link_for (ops ++ op ∷ []) k o)
linked_moves ops links op link beside linked is k o at =
    elim (slice_get-push_cases ops op k o at) [
      | inl before ↦
          let below : k < length ops = slice_get_within ops k o before in
          slice_get-left links (link ∷ []) k (omega arith) ∙ (linked k o before ∙ ap Some (sym (link_for-left ops (op ∷ []) k o (omega arith))))
      | inr last ↦
          let place : slice_get (links ++ link ∷ []) k ≡ slice_get (links ++ link ∷ []) (length links) = ap (λ n. slice_get (links ++ link ∷ []) n) (last.0 ∙ sym beside) in
          let own : link_for (ops ++ op ∷ []) k o ≡ link = ap (λ n. link_for (ops ++ op ∷ []) n o) last.0 ∙ (link_for-left ops (op ∷ []) (length ops) o (omega arith) ∙ (ap (λ x. link_for ops (length ops) x) last.1 ∙ sym is)) in
          place ∙ (slice_get-last links link ∙ ap Some (sym own))
    ]

kept_moves_on : (ops : List Op) (links : List (Option ℕ)) (sectors after : List Sector) (op : Op) (link : Option ℕ) → IsKept ops links sectors
    → link ≡ link_for ops (length ops) op → AreSectors (ops ++ op ∷ []) after → length after ≡ length sectors → IsWithin (length sectors) op
    → IsKept (ops ++ op ∷ []) (links ++ link ∷ []) after
kept_moves_on ops links sectors after op link kept is are same within = record {
  beside = length-push links link ∙ (ap suc kept.beside ∙ sym (length-push ops op));
  linked = linked_moves ops links op link kept.beside kept.linked is;
  within = λ k o at. rw same (elim (slice_get-push_cases ops op k o at) [
    | inl before ↦ kept.within k o before
    | inr last ↦ let P : Op → Type 0 = λ x. IsWithin (length sectors) x in subst P (sym last.1) within
  ]);
  are_sectors = are;
}

-- all that is kept moves on
pub kept_moves : (ops more : List Op) (links more_links : List (Option ℕ)) (sectors after : List Sector) (op : Op) (link : Option ℕ) → more ≡ ops ++ op ∷ [] → more_links ≡ links ++ link ∷ []
    → IsKept ops links sectors → link ≡ link_for ops (length ops) op → AreSectors (ops ++ op ∷ []) after → length after ≡ length sectors → IsWithin (length sectors) op
    → IsKept more more_links after
kept_moves ops more links more_links sectors after op link ops_is links_is kept is are same within =
    let P : List Op → Type 0 = λ os. IsKept os more_links after in
    let Q : List (Option ℕ) → Type 0 = λ ls. IsKept (ops ++ op ∷ []) ls after in
    subst P (sym ops_is) (subst Q (sym links_is) (kept_moves_on ops links sectors after op link kept is are same within))

-- sectors without an operation
blank_sector : (p : Psn) (s : Sector) → s ≡ record { unflawed = replicate 9478 (pos 0); meant = None; written = None; flaw = None; faulty = false } → IsSector [] p s
blank_sector p s is = record {
  meant_at = ap (λ x. x.meant) is;
  written_at = ap (λ x. x.written) is;
  flaw_at = ap (λ x. x.flaw) is;
  fault = ap (λ x. x.faulty) is;
  unflawed = ap (λ x. x.unflawed) is;
}

pub blank_more : (sectors more : List Sector) (s : Sector) → more ≡ sectors ++ s ∷ [] → AreSectors [] sectors
    → s ≡ record { unflawed = replicate 9478 (pos 0); meant = None; written = None; flaw = None; faulty = false } → AreSectors [] more
blank_more sectors more s more_is are is p x at =
    elim (slice_get-push_cases sectors s p.0 x (sym (ap (λ xs. slice_get xs p.0) more_is) ∙ at)) [
      | inl before ↦ are p x before
      | inr last ↦ blank_sector p x (last.1 ∙ is)
    ]

-- nothing is kept where there is no operation
pub kept_blank : (sectors : List Sector) → AreSectors [] sectors → IsKept [] [] sectors
kept_blank sectors are = record {
  beside = refl;
  linked = λ k op at. let never : ⊥ = cc in absurd never;
  within = λ k op at. let never : ⊥ = cc in absurd never;
  are_sectors = are;
}

pub fault_at : (ops : List Op) (sectors : List Sector) (p : Psn) (item : Sector) → p.0 < length sectors → item ≡ get_or sectors p.0 item → AreSectors ops sectors
    → item.faulty ≡ is_faulty p ops
fault_at ops sectors p item below is kept = (sector_at ops sectors p item below is kept).fault
