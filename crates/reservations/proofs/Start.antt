-- What a desk keeps, at the start.
use Rattle.std.proofs.Common.{◌≡◌, ℕ, zero, suc, ◌-◌, List, [], replicate, get_or, refl, sym, subst, lit<, ◌<◌, ◌^◌}
use Rattle.sense_data.specs.declared.attention.Attention.{Attention}
use Rattle.reservations.specs.Desk.{IsDesk, desk_at_start}
use Rattle.reservations.proofs.Kept.{Keeps, desk-kept}

-- a list whose items are all what stands past its end
pub alike-everywhere : {X : Type 0} (x : X) (n j : ℕ) → get_or (replicate n x) j x ≡ x
alike-everywhere x zero j = refl
alike-everywhere x (suc n) zero = refl
alike-everywhere x (suc n) (suc j) = alike-everywhere x n j

pub start-kept : Keeps desk_at_start
start-kept = record {
  eight_keys = refl;
  holder_registered = λ h is. absurd (cc);
  holder_type = λ h is. absurd (cc);
  generation_fits = lit< tt;
  eight_lists = refl;
  known_wait = λ i. let nothing : List Attention = [] in rw (alike-everywhere nothing 8 (i - 1)) (refl, refl);
}

pub start-is-desk : IsDesk desk_at_start
start-is-desk = desk-kept desk_at_start start-kept (λ k less. let P : ℕ → Type 0 = λ n. n < 2 ^ 64 in subst P (sym (alike-everywhere {X = ℕ} 0 8 k)) (lit< tt))
