-- Tests that pass on both sides, or on one.
use Rattle.std.proofs.Common.{◌≡◌, ◌∙◌, ap, sym, refl, Bool, true, false, not}
use Rattle.std.specs.Prelude.{◌&&◌, ◌||◌}

-- both sides of a test that passes
pub both : (x y : Bool) → (x && y) ≡ true → (x ≡ true) × (y ≡ true)
both true y h = (refl, h)
both false y h = absurd (cc)

-- a test that passes on both sides
pub and_both : (x y : Bool) → x ≡ true → y ≡ true → (x && y) ≡ true
and_both x y h k = rw h k

pub and_assoc : (x y z : Bool) → ((x && y) && z) ≡ (x && (y && z))
and_assoc true y z = refl
and_assoc false y z = refl

pub or_assoc : (x y z : Bool) → (x || (y || z)) ≡ ((x || y) || z)
or_assoc true y z = refl
or_assoc false y z = refl

-- a test that passes on the left, or on the right
pub or_left : (x y : Bool) → x ≡ true → (x || y) ≡ true
or_left x y h = ap (λ (t : Bool). t || y) h

pub or_right : (x y : Bool) → y ≡ true → (x || y) ≡ true
or_right true y h = refl
or_right false y h = h

-- nothing on the right
pub or_false : (x : Bool) → (x || false) ≡ true → x ≡ true
or_false true h = refl
or_false false h = h

-- a test that fails on both sides
pub neither : (x y : Bool) → x ≡ false → y ≡ false → (x || y) ≡ false
neither x y h k = ap (λ (t : Bool). t || y) h ∙ k

pub none_of : (x y : Bool) → (x || y) ≡ false → (x ≡ false) × (y ≡ false)
none_of false y h = (refl, h)
none_of true y h = absurd (cc)

-- a test whose opposite passes fails
pub not_is : (x : Bool) → not x ≡ true → x ≡ false
not_is false h = refl
not_is true h = absurd (cc)

pub true_not_false : {x : Bool} → x ≡ true → x ≡ false → ⊥
true_not_false h k = let no : true ≡ false = sym h ∙ k in cc
