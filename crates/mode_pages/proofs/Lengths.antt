-- How long pages are, whatever is shown of them.
use Rattle.std.proofs.Common.{◌≡◌, ℕ, Bool, true, false, ◌==◌, cond, List, [], ◌∷◌, length, refl, arith, length-append}
use Rattle.std.specs.List.{flat_map}
use Rattle.mode_pages.specs.declared.settings.Settings.{Settings}
use Rattle.mode_pages.specs.declared.page.Page.{Page}
use Rattle.mode_pages.specs.declared.page.Page.TheVariants.{ErrorRecovery, Caching, BackgroundControl}
use Rattle.mode_pages.specs.Settings.{default_settings}
use Rattle.mode_pages.specs.Pages.{page_bytes, changeable}
use Rattle.mode_pages.specs.ModeSense.{page_shown}

-- a page is as long as its mask
pub page_bytes-length : (s : Settings) (p : Page) → length (page_bytes p s) ≡ length (changeable p)
page_bytes-length s ErrorRecovery = refl
page_bytes-length s Caching = refl
page_bytes-length s BackgroundControl = refl

-- one of three lists of one length
shown-cases : (a b : Bool) (x y z : List ℕ) (n : ℕ) → length x ≡ n → length y ≡ n → length z ≡ n → length (cond a x (cond b y z)) ≡ n
shown-cases true b x y z n p q r = p
shown-cases false true x y z n p q r = q
shown-cases false false x y z n p q r = r

pub page_shown-length : (control : ℕ) (s : Settings) (p : Page) → length (page_shown control s p) ≡ length (changeable p)
page_shown-length control s p =
    shown-cases (control == 0) (control == 1) _ _ _ _ (page_bytes-length s p) refl (page_bytes-length default_settings p)

-- the same of several pages
pub pages_shown-length : (control : ℕ) (s : Settings) (ps : List Page) → length (flat_map (page_shown control s) ps) ≡ length (flat_map changeable ps)
pages_shown-length control s [] = refl
pages_shown-length control s (p ∷ ps) =
    let here = page_shown-length control s p in
    let rest = pages_shown-length control s ps in
    omega (arith, length-append (page_shown control s p) (flat_map (page_shown control s) ps), length-append (changeable p) (flat_map changeable ps))
