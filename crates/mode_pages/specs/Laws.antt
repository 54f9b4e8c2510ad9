-- A law on mode parameters.
use Rattle.std.specs.Prelude.{◌≡◌, ℕ, ◌≤◌, List, length, Some, Ok}
use Rattle.mode_pages.specs.declared.settings.Settings.{Settings}
use Rattle.mode_pages.specs.declared.page.Page.{Page}
use Rattle.mode_pages.specs.declared.request.ModeRequest.{ModeRequest}
use Rattle.mode_pages.specs.ModeSense.{pages_asked, mode_data, sensed}
use Rattle.mode_pages.specs.ModeSelect.{selected}

-- where a MODE SENSE gives the present values and its allocation length doesn't cut them, a MODE SELECT of the same form with
-- them changes nothing; the retry count is one that can be set
abbrev pub WhatIsShownIsTaken : Type 0
WhatIsShownIsTaken =
    (s : Settings) (capacity : ℕ) (r : ModeRequest) (pages : List Page) (shown : List ℕ) → s.retry ≤ 20
    → r.control ≡ 0 → pages_asked r.page r.subpage ≡ Some pages → length (mode_data s capacity r pages) ≤ r.allocation
    → sensed s capacity r ≡ Ok shown → selected s capacity r.ten shown ≡ Ok s
