use Rattle.std.proofs.Common.{◌≡◌, ◌≤◌, ◌+◌, ◌++◌, length, drop}
use Rattle.std.specs.List.{flat_map}
use Rattle.mode_pages.specs.ModeSense.{page_shown}
use Rattle.mode_pages.proofs.sensing.add_pages.Given as goal

-- what is there, with the pages still to come, is the whole, and has room
abbrev pub invariant-loop-page : goal.invariant-loop-page
invariant-loop-page l = record {
  whole : l.body.items ++ flat_map (page_shown l.control l.settings) (drop l.page-index l.pages) ≡ l.fn.body.items ++ flat_map (page_shown l.control l.settings) l.pages;
  room : length l.body.items + length (flat_map (page_shown l.control l.settings) (drop l.page-index l.pages)) ≤ 56;
}
