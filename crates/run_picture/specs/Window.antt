-- What a range of turns shows.
use Rattle.std.specs.Prelude.{ℕ, nat_lt, ◌||◌, min, max, if◌then◌else◌, List, [], ◌∷◌, ◌++◌, Option, Some, None, option_and_then, option_to_list}
use Rattle.std.specs.Option.{option_map}
use Rattle.run_picture.specs.declared.spans.Span.{Span}
use Rattle.run_picture.specs.declared.spans.Ending.TheVariants.{Open}
use Rattle.run_picture.specs.declared.marks.Mark.{Mark}
use Rattle.run_picture.specs.declared.marks.Mark.TheVariants.{At, Over}
use Rattle.run_picture.specs.declared.window.Window.{Window}

-- the first turn of work in a range, where there is one
abbrev pub starts_within : Window → Option ℕ → Option ℕ
starts_within w start = option_and_then (λ n. if nat_lt w.to n then None else Some (max n w.from)) start

-- the part of a span within a range, where there is one; what began before the range says so, and what goes on behind it is open
abbrev pub clipped : Window → Span → Option Span
clipped w s = if nat_lt s.to w.from || nat_lt w.to s.from then None else Some (record {
  subject = s.subject;
  from = max s.from w.from;
  began_before = nat_lt s.from w.from;
  start = starts_within w s.start;
  to = min s.to w.to;
  ending = if nat_lt w.to s.to then Open else s.ending;
})

-- what a range shows of a mark
abbrev pub shown : Window → Mark → Option Mark
shown w (At p) = if nat_lt p.turn w.from || nat_lt w.to p.turn then None else Some (At p)
shown w (Over s) = option_map Over (clipped w s)

-- what it shows of marks
abbrev pub shown_of : Window → List Mark → List Mark
shown_of w [] = []
shown_of w (mark ∷ marks) = option_to_list (shown w mark) ++ shown_of w marks
