-- the least so far
use Rattle.std.proofs.Common.{◌≡◌, [], take, MatchOption}
use Rattle.std.specs.List.{filter}
use Rattle.std.specs.Map.{keys_of}
use Rattle.write_cache.specs.Contents.{is_within, IsLeast}
use Rattle.write_cache.proofs.dirty.least.Given as goal

abbrev pub invariant-loop-held : goal.invariant-loop-held
invariant-loop-held l =
    MatchOption l.least (filter (is_within l.from l.to) (keys_of (take l.held-index l.fn.list.items)) ≡ [])
    (IsLeast (filter (is_within l.from l.to) (keys_of (take l.held-index l.fn.list.items))))
