use Rattle.std.proofs.Common.{sym}
use Rattle.write_cache.proofs.Front.{looked}
use Rattle.write_cache.proofs.Kept.{IsCache-promoted}
use Rattle.write_cache.proofs.cache.Cache.look.Goals as goal
use Rattle.write_cache.proofs.cache.Cache.look.Goals.{in-Some-get, in-None}

pub invariant_of-self : goal.invariant_of-self
invariant_of-self c =
    let not_dirty = rw c.deref.ensures at (sym c.in_default.ensures) in
    let kept = IsCache-promoted c.args.b _ c.self.invariant.0 not_dirty in
    elim c.match-get.branch [
      | in-Some-get w ↦ rw (w.self-inside-is, c.get.follows.holds-at-none) (kept, c.self.invariant.1)
      | in-None w ↦ rw (w.self-inside-is, c.get.follows.holds-at-none) (kept, c.self.invariant.1)
    ]

pub returns-clause-used : goal.returns-clause-used
returns-clause-used c = elim c.match-get.branch [
  | in-Some-get w ↦ rw (w.self-inside-is, c.get.follows.holds-at-none, ← c.self.view_is) (looked c.args.b _ c.self.invariant.0.clean_fit)
  | in-None w ↦ rw (w.self-inside-is, c.get.follows.holds-at-none, ← c.self.view_is) (looked c.args.b _ c.self.invariant.0.clean_fit)
]
