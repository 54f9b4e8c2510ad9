-- the place is behind those so far
use Rattle.std.proofs.Common.{◌≡◌, ◌+◌, drop}
use Rattle.run_picture.specs.Blocks.{place_of}
use Rattle.run_picture.proofs.blocks.place_of.Given as goal

abbrev pub invariant-loop-place : goal.invariant-loop-place
invariant-loop-place l = l.place + place_of l.b (drop l.place l.blocks) ≡ place_of l.b l.blocks
