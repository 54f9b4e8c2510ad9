-- The entries of the commands so far.
use Rattle.std.proofs.Common.{◌≡◌, ◌+◌, ◌++◌, map, take, vec_len}
use Rattle.std.specs.Vec.{vec_capacity}
use Rattle.block_machine.specs.declared.entry.Entry.TheVariants.{Aborted}
use Rattle.drive_core.proofs.asking.tell_aborted.Given as goal

abbrev pub invariant-loop-c : goal.invariant-loop-c
invariant-loop-c l = record {
  told : l.entries.items ≡ l.initial.entries.items ++ map Aborted (take l.c-index l.fn.gone);
  long : vec_len l.entries ≡ vec_len l.initial.entries + l.c-index;
  room : vec_capacity l.entries ≡ vec_capacity l.initial.entries;
}
