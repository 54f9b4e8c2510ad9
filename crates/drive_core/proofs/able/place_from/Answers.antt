use Rattle.drive_core.proofs.Claimed.{next-placed}
use Rattle.drive_core.proofs.able.place_from.Goals as goal

pub returns-then-commands-older : goal.returns-then-commands-older
returns-then-commands-older c =
    next-placed c.args.commands.now c.args.older c.args.c c.index-commands-older.result c.requires c.if-older-commands.true c.if-commands-older.true
