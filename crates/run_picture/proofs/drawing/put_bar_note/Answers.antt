-- The row is that of the command.
use Rattle.run_picture.proofs.drawing.put_bar_note.Goals as goal

pub returns-in-Command : goal.returns-in-Command
returns-in-Command g c = λ start text before.
    rw c.in-Command.is (rw (c.row_of_subject-row.ensures.row, c.in-Command.is, c.number.ensures.value) at (c.put_command_note.ensures start text before))
