-- All five bytes there, or not.
use mathlib.Core.Path.{◌∙◌}
use Rattle.transitions.proofs.Bytes.{read_first, bytes_none}
use Rattle.transitions.proofs.transition_at.Goals as goal

pub returns-in-Some-len5-up : goal.returns-in-Some-len5-up
returns-in-Some-len5-up c = let (inside, same) = c.in-Some-len5-up.ensures in c.from.ensures ∙ read_first (record { inside = inside; same = same })

pub returns-in_default-2 : goal.returns-in_default-2
returns-in_default-2 c = bytes_none c.args.job.now c.args.at (rw c.in_default.is at c.bytes_at.ensures)
