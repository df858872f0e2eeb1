-- The rows before j are moved; the last is emptied after the loop.
use Rattle.factrows.specs.Rows.{moved_at}
use Rattle.factrows.proofs.Turning.{Turned}
use Rattle.factrows.proofs.move_rows.Given as goal

abbrev pub invariant-loop-j : goal.invariant-loop-j
invariant-loop-j l = Turned (moved_at l.first l.last l.initial.rows) l.initial.rows l.rows l.j
