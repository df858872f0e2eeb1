-- There is room for a shape with a free cell.
use mathlib.Core.Path.{sym, ◌∙◌}
use Rattle.shapes.proofs.Free.{free_cell}
use Rattle.shapes.proofs.remove_cell.Goals as goal

pub take_out-requires : goal.take_out-requires
take_out-requires c =
    let a = c.args in
    let f = free_cell a.variables a.s.now a.k (sym c.is_free_cell.ensures ∙ c.if-not-is_free_cell.false) in
    (f.cells_fit, f.is_cell)
