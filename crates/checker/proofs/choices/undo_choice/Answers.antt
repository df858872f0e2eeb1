-- Placing the last operand and undoing the operation, one after the other, make the predecessor of the choice.
use native.Mathlib.Omega.{arith}
use Rattle.shapes.proofs.Steps.{last_most, last_slots, last_held}
use Rattle.checker.proofs.choices.undo_choice.Goals as goal

pub place_operand-requires : goal.place_operand-requires
place_operand-requires c =
    let p = c.requires in
    (rw p.1 (last_most p.0), p.0.work.cells, p.2)

pub undo-requires : goal.undo-requires
undo-requires c =
    let a = c.args in
    let p = c.requires in
    let w = p.0.work in
    let slots = last_slots p.0 a.k p.3 p.2 in
    rw (c.place_operand.ensures, p.1) (omega (arith, w.operands.a_most, w.operands.variables_most), omega (arith, w.operands.b_most, w.operands.variables_most), slots a.by.a, slots a.by.b)

pub returns : goal.returns
returns c =
    let a = c.args in
    let p = c.requires in
    rw (c.undo.ensures, c.place_operand.ensures, p.1) (last_held p.0 a.k p.3 p.2)
