-- With a shape before, the cases are counted in the restored array, which has room for the variables.
use Prim.Native.Nat.{◌+◌, ◌-◌}
use native.Mathlib.Omega.{arith}
use lib.ListN.{drop, length-drop}
use lib.Seq.{length-take-le}
use Rattle.shapes.proofs.Free.{restored_fit}
use Rattle.shapes.proofs.restore.prepare_delete.Goals as goal

pub overflow_add-variables : goal.overflow_add-variables
overflow_add-variables c =
    let a = c.args in
    omega (arith, restored_fit a.variables a.a a.s.now _ c.restore_deleted.ensures.is c.if-not-restore_deleted.false)

pub slice_bounds-count_cases-end : goal.slice_bounds-count_cases-end
slice_bounds-count_cases-end c =
    let a = c.args in
    omega (arith, restored_fit a.variables a.a a.s.now _ c.restore_deleted.ensures.is c.if-not-restore_deleted.false)

pub count_cases-requires : goal.count_cases-requires
count_cases-requires c =
    let a = c.args in
    let t = c.restore_deleted.new.t in
    let few = restored_fit a.variables a.a a.s.now _ c.restore_deleted.ensures.is c.if-not-restore_deleted.false in
    omega (arith, few, length-take-le (18 + a.variables - 18) (drop 18 t) (omega (arith, few, length-drop 18 t)))
