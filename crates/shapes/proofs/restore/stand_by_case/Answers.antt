-- With room, the part with the variables changes.
use mathlib.Core.List.{List}
use mathlib.Core.Path.{◌≡◌, ap}
use Prim.Native.Nat.{ℕ, ◌+◌, ◌-◌}
use native.Mathlib.Omega.{arith}
use borrow.Rule.Slice.PartMut.{put_mid, Post-is}
use Rattle.shapes.proofs.restore.stand_by_case.Goals as goal

pub returns-clause-shape : goal.returns-clause-shape
returns-clause-shape c =
    let a = c.args in
    let part : 18 + a.variables - 18 ≡ a.variables = omega arith in
    rw (← Post-is 18 (18 + a.variables) a.t.now (omega arith)) (ap (λ (v : List ℕ). put_mid 18 (18 + a.variables - 18) a.t.now v) (rw part at c.choose_case.ensures))
