-- The second operand is the one that is placed.
use Prim.Native.Nat.{ℕ}
use mathlib.Core.Path.{ap}
use Rattle.checker.proofs.choices.with_helper.Goals as goal

pub returns : goal.returns
returns c =
    let a = c.args in
    ap (λ (q : ℕ). record { from = a.by.from; kind = a.by.kind; a = a.by.a; b = q; to = a.by.to }) c.second_operand.ensures
