-- By kind and operands.
use native.Mathlib.Omega.{arith}
use Rattle.checker.proofs.Helper.{second_helper, second_read, second_itself}
use Rattle.checker.proofs.choices.second_operand.Goals as goal

pub returns-then-a-b : goal.returns-then-a-b
returns-then-a-b c = let a = c.args in second_helper a.variables a.kind a.a a.b c.if-kind-eq-LOAD.true c.if-a-b.true

pub returns-then-kind-eq-LOAD : goal.returns-then-kind-eq-LOAD
returns-then-kind-eq-LOAD c =
    let a = c.args in
    second_itself a.variables a.kind a.a a.b (λ _. c.if-a-b.false) (λ e. let k = c.if-kind-eq-LOAD.true in omega arith)

pub returns-then-kind-eq-READ : goal.returns-then-kind-eq-READ
returns-then-kind-eq-READ c = let a = c.args in second_read a.variables a.kind a.a a.b c.if-kind-eq-READ.true

pub returns : goal.returns
returns c =
    let a = c.args in
    second_itself a.variables a.kind a.a a.b (λ k. absurd (c.if-kind-eq-LOAD.false k)) c.if-kind-eq-READ.false
