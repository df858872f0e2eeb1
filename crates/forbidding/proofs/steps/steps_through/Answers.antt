-- By the kind: b of a load, a of a store, else none.
use Rattle.forbidding.proofs.Stepping.{through_load, through_store, through_none}
use Rattle.forbidding.proofs.steps.steps_through.Goals as goal

pub returns-then-kind-eq4 : goal.returns-then-kind-eq4
returns-then-kind-eq4 c = through_load _ _ _ c.if-kind-eq4.true

pub returns-then-kind-eq5 : goal.returns-then-kind-eq5
returns-then-kind-eq5 c = through_store _ _ _ c.if-kind-eq5.true

pub returns : goal.returns
returns c = through_none _ _ _ c.if-kind-eq4.false c.if-kind-eq5.false
