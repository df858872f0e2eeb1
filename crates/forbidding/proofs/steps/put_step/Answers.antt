-- Two shapes where the transition steps through a variable, else none.
use native.Mathlib.Omega.{arith}
use Rattle.forbidding.proofs.Stepping.{from_is, step_bytes, put_through, put_nothing, variable_in}
use Rattle.forbidding.proofs.steps.put_step.Goals as goal

pub put_bad_step-requires : goal.put_bad_step-requires
put_bad_step-requires c =
    let a = c.args in
    let r = c.requires in
    let t = c.transition_at-t in
    let step = c.steps_through in
    let whole = r.0.whole in
    let size = step_bytes a.job.now a.from t.result t.ensures whole step.result step.ensures a.variables _ c.in-Some.is in
    let (some, variable) = variable_in a.job.now a.from t.result t.ensures whole step.result step.ensures a.variables _ c.in-Some.is r.0 in
    rw c.of-p.ensures (
      record { most = r.1; some = some; variable = variable; state = omega (arith, from_is a.job.now a.from t.result t.ensures whole, r.0.from) },
      omega (arith, size, r.2),
    )

pub returns-in-Some : goal.returns-in-Some
returns-in-Some c =
    let a = c.args in
    let t = c.transition_at-t in
    let step = c.steps_through in
    put_through a.job.now a.from t.result t.ensures c.requires.0.whole step.result step.ensures a.variables _ c.in-Some.is (rw c.of-p.ensures at c.put_bad_step.ensures)

pub returns-in-None : goal.returns-in-None
returns-in-None c =
    let a = c.args in
    let t = c.transition_at-t in
    let step = c.steps_through in
    put_nothing a.job.now a.from t.result t.ensures c.requires.0.whole step.result step.ensures a.variables _ _ c.in-None.is (omega (arith, c.requires.2))
