-- Two where the transition steps through a variable, else none.
use mathlib.Core.Path.{ap, sym}
use native.Mathlib.Omega.{arith}
use lib.ListN.{length}
use Rattle.forbidding.proofs.Stepping.{shapes_through, shapes_none}
use Rattle.forbidding.proofs.steps.shapes_at.Goals as goal

pub returns-in-Some : goal.returns-in-Some
returns-in-Some c =
    let t = c.transition_at-t in
    let step = c.steps_through in (
      λ n. sym (ap length (shapes_through c.args.job.now c.args.at t.result t.ensures c.requires step.result step.ensures n _ c.in-Some.is)),
      omega arith,
    )

pub returns-in-None : goal.returns-in-None
returns-in-None c =
    let t = c.transition_at-t in
    let step = c.steps_through in (
      λ n. sym (ap length (shapes_none c.args.job.now c.args.at t.result t.ensures c.requires step.result step.ensures n c.in-None.is)),
      omega arith,
    )
