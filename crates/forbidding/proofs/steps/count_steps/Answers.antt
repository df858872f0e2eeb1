-- The loop: what is counted and what is left to count make the whole number.
use native.Mathlib.Omega.{arith}
use Rattle.forbidding.proofs.Stepping.{count_none, count_more, count_all}
use Rattle.forbidding.proofs.steps.count_steps.Goals as goal

pub loop-i-init : goal.loop-i-init
loop-i-init c = count_none _ _ _ _

pub overflow_mul-i : goal.overflow_mul-i
overflow_mul-i c = omega arith

pub overflow_add-first : goal.overflow_add-first
overflow_add-first c = omega (arith, (c.requires.0 c.loop-i.i (omega arith)).whole)

pub shapes_at-shapes-requires : goal.shapes_at-shapes-requires
shapes_at-shapes-requires c = (c.requires.0 c.loop-i.i (omega arith)).whole

pub overflow_add-shapes : goal.overflow_add-shapes
overflow_add-shapes c = omega (arith, c.loop-i.invariant.few, c.loop-i.invariant.upto, c.requires.1, c.shapes_at-shapes.ensures.1)

pub loop-i-preserved : goal.loop-i-preserved
loop-i-preserved c =
    let n = c.args.variables in
    count_more _ _ _ n _ _ c.loop-i.invariant (omega arith) _ (c.shapes_at-shapes.ensures.0 n) c.shapes_at-shapes.ensures.1

pub returns : goal.returns
returns c = count_all _ _ _ _ _ _ c.loop-i.invariant (omega arith) c.requires.1
