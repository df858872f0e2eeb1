-- The loop: the shapes of the transitions before the i-th are put, and there is room for the rest.
use native.Mathlib.Omega.{arith}
use Rattle.forbidding.proofs.Stepping.{steps_none, step_room, steps_more, steps_all}
use Rattle.forbidding.proofs.steps.put_steps.Goals as goal

pub loop-i-init : goal.loop-i-init
loop-i-init c = steps_none _ _ _ _ _ _ c.requires.2

pub overflow_mul-i : goal.overflow_mul-i
overflow_mul-i c = omega (arith, (c.requires.0 c.loop-i.i (omega arith)).whole)

pub overflow_add-first : goal.overflow_add-first
overflow_add-first c = omega (arith, (c.requires.0 c.loop-i.i (omega arith)).whole)

pub put_step-next-requires : goal.put_step-next-requires
put_step-next-requires c =
    let l = c.loop-i in
    (c.requires.0 l.i (omega arith), c.requires.1, step_room _ _ _ _ _ _ c.requires.2 _ _ _ l.invariant (omega arith))

pub loop-i-preserved : goal.loop-i-preserved
loop-i-preserved c = steps_more _ _ _ _ _ _ c.requires.2 _ _ _ c.loop-i.invariant (omega arith) _ _ c.put_step-next.ensures

pub shape_of-bytes : goal.shape_of-bytes
shape_of-bytes c = c.loop-i.invariant.put.same

pub returns : goal.returns
returns c = steps_all _ _ _ _ _ _ c.requires.2 _ _ _ c.loop-i.invariant (omega arith)
