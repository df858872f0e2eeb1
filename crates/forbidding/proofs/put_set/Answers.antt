-- By the set that is asked for: what is put is the bytes of its shapes, and there is room for them.
use native.Mathlib.Omega.{arith}
use Rattle.forbidding.proofs.Answers.{point_in, asked_inside, asked_room, asked_whole, asked_put, steps_in}
use Rattle.forbidding.proofs.put_set.Goals as goal

pub put_not_list-requires : goal.put_not_list-requires
put_not_list-requires c =
    let a = c.args in
    let r = c.requires.0 in
    let e = c.in-NotList.is in
    rw c.of.ensures (
      point_in _ _ a.h.variables a.h.states _ r.variables.1 r.states.1 (asked_inside a.job.now a.h _ _ e c.requires.1),
      omega (arith, asked_room a.job.now a.h _ _ e _ _ c.requires.2),
    )

pub put_lost_block-requires : goal.put_lost_block-requires
put_lost_block-requires c =
    let a = c.args in
    let r = c.requires.0 in
    let e = c.in-LostBlock.is in
    rw c.of-in-LostBlock.ensures (
      point_in _ _ a.h.variables a.h.states _ r.variables.1 r.states.1 (asked_inside a.job.now a.h _ _ e c.requires.1),
      omega (arith, asked_room a.job.now a.h _ _ e _ _ c.requires.2),
    )

pub put_steps-requires : goal.put_steps-requires
put_steps-requires c =
    let a = c.args in (
      steps_in a.job.now a.h c.requires.0,
      c.requires.0.variables.1,
      asked_whole a.job.now a.h _ _ c.in-BadSteps.is _ _ c.requires.2,
    )

pub returns-in-NotList : goal.returns-in-NotList
returns-in-NotList c = asked_put c.args.job.now c.args.h _ _ c.in-NotList.is (rw c.of.ensures at c.put_not_list.ensures)

pub returns-in-LostBlock : goal.returns-in-LostBlock
returns-in-LostBlock c = asked_put c.args.job.now c.args.h _ _ c.in-LostBlock.is (rw c.of-in-LostBlock.ensures at c.put_lost_block.ensures)

pub returns-in-BadSteps : goal.returns-in-BadSteps
returns-in-BadSteps c = asked_put c.args.job.now c.args.h _ _ c.in-BadSteps.is c.put_steps.ensures
