-- The loop, last to first: by its step.
use mathlib.Core.Path.{◌∙◌}
use Prim.Native.Nat.{◌-◌}
use native.Mathlib.Omega.{arith}
use Rattle.transitions.specs.Transitions.{to_byte}
use Rattle.transitions.proofs.Index.{index_more, index_out, index_none}
use Rattle.transitions.proofs.index_all.Goals as goal

pub loop-i-preserved-then-to-lt64 : goal.loop-i-preserved-then-to-lt64
loop-i-preserved-then-to-lt64 c =
    let a = c.args in
    index_more (to_byte a.job.now a.first) c.loop-i.i c.loop-i.index (c.loop-i.i - 1) (omega arith) c.if-to-lt64.true ∙ c.loop-i.invariant

pub loop-i-preserved : goal.loop-i-preserved
loop-i-preserved c =
    let a = c.args in
    index_out (to_byte a.job.now a.first) c.loop-i.i c.loop-i.index (c.loop-i.i - 1) (omega arith) c.if-to-lt64.false ∙ c.loop-i.invariant

pub returns : goal.returns
returns c =
    let a = c.args in
    index_none (to_byte a.job.now a.first) c.loop-i.i c.loop-i.index (omega arith) ∙ c.loop-i.invariant
