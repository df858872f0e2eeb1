-- Variables, links and facts are compared in turn.
use mathlib.Core.Path.{ap₂, ◌∙◌}
use Prim.Native.Nat.{◌+◌, ◌-◌}
use native.Mathlib.Omega.{arith}
use lib.Dec.{eqb}
use lib.Pointwise.{pointwise}
use Rattle.joint.proofs.Shapes.{vars_differ, links_differ, facts_tell}
use Rattle.joint.proofs.same_shape.Goals as goal

pub returns-then-ne : goal.returns-then-ne
returns-then-ne c =
    let a = c.args in
    let (entry, entry₂, few) = c.requires in
    vars_differ a.bytes.now a.at a.others.now a.other a.variables entry entry₂ few
    (a.at + 2 + a.variables - (a.at + 2)) (a.other + 2 + a.variables - (a.other + 2)) (omega arith) (omega arith) _ c.ne.ensures c.if-ne.true

pub returns-then-ne-2 : goal.returns-then-ne-2
returns-then-ne-2 c =
    let a = c.args in
    let (entry, entry₂, few) = c.requires in
    links_differ a.bytes.now a.at a.others.now a.other a.variables entry entry₂ few
    (a.at + 2 + a.variables - (a.at + 2)) (a.other + 2 + a.variables - (a.other + 2)) (omega arith) (omega arith) _ c.ne.ensures c.if-ne.false
    (a.at + 2 + a.variables + c.wide-n.result - (a.at + 2 + a.variables)) (a.other + 2 + a.variables + c.wide-m.result - (a.other + 2 + a.variables))
    (omega (arith, c.wide-n.ensures.0)) (omega (arith, c.wide-m.ensures.0)) _ c.ne-2.ensures c.if-ne-2.true

pub returns : goal.returns
returns c =
    let a = c.args in
    let (entry, entry₂, few) = c.requires in
    facts_tell a.bytes.now a.at a.others.now a.other a.variables entry entry₂ few
    (a.at + 2 + a.variables - (a.at + 2)) (a.other + 2 + a.variables - (a.other + 2)) (omega arith) (omega arith) _ c.ne.ensures c.if-ne.false
    (a.at + 2 + a.variables + c.wide-n.result - (a.at + 2 + a.variables)) (a.other + 2 + a.variables + c.wide-m.result - (a.other + 2 + a.variables))
    (omega (arith, c.wide-n.ensures.0)) (omega (arith, c.wide-m.ensures.0)) _ c.ne-2.ensures c.if-ne-2.false _
    (c.eq.ensures ∙ ap₂ (pointwise eqb) c.fact_span-span.ensures.2 c.fact_span-other_span.ensures.2)
