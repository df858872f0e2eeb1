-- The loop looks at the transitions one after the other.
use mathlib.Core.Path.{◌≡◌, refl, sym, ◌∙◌}
use Prim.Native.Nat.{◌-◌}
use native.Mathlib.Omega.{arith}
use borrow.Author.Tests.{eq-eqb, ne_eqb}
use Rattle.lists.proofs.Test.{all_passed, all_failed, all_done}
use Rattle.joint.proofs.ends.Invariants.{elsewhere}
use Rattle.joint.proofs.ends.Goals as goal

pub loop-i-init : goal.loop-i-init
loop-i-init c = let all : c.args.count - 0 ≡ c.args.count = omega arith in rw all refl

pub overflow_mul-i : goal.overflow_mul-i
overflow_mul-i c = omega (arith, c.requires c.loop-i.i c.loop-i-test.true)

pub overflow_add-first : goal.overflow_add-first
overflow_add-first c = omega (arith, c.requires c.loop-i.i c.loop-i-test.true)

pub bounds-job-first : goal.bounds-job-first
bounds-job-first c = c.requires c.loop-i.i c.loop-i-test.true

pub wide-requires : goal.wide-requires
wide-requires c = tt

pub returns-then-wide-state : goal.returns-then-wide-state
returns-then-wide-state c =
    let a = c.args in
    sym (all_failed (elsewhere a.job.now a.first a.state) a.count c.loop-i.i c.loop-i-test.true
    (rw (eq-eqb _ _ (sym c.wide.ensures.0 ∙ c.if-wide-state.true)) refl)) ∙ c.loop-i.invariant

pub loop-i-preserved : goal.loop-i-preserved
loop-i-preserved c =
    let a = c.args in
    sym (all_passed (elsewhere a.job.now a.first a.state) a.count c.loop-i.i c.loop-i-test.true
    (rw (ne_eqb _ _ (λ e. c.if-wide-state.false (c.wide.ensures.0 ∙ e))) refl)) ∙ c.loop-i.invariant

pub returns : goal.returns
returns c =
    let a = c.args in
    sym (all_done (elsewhere a.job.now a.first a.state) a.count c.loop-i.i (omega arith)) ∙ c.loop-i.invariant
