-- The loop looks at the first job's forbidden shapes one after the other.
use mathlib.Core.Path.{◌≡◌, refl, sym, ap, ◌∙◌}
use mathlib.Core.List.{List}
use Prim.Native.Nat.{◌-◌}
use native.Mathlib.Omega.{arith}
use Rattle.run.specs.Run.{Located}
use Rattle.layout.specs.Entries.{located_at}
use Rattle.layout.proofs.Whole.{end_whole, end_stands, entry_whole}
use Rattle.checker.proofs.Lists.{entries_next, entry_next, entries_end}
use Rattle.joint.specs.Answer.{listed_among}
use Rattle.joint.proofs.Shapes.{listed_here, listed_later}
use Rattle.joint.proofs.is_listed.Goals as goal

pub loop-i-init : goal.loop-i-init
loop-i-init c = let all : c.args.bads - 0 ≡ c.args.bads = omega arith in (rw all c.requires.0, rw all refl)

pub forbids-requires : goal.forbids-requires
forbids-requires c =
    let a = c.args in
    ((entry_next a.bads c.loop-i._i c.loop-i-test.true a.job.now a.variables c.loop-i.at c.loop-i.invariant.0).0, c.requires.1, c.requires.2)

pub returns-then-forbids : goal.returns-then-forbids
returns-then-forbids c =
    let a = c.args in
    let l = c.loop-i in
    listed_here a.state (located_at a.cert.now a.variables a.member).shape (located_at a.job.now a.variables l.at) _ (sym c.forbids.ensures ∙ c.if-forbids.true)
    ∙ (rw (entries_next a.bads l._i c.loop-i-test.true a.job.now a.variables l.at) at l.invariant.1)

pub unwrap-at-requires : goal.unwrap-at-requires
unwrap-at-requires c =
    let a = c.args in
    let l = c.loop-i in
    let (here, _) = entry_next a.bads l._i c.loop-i-test.true a.job.now a.variables l.at l.invariant.0 in
    end_stands _ _ _ _ c.entry_end.ensures (entry_whole a.job.now a.variables l.at here c.requires.2)

pub loop-i-preserved : goal.loop-i-preserved
loop-i-preserved c =
    let a = c.args in
    let l = c.loop-i in
    let (here, after) = entry_next a.bads l._i c.loop-i-test.true a.job.now a.variables l.at l.invariant.0 in
    let (_, next) = end_whole a.job.now a.variables l.at _ (sym c.unwrap-at.ensures ∙ c.entry_end.ensures) in
    let passed = listed_later a.state (located_at a.cert.now a.variables a.member).shape (located_at a.job.now a.variables l.at) _ (sym c.forbids.ensures ∙ c.if-forbids.false) in
    rw next (after, passed ∙ (rw (entries_next a.bads l._i c.loop-i-test.true a.job.now a.variables l.at) at l.invariant.1))

pub returns : goal.returns
returns c =
    let a = c.args in
    let none = entries_end a.bads c.loop-i._i (omega arith) a.job.now a.variables c.loop-i.at in
    ap (λ (bads : List Located). listed_among a.state bads (located_at a.cert.now a.variables a.member).shape) (sym none) ∙ c.loop-i.invariant.1
