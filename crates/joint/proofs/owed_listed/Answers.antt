-- The loop looks at the members of the second one after the other.
use mathlib.Core.Path.{◌≡◌, refl, sym, ◌∙◌}
use Prim.Native.Nat.{◌-◌}
use native.Mathlib.Omega.{arith}
use lib.ListN.{length}
use Rattle.lists.proofs.Test.{all_mapped, all_passed, all_failed, all_done}
use Rattle.layout.specs.Entries.{located_at, entries_at}
use Rattle.joint.specs.Answer.{is_settled}
use Rattle.joint.proofs.owed_listed.Invariants.{settled_at}
use Rattle.joint.proofs.owed_listed.Goals as goal

pub loop-member-init : goal.loop-member-init
loop-member-init c =
    let n = length c.args.starts.now in
    let all : n - 0 ≡ n = omega arith in
    rw all refl

pub is_settled-requires : goal.is_settled-requires
is_settled-requires c = (c.requires.0, c.requires.1.entry c.loop-member.member-index c.loop-member-test.true, c.requires.1.variables_most)

pub returns-then-not-is_settled : goal.returns-then-not-is_settled
returns-then-not-is_settled c =
    let a = c.args in
    sym (all_failed (settled_at a.job.now a.h a.state a.cert.now a.starts.now a.start) (length a.starts.now) c.loop-member.member-index c.loop-member-test.true
    (sym c.is_settled.ensures ∙ c.if-not-is_settled.true))
    ∙ c.loop-member.invariant
    ∙ all_mapped (is_settled a.state (entries_at a.job.now a.h.variables a.h.bads_at a.h.bads) a.start) (located_at a.cert.now a.h.variables) a.starts.now

pub loop-member-preserved : goal.loop-member-preserved
loop-member-preserved c =
    let a = c.args in
    sym (all_passed (settled_at a.job.now a.h a.state a.cert.now a.starts.now a.start) (length a.starts.now) c.loop-member.member-index c.loop-member-test.true
    (sym c.is_settled.ensures ∙ c.if-not-is_settled.false))
    ∙ c.loop-member.invariant

pub returns : goal.returns
returns c =
    let a = c.args in
    sym (all_done (settled_at a.job.now a.h a.state a.cert.now a.starts.now a.start) (length a.starts.now) c.loop-member.member-index (omega arith))
    ∙ c.loop-member.invariant
    ∙ all_mapped (is_settled a.state (entries_at a.job.now a.h.variables a.h.bads_at a.h.bads) a.start) (located_at a.cert.now a.h.variables) a.starts.now
