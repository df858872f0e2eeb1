-- 24, 25, 26 and 27 in turn.
use mathlib.Core.Path.{sym, ap, subst, ◌∙◌}
use Prim.Native.Nat.{ℕ}
use native.Mathlib.Omega.{arith}
use Rattle.lists.specs.List.{all_of}
use Rattle.layout.specs.Entries.{members_at, entries_at, Table}
use Rattle.joint.specs.Answer.{is_settled}
use Rattle.joint.proofs.Refusals.{told_24, told_25, told_26, told_27, told_none}
use Rattle.joint.proofs.check_joint.Goals as goal

pub returns-then-h-state : goal.returns-then-h-state
returns-then-h-state c job2 = let a = c.args in told_24 a.job.now a.h a.second a.state _ job2 c.if-h-state.true

pub returns-then-h-second : goal.returns-then-h-second
returns-then-h-second c job2 = let a = c.args in told_25 a.job.now a.h a.second a.state _ job2 (omega arith) c.if-h-second.true

pub ends-requires : goal.ends-requires
ends-requires c = λ i b. omega (arith, (c.requires.0.transitions i b).inside)

pub returns-then-not-ends : goal.returns-then-not-ends
returns-then-not-ends c job2 =
    let a = c.args in
    told_26 a.job.now a.h a.second a.state _ job2 (omega arith) c.if-h-second.false _ c.ends.ensures c.if-not-ends.true

pub owed_listed-requires : goal.owed_listed-requires
owed_listed-requires c =
    (c.requires.0.bads, subst (λ (n : ℕ). Table c.args.cert.now n c.args.starts.now) (sym c.if-h-second.false) c.requires.1)

pub returns-then-not-owed_listed : goal.returns-then-not-owed_listed
returns-then-not-owed_listed c job2 =
    let a = c.args in
    told_27 a.job.now a.h a.second a.state _ job2 (omega arith) c.if-h-second.false _ c.ends.ensures c.if-not-ends.false _
    (c.owed_listed.ensures
    ∙ ap (λ (n : ℕ). all_of (is_settled a.state (entries_at a.job.now a.h.variables a.h.bads_at a.h.bads) a.second.start) (members_at a.cert.now n a.starts.now)) c.if-h-second.false) c.if-not-owed_listed.true

pub returns : goal.returns
returns c job2 =
    let a = c.args in
    told_none a.job.now a.h a.second a.state _ job2 (omega arith) c.if-h-second.false _ c.ends.ensures c.if-not-ends.false _
    (c.owed_listed.ensures
    ∙ ap (λ (n : ℕ). all_of (is_settled a.state (entries_at a.job.now a.h.variables a.h.bads_at a.h.bads) a.second.start) (members_at a.cert.now n a.starts.now)) c.if-h-second.false) c.if-not-owed_listed.false
