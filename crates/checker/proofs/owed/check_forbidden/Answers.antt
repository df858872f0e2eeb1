-- The loop: the covers of the forbidden shapes before the i-th are checked.
use mathlib.Core.List.{[], ◌∷◌}
use mathlib.Core.Path.{◌≡◌, ◌∙◌, sym}
use Prim.Native.Nat.{◌-◌}
use native.Mathlib.Omega.{arith}
use Rattle.std.proofs.lemmas.Result.{err_from_is_err_and}
use Rattle.layout.specs.Entries.{located_at}
use Rattle.layout.specs.Members.{members_from}
use Rattle.layout.proofs.Whole.{end_whole, end_stands, entry_whole}
use Rattle.checker.specs.Checking.{ChecksAll}
use Rattle.checker.proofs.Checking.{begin, advance, halt, finish}
use Rattle.checker.proofs.Entry.{entry_stands}
use Rattle.checker.proofs.Lists.{entries_next, entry_next, entries_end}
use Rattle.checker.proofs.Rowed.{checks_stand}
use Rattle.checker.proofs.owed.check_forbidden.Goals as goal

pub loop-i-init : goal.loop-i-init
loop-i-init c = let all : c.args.bads - 0 ≡ c.args.bads = omega arith in (rw all c.requires.0, rw all (begin c.requires.2))

pub bounds-job-at : goal.bounds-job-at
bounds-job-at c =
    let a = c.args in
    omega (arith, (entry_next a.bads c.loop-i._i c.loop-i-test.true a.job.now a.variables c.loop-i.at c.loop-i.invariant.0).0.inside)

pub check_cover-requires : goal.check_cover-requires
check_cover-requires c = c.loop-i.invariant.1.within

pub returns-in_err-t : goal.returns-in_err-t
returns-in_err-t c =
    let a = c.args in
    let l = c.loop-i in
    let (here, after) = entry_next a.bads l._i c.loop-i-test.true a.job.now a.variables l.at l.invariant.0 in
    let owing = rw (entries_next a.bads l._i c.loop-i-test.true a.job.now a.variables l.at) at l.invariant.1 in
    let stands = entry_stands a.job.now a.variables l.at here c.requires.1 _ _ c.load_shape.ensures c.load_rows.ensures in
    let taken : ChecksAll a.cert.now (members_from a.cert.now a.variables a.starts.now) (located_at a.job.now a.variables l.at ∷ []) l.t c.check_cover.result =
    checks_stand a.cert.now (members_from a.cert.now a.variables a.starts.now) _ (_ ∷ []) (_ ∷ []) (stands, tt) l.t c.check_cover.result c.check_cover.ensures in
    let p = err_from_is_err_and c.from_residual.result c.from_residual.ensures.1 in
    rw (p.1, p.2) (halt (_ ∷ []) _ owing taken c.in_err-t.was)

pub unwrap-at-requires : goal.unwrap-at-requires
unwrap-at-requires c =
    let a = c.args in
    let l = c.loop-i in
    let (here, _) = entry_next a.bads l._i c.loop-i-test.true a.job.now a.variables l.at l.invariant.0 in
    end_stands _ _ _ _ c.entry_end.ensures (entry_whole a.job.now a.variables l.at here c.requires.1)

pub loop-i-preserved : goal.loop-i-preserved
loop-i-preserved c =
    let a = c.args in
    let l = c.loop-i in
    let (here, after) = entry_next a.bads l._i c.loop-i-test.true a.job.now a.variables l.at l.invariant.0 in
    let owing = rw (entries_next a.bads l._i c.loop-i-test.true a.job.now a.variables l.at) at l.invariant.1 in
    let stands = entry_stands a.job.now a.variables l.at here c.requires.1 _ _ c.load_shape.ensures c.load_rows.ensures in
    let taken : ChecksAll a.cert.now (members_from a.cert.now a.variables a.starts.now) (located_at a.job.now a.variables l.at ∷ []) l.t c.check_cover.result =
    checks_stand a.cert.now (members_from a.cert.now a.variables a.starts.now) _ (_ ∷ []) (_ ∷ []) (stands, tt) l.t c.check_cover.result c.check_cover.ensures in
    let (_, next) = end_whole a.job.now a.variables l.at _ (sym c.unwrap-at.ensures ∙ c.entry_end.ensures) in
    rw next (after, advance (_ ∷ []) _ owing taken c.in_ok-t.was)

pub returns : goal.returns
returns c =
    let a = c.args in
    finish (rw (entries_end a.bads c.loop-i._i (omega arith) a.job.now a.variables c.loop-i.at) at c.loop-i.invariant.1)
