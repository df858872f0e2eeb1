-- The loop: the members before the i-th pass the test.
use Rattle.std.proofs.Common.{sym, arith}
use Rattle.reader.proofs.Answers.{handed}
use Rattle.reader.proofs.Testing.{next_member, test_lost, test_more, test_all}
use Rattle.reader.proofs.start.test_members.Goals as goal

pub test_member-requires : goal.test_member-requires
test_member-requires c =
    let l = c.loop-i in
    let n = next_member c.args.cert.now c.args.variables c.args.states c.args.start c.args.first c.args.count l.at l._i l.invariant (omega arith) in
    (n.located, n.mid, n.read)

pub returns-in_err-at : goal.returns-in_err-at
returns-in_err-at c =
    let l = c.loop-i in
    let n = next_member c.args.cert.now c.args.variables c.args.states c.args.start c.args.first c.args.count l.at l._i l.invariant (omega arith) in
    handed _ _ c.from_residual.ensures.1 (test_lost c.args.cert.now c.args.variables c.args.states c.args.start c.args.first c.args.count l.at l._i l.invariant n _ _ (sym (c.in_err-at.ensures n.located n.mid n.read)))

pub loop-i-preserved : goal.loop-i-preserved
loop-i-preserved c =
    let l = c.loop-i in
    let n = next_member c.args.cert.now c.args.variables c.args.states c.args.start c.args.first c.args.count l.at l._i l.invariant (omega arith) in
    test_more c.args.cert.now c.args.variables c.args.states c.args.start c.args.first c.args.count l.at l._i l.invariant n _ (omega arith) (sym (c.in_ok-at.ensures n.located n.mid n.read))

pub returns : goal.returns
returns c = let l = c.loop-i in test_all c.args.cert.now c.args.variables c.args.states c.args.start c.args.first c.args.count l.at l._i l.invariant (omega arith)
