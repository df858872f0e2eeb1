-- The second pair's verdict; where it is accepted, 24 to 27.
use mathlib.Core.Option.{Option}
use Prim.Native.Nat.{ℕ}
use native.Mathlib.Omega.{arith}
use mathlib.Core.Path.{refl, sym, ap, ◌∙◌}
use lib.Seq.{length-take-le}
use Rattle.std.proofs.lemmas.Result.{err_from_is_err_and}
use Rattle.checker.specs.Pairs.{pair_of}
use Rattle.checker.proofs.Verdicts.{bounds}
use Rattle.format.specs.Parser.{parsed}
use Rattle.format.specs.Verdict.{Verdict}
use Rattle.joining.specs.Join.{read_joint, after_pairs, after_second}
use Rattle.verdict.specs.Verdict.{counts_told}
use Rattle.joint.proofs.Reading.{joint_read}
use Rattle.joint.proofs.join_second.Goals as goal

pub slice_bounds-all-end : goal.slice_bounds-all-end
slice_bounds-all-end c =
    let (_, (_, m)) = c.in-Ok.ensures.kept in
    sym m.size

pub slice_bounds-check_joint-end : goal.slice_bounds-check_joint-end
slice_bounds-check_joint-end c =
    let (_, (_, m)) = c.in-Ok.ensures.kept in
    sym (length-take-le _ _ (omega (arith, m.size, m.number_range.1)))

pub check_joint-requires : goal.check_joint-requires
check_joint-requires c =
    let (d, (_, m)) = c.in-Ok.ensures.kept in
    let short = ((c.check_pair.ensures.accepted (counts_told c.in-Ok.pair.counts)).0 (ap pair_of c.in-Ok.is)).certificate_length.1 in
    (c.requires, m.table_is (bounds c.args.job2.now c.args.cert2.now _ d short))

pub returns-in-Err : goal.returns-in-Err
returns-in-Err c = rw (← c.check_pair.ensures.exact, c.in-Err.is) refl

pub returns-in_ok-check_joint-in-Ok : goal.returns-in_ok-check_joint-in-Ok
returns-in_ok-check_joint-in-Ok c =
    let a = c.args in
    let b = counts_told c.in-Ok.pair.counts in
    let (d, m) = c.in-Ok.ensures.kept in
    let short = ((c.check_pair.ensures.accepted b).0 (ap pair_of c.in-Ok.is)).certificate_length.1 in
    let (at, is) = joint_read a.job1.now a.job2.now a.cert2.now a.state a.first c.requires c.in-Ok.pair.header d c.in-Ok.pair.counts.members _ short m in
    ap (λ (r : Option ℕ). after_pairs (counts_told a.a) b (parsed r at)) (c.in_ok-check_joint-in-Ok.ensures a.job2.now)
    ∙ ap (after_pairs (counts_told a.a) b) (sym is)
    ∙ ap (λ (w : Verdict). after_second (counts_told a.a) w (read_joint a.job1.now a.job2.now a.cert2.now a.state)) (sym (ap pair_of c.in-Ok.is) ∙ c.check_pair.ensures.exact)

pub returns-in_err-check_joint-in-Ok : goal.returns-in_err-check_joint-in-Ok
returns-in_err-check_joint-in-Ok c =
    let a = c.args in
    let b = counts_told c.in-Ok.pair.counts in
    let (d, m) = c.in-Ok.ensures.kept in
    let short = ((c.check_pair.ensures.accepted b).0 (ap pair_of c.in-Ok.is)).certificate_length.1 in
    let (at, is) = joint_read a.job1.now a.job2.now a.cert2.now a.state a.first c.requires c.in-Ok.pair.header d c.in-Ok.pair.counts.members _ short m in
    let p = err_from_is_err_and c.from_residual.result c.from_residual.ensures.1 in
    rw (p.1, p.2)
    (ap (λ (r : Option ℕ). after_pairs (counts_told a.a) b (parsed r at)) (c.in_err-check_joint-in-Ok.ensures a.job2.now)
    ∙ ap (after_pairs (counts_told a.a) b) (sym is)
    ∙ ap (λ (w : Verdict). after_second (counts_told a.a) w (read_joint a.job1.now a.job2.now a.cert2.now a.state)) (sym (ap pair_of c.in-Ok.is) ∙ c.check_pair.ensures.exact))
