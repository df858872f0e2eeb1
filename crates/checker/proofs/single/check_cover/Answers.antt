-- What the exact test answers, with one cover more counted, and its links.
use native.Mathlib.Omega.{arith}
use Rattle.std.proofs.lemmas.Result.{err_from_is_err_and}
use Rattle.layout.specs.ShapeArray.{shape_in}
use Rattle.layout.specs.Members.{members_from}
use Rattle.undoing.specs.Rowed.{rowed}
use Rattle.checker.proofs.Checks.{counted_fits, one_taken, one_refused}
use Rattle.checker.proofs.single.check_cover.Goals as goal

pub overflow_add-result : goal.overflow_add-result
overflow_add-result c = omega (arith, counted_fits c.args.cert.now c.args.t c.requires)

pub overflow_add-result-2 : goal.overflow_add-result-2
overflow_add-result-2 c = omega (arith, counted_fits c.args.cert.now c.args.t c.requires)

pub returns-in_err-cover : goal.returns-in_err-cover
returns-in_err-cover c =
    let a = c.args in
    let p = err_from_is_err_and c.from_residual.result c.from_residual.ensures.1 in
    rw (p.1, p.2)
    (one_refused a.cert.now (members_from a.cert.now a.variables a.starts.now) a.state (rowed a.facts.now (shape_in a.variables a.s.now)) a.t c.in_err-cover.field-0.0 c.in_err-cover.ensures, tt)

pub returns : goal.returns
returns c =
    let a = c.args in
    one_taken a.cert.now (members_from a.cert.now a.variables a.starts.now) a.state (rowed a.facts.now (shape_in a.variables a.s.now)) a.t c.in_ok-cover.cover.links c.in_ok-cover.cover.next
    c.in_ok-cover.ensures c.requires (omega arith)
