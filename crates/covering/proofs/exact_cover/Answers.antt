-- Each return is the case of `read_cover_by` that the tests before it leave.
use Rattle.std.proofs.Common.{refl, arith}
use Rattle.std.proofs.lemmas.Result.{err_from_is_err_and}
use Rattle.factrows.specs.Rows.{rows_test}
use Rattle.layout.specs.ShapeArray.{shape_in}
use Rattle.covering.proofs.CoverCases.{left, take_broken, take_holding}
use Rattle.covering.proofs.exact_cover.Goals as goal

pub returns-in_err-read : goal.returns-in_err-read
returns-in_err-read c =
    let a = c.args in
    let p = err_from_is_err_and c.from_residual.result c.from_residual.ensures.1 in
    rw (p.1, p.2) (left _ _ _ _ _ (omega (arith, c.ranges.state)) (shape_in a.variables a.s.now) _ refl _ c.in_err-read.ensures (rows_test a.facts.now))

pub cover_answer-requires : goal.cover_answer-requires
cover_answer-requires c = record { whole = c.in_ok-read.ensures.whole; images = c.in_ok-read.ensures.images }

pub returns-in-Ok : goal.returns-in-Ok
returns-in-Ok c =
    let a = c.args in
    take_holding _ _ _ _ _ (omega (arith, c.ranges.state)) (shape_in a.variables a.s.now) _ refl _ c.in_ok-read.ensures (rows_test a.facts.now) _ refl _
    c.in-Ok.ensures.answer c.in-Ok.ensures.links

pub returns-in-Err : goal.returns-in-Err
returns-in-Err c =
    let a = c.args in
    take_broken _ _ _ _ _ (omega (arith, c.ranges.state)) (shape_in a.variables a.s.now) _ refl _ c.in_ok-read.ensures (rows_test a.facts.now) _ refl _
    c.in-Err.ensures.answer
