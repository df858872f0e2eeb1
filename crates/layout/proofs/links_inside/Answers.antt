-- Test after test: room for the variables, at most 12 cells, and all bytes there.
use Rattle.std.proofs.Common.{◌∙◌, arith}
use borrow.Author.Tests.{lt-leb}
use Rattle.layout.proofs.Whole.{not_inside, inside_left}
use Rattle.layout.proofs.links_inside.Goals as goal

pub returns-then-variables-gt9 : goal.returns-then-variables-gt9
returns-then-variables-gt9 c = not_inside _ _ _ (λ w. omega (arith, w.variables_most))

pub returns-in_default : goal.returns-in_default
returns-in_default c = not_inside _ _ _ (λ w. omega (arith, w.inside, c.in_default.ensures))

pub returns-in_default-checked_sub : goal.returns-in_default-checked_sub
returns-in_default-checked_sub c = not_inside _ _ _ (λ w. omega (arith, w.inside, c.in-Some.ensures, c.in_default-checked_sub.ensures))

pub returns-then-n-le12 : goal.returns-then-n-le12
returns-then-n-le12 c =
    rw c.wide-n.ensures.0
    (inside_left _ _ _ c.in-Some-checked_sub.left (omega arith) (omega (arith, c.wide-n.ensures.0)) (omega (arith, c.in-Some.ensures, c.in-Some-checked_sub.ensures)))

pub returns-else-n-le12 : goal.returns-else-n-le12
returns-else-n-le12 c = lt-leb c.wide-n.result 12 (omega arith) ∙ not_inside _ _ _ (λ w. omega (arith, w.cells, c.wide-n.ensures.0))
