-- The loop, as that of check_first_choices.
use mathlib.Core.Bool.{true}
use mathlib.Core.Path.{◌≡◌, ◌∙◌, sym}
use Prim.Native.Nat.{◌+◌, ◌<◌}
use native.Mathlib.Omega.{arith}
use Rattle.std.proofs.lemmas.Result.{err_from_is_err_and}
use Rattle.layout.specs.ShapeArray.{cell_count, links_in}
use Rattle.layout.specs.Members.{members_from}
use Rattle.placing.specs.Wanted.{fits_in}
use Rattle.placing.proofs.Ranges.{step_most}
use Rattle.shapes.specs.Operands.{wanted_first_in}
use Rattle.shapes.proofs.Steps.{first_some, first_placed}
use Rattle.checker.specs.Checking.{Checks}
use Rattle.checker.proofs.Given.{first_given, first_tried, first_all, first_nothing}
use Rattle.checker.proofs.ChoiceLoop.{loop_none, loop_past, loop_more, loop_stop, loop_all}
use Rattle.checker.proofs.quickly.check_first_quickly.Goals as goal

pub wanted_of_first-wanted-requires : goal.wanted_of_first-wanted-requires
wanted_of_first-wanted-requires c = let o = c.requires.0.operands in (omega arith, omega arith)

pub loop-k-init : goal.loop-k-init
loop-k-init c =
    let a = c.args in
    let cov = first_tried a.variables a.by a.s.now a.facts.now c.requires.0 c.wanted_of_first-wanted.ensures c.choices_of-c.ensures in
    loop_none cov c.requires.2

pub overflow_cast-j : goal.overflow_cast-j
overflow_cast-j c =
    let a = c.args in
    let cov = first_tried a.variables a.by a.s.now a.facts.now c.requires.0 c.wanted_of_first-wanted.ensures c.choices_of-c.ensures in
    omega (arith, cov.most, c.requires.0.cells)

pub overflow_add-k : goal.overflow_add-k
overflow_add-k c =
    let a = c.args in
    let cov = first_tried a.variables a.by a.s.now a.facts.now c.requires.0 c.wanted_of_first-wanted.ensures c.choices_of-c.ensures in
    omega (arith, step_most cov, cov.most, c.requires.0.cells)

pub is_wanted_in-requires : goal.is_wanted_in-requires
is_wanted_in-requires c = omega (arith, c.requires.0.cells)

pub place_first-requires : goal.place_first-requires
place_first-requires c =
    let a = c.args in
    let cov = first_tried a.variables a.by a.s.now a.facts.now c.requires.0 c.wanted_of_first-wanted.ensures c.choices_of-c.ensures in
    let h = c.requires.0 in
    (omega (arith, h.operands.a_most, h.operands.variables_most), omega (arith, h.operands.b_most, h.operands.variables_most), omega (arith, h.cells), omega (arith, cov.most, c.loop-k-test.true))

pub check_last_quickly-requires : goal.check_last_quickly-requires
check_last_quickly-requires c =
    let a = c.args in
    let cov = first_tried a.variables a.by a.s.now a.facts.now c.requires.0 c.wanted_of_first-wanted.ensures c.choices_of-c.ensures in
    let fits : fits_in (links_in a.s.now) (wanted_first_in a.by.a a.by.b a.s.now) c.loop-k.k ≡ true =
    rw (← c.wanted_of_first-wanted.ensures) (sym c.is_wanted_in.ensures ∙ c.if-is_wanted_in.true) in
    let past : c.loop-k.k < cell_count a.s.now + (2 + cell_count a.s.now) = omega (arith, cov.most, c.loop-k-test.true) in
    (rw c.place_first.ensures (first_placed c.requires.0 c.loop-k.k fits past), c.requires.1, c.loop-k.invariant.progress.within)

pub returns-in_err-t : goal.returns-in_err-t
returns-in_err-t c =
    let a = c.args in
    let cov = first_tried a.variables a.by a.s.now a.facts.now c.requires.0 c.wanted_of_first-wanted.ensures c.choices_of-c.ensures in
    let fits : fits_in (links_in a.s.now) (wanted_first_in a.by.a a.by.b a.s.now) c.loop-k.k ≡ true =
    rw (← c.wanted_of_first-wanted.ensures) (sym c.is_wanted_in.ensures ∙ c.if-is_wanted_in.true) in
    let past : c.loop-k.k < cell_count a.s.now + (2 + cell_count a.s.now) = omega (arith, cov.most, c.loop-k-test.true) in
    let taken : Checks a.cert.now (members_from a.cert.now a.variables a.starts.now) a.by.from (first_given a.variables a.by a.s.now a.facts.now c.loop-k.k) c.loop-k.t c.check_last_quickly.result =
    rw (first_some c.requires.0 c.loop-k.k fits past) (rw c.place_first.ensures at c.check_last_quickly.ensures) in
    let p = err_from_is_err_and c.from_residual.result c.from_residual.ensures.1 in
    rw (p.1, p.2) (loop_stop cov c.loop-k.invariant c.loop-k-test.true taken c.in_err-t.was (first_all a.variables a.by a.s.now a.facts.now c.requires.0))

-- a turn goes forward
pub loop-k-smaller-then-is_wanted_in : goal.loop-k-smaller-then-is_wanted_in
loop-k-smaller-then-is_wanted_in c =
    let a = c.args in
    let cov = first_tried a.variables a.by a.s.now a.facts.now c.requires.0 c.wanted_of_first-wanted.ensures c.choices_of-c.ensures in
    omega (arith, cov.forward, c.loop-k-test.true)

pub loop-k-preserved-then-is_wanted_in : goal.loop-k-preserved-then-is_wanted_in
loop-k-preserved-then-is_wanted_in c =
    let a = c.args in
    let cov = first_tried a.variables a.by a.s.now a.facts.now c.requires.0 c.wanted_of_first-wanted.ensures c.choices_of-c.ensures in
    let fits : fits_in (links_in a.s.now) (wanted_first_in a.by.a a.by.b a.s.now) c.loop-k.k ≡ true =
    rw (← c.wanted_of_first-wanted.ensures) (sym c.is_wanted_in.ensures ∙ c.if-is_wanted_in.true) in
    let past : c.loop-k.k < cell_count a.s.now + (2 + cell_count a.s.now) = omega (arith, cov.most, c.loop-k-test.true) in
    let taken : Checks a.cert.now (members_from a.cert.now a.variables a.starts.now) a.by.from (first_given a.variables a.by a.s.now a.facts.now c.loop-k.k) c.loop-k.t c.check_last_quickly.result =
    rw (first_some c.requires.0 c.loop-k.k fits past) (rw c.place_first.ensures at c.check_last_quickly.ensures) in
    loop_more cov c.loop-k.invariant c.loop-k-test.true taken c.in_ok-t.was

pub loop-k-smaller : goal.loop-k-smaller
loop-k-smaller c =
    let a = c.args in
    let cov = first_tried a.variables a.by a.s.now a.facts.now c.requires.0 c.wanted_of_first-wanted.ensures c.choices_of-c.ensures in
    omega (arith, cov.forward, c.loop-k-test.true)

-- a choice that is not wanted gives nothing
pub loop-k-preserved : goal.loop-k-preserved
loop-k-preserved c =
    let a = c.args in
    let cov = first_tried a.variables a.by a.s.now a.facts.now c.requires.0 c.wanted_of_first-wanted.ensures c.choices_of-c.ensures in
    loop_past cov c.loop-k.invariant c.loop-k-test.true
    (first_nothing a.variables a.by a.s.now a.facts.now c.requires.0 c.loop-k.k
    (rw (← c.wanted_of_first-wanted.ensures) (sym c.is_wanted_in.ensures ∙ c.if-is_wanted_in.false)))

pub returns : goal.returns
returns c =
    let a = c.args in
    let cov = first_tried a.variables a.by a.s.now a.facts.now c.requires.0 c.wanted_of_first-wanted.ensures c.choices_of-c.ensures in
    loop_all cov c.loop-k.invariant c.loop-k-test.false (first_all a.variables a.by a.s.now a.facts.now c.requires.0)
