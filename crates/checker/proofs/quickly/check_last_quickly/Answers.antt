-- The loop, as that of check_last_choices: a cover that the quick test leaves open is checked by the exact one.
use mathlib.Core.Bool.{true}
use mathlib.Core.Path.{◌≡◌, refl, ◌∙◌, sym}
use Prim.Native.Nat.{◌+◌, ◌<◌}
use native.Mathlib.Omega.{arith}
use Rattle.std.proofs.lemmas.Result.{err_from_is_err_and}
use Rattle.factrows.specs.Rows.{rows_test}
use Rattle.layout.specs.ShapeArray.{cell_count, links_in, shape_in}
use Rattle.layout.specs.Members.{members_from}
use Rattle.placing.specs.Wanted.{fits_in}
use Rattle.placing.proofs.Ranges.{step_most}
use Rattle.shapes.specs.Operands.{wanted_last_in}
use Rattle.undoing.specs.Rowed.{rowed}
use Rattle.checker.specs.Checking.{Checks}
use Rattle.std.specs.Prelude.{Ok}
use Rattle.checker.specs.declared.checked.Position.{Position}
use Rattle.checker.proofs.Checks.{counted_fits, one_taken}
use Rattle.checker.proofs.Given.{last_given, last_tried, last_all, last_nothing, last_left}
use Rattle.checker.proofs.ChoiceLoop.{loop_none, loop_past, loop_more, loop_stop, loop_all}
use Rattle.checker.proofs.quickly.check_last_quickly.Goals as goal

pub last_operand-operand-requires : goal.last_operand-operand-requires
last_operand-operand-requires c =
    let w = c.requires.0.work in
    omega (arith, w.operands.a_most, w.operands.variables_most)

pub wanted_of_last-wanted-requires : goal.wanted_of_last-wanted-requires
wanted_of_last-wanted-requires c =
    let w = c.requires.0.work in
    (omega (arith, w.operands.a_most, w.operands.variables_most), omega (arith, w.operands.b_most, w.operands.variables_most), omega (arith, w.cells))

pub loop-k-init : goal.loop-k-init
loop-k-init c =
    let a = c.args in
    let cov = last_tried a.variables a.by a.s.now a.facts.now c.requires.0 c.wanted_of_last-wanted.ensures c.choices_of-c.ensures in
    loop_none cov c.requires.2

pub overflow_cast-j : goal.overflow_cast-j
overflow_cast-j c =
    let a = c.args in
    let cov = last_tried a.variables a.by a.s.now a.facts.now c.requires.0 c.wanted_of_last-wanted.ensures c.choices_of-c.ensures in
    omega (arith, cov.most, c.requires.0.work.cells)

pub overflow_add-k : goal.overflow_add-k
overflow_add-k c =
    let a = c.args in
    let cov = last_tried a.variables a.by a.s.now a.facts.now c.requires.0 c.wanted_of_last-wanted.ensures c.choices_of-c.ensures in
    omega (arith, step_most cov, cov.most, c.requires.0.work.cells)

pub is_wanted_in-requires : goal.is_wanted_in-requires
is_wanted_in-requires c = omega (arith, c.requires.0.work.cells)

pub undo_choice-requires : goal.undo_choice-requires
undo_choice-requires c =
    let a = c.args in
    let cov = last_tried a.variables a.by a.s.now a.facts.now c.requires.0 c.wanted_of_last-wanted.ensures c.choices_of-c.ensures in
    let fits : fits_in (links_in a.s.now) (wanted_last_in a.by.kind a.by.a a.by.b a.s.now) c.loop-k.k ≡ true =
    rw (← c.wanted_of_last-wanted.ensures) (sym c.is_wanted_in.ensures ∙ c.if-is_wanted_in.true) in
    let past : c.loop-k.k < cell_count a.s.now + (2 + cell_count a.s.now) = omega (arith, cov.most, c.loop-k-test.true) in
    (c.requires.0, c.last_operand-operand.ensures, past, fits)

pub check_cover-requires : goal.check_cover-requires
check_cover-requires c = c.loop-k.invariant.progress.within

pub returns-in_err-t-in-None : goal.returns-in_err-t-in-None
returns-in_err-t-in-None c =
    let a = c.args in
    let cov = last_tried a.variables a.by a.s.now a.facts.now c.requires.0 c.wanted_of_last-wanted.ensures c.choices_of-c.ensures in
    let fits : fits_in (links_in a.s.now) (wanted_last_in a.by.kind a.by.a a.by.b a.s.now) c.loop-k.k ≡ true =
    rw (← c.wanted_of_last-wanted.ensures) (sym c.is_wanted_in.ensures ∙ c.if-is_wanted_in.true) in
    let gives = last_left a.variables a.by a.s.now a.facts.now c.requires.0 c.loop-k.k fits c.requires.1 _ (rw c.last_operand-operand.ensures at c.undo_choice.ensures) in
    let taken : Checks a.cert.now (members_from a.cert.now a.variables a.starts.now) a.by.from (last_given a.variables a.by a.s.now a.facts.now c.loop-k.k) c.loop-k.t c.check_cover.result =
    rw gives c.check_cover.ensures in
    let p = err_from_is_err_and c.from_residual.result c.from_residual.ensures.1 in
    rw (p.1, p.2) (loop_stop cov c.loop-k.invariant c.loop-k-test.true taken c.in_err-t-in-None.was (last_all a.variables a.by a.s.now a.facts.now c.requires.0))

-- a turn goes forward
pub loop-k-smaller-in_ok-t-in-None : goal.loop-k-smaller-in_ok-t-in-None
loop-k-smaller-in_ok-t-in-None c =
    let a = c.args in
    let cov = last_tried a.variables a.by a.s.now a.facts.now c.requires.0 c.wanted_of_last-wanted.ensures c.choices_of-c.ensures in
    omega (arith, cov.forward, c.loop-k-test.true)

pub loop-k-preserved-in_ok-t-in-None : goal.loop-k-preserved-in_ok-t-in-None
loop-k-preserved-in_ok-t-in-None c =
    let a = c.args in
    let cov = last_tried a.variables a.by a.s.now a.facts.now c.requires.0 c.wanted_of_last-wanted.ensures c.choices_of-c.ensures in
    let fits : fits_in (links_in a.s.now) (wanted_last_in a.by.kind a.by.a a.by.b a.s.now) c.loop-k.k ≡ true =
    rw (← c.wanted_of_last-wanted.ensures) (sym c.is_wanted_in.ensures ∙ c.if-is_wanted_in.true) in
    let gives = last_left a.variables a.by a.s.now a.facts.now c.requires.0 c.loop-k.k fits c.requires.1 _ (rw c.last_operand-operand.ensures at c.undo_choice.ensures) in
    let taken : Checks a.cert.now (members_from a.cert.now a.variables a.starts.now) a.by.from (last_given a.variables a.by a.s.now a.facts.now c.loop-k.k) c.loop-k.t c.check_cover.result =
    rw gives c.check_cover.ensures in
    loop_more cov c.loop-k.invariant c.loop-k-test.true taken c.in_ok-t-in-None.was

pub overflow_add-t-in-Some : goal.overflow_add-t-in-Some
overflow_add-t-in-Some c = omega (arith, counted_fits c.args.cert.now c.loop-k.t c.loop-k.invariant.progress.within)

pub loop-k-smaller-in-Some : goal.loop-k-smaller-in-Some
loop-k-smaller-in-Some c =
    let a = c.args in
    let cov = last_tried a.variables a.by a.s.now a.facts.now c.requires.0 c.wanted_of_last-wanted.ensures c.choices_of-c.ensures in
    omega (arith, cov.forward, c.loop-k-test.true)

pub loop-k-preserved-in-Some : goal.loop-k-preserved-in-Some
loop-k-preserved-in-Some c =
    let a = c.args in
    let cov = last_tried a.variables a.by a.s.now a.facts.now c.requires.0 c.wanted_of_last-wanted.ensures c.choices_of-c.ensures in
    let fits : fits_in (links_in a.s.now) (wanted_last_in a.by.kind a.by.a a.by.b a.s.now) c.loop-k.k ≡ true =
    rw (← c.wanted_of_last-wanted.ensures) (sym c.is_wanted_in.ensures ∙ c.if-is_wanted_in.true) in
    let gives = last_left a.variables a.by a.s.now a.facts.now c.requires.0 c.loop-k.k fits c.requires.1 _ (rw c.last_operand-operand.ensures at c.undo_choice.ensures) in
    let further : Position = record { at = c.in-Some.cover.next; counted = c.loop-k.t.counted + 4294967296 + c.in-Some.cover.links } in
    let taken : Checks a.cert.now (members_from a.cert.now a.variables a.starts.now) a.by.from (last_given a.variables a.by a.s.now a.facts.now c.loop-k.k) c.loop-k.t (Ok further) =
    rw gives
    (one_taken a.cert.now (members_from a.cert.now a.variables a.starts.now) a.by.from (rowed a.facts.now (shape_in a.variables c.undo_choice.new.s)) c.loop-k.t c.in-Some.cover.links c.in-Some.cover.next
    (sym (c.in-Some.ensures (rows_test a.facts.now))) c.loop-k.invariant.progress.within (omega arith)) in
    loop_more cov c.loop-k.invariant c.loop-k-test.true taken refl

pub loop-k-smaller : goal.loop-k-smaller
loop-k-smaller c =
    let a = c.args in
    let cov = last_tried a.variables a.by a.s.now a.facts.now c.requires.0 c.wanted_of_last-wanted.ensures c.choices_of-c.ensures in
    omega (arith, cov.forward, c.loop-k-test.true)

-- a choice that is not wanted gives nothing
pub loop-k-preserved : goal.loop-k-preserved
loop-k-preserved c =
    let a = c.args in
    let cov = last_tried a.variables a.by a.s.now a.facts.now c.requires.0 c.wanted_of_last-wanted.ensures c.choices_of-c.ensures in
    loop_past cov c.loop-k.invariant c.loop-k-test.true
    (last_nothing a.variables a.by a.s.now a.facts.now c.requires.0 c.loop-k.k
    (rw (← c.wanted_of_last-wanted.ensures) (sym c.is_wanted_in.ensures ∙ c.if-is_wanted_in.false)))

pub returns : goal.returns
returns c =
    let a = c.args in
    let cov = last_tried a.variables a.by a.s.now a.facts.now c.requires.0 c.wanted_of_last-wanted.ensures c.choices_of-c.ensures in
    loop_all cov c.loop-k.invariant c.loop-k-test.false (last_all a.variables a.by a.s.now a.facts.now c.requires.0)
