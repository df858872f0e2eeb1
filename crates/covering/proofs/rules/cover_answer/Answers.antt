-- Each return is the answer that the rules before it leave.
use mathlib.Core.Path.{◌∙◌, sym}
use native.Mathlib.Omega.{arith}
use Rattle.lists.proofs.Lowest.{found_within}
use Rattle.factrows.specs.Rows.{rows_test}
use Rattle.layout.specs.ShapeArray.{shape_in}
use Rattle.covering.proofs.Found.{found_below}
use Rattle.covering.proofs.Whole.{answer_state, images_in_lem, linking_read, marks_cells, image_found, variable_found, path_found, fact_found, nothing_found, links_told, first_failing}
use Rattle.covering.proofs.rules.cover_answer.Goals as goal

pub returns-then-cert-start : goal.returns-then-cert-start
returns-then-cert-start c = record { answer = answer_state _ _ _ _ _ c.requires (rows_test c.args.facts.now) _ c.if-cert-start.true; links = tt }

pub mark_images-requires : goal.mark_images-requires
mark_images-requires c = images_in_lem _ _ _ _ _ c.requires _ c.wide-cells.ensures.0

pub image_twice-twice-requires : goal.image_twice-twice-requires
image_twice-twice-requires c = images_in_lem _ _ _ _ _ c.requires _ c.wide-cells.ensures.0

pub overflow_cast-result : goal.overflow_cast-result
overflow_cast-result c = omega (arith, c.wide-cells.ensures.0, c.requires.images.few, found_within _ _ _ c.image_twice-twice.ensures)

pub returns-then-not-mark_images : goal.returns-then-not-mark_images
returns-then-not-mark_images c =
    record {
      answer = image_found _ _ _ _ _ c.requires _ c.wide-cells.ensures.0 (rows_test c.args.facts.now) _ c.if-cert-start.false _
          (sym c.mark_images.ensures.0 ∙ c.if-not-mark_images.true) c.image_twice-twice.ensures;
      links = tt;
    }

pub overflow_add-result : goal.overflow_add-result
overflow_add-result c = omega (arith, c.requires.whole.variables_most, found_below _ _ _ (sym c.in-Some.ensures))

pub overflow_cast-result-in-Some : goal.overflow_cast-result-in-Some
overflow_cast-result-in-Some c = omega (arith, c.requires.whole.variables_most, found_below _ _ _ (sym c.in-Some.ensures))

pub returns-in-Some-clause-answer : goal.returns-in-Some-clause-answer
returns-in-Some-clause-answer c =
    variable_found _ _ _ _ _ c.requires _ c.wide-cells.ensures.0 (rows_test c.args.facts.now) _ c.if-cert-start.false
    (sym c.mark_images.ensures.0 ∙ c.if-not-mark_images.false) _ (sym c.in-Some.ensures)

pub follow_paths-requires : goal.follow_paths-requires
follow_paths-requires c = (_, _, linking_read _ _ _ _ _ c.requires _ c.wide-cells.ensures.0 _ c.mark_images.ensures.1)

pub broken_path-requires : goal.broken_path-requires
broken_path-requires c =
    let read = c.wide-cells.ensures.0 in
    let failing = first_failing _ _ _ _ _ c.requires _ read _ (c.in-Err.ensures _ _ (linking_read _ _ _ _ _ c.requires _ read _ c.mark_images.ensures.1)) in
    (c.requires, marks_cells _ _ _ _ _ c.requires _ read _ c.mark_images.ensures.1, found_below _ _ _ failing, failing)

pub returns-in-Err-clause-answer : goal.returns-in-Err-clause-answer
returns-in-Err-clause-answer c =
    path_found _ _ _ _ _ c.requires _ c.wide-cells.ensures.0 (rows_test c.args.facts.now) _ c.if-cert-start.false
    (sym c.mark_images.ensures.0 ∙ c.if-not-mark_images.false) (sym c.in_default.ensures) _ c.broken_path.ensures

pub fact_missing-requires : goal.fact_missing-requires
fact_missing-requires c = (c.requires.whole, (25, images_in_lem _ _ _ _ _ c.requires _ c.wide-cells.ensures.0))

pub overflow_cast-result-in-Some-fact_missing : goal.overflow_cast-result-in-Some-fact_missing
overflow_cast-result-in-Some-fact_missing c =
    omega (arith, c.wide-cells.ensures.0, c.requires.images.few, found_below _ _ _ (sym (c.in-Some-fact_missing.ensures (shape_in c.args.variables c.args.s.now))))

pub returns-in-Some-fact_missing-clause-answer : goal.returns-in-Some-fact_missing-clause-answer
returns-in-Some-fact_missing-clause-answer c =
    let read = c.wide-cells.ensures.0 in
    fact_found _ _ _ _ _ c.requires _ read (rows_test c.args.facts.now) _ c.if-cert-start.false (sym c.mark_images.ensures.0 ∙ c.if-not-mark_images.false)
    (sym c.in_default.ensures) _ (c.in-Ok.ensures _ _ (linking_read _ _ _ _ _ c.requires _ read _ c.mark_images.ensures.1)) _
    (sym (c.in-Some-fact_missing.ensures (shape_in c.args.variables c.args.s.now)))

pub returns-in-None : goal.returns-in-None
returns-in-None c =
    let read = c.wide-cells.ensures.0 in
    let paths = c.in-Ok.ensures _ _ (linking_read _ _ _ _ _ c.requires _ read _ c.mark_images.ensures.1) in
    record {
      answer = nothing_found _ _ _ _ _ c.requires _ read (rows_test c.args.facts.now) _ c.if-cert-start.false
          (sym c.mark_images.ensures.0 ∙ c.if-not-mark_images.false) (sym c.in_default.ensures) _ paths
          (sym (c.in-None.ensures (shape_in c.args.variables c.args.s.now)));
      links = links_told _ _ _ _ _ c.requires _ read _ paths;
    }
