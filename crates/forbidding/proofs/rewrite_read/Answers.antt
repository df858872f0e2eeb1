-- Test after test in the order of the rules; where all pass, the bytes filled are those of the rewritten job.
use mathlib.Core.Path.{sym, ap, ◌∙◌}
use Prim.Native.Nat.{◌+◌}
use native.Mathlib.Omega.{arith}
use lib.ListN.{length}
use Rattle.lists.proofs.Reflect.{passes}
use Rattle.number.proofs.RoundTrip.{bytes_at_most}
use Rattle.forbidden.proofs.Written.{r_inside, rewrites_none, rewrites_all}
use Rattle.forbidding.specs.Answers.{set_of, count_bytes}
use Rattle.forbidding.proofs.Answers.{product_small, cells_few, fitting_job, outside, too_many, too_short, filled, needed_is, room_for}
use Rattle.putting.proofs.Putting.{put_first}
use Rattle.forbidding.proofs.rewrite_read.Goals as goal

pub returns-then-not-is_inside : goal.returns-then-not-is_inside
returns-then-not-is_inside c =
    let a = c.args in
    let job = a.job.now in
    let set = set_of a.asked in
    let room = length a.bytes.now in
    let (r, some, most) = c.requires in
    rewrites_none job set _ 16 0 (omega arith)
    (fitting_job job set room some most ∙ outside job a.h r set room (sym c.is_inside.ensures ∙ c.if-not-is_inside.true))

pub returns-then-count-gt64 : goal.returns-then-count-gt64
returns-then-count-gt64 c =
    let a = c.args in
    let job = a.job.now in
    let set = set_of a.asked in
    let room = length a.bytes.now in
    let (r, some, most) = c.requires in
    let inside = sym c.is_inside.ensures ∙ c.if-not-is_inside.false in
    rewrites_none job set _ 31 0 (omega arith)
    (fitting_job job set room some most ∙ too_many job a.h r set room inside (omega (arith, c.shapes_of-shapes.ensures.0, c.if-count-gt64.true)))

pub overflow_add-entry-2 : goal.overflow_add-entry-2
overflow_add-entry-2 c = omega (arith, c.requires.0.variables.1, c.count_bytes.ensures.1)

pub overflow_mul-needed : goal.overflow_mul-needed
overflow_mul-needed c =
    let entry = 2 + c.args.h.variables + c.count_bytes.result in
    omega (arith, product_small c.shapes_of-shapes.result entry (omega arith) (omega (arith, c.requires.0.variables.1, c.count_bytes.ensures.1)))

pub overflow_add-needed : goal.overflow_add-needed
overflow_add-needed c =
    let entry = 2 + c.args.h.variables + c.count_bytes.result in
    omega (arith, product_small c.shapes_of-shapes.result entry (omega arith) (omega (arith, c.requires.0.variables.1, c.count_bytes.ensures.1)), c.requires.2)

pub overflow_add-needed-2 : goal.overflow_add-needed-2
overflow_add-needed-2 c =
    let entry = 2 + c.args.h.variables + c.count_bytes.result in
    omega (
      arith,
      product_small c.shapes_of-shapes.result entry (omega arith) (omega (arith, c.requires.0.variables.1, c.count_bytes.ensures.1)),
      c.requires.2,
      cells_few c.args.asked,
      c.cells_of.ensures,
    )

pub returns-then-bytes-needed : goal.returns-then-bytes-needed
returns-then-bytes-needed c =
    let a = c.args in
    let job = a.job.now in
    let set = set_of a.asked in
    let room = length a.bytes.now in
    let (r, some, most) = c.requires in
    let inside = sym c.is_inside.ensures ∙ c.if-not-is_inside.false in
    let bytes = bytes_at_most job (λ i. omega (arith, c.type_inv.job i)) in
    let shapes = c.shapes_of-shapes in
    let entry_is = ap (λ k. 2 + a.h.variables + k) (c.count_bytes.ensures.0 ∙ ap count_bytes c.version_of.ensures) in
    rewrites_none job set _ 12 _ (omega arith)
    (fitting_job job set room some most ∙ too_short job a.h r set room inside bytes shapes.result shapes.ensures.0 c.if-count-gt64.false _ entry_is c.cells_of.result c.cells_of.ensures c.if-bytes-needed.true)

pub fill-requires : goal.fill-requires
fill-requires c =
    let a = c.args in
    let job = a.job.now in
    let set = set_of a.asked in
    let r = c.requires.0 in
    let inside = sym c.is_inside.ensures ∙ c.if-not-is_inside.false in
    let bytes = bytes_at_most job (λ i. omega (arith, c.type_inv.job i)) in
    let shapes = c.shapes_of-shapes in
    let entry_is = ap (λ k. 2 + a.h.variables + k) (c.count_bytes.ensures.0 ∙ ap count_bytes c.version_of.ensures) in (
      r,
      (r_inside set a.h.variables a.h.states).holds (passes _ inside),
      c.if-count-gt64.false,
      room_for job a.h r set (length a.bytes.now) inside bytes shapes.result shapes.ensures.0 c.if-count-gt64.false _ entry_is c.cells_of.result c.cells_of.ensures c.if-bytes-needed.false,
    )

pub returns : goal.returns
returns c =
    let a = c.args in
    let job = a.job.now in
    let set = set_of a.asked in
    let room = length a.bytes.now in
    let (r, some, most) = c.requires in
    let inside = sym c.is_inside.ensures ∙ c.if-not-is_inside.false in
    let bytes = bytes_at_most job (λ i. omega (arith, c.type_inv.job i)) in
    let shapes = c.shapes_of-shapes in
    let cells = c.cells_of in
    let entry_is = ap (λ k. 2 + a.h.variables + k) (c.count_bytes.ensures.0 ∙ ap count_bytes c.version_of.ensures) in
    let few = c.if-count-gt64.false in
    rewrites_all job set _ _ _ _
    (fitting_job job set room some most ∙ filled job a.h r set room inside bytes shapes.result shapes.ensures.0 few _ entry_is cells.result cells.ensures c.if-bytes-needed.false)
    (needed_is job a.h r set room inside bytes shapes.result shapes.ensures.0 few _ entry_is cells.result cells.ensures)
    (put_first c.fill.ensures)
