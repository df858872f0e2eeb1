-- 64 numbers are the codes, others stay.
use mathlib.Core.Path.{sym, ◌∙◌}
use Rattle.heapcodec.proofs.Codec.{values_left, values_written_lem}
use Rattle.heapcodec.proofs.write_values.Goals as goal

pub returns-then-values-eq-CELLS : goal.returns-then-values-eq-CELLS
returns-then-values-eq-CELLS c = c.copy_from_slice.ensures.after ∙ sym (values_written_lem c.args.codes c.args.values.now c.if-values-eq-CELLS.true)

pub returns-else-values-eq-CELLS : goal.returns-else-values-eq-CELLS
returns-else-values-eq-CELLS c = sym (values_left c.args.codes c.args.values.now c.if-values-eq-CELLS.false)
