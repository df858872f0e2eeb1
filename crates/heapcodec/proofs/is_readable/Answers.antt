-- By the length, and the test of the marks.
use Rattle.heapcodec.proofs.Codec.{other_length, marks_tested}
use Rattle.heapcodec.proofs.is_readable.Goals as goal

pub returns-then-bytes-eq-BYTES : goal.returns-then-bytes-eq-BYTES
returns-then-bytes-eq-BYTES c = marks_tested c.args.bytes.now c.if-bytes-eq-BYTES.true c.are_marks.result c.are_marks.ensures

pub returns-else-bytes-eq-BYTES : goal.returns-else-bytes-eq-BYTES
returns-else-bytes-eq-BYTES c = other_length c.args.bytes.now c.if-bytes-eq-BYTES.false
