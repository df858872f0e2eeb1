-- The numbers that there are, and zeros.
use Rattle.heapcodec.proofs.Codec.{codes_read}
use Rattle.heapcodec.proofs.read_values.Goals as goal

pub returns : goal.returns
returns c = rw c.copy_from_slice.ensures.after (codes_read c.args.values.now c.min-count.result c.min-count.ensures)
