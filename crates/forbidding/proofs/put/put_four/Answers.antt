-- The four shapes, one put after the other.
use native.Mathlib.Omega.{arith}
use Rattle.putting.proofs.Putting.{put_more, put_end}
use Rattle.forbidding.proofs.put.put_four.Goals as goal

pub returns : goal.returns
returns c = (
  omega arith,
  put_more c.put_shape-second.ensures.1 (put_more c.put_shape-third.ensures.1 (put_more c.put_shape-fourth.ensures.1 (put_end c.put_shape.ensures.1))),
)
