-- Two shapes without cells, one put after the other.
use Rattle.putting.proofs.Putting.{put_more, put_end}
use Rattle.forbidding.proofs.put.put_bad_step.Goals as goal

pub returns : goal.returns
returns c = put_more c.put_shape-second.ensures.1 (put_end c.put_shape.ensures.1)
