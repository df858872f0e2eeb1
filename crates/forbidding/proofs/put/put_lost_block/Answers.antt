-- The four shapes with a loose cell, and then two more.
use Rattle.putting.proofs.Putting.{put_more, put_end}
use Rattle.forbidding.proofs.Shapes.{put_lost}
use Rattle.forbidding.proofs.put.put_lost_block.Goals as goal

pub returns : goal.returns
returns c =
    let p = c.args.p in
    put_lost p.version p.variables p.variable p.state c.put_four-fifth.ensures.1 (put_more c.put_shape-sixth.ensures.1 (put_end c.put_shape.ensures.1))
