-- Each variable at * doubles the cases.
use Rattle.shapes.proofs.ByCase.{count_shifted}
use Rattle.shapes.proofs.restore.count_cases.Goals as goal

pub returns : goal.returns
returns c = count_shifted c.args.vars.now c.count_dangling.result c.requires c.count_dangling.ensures
