-- One row is changed.
use Rattle.factrows.proofs.Turning.{self_set}
use Rattle.factrows.proofs.put_self.Goals as goal

pub returns : goal.returns
returns c = let a = c.args in self_set a.rows.now a.c c.bit.result c.told-rows c.requires c.bit.ensures
