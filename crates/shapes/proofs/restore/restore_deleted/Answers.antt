-- What no link stands at * in gets the fresh cell, and a at it.
use Rattle.shapes.proofs.Restored.{stored}
use Rattle.shapes.proofs.restore.restore_deleted.Goals as goal

pub returns-clause-shape : goal.returns-clause-shape
returns-clause-shape c = let a = c.args in stored a.s.now _ a.a c.forget_links.ensures
