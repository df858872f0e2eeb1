-- Where the facts can't be undone, there is no predecessor.
use Rattle.layout.specs.Members.{members_from}
use Rattle.checker.proofs.Rowed.{valued_none, checks_none}
use Rattle.checker.proofs.choices.check_valued.Goals as goal

pub returns-then-not-undo_values : goal.returns-then-not-undo_values
returns-then-not-undo_values c =
    let a = c.args in
    rw (valued_none a.variables a.by.kind a.by.a a.by.b a.s.now a.facts.now _ (rw (c.cell_of.ensures, c.cell_of-2.ensures) at c.undo_values.ensures.is) c.if-not-undo_values.true)
    (checks_none a.cert.now (members_from a.cert.now a.variables a.starts.now) a.by.from a.t c.requires.2)
