-- A certificate of version 1 has no facts: nothing changes.
use mathlib.Core.Path.{◌∙◌}
use Rattle.checker.proofs.Rowed.{rows_none}
use Rattle.checker.proofs.removal.undo_rows.Goals as goal

pub returns-then-version_of-ne2 : goal.returns-then-version_of-ne2
returns-then-version_of-ne2 c =
    let a = c.args in
    let r = rows_none a.kind a.prepared.now a.k a.rows.now (c.requires (λ e. c.if-version_of-ne2.true (c.version_of.ensures ∙ e))) in
    record { is = r.0; rows = r.1 }
