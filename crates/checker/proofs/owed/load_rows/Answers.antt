-- They are loaded; none in version 1.
use mathlib.Core.Path.{sym, ◌∙◌}
use Rattle.checker.proofs.Rowed.{loaded_none}
use Rattle.checker.proofs.owed.load_rows.Goals as goal

pub returns-else-version_of-eq2 : goal.returns-else-version_of-eq2
returns-else-version_of-eq2 c =
    let s = c.before.before.before.before in
    let a = s.args in
    s.requires ∙ sym (loaded_none a.job.now a.variables a.at (λ e. c.if-version_of-eq2.false (c.version_of.ensures ∙ e)))
