-- A number that the table allows is that of a kind.
use mathlib.Core.Path.{sym, ◌∙◌}
use Rattle.kinds.proofs.Rows.{named_kind}
use Rattle.kinds.proofs.named.Goals as goal

pub returns : goal.returns
returns c = let a = c.args in named_kind a.variables a.kind a.a a.b c.kind_of.result (sym c.allows.ensures ∙ c.if-not-allows.false) c.kind_of.ensures
