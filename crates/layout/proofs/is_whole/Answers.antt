-- The entry has an end.
use mathlib.Core.Path.{◌∙◌}
use Rattle.layout.proofs.Whole.{end_tells}
use Rattle.layout.proofs.is_whole.Goals as goal

pub returns : goal.returns
returns c = let a = c.args in c.is_some.ensures ∙ end_tells a.bytes.now a.variables a.at c.entry_end.result c.entry_end.ensures
