-- By the version.
use mathlib.Core.Path.{◌∙◌}
use Rattle.layout.specs.Entries.{version_of}
use Rattle.reader.specs.Number.{buffer_in}
use Rattle.reader.proofs.Facts.{facts_none}
use Rattle.reader.proofs.Source.facts.Goals as goal

pub returns-then-version_of-ne2 : goal.returns-then-version_of-ne2
returns-then-version_of-ne2 c =
    let a = c.args in
    facts_none (buffer_in a.self.now) a.n (version_of a.self.now.bytes.now) a.at (λ e. c.if-version_of-ne2.true (c.version_of.ensures ∙ e))
