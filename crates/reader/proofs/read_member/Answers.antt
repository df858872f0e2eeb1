-- The facts where the quick test gives their place, else the exact reader.
use Rattle.std.proofs.Common.{get_or, sym, ◌+◌, ◌∙◌}
use Rattle.format.specs.Parser.{certificate_buffer}
use Rattle.layout.specs.Entries.{version_of}
use Rattle.reader.proofs.Facts.{facts_none}
use Rattle.reader.proofs.read_member.Goals as goal

pub returns-then-version_of-ne2 : goal.returns-then-version_of-ne2
returns-then-version_of-ne2 c =
    let a = c.args in
    facts_none (certificate_buffer a.cert.now) (get_or a.cert.now (a.at + 1) 0) (version_of a.cert.now) c.in-Some.links_end
    (λ e. c.if-version_of-ne2.true (c.version_of.ensures ∙ e))
    ∙ sym c.in-Some.ensures.2
