-- The number of facts, then the list.
use Rattle.std.proofs.Common.{◌∙◌, sym}
use Rattle.layout.specs.Entries.{version_of}
use Rattle.reader.specs.Number.{buffer_in}
use Rattle.reader.proofs.Answers.{handed}
use Rattle.reader.proofs.Facts.{lost_count, facts_listed}
use Rattle.reader.proofs.Source.counted.Goals as goal

pub returns-in_err-number : goal.returns-in_err-number
returns-in_err-number c =
    handed _ _ c.from_residual.ensures.1
    (lost_count (buffer_in c.args.self.now) c.args.n (version_of c.args.self.now.bytes.now) c.args.at c.requires.1 (sym c.in_err-number.ensures))

pub returns : goal.returns
returns c =
    c.fact_list.ensures
    ∙ facts_listed (buffer_in c.args.self.now) c.args.n (version_of c.args.self.now.bytes.now) c.args.at c.requires.1 (sym c.in_ok-number.ensures)
