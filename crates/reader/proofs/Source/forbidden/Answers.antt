-- What the closure reads at a place is what the parser of an entry reads there.
use Rattle.std.proofs.Common.{◌∙◌, rules}
use Rattle.format.specs.Job.{read_located}
use Rattle.layout.specs.Entries.{version_of}
use Rattle.reader.specs.Number.{buffer_in, without_value}
use Rattle.reader.proofs.Many.{many_places}
use Rattle.reader.proofs.Source.forbidden.Goals as goal

pub returns : goal.returns
returns c =
    let p = read_located (version_of c.args.self.now.bytes.now) (buffer_in c.args.self.now) c.args.variables c.args.states in
    c.read_many.ensures (λ at. without_value (p at)) (λ at r k. search rules) ∙ many_places p c.args.count c.args.first
