-- What the closure reads at a place is what the parser of a number reads there.
use Rattle.std.proofs.Common.{◌∙◌, rules}
use Rattle.format.specs.Parser.{ranged}
use Rattle.reader.specs.Number.{buffer_in, without_value}
use Rattle.reader.proofs.Many.{many_places}
use Rattle.reader.proofs.Source.codes.Goals as goal

pub returns : goal.returns
returns c =
    let p = ranged (buffer_in c.args.self.now) 0 c.args.limit in
    c.read_many.ensures (λ at. without_value (p at)) (λ at r k. search rules) ∙ many_places p c.args.count c.args.first
