-- By what was read and the two limits: unreadable, out of range, or the number.
use Rattle.std.proofs.Common.{◌≡◌, ◌∙◌, sym, ap, arith}
use Rattle.format.specs.Parser.{fault}
use Rattle.number.specs.Number.{number_at, numeral, no_numeral}
use Rattle.jobreader.proofs.OneNumber.{unread, outside, value}
use Rattle.reader.specs.Number.{buffer_in}
use Rattle.reader.proofs.Answers.{bytes_in}
use Rattle.reader.proofs.Source.ranged.Goals as goal
use Rattle.reader.proofs.Source.ranged.Goals.{then-n-low-via-then-n-low, then-n-low-via-else-n-low+then-limit-n}

pub returns-in_default : goal.returns-in_default
returns-in_default c =
    let a = c.args in
    let s = buffer_in a.self.now in
    let g : number_at s.bytes a.at ≡ no_numeral c.in_default.field-0.at = rw (bytes_in a.self.now) (sym c.in_default.ensures) in
    ap (λ k. fault k a.at) c.unreadable.ensures ∙ unread s a.at a.low a.limit g

pub returns-then-n-low : goal.returns-then-n-low
returns-then-n-low c =
    let a = c.args in
    let s = buffer_in a.self.now in
    let g : number_at s.bytes a.at ≡ numeral c.in-Ok.n.value c.in-Ok.n.next = rw (bytes_in a.self.now) (sym c.in-Ok.ensures) in
    ap (λ k. fault k a.at) c.outside.ensures
    ∙ outside s a.at a.low a.limit g
    (λ (l, h). elim c.then-n-low.branch [
      | then-n-low-via-then-n-low w ↦ omega arith
      | then-n-low-via-else-n-low+then-limit-n w ↦ omega arith
    ])

pub returns : goal.returns
returns c =
    let a = c.args in
    let s = buffer_in a.self.now in
    let g : number_at s.bytes a.at ≡ numeral c.in-Ok.n.value c.in-Ok.n.next = rw (bytes_in a.self.now) (sym c.in-Ok.ensures) in
    value s a.at a.low a.limit g (omega arith) (omega arith)
