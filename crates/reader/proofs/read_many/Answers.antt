-- The loop: the values before the i-th are read, and what is left of the parser goes on at the place.
use Rattle.std.proofs.Common.{sym, ap, arith}
use Rattle.reader.specs.Number.{without_value}
use Rattle.reader.proofs.Answers.{handed}
use Rattle.reader.proofs.Many.{left_more, left_lost, left_all}
use Rattle.reader.proofs.read_many.Goals as goal

pub returns-in_err-at : goal.returns-in_err-at
returns-in_err-at g c = λ p h.
    let l = c.loop-i in
    handed _ _ c.from_residual.ensures.1
    (left_lost p _ _ l.at l._i (l.invariant p h) _ _ (omega arith) (ap without_value (sym (h _ _ c.in_err-at.ensures))))

pub loop-i-preserved : goal.loop-i-preserved
loop-i-preserved g c = λ p h.
    let l = c.loop-i in
    left_more p _ _ l.at l._i (l.invariant p h) _ (omega arith) (ap without_value (sym (h _ _ c.in_ok-at.ensures)))

pub returns : goal.returns
returns g c = λ p h. let l = c.loop-i in left_all p _ _ l.at l._i (l.invariant p h) (omega arith)
