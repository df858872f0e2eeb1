-- "none", or the digits of both and a byte between.
use native.Mathlib.Omega.{arith}
use Rattle.putting.proofs.Putting.{put_more}
use Rattle.sheet.proofs.Divisors.{gcd_some}
use Rattle.sheet.proofs.Text.{part_digits, text_none, text_some}
use Rattle.sheet.proofs.put_fraction.Goals as goal

pub returns-then-d-eq0-clause-put : goal.returns-then-d-eq0-clause-put
returns-then-d-eq0-clause-put c = rw (text_none c.args.n c.args.d (omega arith)) (c.put_all.ensures.room (omega arith))

pub nonzero_div-n : goal.nonzero_div-n
nonzero_div-n c = omega (arith, gcd_some c.args.n c.args.d (omega arith))

pub nonzero_div-d : goal.nonzero_div-d
nonzero_div-d c = omega (arith, gcd_some c.args.n c.args.d (omega arith))

pub returns : goal.returns
returns c =
    let a = c.args in
    let over-few = part_digits a.n c.greatest-divisor.result (omega arith) in
    let under-few = part_digits a.d c.greatest-divisor.result (omega arith) in
    let over = c.put_number-over.ensures.room (omega arith) in
    let slash = c.put_all-under.ensures.room (omega arith) in
    let under = c.put_number.ensures.room (omega arith) in
    record {
      length = omega arith;
      put = rw (text_some a.n a.d (omega arith), ← c.greatest-divisor.ensures) (put_more (put_more over slash) under);
    }
