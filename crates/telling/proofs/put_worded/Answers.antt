-- The words and then the digits.
use native.Mathlib.Omega.{arith}
use Rattle.putting.proofs.Decimal.{twenty_digits}
use Rattle.putting.proofs.Putting.{put_more}
use Rattle.telling.proofs.put_worded.Goals as goal

pub returns : goal.returns
returns c =
    let few = twenty_digits c.args.n (omega arith) in
    let words = c.put_all-next.ensures.room (omega arith) in
    let number = c.put_number.ensures.room (omega arith) in
    record { length = omega arith; put = put_more words number }
