-- Byte after byte, what is written is the number's bytes, in place of as many.
use Prim.Native.Nat.{◌+◌}
use mathlib.Core.Path.{ap}
use native.Mathlib.Omega.{arith}
use lib.ListN.{length}
use mathlib.Core.List.{[], ◌∷◌}
use native.Mathlib.Numerals.{add-one, add-two}
use Prim.Native.Nat.{◌/◌, ◌%◌}
use Rattle.number.proofs.Writing.{one, two, three, some_bytes, stored}
use lib.ListN.{length-set}
use Rattle.number.proofs.put_number.Goals as goal

pub bounds-bytes-at : goal.bounds-bytes-at
bounds-bytes-at c = omega (arith, some_bytes c.args.n)

pub returns-then-n-lt128 : goal.returns-then-n-lt128
returns-then-n-lt128 c =
    let a = c.args in
    let e = one a.n c.if-n-lt128.true in
    (omega (arith, ap length e), stored a.bytes.now a.at a.n (a.n ∷ []) e (omega arith))

pub bounds-bytes-at-2 : goal.bounds-bytes-at-2
bounds-bytes-at-2 c = omega (arith, some_bytes c.args.n)

pub bounds-bytes-at-then-n-lt16384 : goal.bounds-bytes-at-then-n-lt16384
bounds-bytes-at-then-n-lt16384 c = simp length-set (omega (arith, ap length (two c.args.n (omega arith) c.if-n-lt16384.true)))

pub returns-then-n-lt16384 : goal.returns-then-n-lt16384
returns-then-n-lt16384 c =
    let a = c.args in
    let e = two a.n (omega arith) c.if-n-lt16384.true in (
      omega (arith, ap length e),
      rw (add-one a.at) (stored a.bytes.now a.at a.n ((a.n % 128 + 128) ∷ (a.n / 128) ∷ []) e (omega arith)),
    )

pub bounds-bytes-at-3 : goal.bounds-bytes-at-3
bounds-bytes-at-3 c = simp length-set (omega (arith, ap length (three c.args.n c.if-n-lt16384.false)))

pub bounds-bytes-at-4 : goal.bounds-bytes-at-4
bounds-bytes-at-4 c = simp length-set (omega (arith, ap length (three c.args.n c.if-n-lt16384.false)))

pub returns : goal.returns
returns c =
    let a = c.args in
    let e = three a.n c.if-n-lt16384.false in (
      omega (arith, ap length e),
      rw (add-one a.at, add-two a.at)
          (stored a.bytes.now a.at a.n ((a.n % 128 + 128) ∷ (a.n / 128 % 128 + 128) ∷ (a.n / 16384) ∷ []) e (omega arith)),
    )
