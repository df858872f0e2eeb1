-- The parts above and below the bit.
use mathlib.Core.Path.{ap, ap₂, ◌∙◌}
use Prim.Native.Nat.{ℕ, ◌-◌}
use native.Mathlib.Omega.{arith}
use lib.Bits.{bit_or}
use lib.Pow.{split}
use Rattle.factrows.specs.Rows.{shrink}
use Rattle.factrows.proofs.Shrinking.{high_fits, half_fits, low_part}
use Rattle.factrows.proofs.shrunk.Goals as goal

pub overflow_sub-result : goal.overflow_sub-result
overflow_sub-result c = omega (arith, high_fits c.args.row c.args.c c.ranges.row.fits, split c.args.row c.args.c)

pub returns : goal.returns
unfolding shrink
returns c =
    let x = c.args.row in
    let n = c.args.c in
    ap₂ bit_or (half_fits x n c.ranges.row.fits) (ap (λ (y : ℕ). x - y) (high_fits x n c.ranges.row.fits) ∙ low_part x n)
