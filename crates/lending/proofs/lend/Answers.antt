-- There is room for the values, or there is none.
use mathlib.Core.Path.{refl}
use native.Mathlib.Omega.{arith}
use borrow.Author.Tests.{le-leb, lt-leb}
use lib.ListN.{length}
use Rattle.number.specs.CallResult.{lent}
use Rattle.lending.proofs.lend.Goals as goal

pub returns-then-values-out : goal.returns-then-values-out
unfolding lent
returns-then-values-out c =
    rw c.copy_from_slice.ensures.after (simp (le-leb (length c.args.values.now) (length c.args.out.now) (omega arith)) refl)

pub returns-else-values-out : goal.returns-else-values-out
unfolding lent
returns-else-values-out c = simp (lt-leb (length c.args.values.now) (length c.args.out.now) (omega arith)) refl
