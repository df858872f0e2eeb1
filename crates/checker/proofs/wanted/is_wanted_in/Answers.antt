-- The test of a choice, by the links in the array.
use Prim.Native.Nat.{◌+◌, ◌-◌}
use mathlib.Core.Path.{◌≡◌}
use native.Mathlib.Omega.{arith}
use lib.ListN.{get_or}
use Rattle.checker.proofs.wanted.is_wanted_in.Goals as goal

pub returns : goal.returns
returns c =
    let a = c.args in
    let links : 3 + get_or a.s.now 0 0 - 3 ≡ get_or a.s.now 0 0 = omega arith in
    rw links at c.is_wanted.ensures
