-- What is wanted of the operand placed last, by the places and links in the array.
use Prim.Native.Nat.{◌+◌, ◌-◌}
use mathlib.Core.Path.{◌≡◌}
use native.Mathlib.Omega.{arith}
use lib.ListN.{get_or}
use Rattle.checker.proofs.wanted.wanted_of_last.Goals as goal

pub returns : goal.returns
returns c =
    let o = c.before.before.before.before.before in
    let a = o.args in
    let links : 3 + get_or a.s.now 0 0 - 3 ≡ get_or a.s.now 0 0 = omega arith in
    rw (← o.place_of-x.ensures, ← o.place_of-y.ensures) (rw links at c.wanted_last.ensures)
