-- Five bytes, or not.
use mathlib.Core.Path.{◌≡◌, refl}
use Prim.Native.Nat.{◌+◌, ◌-◌}
use native.Mathlib.Omega.{arith}
use borrow.Author.Tests.{le-leb, lt-leb}
use lib.ListN.{length}
use Rattle.transitions.specs.Transitions.{transition_ending}
use Rattle.transitions.proofs.Transition.ending.Goals as goal

pub returns-in_default : goal.returns-in_default
unfolding transition_ending
returns-in_default c = rw (lt-leb 5 (length c.args.bytes.now) c.in_default.len_below) refl

pub returns-in-len5-up : goal.returns-in-len5-up
unfolding transition_ending
returns-in-len5-up c =
    let n = length c.args.bytes.now in
    let e1 : n - 4 ≡ n - 5 + 1 = omega arith in
    let e2 : n - 3 ≡ n - 5 + 2 = omega arith in
    let e3 : n - 2 ≡ n - 5 + 3 = omega arith in
    let e4 : n - 1 ≡ n - 5 + 4 = omega arith in
    rw (le-leb 5 n c.in-len5-up.len_at_least, ← e1, ← e2, ← e3, ← e4) c.from.ensures
