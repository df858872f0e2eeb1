-- The loop: the bytes of the numbers before the i-th and of the rest make those of the list.
use Prim.Native.Nat.{◌+◌, ◌*◌, ◌≤◌}
use mathlib.Core.Path.{◌≡◌}
use lib.ListN.{length, drop}
use Rattle.number.specs.NumberList.{encode}
use Rattle.number.proofs.room_needed.Given as goal

abbrev pub invariant-loop-n : goal.invariant-loop-n
invariant-loop-n l = (l.total + length (encode (drop l.n-index l.numbers)) ≡ length (encode l.numbers)) × (l.total ≤ 3 * l.n-index)
