-- The loop: each slot before the i-th is what is given for its number.
use Prim.Native.Nat.{ℕ, ◌<◌}
use lib.ListN.{get_or}
use Rattle.shapes.proofs.fill_slots.Given as goal

abbrev pub invariant-loop-i : goal.invariant-loop-i
invariant-loop-i g l = (k : ℕ) → k < l.i → g.F.Fn.post l.slot (k, tt) (get_or l.t k 0)
