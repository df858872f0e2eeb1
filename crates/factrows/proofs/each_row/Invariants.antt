-- The rows ahead are made, the others as they were.
use Rattle.std.proofs.Common.{◌≡◌, ℕ, ◌<◌, ◌≤◌, get_or}
use Rattle.factrows.proofs.each_row.Given as goal

abbrev pub invariant-loop-j : goal.invariant-loop-j
invariant-loop-j g l = record {
  made : (k : ℕ) → k < l.j → goal.F-post g l.next k (get_or l.initial.rows k 0) (get_or l.rows k 0);
  old : (k : ℕ) → l.j ≤ k → get_or l.rows k 0 ≡ get_or l.initial.rows k 0;
}
