-- The loop: the values before the i-th are read, and what is left of the parser goes on at the place.
use Rattle.std.proofs.Common.{◌≡◌, ℕ}
use Rattle.format.specs.Parser.{Parser}
use Rattle.verdict.specs.Verdict.{reached_of}
use Rattle.reader.proofs.Many.{Left}
use Rattle.reader.proofs.read_many.Given as goal

abbrev pub invariant-loop-i : goal.invariant-loop-i
invariant-loop-i g l = (p : Parser (Unit {0})) → ((at : ℕ) (r : _) → goal.F-post g l.each at r → reached_of r ≡ p at) → Left p l.count l.first l.at l._i
