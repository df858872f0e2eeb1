-- By length: none, too long, or judged.
use native.Mathlib.Omega.{arith}
use borrow.Author.Tests.{lt-leb, le-leb}
use Rattle.lists.proofs.Reflect.{leb_ltb}
use Rattle.checker.proofs.fits.Goals as goal

pub returns-then-len-eq0 : goal.returns-then-len-eq0
returns-then-len-eq0 c = simp (lt-leb 1 c.args.len (omega arith))

pub returns : goal.returns
returns c = simp (le-leb 1 c.args.len (omega arith)) (leb_ltb c.args.len 65536)
