-- The loop: whether the codes so far fit, with what is left to test, decides.
use mathlib.Core.Path.{◌∙◌}
use native.Mathlib.Omega.{arith}
use Rattle.stepper.specs.Table.{value_fits}
use Rattle.stepper.proofs.Fits.{one_tested, all_tested}
use Rattle.stepper.proofs.Heap64.values_fit.Goals as goal

pub loop-i-preserved : goal.loop-i-preserved
loop-i-preserved c = rw c.most_code.ensures (one_tested (value_fits c.args.self.now) 64 c.loop-i.i c.loop-i.fits (omega arith) ∙ c.loop-i.invariant)

pub returns : goal.returns
returns c = all_tested (value_fits c.args.self.now) 64 c.loop-i.i c.loop-i.fits (omega arith) c.loop-i.invariant
