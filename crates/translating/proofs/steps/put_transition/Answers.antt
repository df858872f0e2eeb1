-- Five stores behind the transitions that are there.
use mathlib.Core.Path.{◌≡◌}
use Prim.Native.Nat.{suc, ◌+◌, ◌*◌}
use native.Mathlib.Omega.{arith}
use Rattle.translating.proofs.Emitting.{adds}
use Rattle.translating.proofs.steps.put_transition.Goals as goal

pub returns : goal.returns
returns c =
    let a = c.args in
    let at = 5 + 5 * a.count in
    let one : at + 1 ≡ suc at = omega arith in
    let two : at + 2 ≡ suc (suc at) = omega arith in
    let three : at + 3 ≡ suc (suc (suc at)) = omega arith in
    let four : at + 4 ≡ suc (suc (suc (suc at))) = omega arith in
    rw (one, two, three, four) (adds a.job.now a.count c.requires.0 c.requires.1 a.from a.operation a.to)
