-- Blocked where b has no value; else that one is read.
use mathlib.Core.Path.{◌≡◌, ◌∙◌, sym}
use Prim.Native.Nat.{suc, ◌-◌}
use native.Mathlib.Omega.{arith}
use Rattle.stepper.proofs.Formed.{formed, value_most}
use Rattle.heap.specs.Codes.{var_in}
use Rattle.place.specs.Place.{codes}
use Rattle.stepper.specs.Table.{code_in}
use Rattle.stepper.proofs.Values.{copied, copy_fails}
use Rattle.stepper.proofs.Heap64.copy_value.Goals as goal

pub returns-then-w-eq0 : goal.returns-then-w-eq0
returns-then-w-eq0 c =
    let t = c.args.self.now in
    let r = c.requires.table in
    λ x. copy_fails t r.sized (formed t r.formed) x c.args.a c.args.b (sym c.value_of-w.ensures ∙ c.if-w-eq0.true)

pub overflow_cast-w : goal.overflow_cast-w
overflow_cast-w c =
    let t = c.args.self.now in
    let r = c.requires.table in
    omega (arith, c.value_of-w.ensures, value_most t r.sized (formed t r.formed) (var_in (codes t.vars) c.args.b))

pub returns : goal.returns
returns c =
    let t = c.args.self.now in
    let r = c.requires.table in
    let code : code_in t.values (var_in (codes t.vars) c.args.b) ≡ suc (c.value_of-w.result - 1) = omega (arith, c.value_of-w.ensures) in
    λ x. c.read_value.ensures ∙ copied t r.sized (formed t r.formed) x c.args.a c.args.b (c.value_of-w.result - 1) code
