-- The operands as they are placed: the helper of kind 4, and kind 13, which has one operand.
use Rattle.std.specs.Prelude.{◌&&◌, cond, ℕ, suc, eqb}
use Rattle.transitions.specs.declared.Transition.{Transition}

-- b; the helper where kind 4 has one variable, and a for kind 13
unfoldable pub second_operand : ℕ → ℕ → ℕ → ℕ → ℕ
second_operand variables kind a b = cond (eqb kind 4 && eqb a b) (suc variables) (cond (eqb kind 13) a b)

abbrev pub with_helper : ℕ → Transition → Transition
with_helper variables by =
    record { from = by.from; kind = by.kind; a = by.a; b = second_operand variables by.kind by.a by.b; to = by.to }
