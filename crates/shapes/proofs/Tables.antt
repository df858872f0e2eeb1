-- Arrays given slot by slot.
use mathlib.Core.List.{List, map}
use mathlib.Core.Path.{◌≡◌, sym, ap, ◌∙◌}
use Prim.Native.Nat.{ℕ, suc, ◌+◌, ◌≤◌, ◌<◌}
use native.Mathlib.Decide.{dec_lt}
use native.Mathlib.Omega.{arith}
use lib.ListN.{length, get_or, take, drop, length-map, length-drop, get_or-eq_default}
use lib.Seq.{length-take-le, get_or-take, get_or-drop, ext_get_or}
use Rattle.lists.specs.Range.{range}
use Rattle.lists.proofs.Range.{length_from, get_or_from}
use Rattle.heap.specs.Place.{nowhere, cell}
use Rattle.shape.proofs.Laws.{link_map}
use Rattle.layout.specs.ShapeArray.{operand_at}

pub table_length : (f : ℕ → ℕ) → length (map f (range 0 28)) ≡ 28
table_length f = length_from f 0 28

pub table_at : (f : ℕ → ℕ) (i : ℕ) → i < 28 → get_or (map f (range 0 28)) i 0 ≡ f i
table_at f i h = get_or_from f 0 0 28 i h ∙ ap f (omega arith)

-- what is so of the slots of operands is so of all operands
pub operands_all : (g : ℕ → ℕ) (s t : List ℕ) → length s ≡ 28 → length t ≡ 28 → g nowhere ≡ nowhere
    → ((y : ℕ) → y ≤ 10 → operand_at t y ≡ g (operand_at s y)) → (y : ℕ) → operand_at t y ≡ g (operand_at s y)
operands_all g s t l m none at y = go (dec_lt y 11)
  where
    go : Dec (y < 11) → operand_at t y ≡ g (operand_at s y)
    go (yes h) = at y (omega arith)
    go (no h) =
        get_or-eq_default t nowhere (omega arith) ∙ sym none ∙ ap g (sym (get_or-eq_default s nowhere (omega arith)))

-- every operand is changed by g
pub vars_mapped : (g : ℕ → ℕ) (variables : ℕ) (s t : List ℕ) → length s ≡ 28 → length t ≡ 28 → variables ≤ 9 → g nowhere ≡ nowhere
    → ((y : ℕ) → operand_at t y ≡ g (operand_at s y)) → take variables (drop 18 t) ≡ map g (take variables (drop 18 s))
vars_mapped g variables s t l m few none at =
    ext_get_or nowhere (take variables (drop 18 t)) (map g (take variables (drop 18 s)))
    (long t m ∙ sym (length-map (take variables (drop 18 s)) g ∙ long s l))
    (λ i b. let inside : i < variables = omega (arith, long t m) in
    slot t i inside ∙ at (suc i) ∙ ap g (sym (slot s i inside)) ∙ sym (link_map g none (take variables (drop 18 s)) (cell i)))
  where
    long : (l : List ℕ) → length l ≡ 28 → length (take variables (drop 18 l)) ≡ variables
    long l e = length-take-le variables (drop 18 l) (omega (arith, length-drop 18 l))

    slot : (l : List ℕ) (i : ℕ) → i < variables → get_or (take variables (drop 18 l)) i nowhere ≡ operand_at l (suc i)
    slot l i h =
        let i_is : 18 + i ≡ 17 + suc i = omega arith in
        get_or-take variables (drop 18 l) i nowhere h ∙ get_or-drop 18 l i nowhere ∙ ap (λ (j : ℕ). get_or l j nowhere) i_is
