-- An operand is placed in an array: the array holds the shape that the choice gives.
use mathlib.Core.List.{List, [], ◌∷◌, ◌++◌}
use mathlib.Core.Logic.{◌≢◌}
use mathlib.Core.Path.{◌≡◌, refl, sym, ap, ◌∙◌}
use Prim.Native.Nat.{ℕ, suc, ◌+◌, ◌-◌, ◌≤◌, ◌<◌}
use native.Mathlib.Decide.{ℕ_discrete, dec_lt}
use native.Mathlib.Omega.{arith}
use Rattle.std.proofs.lemmas.Bool.Decides.{nat_tests}
use borrow.Author.Tests.{ne_eqb}
use lib.ListN.{get_or, set}
use lib.Seq.{set-append_left}
use Rattle.heap.specs.Place.{nowhere, null, cell}
use Rattle.shape.specs.Placing.{set_var}
use Rattle.shape.specs.Shape.{Shape, var_at, size}
use Rattle.backward.specs.Predecessors.{set_link}
use Rattle.layout.specs.ShapeArray.{cell_count, operand_at, links_in, shape_in, ShapeArray}
use Rattle.placing.specs.Choice.{chosen, opened, made, put}
use Rattle.placing.proofs.Chosen.{chosen_cell, chosen_null, chosen_fresh, not_null}
use Rattle.placing.proofs.Putting.{put_nothing, put_made}
use Rattle.placing.proofs.Retaining.{opened_none, opened_fresh, opened_middle}
use Rattle.shapes.specs.Change.{set_operand, set_link_of, add_cell, placed_in}
use Rattle.shapes.specs.Operands.{HoldsShape}
use Rattle.shapes.proofs.Slots.{
  size_in,
  var_in_lem,
  link_in_lem,
  count_operand,
  shape_operand,
  array_operand,
  count_link,
  shape_link,
  array_link,
  count_cell,
  shape_cell,
  array_cell,
}

-- ---- the definition, case by case

module _ (s : List ℕ) (x k : ℕ) where
  pub placed_same : operand_at s x ≢ nowhere → placed_in s x k ≡ s
  unfolding placed_in
  placed_same o = simp (ne_eqb (operand_at s x) nowhere o)

  module _ (e : operand_at s x ≡ nowhere) where
    pub placed_cell : k < cell_count s → placed_in s x k ≡ set_operand s x (cell k)
    unfolding placed_in
    placed_cell b = grind (arith, nat_tests)

    pub placed_null : k ≡ cell_count s → placed_in s x k ≡ set_operand s x null
    unfolding placed_in
    placed_null b = grind (arith, nat_tests)

    pub placed_fresh : k ≡ suc (cell_count s) → placed_in s x k ≡ set_operand (add_cell s nowhere) x (cell (cell_count s))
    unfolding placed_in
    placed_fresh b = grind (arith, nat_tests)

    pub placed_middle : suc (cell_count s) < k
        → let c = cell (k - (cell_count s + 2)) in
        placed_in s x k ≡ set_operand (set_link_of (add_cell s (get_or s c nowhere)) c (cell (cell_count s))) x (cell (cell_count s))
    unfolding placed_in
    placed_middle b = grind (arith, nat_tests)

    -- the stores of the code
    pub stored_fresh : k ≡ suc (cell_count s) → set (set (set s 0 (cell_count s + 1)) (3 + cell_count s) nowhere) (17 + x) (3 + cell_count s) ≡ placed_in s x k
    stored_fresh b =
        let more : cell_count s + 1 ≡ suc (cell_count s) = omega arith in
        let fresh : 3 + cell_count s ≡ cell (cell_count s) = omega arith in
        rw (more, fresh) (sym (placed_fresh b))

    pub stored_middle : suc (cell_count s) < k
        → let c = k - cell_count s + 1 in
        let fresh = 3 + cell_count s in
        set (set (set (set s 0 (cell_count s + 1)) fresh (get_or s c nowhere)) c fresh) (17 + x) fresh ≡ placed_in s x k
    stored_middle b =
        let more : cell_count s + 1 ≡ suc (cell_count s) = omega arith in
        let fresh : 3 + cell_count s ≡ cell (cell_count s) = omega arith in
        let from : k - cell_count s + 1 ≡ cell (k - (cell_count s + 2)) = omega arith in
        rw (more, fresh, from) (sym (placed_middle b))

-- ---- what the array holds then

made_is : (x : ℕ) (t : Shape) (k p : ℕ) (links : List ℕ) → p ≡ chosen (size t) k → links ≡ opened t.links k
    → set_var x p (record { vars = t.vars; links = links; facts = t.facts }) ≡ made x t k
unfolding made
made_is x t k p links e f = rw (e, f) refl

module _ (w : ℕ) (s : List ℕ) (h : ShapeArray w s) (small : cell_count s ≤ 13) (x k : ℕ) (x_in : x ≤ w) (choice : k < cell_count s + (2 + cell_count s)) where
  -- the array t holds the shape with the operand placed, in which there is at most one cell more
  pub record Placing (t : List ℕ) : Type 0 where
    pub holds : HoldsShape w t (put x (shape_in w s) k)
    pub most : cell_count t ≤ suc (cell_count s)

  abbrev n : ℕ
  n = cell_count s

  abbrev before : Shape
  before = shape_in w s

  size_is : size before ≡ n
  size_is = size_in w s h

  module _ (e : operand_at s x ≡ nowhere) where
    at_x : var_at before x ≡ nowhere
    at_x = var_in_lem w s h x ∙ e

    some_x : 1 ≤ x
    some_x = let z = not_null before x at_x in omega arith

    -- the cell of the choice is there, and the operand is put at it
    stood : (t : List ℕ) (p : ℕ) → ShapeArray w t → shape_in w t ≡ record { vars = before.vars; links = opened (links_in s) k; facts = [] } → p ≡ chosen n k
        → p < cell (cell_count t) → cell_count t ≤ suc n → Placing (set_operand t x p)
    stood t p a same p_is inside most =
        record {
          holds =
              record {
                array = array_operand w t a x p some_x x_in inside;
                same =
                    shape_operand w t x p a.cells_fit some_x
                    ∙ ap (set_var x p) same
                    ∙ made_is x before k p (opened (links_in s) k) (rw size_is p_is) refl
                    ∙ sym (put_made x before k at_x);
              };
          most = rw (count_operand t x p) most;
        }

    by_choice : Dec (k < n) → Dec (k ≡ n) → Dec (k ≡ suc n) → Placing (placed_in s x k)
    by_choice (yes c) d f =
        rw (placed_cell s x k e c)
        (stood s (cell k) h (ap (λ (l : List ℕ). record { vars = before.vars; links = l; facts = [] }) (sym (opened_none (links_in s) k (omega (arith, size_is)))))
        (sym (chosen_cell n k c)) (omega arith) (omega arith))
    by_choice (no c) (yes d) f =
        rw (placed_null s x k e d)
        (stood s null h (ap (λ (l : List ℕ). record { vars = before.vars; links = l; facts = [] }) (sym (opened_none (links_in s) k (omega (arith, size_is)))))
        (sym (chosen_null n k d)) (omega arith) (omega arith))
    by_choice (no c) (no d) (yes f) =
        rw (placed_fresh s x k e f)
        (stood (add_cell s nowhere) (cell n) (array_cell w s h small nowhere (omega arith))
        (shape_cell w s h small nowhere
        ∙ ap (λ (l : List ℕ). record { vars = before.vars; links = l; facts = [] }) (sym (opened_fresh (links_in s) k (f ∙ ap suc (sym size_is)))))
        (sym (chosen_fresh n k (omega arith))) (rw (count_cell w s h small nowhere) (omega arith)) (rw (count_cell w s h small nowhere) (omega arith)))
    by_choice (no c) (no d) (no f) = rw (placed_middle s x k e (omega arith)) (stood t (cell n) array same (sym (chosen_fresh n k (omega arith))) (rw count (omega arith)) (rw count (omega arith)))
      where
        i : ℕ
        i = k - (n + 2)

        q : ℕ
        q = get_or s (cell i) nowhere

        grown : List ℕ
        grown = add_cell s q

        t : List ℕ
        t = set_link_of grown (cell i) (cell n)

        in_reach : q < cell (suc n)
        in_reach = omega (arith, h.links_range i (omega arith))

        array_grown : ShapeArray w grown
        array_grown = array_cell w s h small q in_reach

        count_grown : cell_count grown ≡ suc n
        count_grown = count_cell w s h small q

        array : ShapeArray w t
        array = array_link w grown array_grown (cell i) (cell n) (omega arith) (rw count_grown (omega arith)) (rw count_grown (omega arith))

        count : cell_count t ≡ suc n
        count = count_link grown (cell i) (cell n) (omega arith) ∙ count_grown

        same : shape_in w t ≡ record { vars = before.vars; links = opened (links_in s) k; facts = [] }
        same =
            shape_link w grown (cell i) (cell n) (omega arith) (omega arith)
            ∙ ap (set_link (cell i) (cell n)) (shape_cell w s h small q)
            ∙ ap (λ (l : List ℕ). record { vars = before.vars; links = l; facts = [] })
            (set-append_left (links_in s) (q ∷ []) i (cell n) (omega (arith, size_is)) ∙ sym middle)
          where
            middle : opened (links_in s) k ≡ set (links_in s) i (cell n) ++ (q ∷ [])
            middle =
                rw (size_is, link_in_lem s i (omega arith)) at (opened_middle (links_in s) k (omega (arith, size_is)) (omega (arith, size_is)))

  -- the operand is placed by choice k
  pub placed : Placing (placed_in s x k)
  placed = go (ℕ_discrete (operand_at s x) nowhere)
    where
      go : Dec (operand_at s x ≡ nowhere) → Placing (placed_in s x k)
      go (yes e) = by_choice e (dec_lt k n) (ℕ_discrete k n) (ℕ_discrete k (suc n))
      go (no o) =
          rw (placed_same s x k o)
          (record {
            holds = record { array = h; same = sym (put_nothing x before k (λ z. o (sym (var_in_lem w s h x) ∙ z))) };
            most = omega arith;
          })
