-- An operation that the table of kinds allows; of kinds 1 to 5 and 8 to 13, with the operand that plays b.
use mathlib.Core.Bool.{true, ◌||◌}
use mathlib.Core.List.{List}
use mathlib.Core.Logic.{◌≢◌}
use mathlib.Core.Option.{some}
use mathlib.Core.Path.{◌≡◌, refl, sym, ap, ◌∙◌, subst}
use Prim.Native.Nat.{ℕ, suc, ◌≤◌, ◌<◌}
use native.Mathlib.Decide.{ℕ_discrete, dec_lt}
use native.Mathlib.Numerals.{add-one}
use native.Mathlib.Omega.{arith}
use lib.Dec.{ltb, leb}
use Rattle.lists.proofs.Reflect.{r_lt, r_le, r_or}
use Rattle.heap.specs.Operation.{Kind, kind_of}
use Rattle.heap.proofs.Rows.{is_kind, tested}
use Rattle.lists.specs.List.{concat_map}
use Rattle.shape.specs.Placing.{place}
use Rattle.shape.specs.Shape.{Shape, var_at}
use Rattle.backward.specs.Predecessors.{is_cell, place_cells, retain, before}
use Rattle.kinds.specs.Kinds.{most_b_of, allowed}
use Rattle.kinds.proofs.Rows.{known, row_of, most_bound}
use Rattle.layout.specs.ShapeArray.{cell_count, shape_in, ShapeArray}
use Rattle.layout.specs.Transitions.{op_of}
use Rattle.placing.specs.Retained.{firsts}
use Rattle.placing.proofs.Cells.{cells_by_two, cells_by_one}
use Rattle.placing.proofs.Operations.{by_two, by_one}
use Rattle.shapes.specs.Operands.{working, Working}
use Rattle.shapes.proofs.Slots.{vars_in, array_helper, with_helper}
use Rattle.shapes.proofs.Undo.{working_more, working_same}
use Rattle.undoing.specs.Before.{facts_before, choices_rowed}
use Rattle.undoing.specs.Rowed.{rowed, Settled, AllStandFor}
use Rattle.undoing.proofs.Before.{left_stand, cells_stand, read_stand}
use Rattle.checker.specs.Placing.{second_operand}
use Rattle.checker.proofs.Helper.{second_helper, second_read, second_itself}

module _ (variables kind a b : ℕ) (allows : allowed variables kind a b ≡ true) where
  pub operands_of : (3 ≤ kind → 1 ≤ a) × (a ≤ variables) × (b ≤ variables)
  unfolding most_b_of
  operands_of =
      let (least, last) = known variables kind a b allows in
      let (row, found) = is_kind kind least last in
      let r = (row_of variables kind a b row found allows).0 in
      let most : most_b_of kind variables ≡ row.most_b variables = rw found refl in
      (λ h. omega (arith, r.least_a, some_a row found h), r.most_a, omega (arith, r.most_b, most_bound kind variables))
    where
      -- from kind 3 on a is a variable
      some_a : (row : Kind) → kind_of kind ≡ some row → 3 ≤ kind → 1 ≤ row.least_a
      some_a row found h = (r_or (r_lt kind 3) (r_le 1 row.least_a)).holds (tested (λ kind row. ltb kind 3 || leb 1 row.least_a) refl kind row found) (λ l. omega arith)

module _ (variables kind a b : ℕ) (allows : allowed variables kind a b ≡ true) (removes : (kind ≡ 6 → ⊥) × (kind ≡ 7 → ⊥)) where
  least : 1 ≤ kind
  least = (known variables kind a b allows).0

  last : kind ≤ 13
  last = (known variables kind a b allows).1

  within : (3 ≤ kind → 1 ≤ a) × (a ≤ variables) × (b ≤ variables)
  within = operands_of variables kind a b allows

  module _ (s rows : List ℕ) (room : variables ≤ 8) (cells : cell_count s ≤ 12) (array : ShapeArray variables s) (whole : Shape)
      (settled : Settled (rowed rows (shape_in variables s)) whole) where
    -- d plays b: the shape to work on, and that what its choices give stands for the predecessors
    pub record Plays (d : ℕ) : Type 0 where
      pub work : Working 12 variables kind a d s
      pub stand : AllStandFor (choices_rowed variables kind a d s rows) (before (op_of (kind_of kind) a b) whole)

    -- what is placed, given the operand that plays b
    placed_by : (d : ℕ) (ts : List Shape) → firsts variables kind a d (shape_in (working variables d) s) ≡ ts
        → AllStandFor (concat_map (facts_before kind a d rows) ts) (before (op_of (kind_of kind) a b) whole)
        → AllStandFor (choices_rowed variables kind a d s rows) (before (op_of (kind_of kind) a b) whole)
    placed_by d ts e h = subst (λ (l : List Shape). AllStandFor (concat_map (facts_before kind a d rows) l) (before (op_of (kind_of kind) a b) whole)) (sym e) h

    work_with : (d : ℕ) → d ≤ variables → (kind ≡ 4 → a ≢ d) → Working 12 variables kind a d s
    work_with d d-most apart =
        let (a_some, a_most, _) = within in
        record {
          operands =
              record {
                kind_least = least;
                variables_most = room;
                a_some = a_some;
                a_most = a_most;
                b_most = omega arith;
                helper = λ h. absurd (omega arith);
                apart = apart;
              };
          cells = cells;
          array = rw (working_same variables d d-most) array;
        }

    itself : (kind ≡ 4 → a ≢ b) → kind ≢ 13 → Plays b
    itself apart other =
        let (_, _, b_most) = within in
        let w = working_same variables b b_most in
        record { work = work_with b b_most apart; stand = go w b_most (dec_lt 5 kind) }
      where
        go : working variables b ≡ variables → b ≤ variables → Dec (5 < kind)
            → AllStandFor (choices_rowed variables kind a b s rows) (before (op_of (kind_of kind) a b) whole)
        go w b_most (yes above) =
            let from : 8 ≤ kind = omega (arith, removes) in
            placed_by b (place_cells a b (shape_in variables s)) (rw w (cells_by_two variables kind a b above (shape_in variables s)))
            (cells_stand variables s rows array cells whole settled kind a b from (omega (arith, last, other)))
        go w b_most (no few) =
            placed_by b (before (op_of (kind_of kind) a b) (shape_in variables s)) (rw w (sym (by_two variables a b (shape_in variables s) kind least (omega arith) apart b_most)))
            (left_stand variables s rows array cells whole settled kind a b least (omega arith) b)

    helper : kind ≡ 4 → a ≡ b → Plays (suc variables)
    helper k e =
        let (a_some, a_most, b_most) = within in
        let w = working_more variables (suc variables) (omega arith) in
        record {
          work =
              record {
                operands =
                    record {
                      kind_least = least;
                      variables_most = room;
                      a_some = a_some;
                      a_most = a_most;
                      b_most = omega arith;
                      helper = λ h. k;
                      apart = λ _ i. omega arith;
                    };
                cells = cells;
                array = rw w (array_helper variables s array room);
              };
          stand =
              placed_by (suc variables) (before (op_of (kind_of kind) a b) (shape_in variables s))
              (rw (w, k, ← e)
              (ap (firsts variables 4 a (suc variables)) (sym (with_helper variables s array room))
              ∙ sym (by_one variables a (shape_in variables s) (vars_in variables s array))))
              (left_stand variables s rows array cells whole settled kind a b least (omega arith) (suc variables));
        }

    reads : kind ≡ 13 → Plays a
    reads k =
        let (_, a_most, _) = within in
        let w = working_same variables a a_most in
        record {
          work = work_with a a_most (λ z. absurd (omega arith));
          stand =
              rw k
              (placed_read (rw w (cells_by_one variables 13 a (shape_in variables s) (omega arith) (omega (arith, vars_in variables s array)))));
        }
      where
        placed_read : firsts variables 13 a a (shape_in (working variables a) s) ≡ retain (λ t. is_cell (var_at t a)) (λ t. t) (place a (shape_in variables s))
            → AllStandFor (choices_rowed variables 13 a a s rows) (before (op_of (kind_of 13) a b) whole)
        placed_read e = subst (λ (l : List Shape). AllStandFor (concat_map (facts_before 13 a a rows) l) (before (op_of (kind_of 13) a b) whole)) (sym e) (read_stand variables s rows array cells whole settled a)

    pub plays : (d : ℕ) → d ≡ second_operand variables kind a b → Plays d
    plays d d-is = go (ℕ_discrete kind 4) (ℕ_discrete a b) (ℕ_discrete kind 13)
      where
        go : Dec (kind ≡ 4) → Dec (a ≡ b) → Dec (kind ≡ 13) → Plays d
        go (yes k) (yes e) r =
            let z : d ≡ suc variables = d-is ∙ sym (second_helper variables kind a b k e) ∙ add-one variables in
            rw z (helper k e)
        go (yes k) (no e) r =
            let other : kind ≢ 13 = λ z. omega arith in
            rw (d-is ∙ sym (second_itself variables kind a b (λ _. e) other)) (itself (λ _. e) other)
        go (no k) f (yes r) = rw (d-is ∙ sym (second_read variables kind a b r)) (reads r)
        go (no k) f (no r) = rw (d-is ∙ sym (second_itself variables kind a b (λ z. absurd (k z)) r)) (itself (λ z. absurd (k z)) r)
