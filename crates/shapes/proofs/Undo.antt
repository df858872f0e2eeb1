-- What an operation of kinds 1 to 5 or 8 to 13 changes is put back in an array.
use mathlib.Core.Bool.{true, ◌||◌}
use mathlib.Core.List.{List, []}
use mathlib.Core.Logic.{◌≢◌}
use mathlib.Core.Path.{◌≡◌, refl, sym, ap, ◌∙◌}
use Prim.Native.Nat.{ℕ, zero, suc, ◌+◌, ◌≤◌, ◌<◌}
use native.Mathlib.Decide.{ℕ_discrete, dec_lt}
use native.Mathlib.Omega.{arith}
use Rattle.std.proofs.lemmas.Bool.Decides.{nat_tests}
use borrow.Author.Tests.{lt-ltb, le-ltb, eq-eqb, ne_eqb}
use lib.Dec.{ltb}
use lib.ListN.{get_or, set, take, drop, length-set, length-take}
use lib.Seq.{get_or-set_same, get_or-set_other, take-take, set-set, set_out}
use Rattle.heap.specs.Codes.{var_in}
use Rattle.heap.specs.Place.{nowhere}
use Rattle.shape.specs.Placing.{set_var}
use Rattle.shape.specs.Shape.{Shape, var_at}
use Rattle.shape.proofs.Laws.{var_set_other}
use Rattle.backward.specs.Predecessors.{set_link, drop_helper}
use Rattle.layout.specs.ShapeArray.{cell_count, operand_at, links_in, shape_in, ShapeArray}
use Rattle.placing.specs.Retained.{changed}
use Rattle.shapes.specs.Change.{set_operand, set_link_of, undone_in}
use Rattle.shapes.specs.Operands.{HoldsShape, working, Operands}
use Rattle.shapes.proofs.Slots.{var_in_lem, take_set, count_operand, shape_operand, array_operand, count_link, shape_link, array_link}

-- ---- the variables of the shape under work

pub working_more : (variables b : ℕ) → variables < b → working variables b ≡ suc variables
unfolding working
working_more variables b h = simp (lt-ltb variables b h)

pub working_same : (variables b : ℕ) → b ≤ variables → working variables b ≡ variables
unfolding working
working_same variables b h = simp (le-ltb variables b h)

-- there is room for both operands
pub working_room : (variables b : ℕ) → b ≤ suc variables → (variables ≤ working variables b) × (b ≤ working variables b) × (working variables b ≤ suc variables)
working_room variables b h = go (dec_lt variables b)
  where
    go : Dec (variables < b) → (variables ≤ working variables b) × (b ≤ working variables b) × (working variables b ≤ suc variables)
    go (yes l) = rw (working_more variables b l) (omega arith)
    go (no l) = rw (working_same variables b (omega arith)) (omega arith)

-- only kind 4 has a helper
no_helper : (variables kind a b : ℕ) → Operands variables kind a b → kind ≢ 4 → b ≤ variables
no_helper variables kind a b o n = grind (arith, nat_tests)

-- ---- the helper goes

drop_array : (v : ℕ) (s : List ℕ) → ShapeArray (suc v) s → ShapeArray v (set_operand s (suc v) nowhere)
drop_array v s o =
    let less = array_operand (suc v) s o (suc v) nowhere (omega arith) (omega arith) (omega arith) in
    record {
      slots = less.slots;
      variables_fit = omega (arith, o.variables_fit);
      cells_fit = less.cells_fit;
      null_place = less.null_place;
      operands_range = less.operands_range;
      operands_above = λ y a. above y a (ℕ_discrete y (suc v));
      links_range = less.links_range;
    }
  where
    above : (y : ℕ) → v < y → Dec (y ≡ suc v) → operand_at (set_operand s (suc v) nowhere) y ≡ nowhere
    above y a (yes e) = rw e (get_or-set_same s (17 + suc v) nowhere nowhere (omega (arith, o.slots, o.variables_fit)))
    above y a (no e) = get_or-set_other s (17 + suc v) (17 + y) nowhere nowhere (omega arith) ∙ o.operands_above y (omega arith)

drop_shape : (v : ℕ) (s : List ℕ) (a y : ℕ) → cell_count s ≤ 14 → 1 ≤ a → a ≤ v → var_at (shape_in (suc v) s) (suc v) ≡ y
    → shape_in v (set_operand (set_operand s a y) (suc v) nowhere) ≡ drop_helper a v (set_var a nowhere (shape_in (suc v) s))
drop_shape v s zero y c l m e = absurd (omega arith)
drop_shape v s (suc i) y c l m e =
    shape_operand v (set_operand s (suc i) y) (suc v) nowhere (rw (count_operand s (suc i) y) c) (omega arith)
    ∙ ap (set_var (suc v) nowhere) (shape_operand v s (suc i) y c l)
    ∙ ap (λ (l : List ℕ). record { vars = l; links = links_in s; facts = [] }) same
  where
    d : List ℕ
    d = drop 18 s

    helper_at : var_in (set (take (suc v) d) i nowhere) (suc v) ≡ y
    helper_at = var_set_other (suc i) nowhere (take (suc v) d) (suc v) (omega arith) ∙ e

    same : set (set (take v d) i y) v nowhere ≡ take v (set (set (take (suc v) d) i nowhere) i (var_in (set (take (suc v) d) i nowhere) (suc v)))
    same =
        rw helper_at
        (set_out (set (take v d) i y) v nowhere (omega (arith, length-set (take v d) i y, length-take v d))
        ∙ sym (ap (take v) (set-set (take (suc v) d) i nowhere y) ∙ take_set v (take (suc v) d) i y ∙ ap (λ (l : List ℕ). set l i y) (take-take v (suc v) d (omega arith))))

-- ---- by kind

module _ (variables kind a b : ℕ) (s : List ℕ) (o : Operands variables kind a b) (h : ShapeArray (working variables b) s)
    (load : kind ≡ 4 → 3 ≤ operand_at s b) (store : kind ≡ 5 → 3 ≤ operand_at s a) where
  abbrev x : ℕ
  x = operand_at s a

  abbrev y : ℕ
  y = operand_at s b

  abbrev Undone : List ℕ → Type 0
  Undone t = HoldsShape variables t (changed variables kind a b (shape_in (working variables b) s))

  -- without a helper
  module _ (n : b ≤ variables) where
    plain : ShapeArray variables s
    plain = rw (working_same variables b n) at h

    undo_none : (ltb kind 3 || ltb 5 kind) ≡ true → Undone s
    unfolding changed
    undo_none k = rw (working_same variables b n) (record { array = plain; same = simp k })

    undo_itself : kind ≡ 3 → a ≡ b → Undone s
    unfolding changed
    undo_itself k e = rw (working_same variables b n) (record { array = plain; same = rw k (simp (eq-eqb a b e)) })

    undo_assign : kind ≡ 3 → a ≢ b → Undone (set_operand s a nowhere)
    unfolding changed
    undo_assign k e =
        rw (working_same variables b n)
        (record {
          array = array_operand variables s plain a nowhere (o.a_some (omega arith)) o.a_most (omega arith);
          same = rw k (simp (ne_eqb a b e) (shape_operand variables s a nowhere h.cells_fit (o.a_some (omega arith))));
        })

    undo_store : kind ≡ 5 → Undone (set_link_of s x nowhere)
    unfolding changed
    undo_store k =
        rw (working_same variables b n)
        (record {
          array = array_link variables s plain x nowhere (store k) (h.operands_range a) (omega arith);
          same = rw (k, var_in_lem variables s plain a) (shape_link variables s x nowhere (store k) (omega (arith, h.operands_range a, h.cells_fit)));
        })

  module _ (k : kind ≡ 4) (q : ℕ) (q_is : q ≡ y) where
    low : 3 ≤ q
    low = rw q_is (load k)

    -- the link of b's cell, at q, is set to a's place
    linked : (w : ℕ) → ShapeArray w s → HoldsShape w (set_link_of s q x) (set_link (var_at (shape_in w s) b) (var_at (shape_in w s) a) (shape_in w s))
    linked w p =
        record {
          array = array_link w s p q x low (omega (arith, p.operands_range b)) (p.operands_range a);
          same = rw (var_in_lem w s p a, var_in_lem w s p b, ← q_is) (shape_link w s q x low (omega (arith, p.operands_range b, p.cells_fit)));
        }

    undo_load : b ≤ variables → Undone (set_operand (set_link_of s q x) a nowhere)
    unfolding changed
    undo_load n =
        let done = linked variables (plain n) in
        rw (working_same variables b n)
        (record {
          array = array_operand variables (set_link_of s q x) done.array a nowhere (o.a_some (omega arith)) o.a_most (omega arith);
          same =
              rw k
              (simp (le-ltb variables b n)
              (shape_operand variables (set_link_of s q x) a nowhere done.array.cells_fit (o.a_some (omega arith)) ∙ ap (set_var a nowhere) done.same));
        })

    undo_helper : b ≡ suc variables → Undone (set_operand (set_operand (set_link_of s q x) a q) b nowhere)
    unfolding changed
    undo_helper e =
        rw (working_more variables b (omega arith))
        (record {
          array =
              rw e
              (drop_array variables (set_operand (set_link_of s q x) a q)
              (array_operand (suc variables) (set_link_of s q x) done.array a q some (omega (arith, o.a_most)) (rw (count_link s q x low) (omega (arith, p.operands_range b)))));
          same =
              rw (k, e)
              (simp (lt-ltb variables (suc variables) (omega arith))
              (drop_shape variables (set_link_of s q x) a q done.array.cells_fit some o.a_most helper_at
              ∙ ap (λ (t : Shape). drop_helper a variables (set_var a nowhere t)) (rw e at done.same)));
        })
      where
        p : ShapeArray (suc variables) s
        p = rw (working_more variables b (omega arith)) at h

        done : HoldsShape (suc variables) (set_link_of s q x) (set_link (var_at (shape_in (suc variables) s) b) (var_at (shape_in (suc variables) s) a) (shape_in (suc variables) s))
        done = linked (suc variables) p

        some : 1 ≤ a
        some = o.a_some (omega arith)

        helper_at : var_at (shape_in (suc variables) (set_link_of s q x)) (suc variables) ≡ q
        helper_at =
            var_in_lem (suc variables) (set_link_of s q x) done.array (suc variables)
            ∙ get_or-set_other s q (17 + suc variables) x nowhere (omega (arith, p.operands_range b, p.cells_fit))
            ∙ ap (λ (j : ℕ). get_or s (17 + j) nowhere) (sym e)
            ∙ sym q_is

  -- ---- the definition, case by case

  undone_none : (ltb kind 3 || ltb 5 kind) ≡ true → kind ≢ 4 → Undone (undone_in variables kind a b s)
  unfolding undone_in
  undone_none k z = simp k (undo_none (no_helper variables kind a b o z) k)

  undone_assign : kind ≡ 3 → Dec (a ≡ b) → Undone (undone_in variables kind a b s)
  unfolding undone_in
  undone_assign k (yes e) = simp (le-ltb kind 3 (omega arith), le-ltb 5 kind (omega arith), eq-eqb kind 3 k, eq-eqb a b e) (undo_itself (no_helper variables kind a b o (omega arith)) k e)
  undone_assign k (no e) = simp (le-ltb kind 3 (omega arith), le-ltb 5 kind (omega arith), eq-eqb kind 3 k, ne_eqb a b e) (undo_assign (no_helper variables kind a b o (omega arith)) k e)

  undone_load : kind ≡ 4 → Dec (variables < b) → Undone (undone_in variables kind a b s)
  unfolding undone_in
  undone_load k (yes l) =
      simp (le-ltb kind 3 (omega arith), le-ltb 5 kind (omega arith), ne_eqb kind 3 (omega arith), ne_eqb kind 5 (omega arith), lt-ltb variables b l) (undo_helper k y refl (omega (arith, o.b_most)))
  undone_load k (no l) =
      simp (le-ltb kind 3 (omega arith), le-ltb 5 kind (omega arith), ne_eqb kind 3 (omega arith), ne_eqb kind 5 (omega arith), le-ltb variables b (omega arith)) (undo_load k y refl (omega arith))

  undone_store : kind ≡ 5 → Undone (undone_in variables kind a b s)
  unfolding undone_in
  undone_store k =
      simp (le-ltb kind 3 (omega arith), le-ltb 5 kind (omega arith), ne_eqb kind 3 (omega arith), eq-eqb kind 5 k)
      (undo_store (no_helper variables kind a b o (omega arith)) k)

  by_kind : Dec (kind < 3) → Dec (5 < kind) → Dec (kind ≡ 3) → Dec (kind ≡ 4) → Undone (undone_in variables kind a b s)
  by_kind (yes l) h d e = undone_none (rw (lt-ltb kind 3 l) refl) (omega arith)
  by_kind (no l) (yes h) d e = undone_none (rw (le-ltb kind 3 (omega arith), lt-ltb 5 kind h) refl) (omega arith)
  by_kind (no l) (no h) (yes d) e = undone_assign d (ℕ_discrete a b)
  by_kind (no l) (no h) (no d) (yes e) = undone_load e (dec_lt variables b)
  by_kind (no l) (no h) (no d) (no e) = undone_store (omega arith)

  -- what the operation changes is put back
  pub undone : Undone (undone_in variables kind a b s)
  undone = by_kind (dec_lt kind 3) (dec_lt 5 kind) (ℕ_discrete kind 3) (ℕ_discrete kind 4)
