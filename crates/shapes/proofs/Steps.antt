-- The wanted choices of the operand placed first, and of the one placed last, in the array of the shape under work.
use mathlib.Core.Bool.{Bool, true, false, cond}
use mathlib.Core.List.{List, [], ◌∷◌}
use mathlib.Core.Logic.{◌≢◌}
use mathlib.Core.Path.{◌≡◌, refl, sym, ap, subst, ◌∙◌}
use Prim.Native.Nat.{ℕ, suc, ◌+◌, ◌-◌, ◌≤◌, ◌<◌}
use native.Mathlib.Omega.{arith}
use borrow.Author.Tests.{eq-eqb, ne_eqb}
use lib.Dec.{eqb}
use lib.ListN.{length, get_or}
use Rattle.lists.specs.List.{concat_map}
use Rattle.lists.specs.Range.{range}
use Rattle.heap.specs.Place.{nowhere, dangling, cell}
use Rattle.place.specs.Place.{both_nowhere}
use Rattle.shape.specs.Shape.{Shape, var_at, size}
use Rattle.layout.specs.ShapeArray.{cell_count, operand_at, links_in, shape_in}
use Rattle.placing.specs.Choice.{put}
use Rattle.placing.specs.Chosen.{last_operand, last_of, put_first, first_of}
use Rattle.placing.specs.Retained.{retained_in, changed, firsts}
use Rattle.placing.specs.Wanted.{fits_in, choices_of}
use Rattle.placing.specs.declared.Choices.{Choices}
use Rattle.placing.specs.declared.Wanted.{Wanted}
use Rattle.placing.proofs.ByNumber.{clash, both_nowhere_lem, lasts_by_number, last_retained, firsts_by_number}
use Rattle.placing.proofs.Chosen.{chosen_placed, retained_cell}
use Rattle.placing.proofs.Putting.{put_other, put_same}
use Rattle.placing.proofs.Ranges.{stretch, Covers, covers_map, covers, sound_first, sound_last}
use Rattle.placing.proofs.Wants.{first_a_dangling, first_b_dangling}
use Rattle.shapes.specs.Change.{placed_in, undone_in}
use Rattle.shapes.specs.Operands.{HoldsShape, working, shape_under, Working, OneToPlace, wanted_first_in, first_placed_in, last_operand_in, wanted_last_in}
use Rattle.shapes.proofs.Place.{Placing, placed}
use Rattle.shapes.proofs.Slots.{size_in, vars_in, var_in_lem, links_in_range}
use Rattle.shapes.proofs.Undo.{working_room, undone}

whole_size : {m n : ℕ} → m ≡ n → n + (2 + n) - 0 ≡ m + (2 + m)
whole_size e = omega arith

-- ---- the definitions, case by case

module _ (a b : ℕ) (s : List ℕ) where
  pub last_a : operand_at s a ≡ nowhere → a ≡ last_operand_in a b s
  unfolding last_operand_in
  last_a e = simp (eq-eqb (operand_at s a) nowhere e)

  pub last_b : operand_at s a ≢ nowhere → b ≡ last_operand_in a b s
  unfolding last_operand_in
  last_b n = simp (ne_eqb (operand_at s a) nowhere n)

  pub first_array : (k : ℕ) (t : Bool) → both_nowhere (eqb a b) (operand_at s a) (operand_at s b) ≡ t → first_placed_in a b s k ≡ cond t (placed_in s a k) s
  unfolding first_placed_in
  first_array k t e = rw e refl

module _ {variables kind a b : ℕ} {s : List ℕ} where
  module _ (most : ℕ) (p : Working most variables kind a b s) where
    room : (variables ≤ working variables b) × (b ≤ working variables b) × (working variables b ≤ suc variables)
    room = working_room variables b p.operands.b_most

    at_operand : (v : ℕ) → var_at (shape_under variables b s) v ≡ operand_at s v
    at_operand v = var_in_lem (working variables b) s p.array v

    size_is : length (links_in s) ≡ cell_count s
    size_is = size_in (working variables b) s p.array

    a_room : a ≤ working variables b
    a_room = omega (arith, room.0, p.operands.a_most)

    b_slot : b ≤ length (shape_under variables b s).vars
    b_slot = rw (vars_in (working variables b) s p.array) room.1

    a_slot : a ≤ length (shape_under variables b s).vars
    a_slot = rw (vars_in (working variables b) s p.array) a_room

    links_range : (i : ℕ) → i < length (links_in s) → get_or (links_in s) i nowhere < cell (length (links_in s))
    links_range = links_in_range (working variables b) s p.array

    inside : (v : ℕ) → operand_at s v < cell (length (links_in s))
    inside v = rw size_is (p.array.operands_range v)

    -- the last operand of the array is that of its shape
    last_is : last_operand a b (shape_under variables b s) ≡ last_operand_in a b s
    unfolding last_operand last_operand_in
    last_is = rw (at_operand a) refl

    last_room : last_operand_in a b s ≤ working variables b
    unfolding last_operand_in
    last_room = go (eqb (operand_at s a) nowhere)
      where
        go : (t : Bool) → cond t a b ≤ working variables b
        go true = a_room
        go false = room.1

  -- ---- the operand placed last

  module _ (p : OneToPlace variables kind a b s) where
    w : Working 13 variables kind a b s
    w = p.work

    pub last_most : last_operand_in a b s ≤ 9
    last_most = omega (arith, last_room 13 w, (room 13 w).2, w.operands.variables_most)

    one : var_at (shape_under variables b s) a ≡ nowhere → a ≢ b → var_at (shape_under variables b s) b ≢ nowhere
    one e n z = p.one (sym (at_operand 13 w a) ∙ e) n (sym (at_operand 13 w b) ∙ z)

    a_safe : var_at (shape_under variables b s) a ≢ dangling
    a_safe = rw (at_operand 13 w a) p.a_safe

    b_safe : var_at (shape_under variables b s) b ≢ dangling
    b_safe = rw (at_operand 13 w b) p.b_safe

    -- the wanted choices give all that is retained
    pub last_range : stretch (last_of variables kind a b (shape_under variables b s)) 0 (cell_count s + (2 + cell_count s)) ≡ firsts variables kind a b (shape_under variables b s)
    last_range =
        ap (λ (m : ℕ). concat_map (last_of variables kind a b (shape_under variables b s)) (range 0 m)) (whole_size (size_is 13 w))
        ∙ lasts_by_number variables kind a b (shape_under variables b s) w.operands.kind_least (links_range 13 w) w.operands.apart (a_slot 13 w) a_safe b_safe (b_slot 13 w) one
        (rw (at_operand 13 w a) (inside 13 w a)) (rw (at_operand 13 w b) (inside 13 w b))

    module _ (k : ℕ) where
      pub last_none : fits_in (links_in s) (wanted_last_in kind a b s) k ≡ false → last_of variables kind a b (shape_under variables b s) k ≡ []
      unfolding last_of
      last_none e = rw (at_operand 13 w a, at_operand 13 w b, e) refl

      module _ (e : fits_in (links_in s) (wanted_last_in kind a b s) k ≡ true) where
        pub last_one : last_of variables kind a b (shape_under variables b s) k ≡ changed variables kind a b (put (last_operand_in a b s) (shape_under variables b s) k) ∷ []
        unfolding last_of
        last_one = rw (last_is 13 w, at_operand 13 w a, at_operand 13 w b, e) refl

        module _ (past : k < cell_count s + (2 + cell_count s)) where
          now : HoldsShape (working variables b) (placed_in s (last_operand_in a b s) k) (put (last_operand_in a b s) (shape_under variables b s) k)
          now = (placed (working variables b) s w.array w.cells (last_operand_in a b s) k (last_room 13 w) past).holds

          -- it is placed at a slot of the array
          pub last_slots : (v : ℕ) → operand_at (placed_in s (last_operand_in a b s) k) v < 17
          last_slots v = omega (arith, now.array.operands_range v, now.array.cells_fit)

          -- it is placed, and what the operation changes is put back
          pub last_held : HoldsShape variables (undone_in variables kind a b (placed_in s (last_operand_in a b s) k)) (changed variables kind a b (put (last_operand_in a b s) (shape_under variables b s) k))
          unfolding retained_in
          last_held =
              rw now.same at
              (undone variables kind a b (placed_in s (last_operand_in a b s) k) w.operands now.array (λ i. rw (stands b) (cells.0 i)) (λ i. rw (stands a) (cells.1 i)))
            where
              t : Shape
              t = put (last_operand_in a b s) (shape_under variables b s) k

              stands : (v : ℕ) → operand_at (placed_in s (last_operand_in a b s) k) v ≡ var_at t v
              stands v = sym (var_in_lem (working variables b) (placed_in s (last_operand_in a b s) k) now.array v) ∙ ap (λ (u : Shape). var_at u v) now.same

              retains : retained_in kind a b t ≡ true
              retains =
                  rw (last_is 13 w) at
                  (last_retained variables kind a b (shape_under variables b s) w.operands.kind_least (links_range 13 w) w.operands.apart (a_slot 13 w) a_safe b_safe (b_slot 13 w) one
                  (rw (at_operand 13 w a) (inside 13 w a)) (rw (at_operand 13 w b) (inside 13 w b)) k (omega (arith, size_is 13 w)) (rw (at_operand 13 w a, at_operand 13 w b) e))

              cells : (kind ≡ 4 → 3 ≤ var_at t b) × (kind ≡ 5 → 3 ≤ var_at t a)
              cells = retained_cell kind (var_at t a) (var_at t b) t.links retains

  -- the choices to try leave none of them out
  pub last_covers : (p : OneToPlace variables kind a b s) {wanted : Wanted} {c : Choices} → wanted ≡ wanted_last_in kind a b s → c ≡ choices_of (cell_count s) wanted
      → Covers c (λ j. last_of variables kind a b (shape_under variables b s) j ≡ []) 0 (cell_count s + (2 + cell_count s))
  last_covers p w-is c_is =
      let want = wanted_last_in kind a b s in
      let sound = sound_last kind (eqb a b) (links_in s) (operand_at s a) (operand_at s b) (inside 13 p.work a) (inside 13 p.work b) (links_range 13 p.work) in
      rw (c_is, w-is)
      (covers_map (λ j. last_none p j)
      (subst (λ (m : ℕ). Covers (choices_of m want) (λ j. fits_in (links_in s) want j ≡ false) 0 (m + (2 + m))) (size_is 13 p.work) (covers (links_in s) want sound)))

  -- ---- the operand placed first

  module _ (p : Working 12 variables kind a b s) where
    -- the wanted choices give all that is retained
    pub first_range : stretch (first_of variables kind a b (shape_under variables b s)) 0 (cell_count s + (2 + cell_count s)) ≡ firsts variables kind a b (shape_under variables b s)
    first_range =
        ap (λ (m : ℕ). concat_map (first_of variables kind a b (shape_under variables b s)) (range 0 m)) (whole_size (size_is 12 p))
        ∙ firsts_by_number variables kind a b (shape_under variables b s) p.operands.kind_least (links_range 12 p) (a_slot 12 p)

    module _ (k : ℕ) where
      pub first_none : fits_in (links_in s) (wanted_first_in a b s) k ≡ false → first_of variables kind a b (shape_under variables b s) k ≡ []
      unfolding first_of
      first_none e = rw (at_operand 12 p a, at_operand 12 p b, e) refl

      module _ (wanted : fits_in (links_in s) (wanted_first_in a b s) k ≡ true) (past : k < cell_count s + (2 + cell_count s)) where
        -- nothing is wanted where one is at *
        a_unlost : operand_at s a ≢ dangling
        a_unlost e = clash (sym (first_a_dangling (eqb a b) (operand_at s a) (operand_at s b) (links_in s) k e) ∙ wanted)

        b_unlost : operand_at s b ≢ dangling
        b_unlost e = clash (sym (first_b_dangling (eqb a b) (operand_at s a) (operand_at s b) (links_in s) k e) ∙ wanted)

        next : Placing (working variables b) s p.array (omega (arith, p.cells)) a k (a_room 12 p) past (placed_in s a k)
        next = placed (working variables b) s p.array (omega (arith, p.cells)) a k (a_room 12 p) past

        -- by whether both are nowhere
        module _ (t : Bool) (is : both_nowhere (eqb a b) (operand_at s a) (operand_at s b) ≡ t) where
          first_shape : put_first a b (shape_under variables b s) k ≡ cond t (put a (shape_under variables b s) k) (shape_under variables b s)
          unfolding put_first
          first_shape = rw (at_operand 12 p a, at_operand 12 p b, is) refl

        same : (t : Bool) → shape_in (working variables b) (cond t (placed_in s a k) s) ≡ cond t (put a (shape_under variables b s) k) (shape_under variables b s)
        same true = next.holds.same
        same false = refl

        -- what then is to be taken
        pub first_some : first_of variables kind a b (shape_under variables b s) k ≡ firsts variables kind a b (shape_under variables b (first_placed_in a b s k))
        unfolding first_of
        first_some =
            let t = both_nowhere (eqb a b) (operand_at s a) (operand_at s b) in
            rw (at_operand 12 p a, at_operand 12 p b, wanted) (ap (firsts variables kind a b) (first_shape t refl ∙ sym (same t) ∙ ap (shape_in (working variables b)) (sym (first_array a b s k t refl))))

        -- then at most one variable is still to be placed
        pub first_placed : OneToPlace variables kind a b (first_placed_in a b s k)
        unfolding both_nowhere
        first_placed = rw (first_array a b s k (both_nowhere (eqb a b) (operand_at s a) (operand_at s b)) refl) (go (both_nowhere (eqb a b) (operand_at s a) (operand_at s b)) refl)
          where
            go : (t : Bool) → both_nowhere (eqb a b) (operand_at s a) (operand_at s b) ≡ t → OneToPlace variables kind a b (cond t (placed_in s a k) s)
            go false f =
                record {
                  work = record { operands = p.operands; cells = omega (arith, p.cells); array = p.array };
                  a_safe = a_unlost;
                  b_safe = b_unlost;
                  one = λ e n z. clash (sym f ∙ both_two e n z);
                }
              where
                both_two : operand_at s a ≡ nowhere → a ≢ b → operand_at s b ≡ nowhere → both_nowhere (eqb a b) (operand_at s a) (operand_at s b) ≡ true
                both_two e n z = simp (eq-eqb (operand_at s a) nowhere e, eq-eqb (operand_at s b) nowhere z, ne_eqb a b n)
            go true f =
                let (x, y, n) = both_nowhere_lem a b (operand_at s a) (operand_at s b) f in
                let (c-some, c-safe) = chosen_placed (size (shape_under variables b s)) k in
                let a_is = stands a ∙ put_same a (shape_under variables b s) k (at_operand 12 p a ∙ x) (a_slot 12 p) in
                let b_is = stands b ∙ put_other a (shape_under variables b s) k b (λ j. n (sym j)) ∙ at_operand 12 p b in
                record {
                  work = record { operands = p.operands; cells = omega (arith, next.most, p.cells); array = next.holds.array };
                  a_safe = λ i. c-safe (sym a_is ∙ i);
                  b_safe = λ i. b_unlost (sym b_is ∙ i);
                  one = λ i. absurd (c-some (sym a_is ∙ i));
                }
              where
                stands : (v : ℕ) → operand_at (placed_in s a k) v ≡ var_at (put a (shape_under variables b s) k) v
                stands v = sym (var_in_lem (working variables b) (placed_in s a k) next.holds.array v) ∙ ap (λ (u : Shape). var_at u v) next.holds.same

  -- the choices to try leave none of them out
  pub first_covers : (p : Working 12 variables kind a b s) {wanted : Wanted} {c : Choices} → wanted ≡ wanted_first_in a b s → c ≡ choices_of (cell_count s) wanted
      → Covers c (λ j. first_of variables kind a b (shape_under variables b s) j ≡ []) 0 (cell_count s + (2 + cell_count s))
  first_covers p w-is c_is =
      let want = wanted_first_in a b s in
      let sound = sound_first (length (links_in s)) (eqb a b) (operand_at s a) (operand_at s b) in
      rw (c_is, w-is)
      (covers_map (λ j. first_none p j)
      (subst (λ (m : ℕ). Covers (choices_of m want) (λ j. fits_in (links_in s) want j ≡ false) 0 (m + (2 + m))) (size_is 12 p) (covers (links_in s) want sound)))
