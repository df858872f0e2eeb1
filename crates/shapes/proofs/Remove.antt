-- Kind 6: what was before new, and the array without a cell.
use mathlib.Core.List.Memᴰ
use mathlib.Core.List.{List, [], ◌∷◌, map}
use mathlib.Core.Logic.{◌≢◌}
use mathlib.Core.Path.{◌≡◌, refl, sym, ap, ap₂, ◌∙◌}
use Prim.Native.Nat.{ℕ, zero, suc, ◌+◌, ◌-◌, ◌≤◌, ◌<◌}
use native.Mathlib.Decide.{dec_lt}
use native.Mathlib.Omega.{arith}
use Rattle.std.proofs.lemmas.Bool.Decides.{nat_tests}
use borrow.Author.Tests.{lt-ltb, ne_eqb}
use lib.Dec.{T}
use lib.ListN.{length, get_or, drop, length-map}
use lib.Seq.{get_or-take, get_or-drop, ext_get_or}
use Rattle.lists.proofs.List.{at_mem, get_or_mem, mem_get_or}
use Rattle.heap.specs.Place.{nowhere, null, cell}
use Rattle.shape.specs.Shape.{Shape, AllBelow, var_at, size}
use Rattle.shape.proofs.Laws.{link_map}
use Rattle.backward.specs.Predecessors.{remove_at, lower, remove_cell}
use Rattle.backward.proofs.Remove.{lower_low, lower_below, links_remove_length}
use Rattle.layout.specs.ShapeArray.{cell_count, operand_at, links_in, shape_in, ShapeArray}
use Rattle.shapes.specs.Change.{slot_from, slot_without, array_without}
use Rattle.shapes.specs.Operands.{HoldsShape}
use Rattle.shapes.specs.Without.{is_free}
use Rattle.shapes.proofs.New.{r_is_free}
use Rattle.shapes.proofs.Slots.{size_in, vars_in, var_in_lem, link_in_lem, links_in_range}
use Rattle.shapes.proofs.Tables.{table_length, table_at, operands_all, vars_mapped}

-- ---- where a stands

module _ (variables : ℕ) (s : List ℕ) (h : ShapeArray variables s) where
  abbrev shape : Shape
  shape = shape_in variables s

  pub vars_below : AllBelow (cell (cell_count s)) shape.vars
  vars_below x m =
      let (i, b, e) = mem_get_or shape.vars x m in
      let slot : 18 + i ≡ 17 + suc i = omega arith in
      let e' = sym e ∙ get_or-take variables (drop 18 s) i nowhere (omega (arith, vars_in variables s h)) ∙ get_or-drop 18 s i nowhere ∙ ap (λ (j : ℕ). get_or s j nowhere) slot in
      rw e' (h.operands_range (suc i))

  pub links_below : AllBelow (cell (size shape)) shape.links
  links_below x m = let (i, b, e) = mem_get_or shape.links x m in rw (sym e) (links_in_range variables s h i b)

-- ---- the array without cell k

remove_low : (k i : ℕ) (l : List ℕ) → i < k → get_or (remove_at k l) i nowhere ≡ get_or l i nowhere
remove_low k i [] h = refl
remove_low zero i (x ∷ xs) h = absurd (omega arith)
remove_low (suc k) zero (x ∷ xs) h = refl
remove_low (suc k) (suc i) (x ∷ xs) h = remove_low k i xs (omega arith)

remove_high : (k i : ℕ) (l : List ℕ) → k ≤ i → get_or (remove_at k l) i nowhere ≡ get_or l (suc i) nowhere
remove_high k i [] h = refl
remove_high zero i (x ∷ xs) h = refl
remove_high (suc k) zero (x ∷ xs) h = absurd (omega arith)
remove_high (suc k) (suc i) (x ∷ xs) h = remove_high k i xs (omega arith)

-- slot by slot
module _ (s : List ℕ) (k : ℕ) where
  pub slot_count : slot_without s k 0 ≡ cell_count s - 1
  unfolding slot_without
  slot_count = refl

  pub slot_low : (i : ℕ) → i ≢ 0 → i < 3 → get_or s i 0 ≡ slot_without s k i
  unfolding slot_without
  slot_low i o h = simp (ne_eqb i 0 o, lt-ltb i 3 h)

  -- the slot of a link or an operand
  pub slot_place : (i : ℕ) → 3 ≤ i → slot_without s k i ≡ lower (cell k) (get_or s (slot_from (cell_count s) k i) 0)
  unfolding slot_without
  slot_place i h = grind (arith, nat_tests)

module _ (n k i : ℕ) where
  pub from_same : (cell k ≤ i → suc i < cell n → ⊥) → slot_from n k i ≡ i
  unfolding slot_from
  from_same o = grind (arith, nat_tests)

  pub from_next : cell k ≤ i → suc i < cell n → slot_from n k i ≡ suc i
  unfolding slot_from
  from_next l m = grind (arith, nat_tests)

module _ (variables : ℕ) (s : List ℕ) (h : ShapeArray variables s) (k : ℕ) (is_cell : k < cell_count s) (free : T (is_free (cell k) (shape_in variables s)))
    (t : List ℕ) (t-length : length t ≡ 28) (t-at : (i : ℕ) → i < 28 → get_or t i 0 ≡ slot_without s k i) where
  abbrev c : ℕ
  c = cell k

  abbrev old : Shape
  old = shape_in variables s

  low : lower c nowhere ≡ nowhere
  low = lower_low c nowhere (omega arith)

  count : cell_count t ≡ cell_count s - 1
  count = t-at 0 (omega arith) ∙ slot_count s k

  operand : (y : ℕ) → operand_at t y ≡ lower c (operand_at s y)
  operand =
      operands_all (lower c) s t h.slots t-length low
      (λ y b. t-at (17 + y) (omega arith) ∙ slot_place s k (17 + y) (omega arith)
      ∙ ap (λ (j : ℕ). lower c (get_or s j 0)) (from_same (cell_count s) k (17 + y) (λ _ m. omega (arith, h.cells_fit))))

  -- the link of cell i is that of the cell `was`
  record Link (i : ℕ) : Type 0 where
    was : ℕ
    inside : was < cell_count s
    slot : get_or t (cell i) nowhere ≡ lower c (get_or s (cell was) nowhere)
    same : get_or (remove_at k (links_in s)) i nowhere ≡ get_or (links_in s) was nowhere

  link : (i : ℕ) → i < cell_count s - 1 → Link i
  link i b = go (dec_lt i k)
    where
      at_slot : get_or t (cell i) nowhere ≡ lower c (get_or s (slot_from (cell_count s) k (cell i)) 0)
      at_slot = t-at (cell i) (omega (arith, h.cells_fit)) ∙ slot_place s k (cell i) (omega arith)

      go : Dec (i < k) → Link i
      go (yes l) =
          record {
            was = i;
            inside = omega arith;
            slot = at_slot ∙ ap (λ (j : ℕ). lower c (get_or s j 0)) (from_same (cell_count s) k (cell i) (λ m _. omega arith));
            same = remove_low k i (links_in s) l;
          }
      go (no l) =
          record {
            was = suc i;
            inside = omega arith;
            slot = at_slot ∙ ap (λ (j : ℕ). lower c (get_or s j 0)) (from_next (cell_count s) k (cell i) (omega arith) (omega arith));
            same = remove_high k i (links_in s) (omega arith);
          }

  -- nothing stands at the cell
  no_operand : (y : ℕ) → operand_at s y ≢ c
  no_operand y e = at y (var_in_lem variables s h y ∙ e)
    where
      at : (y : ℕ) → var_at old y ≡ c → ⊥
      at zero z = let q : null ≡ c = z in omega arith
      at (suc v) z = ((r_is_free c old).holds free).1.1.1 (at_mem old.vars v c (omega arith) z)

  no_link : (j : ℕ) → j < cell_count s → get_or s (cell j) nowhere ≢ c
  no_link j b e =
      let inside : j < length old.links = omega (arith, size_in variables s h) in
      ((r_is_free c old).holds free).1.1.0 (Memᴰ.cast (sym (link_in_lem s j b ∙ e)) (get_or_mem old.links j inside))

  array : ShapeArray variables t
  array =
      record {
        slots = t-length;
        variables_fit = h.variables_fit;
        cells_fit = rw count (omega (arith, h.cells_fit));
        null_place = operand 0 ∙ ap (lower c) h.null_place ∙ lower_low c null (omega arith);
        operands_range = λ y.
            rw (count, operand y) (lower_below c (operand_at s y) (cell (cell_count s - 1)) (omega arith) (omega (arith, h.operands_range y)) (no_operand y));
        operands_above = λ y a. operand y ∙ ap (lower c) (h.operands_above y a) ∙ low;
        links_range = λ i b. rw count (range i (rw count at b));
      }
    where
      range : (i : ℕ) → i < cell_count s - 1 → get_or t (cell i) nowhere < cell (cell_count s - 1)
      range i b =
          let l = link i b in
          rw l.slot
          (lower_below c (get_or s (cell l.was) nowhere) (cell (cell_count s - 1)) (omega arith) (omega (arith, h.links_range l.was l.inside))
          (no_link l.was l.inside))

  links_same : links_in t ≡ map (lower c) (remove_at k (links_in s))
  links_same =
      ext_get_or nowhere (links_in t) (map (lower c) (remove_at k (links_in s))) (long ∙ sym (length-map (remove_at k (links_in s)) (lower c) ∙ fewer))
      (λ i b. let inside : i < cell_count s - 1 = omega (arith, long) in
      let l = link i inside in
      link_in_lem t i (rw count inside) ∙ l.slot ∙ ap (lower c) (sym (link_in_lem s l.was l.inside) ∙ sym l.same)
      ∙ sym (link_map (lower c) low (remove_at k (links_in s)) (cell i)))
    where
      long : length (links_in t) ≡ cell_count s - 1
      long = size_in variables t array ∙ count

      fewer : length (remove_at k (links_in s)) ≡ cell_count s - 1
      fewer = omega (arith, links_remove_length c (links_in s) (omega arith, omega (arith, size_in variables s h)), size_in variables s h)

  holds_slots : HoldsShape variables t (remove_cell (cell k) (shape_in variables s))
  holds_slots =
      record {
        array = array;
        same =
            ap₂ (λ (v l : List ℕ). record { vars = v; links = l; facts = [] })
            (vars_mapped (lower c) variables s t h.slots t-length h.variables_fit low operand) links_same;
      }

-- the array holds the shape without the cell
pub holds_without : (variables : ℕ) (s : List ℕ) → ShapeArray variables s → (k : ℕ) → k < cell_count s → T (is_free (cell k) (shape_in variables s))
    → HoldsShape variables (array_without s k) (remove_cell (cell k) (shape_in variables s))
holds_without variables s h k is_cell free =
    holds_slots variables s h k is_cell free (array_without s k) (table_length (slot_without s k)) (table_at (slot_without s k))
