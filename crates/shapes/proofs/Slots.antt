-- The layout of a shape in an array: what is read from it, and what a store changes.
use mathlib.Core.List.{List, [], ◌∷◌, ◌++◌}
use mathlib.Core.Logic.{◌≢◌}
use mathlib.Core.Path.{◌≡◌, sym, ap, ap₂, ◌∙◌}
use Prim.Native.Nat.{ℕ, zero, suc, ◌+◌, ◌≤◌, ◌<◌}
use native.Mathlib.Decide.{ℕ_discrete, dec_lt}
use native.Mathlib.Omega.{arith}
use lib.ListN.{length, get_or, set, take, drop, length-set, length-take, length-drop, get_or-eq_default}
use lib.Seq.{
  length-take-le,
  get_or-take,
  get_or-drop,
  get_or-set_same,
  get_or-set_other,
  take-set-le,
  take-set-lt,
  set_out,
  drop-set-add,
  drop-set-lt,
  take-suc,
  take-suc-set,
}
use Rattle.heap.specs.Place.{nowhere, cell}
use Rattle.shape.specs.Placing.{set_var}
use Rattle.shape.specs.Shape.{var_at}
use Rattle.backward.specs.Predecessors.{set_link, add_helper}
use Rattle.layout.specs.ShapeArray.{cell_count, operand_at, links_in, shape_in, ShapeArray}
use Rattle.shapes.specs.Change.{set_operand, set_link_of, add_cell}

-- ---- what is read

module _ (w : ℕ) (s : List ℕ) (h : ShapeArray w s) where
  pub size_in : length (links_in s) ≡ cell_count s
  size_in = length-take-le (cell_count s) (drop 3 s) (omega (arith, length-drop 3 s, h.slots, h.cells_fit))

  pub vars_in : length (shape_in w s).vars ≡ w
  vars_in = length-take-le w (drop 18 s) (omega (arith, length-drop 18 s, h.slots, h.variables_fit))

  pub var_in_lem : (x : ℕ) → var_at (shape_in w s) x ≡ operand_at s x
  var_in_lem zero = sym h.null_place
  var_in_lem (suc i) = go (dec_lt i w)
    where
      i_is : 18 + i ≡ 17 + suc i
      i_is = omega arith

      go : Dec (i < w) → get_or (take w (drop 18 s)) i nowhere ≡ get_or s (17 + suc i) nowhere
      go (yes b) = get_or-take w (drop 18 s) i nowhere b ∙ get_or-drop 18 s i nowhere ∙ ap (λ (j : ℕ). get_or s j nowhere) i_is
      go (no b) = get_or-eq_default (take w (drop 18 s)) nowhere (omega (arith, vars_in)) ∙ sym (h.operands_above (suc i) (omega arith))

pub link_in_lem : (s : List ℕ) (i : ℕ) → i < cell_count s → get_or (links_in s) i nowhere ≡ get_or s (cell i) nowhere
link_in_lem s i b =
    let i_is : 3 + i ≡ cell i = omega arith in
    get_or-take (cell_count s) (drop 3 s) i nowhere b ∙ get_or-drop 3 s i nowhere ∙ ap (λ (j : ℕ). get_or s j nowhere) i_is

-- the links of an array in range are
pub links_in_range : (w : ℕ) (s : List ℕ) → ShapeArray w s → (i : ℕ) → i < length (links_in s) → get_or (links_in s) i nowhere < cell (length (links_in s))
links_in_range w s h i b =
    let e = size_in w s h in
    let inside : i < cell_count s = omega arith in
    rw (e, link_in_lem s i inside) (h.links_range i inside)

-- ---- an operand is set

pub take_set : (n : ℕ) (l : List ℕ) (i p : ℕ) → take n (set l i p) ≡ set (take n l) i p
take_set n l i p = go (dec_lt i n)
  where
    go : Dec (i < n) → take n (set l i p) ≡ set (take n l) i p
    go (yes h) = take-set-lt n l i p h
    go (no h) = take-set-le n l i p (omega arith) ∙ sym (set_out (take n l) i p (omega (arith, length-take n l)))

module _ (s : List ℕ) (x p : ℕ) where
  pub count_operand : cell_count (set_operand s x p) ≡ cell_count s
  count_operand = get_or-set_other s (17 + x) 0 p 0 (omega arith)

  pub links_operand : cell_count s ≤ 14 → links_in (set_operand s x p) ≡ links_in s
  links_operand c =
      let slot : 17 + x ≡ 3 + (14 + x) = omega arith in
      rw (count_operand, slot, drop-set-add 3 s (14 + x) p) (take-set-le (cell_count s) (drop 3 s) (14 + x) p (omega arith))

pub shape_operand : (w : ℕ) (s : List ℕ) (x p : ℕ) → cell_count s ≤ 14 → 1 ≤ x → shape_in w (set_operand s x p) ≡ set_var x p (shape_in w s)
shape_operand w s zero p c h = absurd (omega arith)
shape_operand w s (suc i) p c h =
    let slot : 17 + suc i ≡ 18 + i = omega arith in
    let vars : take w (drop 18 (set s (17 + suc i) p)) ≡ set (take w (drop 18 s)) i p =
    rw (slot, drop-set-add 18 s i p) (take_set w (drop 18 s) i p) in
    ap₂ (λ (v l : List ℕ). record { vars = v; links = l; facts = [] }) vars (links_operand s (suc i) p c)

module _ (w : ℕ) (s : List ℕ) (h : ShapeArray w s) where
  pub array_operand : (x p : ℕ) → 1 ≤ x → x ≤ w → p < cell (cell_count s) → ShapeArray w (set_operand s x p)
  array_operand x p l m b =
      record {
        slots = length-set s (17 + x) p ∙ h.slots;
        variables_fit = h.variables_fit;
        cells_fit = rw (count_operand s x p) h.cells_fit;
        null_place = get_or-set_other s (17 + x) (17 + 0) p nowhere (omega arith) ∙ h.null_place;
        operands_range = λ y. rw (count_operand s x p) (range y (ℕ_discrete y x));
        operands_above = λ y a. get_or-set_other s (17 + x) (17 + y) p nowhere (omega arith) ∙ h.operands_above y a;
        links_range = λ i c. links i (rw (count_operand s x p) at c);
      }
    where
      range : (y : ℕ) → Dec (y ≡ x) → operand_at (set_operand s x p) y < cell (cell_count s)
      range y (yes e) = rw (e, get_or-set_same s (17 + x) p nowhere (omega (arith, h.slots, h.variables_fit))) b
      range y (no e) = rw (get_or-set_other s (17 + x) (17 + y) p nowhere (omega arith)) (h.operands_range y)

      links : (i : ℕ) → i < cell_count s → get_or (set_operand s x p) (cell i) nowhere < cell (cell_count (set_operand s x p))
      links i c = rw (count_operand s x p, get_or-set_other s (17 + x) (cell i) p nowhere (omega (arith, h.cells_fit))) (h.links_range i c)

-- ---- a link is set

pub count_link : (s : List ℕ) (c p : ℕ) → 3 ≤ c → cell_count (set_link_of s c p) ≡ cell_count s
count_link s c p h = get_or-set_other s c 0 p 0 (omega arith)

pub shape_link : (w : ℕ) (s : List ℕ) (c p : ℕ) → 3 ≤ c → c ≤ 16 → shape_in w (set_link_of s c p) ≡ set_link c p (shape_in w s)
shape_link w s zero p h m = absurd (omega arith)
shape_link w s (suc zero) p h m = absurd (omega arith)
shape_link w s (suc (suc zero)) p h m = absurd (omega arith)
shape_link w s (suc (suc (suc i))) p h m =
    let slot : cell i ≡ 3 + i = omega arith in
    let links : links_in (set s (cell i) p) ≡ set (links_in s) i p =
    rw (count_link s (cell i) p h, slot, drop-set-add 3 s i p) (take_set (cell_count s) (drop 3 s) i p) in
    ap₂ (λ (v l : List ℕ). record { vars = take w v; links = l; facts = [] }) (drop-set-lt 18 s (cell i) p (omega arith)) links

module _ (w : ℕ) (s : List ℕ) (h : ShapeArray w s) where
  pub array_link : (c p : ℕ) → 3 ≤ c → c < cell (cell_count s) → p < cell (cell_count s) → ShapeArray w (set_link_of s c p)
  array_link c p l m b =
      record {
        slots = length-set s c p ∙ h.slots;
        variables_fit = h.variables_fit;
        cells_fit = rw (count_link s c p l) h.cells_fit;
        null_place = other 0 ∙ h.null_place;
        operands_range = λ y. rw (count_link s c p l, other y) (h.operands_range y);
        operands_above = λ y a. other y ∙ h.operands_above y a;
        links_range = λ i d. rw (count_link s c p l) (range i (rw (count_link s c p l) at d) (ℕ_discrete (cell i) c));
      }
    where
      other : (y : ℕ) → operand_at (set_link_of s c p) y ≡ operand_at s y
      other y = get_or-set_other s c (17 + y) p nowhere (omega (arith, h.cells_fit))

      range : (i : ℕ) → i < cell_count s → Dec (cell i ≡ c) → get_or (set_link_of s c p) (cell i) nowhere < cell (cell_count s)
      range i d (yes e) = rw (e, get_or-set_same s c p nowhere (omega (arith, h.slots, h.cells_fit))) b
      range i d (no e) = rw (get_or-set_other s c (cell i) p nowhere e) (h.links_range i d)

-- ---- a cell is added

module _ (w : ℕ) (s : List ℕ) (h : ShapeArray w s) (small : cell_count s ≤ 13) (p : ℕ) where
  abbrev counted : List ℕ
  counted = set s 0 (suc (cell_count s))

  pub count_cell : cell_count (add_cell s p) ≡ suc (cell_count s)
  count_cell = get_or-set_other counted (cell (cell_count s)) 0 p 0 (omega arith) ∙ get_or-set_same s 0 (suc (cell_count s)) 0 (omega (arith, h.slots))

  -- a slot that is neither the count nor the new link
  kept : (j : ℕ) → 1 ≤ j → j ≢ cell (cell_count s) → get_or (add_cell s p) j nowhere ≡ get_or s j nowhere
  kept j l o = get_or-set_other counted (cell (cell_count s)) j p nowhere o ∙ get_or-set_other s 0 j (suc (cell_count s)) nowhere (omega arith)

  pub operand_cell : (y : ℕ) → operand_at (add_cell s p) y ≡ operand_at s y
  operand_cell y = kept (17 + y) (omega arith) (omega arith)

  pub array_cell : p < cell (suc (cell_count s)) → ShapeArray w (add_cell s p)
  array_cell b =
      record {
        slots = length-set counted (cell (cell_count s)) p ∙ length-set s 0 (suc (cell_count s)) ∙ h.slots;
        variables_fit = h.variables_fit;
        cells_fit = rw count_cell (omega arith);
        null_place = operand_cell 0 ∙ h.null_place;
        operands_range = λ y. rw (count_cell, operand_cell y) (omega (arith, h.operands_range y));
        operands_above = λ y a. operand_cell y ∙ h.operands_above y a;
        links_range = λ i d. rw count_cell (range i (rw count_cell at d) (ℕ_discrete i (cell_count s)));
      }
    where
      range : (i : ℕ) → i < suc (cell_count s) → Dec (i ≡ cell_count s) → get_or (add_cell s p) (cell i) nowhere < cell (suc (cell_count s))
      range i d (yes e) =
          rw (e, get_or-set_same counted (cell (cell_count s)) p nowhere (omega (arith, h.slots, length-set s 0 (suc (cell_count s))))) b
      range i d (no e) = rw (kept (cell i) (omega arith) (omega arith)) (omega (arith, h.links_range i (omega arith)))

  pub shape_cell : shape_in w (add_cell s p) ≡ record { vars = (shape_in w s).vars; links = links_in s ++ (p ∷ []); facts = [] }
  shape_cell = ap₂ (λ (v l : List ℕ). record { vars = take w v; links = l; facts = [] }) vars links
    where
      vars : drop 18 (add_cell s p) ≡ drop 18 s
      vars = drop-set-lt 18 counted (cell (cell_count s)) p (omega arith) ∙ drop-set-lt 18 s 0 (suc (cell_count s)) (omega arith)

      links : links_in (add_cell s p) ≡ links_in s ++ (p ∷ [])
      links =
          let slot : cell (cell_count s) ≡ 3 + cell_count s = omega arith in
          rw (count_cell)
          (ap (take (suc (cell_count s))) (ap (λ (c : ℕ). drop 3 (set counted c p)) slot ∙ drop-set-add 3 counted (cell_count s) p
          ∙ ap (λ (l : List ℕ). set l (cell_count s) p) (drop-set-lt 3 s 0 (suc (cell_count s)) (omega arith)))
          ∙ take-suc-set (drop 3 s) (cell_count s) p (omega (arith, length-drop 3 s, h.slots)))

-- ---- the helper

module _ (w : ℕ) (s : List ℕ) (h : ShapeArray w s) (most : w ≤ 8) where
  pub array_helper : ShapeArray (suc w) s
  array_helper =
      record {
        slots = h.slots;
        variables_fit = omega arith;
        cells_fit = h.cells_fit;
        null_place = h.null_place;
        operands_range = h.operands_range;
        operands_above = λ y a. h.operands_above y (omega arith);
        links_range = h.links_range;
      }

  pub with_helper : add_helper (shape_in w s) ≡ shape_in (suc w) s
  with_helper =
      let slot : 18 + w ≡ 17 + suc w = omega arith in
      let last : get_or (drop 18 s) w nowhere ≡ nowhere =
      get_or-drop 18 s w nowhere ∙ ap (λ (j : ℕ). get_or s j nowhere) slot ∙ h.operands_above (suc w) (omega arith) in
      ap (λ (l : List ℕ). record { vars = l; links = links_in s; facts = [] })
      (sym (take-suc (drop 18 s) w nowhere (omega (arith, length-drop 18 s, h.slots)) ∙ ap (λ (p : ℕ). take w (drop 18 s) ++ (p ∷ [])) last))
