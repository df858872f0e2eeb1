-- Kind 7: what was before delete, and the arrays of its cases.
use mathlib.Core.Bool.{◌||◌, cond}
use mathlib.Core.List.{List, [], ◌∷◌, ◌++◌, map}
use mathlib.Core.Logic.{◌≢◌}
use mathlib.Core.Path.{◌≡◌, refl, sym, ap, ap₂, ◌∙◌}
use Prim.Native.Nat.{ℕ, zero, suc, ◌+◌, ◌≤◌, ◌<◌}
use native.Mathlib.Omega.{arith}
use borrow.Author.Tests.{le-leb, le-ltb, lt-ltb, ne_eqb}
use lib.Dec.{eqb}
use lib.ListN.{length, get_or, set, take, drop, length-map, length-drop, take-append-drop, get_or-append}
use lib.Seq.{ext_get_or, get_or-take, get_or-drop, drop-drop, drop_at, take_at, length-take-le, take-append-le, drop-append-le}
use Rattle.lists.specs.List.{concat_map}
use Rattle.lists.specs.Range.{range}
use Rattle.lists.proofs.List.{concat_map_range}
use Rattle.heap.specs.Operation.{delete}
use Rattle.heap.specs.Place.{nowhere, null, dangling, cell}
use Rattle.shape.specs.Placing.{set_var, fresh, grow}
use Rattle.shape.specs.Shape.{Shape}
use Rattle.shape.proofs.Laws.{link_map}
use Rattle.backward.specs.Predecessors.{forget, forget_links, vars_before, with_vars, before}
use Rattle.backward.proofs.Delete.{forget_below}
use Rattle.layout.specs.ShapeArray.{cell_count, operand_at, links_in, shape_in, ShapeArray}
use Rattle.shapes.specs.Change.{set_operand, add_cell, slot_forgotten, array_forgotten, array_restored, case_count, vars_by_case, array_by_case}
use Rattle.shapes.specs.Operands.{HoldsShape}
use Rattle.shapes.proofs.ByCase.{length_by_case, each_changed, cases_all}
use Rattle.shapes.proofs.Slots.{size_in, vars_in, var_in_lem, link_in_lem, shape_operand, array_operand, count_operand, count_cell, shape_cell, array_cell}
use Rattle.shapes.proofs.Tables.{table_length, table_at}

-- ---- links to * are forgotten

slot_low : (s : List ℕ) → slot_forgotten s 0 ≡ cell_count s
unfolding slot_forgotten
slot_low s = refl

slot_link : (s : List ℕ) (i : ℕ) → 3 ≤ i → i < 17 → slot_forgotten s i ≡ forget (get_or s i 0)
unfolding slot_forgotten
slot_link s i h b = rw (le-leb 3 i h, lt-ltb i 17 b) refl

slot_operand : (s : List ℕ) (i : ℕ) → 17 ≤ i → slot_forgotten s i ≡ get_or s i 0
unfolding slot_forgotten
slot_operand s i h = rw (le-leb 3 i (omega arith), le-ltb i 17 h) refl

module _ (variables : ℕ) (s : List ℕ) (h : ShapeArray variables s) (f : List ℕ) (f-length : length f ≡ 28)
    (f-at : (i : ℕ) → i < 28 → get_or f i 0 ≡ slot_forgotten s i) where
  count : cell_count f ≡ cell_count s
  count = f-at 0 (omega arith) ∙ slot_low s

  operands : drop 17 f ≡ drop 17 s
  operands =
      ext_get_or 0 (drop 17 f) (drop 17 s) (length-drop 17 f ∙ omega (arith, length-drop 17 s, h.slots))
      (λ i b. get_or-drop 17 f i 0 ∙ f-at (17 + i) (omega (arith, length-drop 17 f)) ∙ slot_operand s (17 + i) (omega arith) ∙ sym (get_or-drop 17 s i 0))

  operand : (y : ℕ) → operand_at f y ≡ operand_at s y
  operand y = sym (get_or-drop 17 f y nowhere) ∙ ap (λ (l : List ℕ). get_or l y nowhere) operands ∙ get_or-drop 17 s y nowhere

  link : (i : ℕ) → i < cell_count s → get_or f (cell i) nowhere ≡ forget (get_or s (cell i) nowhere)
  link i b = let few = h.cells_fit in f-at (cell i) (omega arith) ∙ slot_link s (cell i) (omega arith) (omega arith)

  array_forgotten_lem : ShapeArray variables f
  array_forgotten_lem =
      record {
        slots = f-length;
        variables_fit = h.variables_fit;
        cells_fit = rw count h.cells_fit;
        null_place = operand 0 ∙ h.null_place;
        operands_range = λ y. rw (count, operand y) (h.operands_range y);
        operands_above = λ y a. operand y ∙ h.operands_above y a;
        links_range = λ i b. range i (rw count at b);
      }
    where
      range : (i : ℕ) → i < cell_count s → get_or f (cell i) nowhere < cell (cell_count f)
      range i b = rw (count, link i b) (forget_below (cell (cell_count s)) (get_or s (cell i) nowhere) (h.links_range i b))

  shape_forgotten : shape_in variables f ≡ forget_links (shape_in variables s)
  shape_forgotten =
      ap₂ (λ (v l : List ℕ). record { vars = take variables v; links = l; facts = [] })
      (sym (drop-drop 1 17 f) ∙ ap (drop 1) operands ∙ drop-drop 1 17 s)
      (ext_get_or nowhere (links_in f) (map forget (links_in s)) (long ∙ sym (length-map (links_in s) forget ∙ size_in variables s h))
      (λ i b. let inside : i < cell_count s = omega (arith, long) in
      link_in_lem f i (rw count inside) ∙ link i inside ∙ ap forget (sym (link_in_lem s i inside)) ∙ sym (link_map forget refl (links_in s) (cell i))))
    where
      long : length (links_in f) ≡ cell_count s
      long = size_in variables f array_forgotten_lem ∙ count

  holds_forgotten : HoldsShape variables f (forget_links (shape_in variables s))
  holds_forgotten = record { array = array_forgotten_lem; same = shape_forgotten }

count_forgotten : (s : List ℕ) → cell_count (array_forgotten s) ≡ cell_count s
count_forgotten s = table_at (slot_forgotten s) 0 (omega arith) ∙ slot_low s

-- the stores that restore a deleted cell
pub stored : (s t : List ℕ) (a : ℕ) → t ≡ array_forgotten s
    → set (set (set t 0 (cell_count s + 1)) (3 + cell_count s) nowhere) (17 + a) (3 + cell_count s) ≡ array_restored s a
stored s t a e = by_count t (ap cell_count e ∙ count_forgotten s) ∙ ap (λ (l : List ℕ). set_operand (add_cell l nowhere) a (cell (cell_count s))) e
  where
    by_count : (l : List ℕ) → cell_count l ≡ cell_count s
        → set (set (set l 0 (cell_count s + 1)) (3 + cell_count s) nowhere) (17 + a) (3 + cell_count s) ≡ set_operand (add_cell l nowhere) a (cell (cell_count s))
    by_count l c =
        let more : cell_count s + 1 ≡ suc (cell_count s) = omega arith in
        let fresh : 3 + cell_count s ≡ cell (cell_count s) = omega arith in
        rw (c, more, fresh) refl

-- ---- the shape by one case

module _ (variables : ℕ) (s : List ℕ) (h : ShapeArray variables s) where
  -- the slots ahead of the variables
  abbrev ahead : List ℕ
  ahead = take 18 s

  long : length ahead ≡ 18
  long = length-take-le 18 s (omega (arith, h.slots))

  links_ahead : (l : List ℕ) → links_in (ahead ++ l) ≡ take (cell_count ahead) (drop 3 ahead)
  links_ahead l =
      rw (get_or-append ahead l 0 0 (omega (arith, long)), drop-append-le 3 ahead l (omega (arith, long)))
      (take-append-le (cell_count ahead) (drop 3 ahead) l (omega (arith, get_or-take 18 s 0 0 (omega arith), length-drop 3 ahead, long, h.cells_fit)))

  links_kept : (l : List ℕ) → links_in (ahead ++ l) ≡ links_in s
  links_kept l = links_ahead l ∙ sym (links_ahead (drop 18 s)) ∙ ap links_in (take-append-drop 18 s)

  shape_by_case : (n k : ℕ)
      → shape_in variables (array_by_case variables n k s) ≡ with_vars (shape_in variables s) (vars_by_case (2 + cell_count s) n k (shape_in variables s).vars)
  shape_by_case n k =
      ap₂ (λ (v l : List ℕ). record { vars = v; links = l; facts = [] })
      (ap (take variables) (drop_at ahead (vars ++ after) 18 long)
      ∙ take_at vars after variables (length_by_case (2 + cell_count s) n k (take variables (drop 18 s)) ∙ vars_in variables s h))
      (links_kept (vars ++ after))
    where
      vars : List ℕ
      vars = vars_by_case (2 + cell_count s) n k (take variables (drop 18 s))

      after : List ℕ
      after = drop (18 + variables) s

-- ---- the shapes by all cases

module _ (variables : ℕ) (s : List ℕ) (h : ShapeArray variables s) where
  abbrev shape : Shape
  shape = shape_in variables s

  module _ (small : cell_count s ≤ 12) (a : ℕ) (some : 1 ≤ a) (most : a ≤ variables) where
    abbrev f : List ℕ
    f = array_forgotten s

    forgotten : HoldsShape variables f (forget_links shape)
    forgotten = holds_forgotten variables s h f (table_length (slot_forgotten s)) (table_at (slot_forgotten s))

    few : cell_count f ≤ 13
    few = omega (arith, count_forgotten s)

    grown : ShapeArray variables (add_cell f nowhere)
    grown = array_cell variables f forgotten.array few nowhere (omega arith)

    count_grown : cell_count (add_cell f nowhere) ≡ suc (cell_count s)
    count_grown = count_cell variables f forgotten.array few nowhere ∙ ap suc (count_forgotten s)

    abbrev restored : List ℕ
    restored = array_restored s a

    abbrev gone : ℕ
    gone = 2 + cell_count restored

    gone_is : gone ≡ fresh shape
    gone_is = omega (arith, count_operand (add_cell f nowhere) a (cell (cell_count s)), count_grown, size_in variables s h)

    pub array_restored_lem : ShapeArray variables restored
    array_restored_lem = array_operand variables (add_cell f nowhere) grown a (cell (cell_count s)) some most (omega (arith, count_grown))

    shape_restored : shape_in variables restored ≡ set_var a (fresh shape) (grow (forget_links shape))
    shape_restored =
        shape_operand variables (add_cell f nowhere) a (cell (cell_count s)) grown.cells_fit some
        ∙ ap (set_var a (cell (cell_count s)))
        (shape_cell variables f forgotten.array few nowhere
        ∙ ap grow forgotten.same)
        ∙ ap (λ (m : ℕ). set_var a (cell m) (grow (forget_links shape))) (sym (size_in variables s h))

    abbrev n : ℕ
    n = case_count (shape_in variables restored).vars

    by_cases : concat_map (λ k. shape_in variables (array_by_case variables n k restored) ∷ []) (range 0 n)
        ≡ map (with_vars (grow (forget_links shape))) (vars_before (fresh shape) (set_var a (fresh shape) shape).vars)
    by_cases =
        concat_map_range (λ k. shape_in variables (array_by_case variables n k restored) ∷ [])
        (λ k. with_vars t (vars_by_case gone n k t.vars) ∷ []) 0 0 n
        (λ i _. ap (λ (u : Shape). u ∷ []) (shape_by_case variables restored array_restored_lem n (0 + i)))
        ∙ each_changed (with_vars t) (λ k. vars_by_case gone n k t.vars) (range 0 n)
        ∙ ap (map (with_vars t)) (cases_all gone t.vars)
        ∙ ap₂ (λ (u : Shape) (c : ℕ). map (with_vars u) (vars_before c u.vars)) shape_restored gone_is
      where
        t : Shape
        t = shape_in variables restored

    pub delete_some : operand_at s a ≢ null → operand_at s a ≤ dangling
        → before (delete a) shape ≡ concat_map (λ k. shape_in variables (array_by_case variables n k restored) ∷ []) (range 0 n)
    delete_some z b = rw (by_cases, var_in_lem variables s h a) (go (operand_at s a) z b)
      where
        results : List Shape
        results = map (with_vars (grow (forget_links shape))) (vars_before (fresh shape) (set_var a (fresh shape) shape).vars)

        go : (x : ℕ) → x ≢ null → x ≤ dangling → cond (eqb x nowhere || eqb x dangling) results [] ≡ results
        go zero z b = refl
        go (suc zero) z b = absurd (z refl)
        go (suc (suc zero)) z b = refl
        go (suc (suc (suc x))) z b = absurd (omega arith)

  pub delete_none : (a : ℕ) → operand_at s a ≢ nowhere → operand_at s a ≢ dangling → before (delete a) shape ≡ []
  delete_none a z b = rw (var_in_lem variables s h a, ne_eqb (operand_at s a) nowhere z, ne_eqb (operand_at s a) dangling b) refl
