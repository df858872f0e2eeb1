-- What a cleared array holds once an entry in range is loaded: the shape of the entry.
use mathlib.Core.List.{List, []}
use mathlib.Core.Path.{◌≡◌, refl, sym, ap, ap₂, ◌∙◌}
use Prim.Native.Nat.{ℕ, zero, suc, ◌+◌, ◌-◌, ◌≤◌, ◌<◌}
use native.Mathlib.Decide.{dec_lt}
use native.Mathlib.Omega.{arith}
use lib.ListN.{length, get_or, take, drop, set, length-set, length-drop, replicate, get_or-replicate, get_or-eq_default}
use lib.Seq.{length-take-le, get_or-set_same, get_or-set_other, get_or-take, get_or-drop, ext_get_or, paste, length-paste}
use Rattle.lists.proofs.List.{get_or_mem}
use Rattle.lists.proofs.Reflect.{cond_cases}
use Rattle.heap.specs.Place.{null, cell}
use Rattle.shape.specs.Shape.{Shape, AllBelow}
use Rattle.layout.specs.Entries.{EntryInRange, located_at}
use Rattle.layout.specs.ShapeArray.{cell_count, operand_at, shape_in, ShapeArray}
use Rattle.layout.proofs.Whole.{is_inside_lem}
use Rattle.layout.specs.Loading.{loaded_codes, loaded_shape}
use Rattle.layout.proofs.Copies.{in_copy, above_copy}
use Rattle.layout.proofs.Loading.{r_most}

-- the shape of the entry at a place, without its facts
abbrev pub bare_at : List ℕ → ℕ → ℕ → Shape
bare_at bytes variables at = let s = (located_at bytes variables at).shape in record { vars = s.vars; links = s.links; facts = [] }

-- the array holds it
pub record Loaded (bytes : List ℕ) (variables at : ℕ) (s : List ℕ) : Type 0 where
  pub count : cell_count s ≡ get_or bytes (at + 1) 0
  pub cells : cell_count s ≤ 12
  pub array : ShapeArray variables s
  pub shape : shape_in variables s ≡ bare_at bytes variables at

-- so many elements of a list, by index
same_front : (k at : ℕ) (l : List ℕ) (from : ℕ) (xs : List ℕ) → at + k ≤ length l → from + k ≤ length xs
    → ((i : ℕ) → i < k → get_or l (at + i) 0 ≡ get_or xs (from + i) 0) → take k (drop at l) ≡ take k (drop from xs)
same_front k at l from xs room enough h =
    let a : length (take k (drop at l)) ≡ k = length-take-le k (drop at l) (omega (arith, length-drop at l)) in
    let b : length (take k (drop from xs)) ≡ k = length-take-le k (drop from xs) (omega (arith, length-drop from xs)) in
    ext_get_or 0 (take k (drop at l)) (take k (drop from xs)) (a ∙ sym b)
    (λ i c.
    let d : i < k = omega arith in
    get_or-take k (drop at l) i 0 d ∙ get_or-drop at l i 0 ∙ h i d ∙ sym (get_or-drop from xs i 0) ∙ sym (get_or-take k (drop from xs) i 0 d))

module _ (bytes : List ℕ) (variables at : ℕ) (entry : EntryInRange bytes variables at) (s : List ℕ) (slots : length s ≡ 28)
    (clear : (i : ℕ) → get_or s i 0 ≡ 0) where
  abbrev n : ℕ
  n = get_or bytes (at + 1) 0

  abbrev first : ℕ
  first = at + 2 + variables

  -- the codes of an entry are in range
  below_at : (from k : ℕ) → from + k ≤ length bytes → AllBelow (cell (length (take n (drop first bytes)))) (take k (drop from bytes)) → (i : ℕ) → i < k
      → get_or bytes (from + i) 0 < cell n
  below_at from k enough h i b =
      let xs = drop from bytes in
      let full : length (take k xs) ≡ k = length-take-le k xs (omega (arith, length-drop from bytes)) in
      let cells : length (take n (drop first bytes)) ≡ n = length-take-le n (drop first bytes) (omega (arith, length-drop first bytes, entry.inside)) in
      rw (get_or-take k xs i 0 b, get_or-drop from bytes i 0, cells) at (h (get_or (take k xs) i 0) (get_or_mem (take k xs) i (omega (arith, full))))

  -- once v codes ahead of the first link are copied and l from it on, at least those that the entry has
  module _ (v l : ℕ) (few : v ≤ 8) (vars-enough : variables ≤ v) (vars-inside : v ≤ first) (most : l ≤ 12) (links-enough : n ≤ l)
      (links_inside_lem : first + l ≤ length bytes) where
    abbrev start : ℕ
    start = 18 + variables - v

    abbrev codes : List ℕ
    codes = drop (first - v) bytes

    abbrev placed : List ℕ
    placed = paste s start codes v

    abbrev linked : List ℕ
    linked = paste placed 3 (drop first bytes) l

    abbrev all : List ℕ
    all = set (set linked 17 null) 0 n

    room_vars : start + v ≤ length s
    room_vars = omega arith

    enough_codes : v ≤ length codes
    enough_codes = omega (arith, length-drop (first - v) bytes)

    placed_length : length placed ≡ 28
    placed_length = length-paste s start codes v room_vars enough_codes ∙ slots

    room_links : 3 + l ≤ length placed
    room_links = omega (arith, placed_length)

    enough_links : l ≤ length (drop first bytes)
    enough_links = omega (arith, length-drop first bytes)

    linked_length : length linked ≡ 28
    linked_length = length-paste placed 3 (drop first bytes) l room_links enough_links ∙ placed_length

    all_length : length all ≡ 28
    all_length = length-set (set linked 17 null) 0 n ∙ length-set linked 17 null ∙ linked_length

    -- slot by slot
    count_at : get_or all 0 0 ≡ n
    count_at = get_or-set_same (set linked 17 null) 0 n 0 (omega (arith, length-set linked 17 null, linked_length))

    other_at : (i : ℕ) → 0 < i → (i ≡ 17 → ⊥) → get_or all i 0 ≡ get_or linked i 0
    other_at i a b = get_or-set_other (set linked 17 null) 0 i n 0 (omega arith) ∙ get_or-set_other linked 17 i null 0 b

    null_at : get_or all 17 0 ≡ null
    null_at = get_or-set_other (set linked 17 null) 0 17 n 0 (omega arith) ∙ get_or-set_same linked 17 null 0 (omega (arith, linked_length))

    -- what is above the links
    high : (i : ℕ) → 17 < i → get_or all i 0 ≡ get_or placed i 0
    high i b = other_at i (omega arith) (omega arith) ∙ above_copy placed 3 (drop first bytes) l room_links enough_links i (omega arith)

    var_at : (i : ℕ) → i < variables → get_or all (18 + i) 0 ≡ get_or bytes (at + 2 + i) 0
    var_at i b =
        let k = v - variables + i in
        let slot : 18 + i ≡ start + k = omega arith in
        let place : first - v + k ≡ at + 2 + i = omega arith in
        high (18 + i) (omega arith)
        ∙ ap (λ (j : ℕ). get_or placed j 0) slot
        ∙ in_copy s start codes v room_vars enough_codes k (omega arith)
        ∙ get_or-drop (first - v) bytes k 0
        ∙ ap (λ (j : ℕ). get_or bytes j 0) place

    above_at : (i : ℕ) → variables ≤ i → get_or all (18 + i) 0 ≡ 0
    above_at i b = high (18 + i) (omega arith) ∙ above_copy s start codes v room_vars enough_codes (18 + i) (omega arith) ∙ clear (18 + i)

    link_at_lem : (i : ℕ) → i < n → get_or all (3 + i) 0 ≡ get_or bytes (first + i) 0
    link_at_lem i b =
        other_at (3 + i) (omega arith) (omega arith)
        ∙ in_copy placed 3 (drop first bytes) l room_links enough_links i (omega arith)
        ∙ get_or-drop first bytes i 0

    operand_below : (x : ℕ) → operand_at all x < cell n
    operand_below zero = omega (arith, null_at)
    operand_below (suc i) = go (dec_lt i variables)
      where
        swap : 17 + suc i ≡ 18 + i
        swap = omega arith

        go : Dec (i < variables) → operand_at all (suc i) < cell n
        go (yes b) = rw (swap, var_at i b) (below_at (at + 2) variables (omega arith) entry.range.vars i b)
        go (no b) = rw (swap, above_at i (omega arith)) (omega arith)

    operand_above : (x : ℕ) → variables < x → operand_at all x ≡ 0
    operand_above zero b = absurd (omega arith)
    operand_above (suc i) b = let swap : 17 + suc i ≡ 18 + i = omega arith in rw swap (above_at i (omega arith))

    link_below : (i : ℕ) → i < n → get_or all (cell i) 0 < cell n
    link_below i b =
        let swap : 3 + i ≡ cell i = omega arith in
        rw (← swap, link_at_lem i b) (below_at first n entry.inside entry.range.links i b)

    all_loaded : Loaded bytes variables at all
    all_loaded =
        record {
          count = count_at;
          cells = omega (arith, count_at, entry.cells);
          array =
              record {
                slots = all_length;
                variables_fit = omega arith;
                cells_fit = omega (arith, count_at, entry.cells);
                null_place = null_at;
                operands_range = λ x. rw count_at (operand_below x);
                operands_above = operand_above;
                links_range = λ i b. rw count_at (link_below i (omega (arith, count_at)));
              };
          shape =
              ap₂ {C = Shape} (λ v l. record { vars = v; links = l; facts = [] })
              (same_front variables 18 all (at + 2) bytes (omega (arith, all_length)) (omega arith) var_at)
              (rw count_at (same_front n 3 all first bytes (omega (arith, all_length)) (omega arith) link_at_lem));
        }

-- a cleared array, once the entry is loaded
pub loaded : (bytes : List ℕ) (variables at : ℕ) (s : List ℕ) → EntryInRange bytes variables at → variables ≤ 8
    → s ≡ loaded_shape bytes variables at (replicate 28 0) → Loaded bytes variables at s
unfolding loaded_codes
loaded bytes variables at s entry few e =
    let fit = is_inside_lem bytes variables at (record { variables_most = omega arith; cells = entry.cells; inside = entry.inside }) in
    let links = at + 2 + variables in
    let cells = get_or bytes (at + 1) 0 in
    let made = all_loaded bytes variables at entry (replicate 28 0) refl clear in
    rw (e, fit)
    (cond_cases (λ z. Loaded bytes variables at (set (set z 17 null) 0 cells)) (r_most bytes variables links)
    (λ m. made 8 12 (omega arith) m.0 m.1.0 (omega arith) entry.cells m.1.1)
    (λ _. made variables cells few (omega arith) (omega arith) entry.cells (omega arith) entry.inside))
  where
    clear : (i : ℕ) → get_or {A = ℕ} (replicate 28 0) i 0 ≡ 0
    clear i = go (dec_lt i 28)
      where
        go : Dec (i < 28) → get_or {A = ℕ} (replicate 28 0) i 0 ≡ 0
        go (yes b) = get_or-replicate 28 i 0 0 b
        go (no b) = get_or-eq_default (replicate 28 0) 0 {n = i} (omega arith)
