-- Well formed tables: what the test says, and that such a table is the table of the heap that it stands for.
use mathlib.Core.Bool.{Bool, true, false, ◌&&◌, not, cond}
use mathlib.Core.List.{List, map}
use mathlib.Core.Path.{◌≡◌, refl, sym, ap, ◌∙◌}
use Prim.Native.Nat.{ℕ, zero, suc, ◌≤◌, ◌<◌}
use native.Mathlib.Decide.{dec_lt}
use native.Mathlib.Omega.{arith}
use borrow.Author.Tests.{leb-true, le-leb, lt-ltb, le-ltb, eq-eqb, ne_eqb, eqb-true}
use lib.Dec.{eqb, leb, ltb}
use lib.ListN.{get_or, get_or-eq_default}
use Rattle.heap.specs.Place.{nowhere}
use Rattle.heap.proofs.Codes.{by_code}
use Rattle.lists.specs.Range.{range}
use Rattle.lists.specs.Test.{all_from}
use Rattle.lists.proofs.Range.{tabled}
use Rattle.lists.proofs.Test.{and_left, and_right, and_both, all_at, all_made}
use Rattle.place.specs.Place.{place_of, codes}
use Rattle.place.specs.declared.Place.{Place}
use Rattle.stepper.specs.Table.{heap_of, table_of, Sized, value_of, code_of, code_in, most_code, standing, slot_fits, cell_fits, value_fits, well_formed}
use Rattle.stepper.specs.declared.Heap64.{Heap64}
use Rattle.stepper.proofs.Places.{code_at}

pub record Formed (t : Heap64) : Type 0 where
  pub some : 1 ≤ t.variables
  pub most : t.variables ≤ 8
  pub slots : (i : ℕ) → i < 8 → slot_fits t i ≡ true
  pub cells : (i : ℕ) → i < 64 → cell_fits t i ≡ true
  pub values : (i : ℕ) → i < 64 → value_fits t i ≡ true

module _ (t : Heap64) where
  pub formed : well_formed t ≡ true → Formed t
  unfolding well_formed
  formed e =
      let n = t.variables in
      let slots = all_from 8 0 (slot_fits t) in
      let cells = all_from 64 0 (cell_fits t) in
      let values = all_from 64 0 (value_fits t) in
      let range-fits = and_left (leb 1 n && leb n 8) (slots && (cells && values)) e in
      let lists-fit = and_right (leb 1 n && leb n 8) (slots && (cells && values)) e in
      let cells_fit = and_right slots (cells && values) lists-fit in
      record {
        some = leb-true 1 n (and_left (leb 1 n) (leb n 8) range-fits);
        most = leb-true n 8 (and_right (leb 1 n) (leb n 8) range-fits);
        slots = λ i h. all_at (slot_fits t) 8 0 i (and_left slots (cells && values) lists-fit) (omega arith) (omega arith);
        cells = λ i h. all_at (cell_fits t) 64 0 i (and_left cells values cells_fit) (omega arith) (omega arith);
        values = λ i h. all_at (value_fits t) 64 0 i (and_right cells values cells_fit) (omega arith) (omega arith);
      }

  pub well_formed_lem : Formed t → well_formed t ≡ true
  unfolding well_formed
  well_formed_lem f =
      and_both _ _ (and_both _ _ (le-leb 1 t.variables f.some) (le-leb t.variables 8 f.most))
      (and_both _ _ (all_made (slot_fits t) 8 0 (λ j l h. f.slots j (omega arith)))
      (and_both _ _ (all_made (cell_fits t) 64 0 (λ j l h. f.cells j (omega arith))) (all_made (value_fits t) 64 0 (λ j l h. f.values j (omega arith)))))

-- ---- what the tests say of a place

module _ (t : Heap64) (f : Formed t) where
  pub var_stands : (i : ℕ) → i < t.variables → standing t.used (get_or (codes t.vars) i nowhere) ≡ true
  var_stands i h = simp (lt-ltb i t.variables h) at (f.slots i (omega (arith, f.most)))

  pub slot_empty : (i : ℕ) → t.variables ≤ i → i < 8 → get_or (codes t.vars) i nowhere ≡ nowhere
  slot_empty i l h = eqb-true _ nowhere (simp (le-ltb i t.variables l) at (f.slots i h))

  pub link_stands : (i : ℕ) → i < 64 → get_or t.used i false ≡ true → standing t.used (get_or (codes t.links) i nowhere) ≡ true
  link_stands i h u = simp u at (f.cells i h)

  pub link_empty : (i : ℕ) → i < 64 → get_or t.used i false ≡ false → get_or (codes t.links) i nowhere ≡ nowhere
  link_empty i h u = eqb-true _ nowhere (simp u at (f.cells i h))

  code_fits : (i : ℕ) → i < 64 → get_or t.values i 0 ≤ most_code (get_or t.used i false)
  code_fits i h = leb-true (get_or t.values i 0) (most_code (get_or t.used i false)) (f.values i h)

  -- the code of a value is at most 65,536, and 0 where a cell is unused
  pub code_most : (i : ℕ) → i < 64 → get_or t.values i 0 ≤ 65536
  code_most i h = go (get_or t.used i false) (code_fits i h)
    where
      go : (u : Bool) → get_or t.values i 0 ≤ most_code u → get_or t.values i 0 ≤ 65536
      go true l = l
      go false l = omega arith

  pub code_unused : (i : ℕ) → i < 64 → get_or t.used i false ≡ false → get_or t.values i 0 ≡ 0
  code_unused i h u = let l : get_or t.values i 0 ≤ 0 = rw u at (code_fits i h) in omega arith

-- nothing stands nowhere
pub stands_somewhere : (used : List Bool) (p : ℕ) → standing used p ≡ true → p ≡ nowhere → ⊥
unfolding standing
stands_somewhere used p s e = let z : false ≡ true = rw e at s in let q : ◌≡◌ {A = ℕ} 0 1 = cc in omega arith

-- a cell is used exactly if it has a link
pub used_linked : (t : Heap64) → Formed t → (i : ℕ) → i < 64 → not (eqb (get_or (codes t.links) i nowhere) nowhere) ≡ get_or t.used i false
used_linked t f i h = go (get_or t.used i false) refl
  where
    go : (u : Bool) → get_or t.used i false ≡ u → not (eqb (get_or (codes t.links) i nowhere) nowhere) ≡ u
    go true u = rw (ne_eqb _ nowhere (stands_somewhere t.used _ (link_stands t f i h u))) refl
    go false u = rw (eq-eqb _ nowhere (link_empty t f i h u)) refl

code_value : (c : ℕ) → code_of (value_of c) ≡ c
code_value zero = refl
code_value (suc v) = refl

-- a well formed table is the table of the heap that it stands for
pub table_of_lem : (t : Heap64) → Sized t → Formed t → t ≡ table_of t.variables (heap_of t)
unfolding table_of
table_of_lem t s f =
    λ k. record { variables = t.variables; vars = vars k; used = used k; links = links k; values = values k }
  where
    slot_of : ℕ → Place
    slot_of i = place_of (cond (ltb i t.variables) (get_or (codes t.vars) i nowhere) nowhere)

    slot : (i : ℕ) → i < 8 → Dec (i < t.variables)
        → get_or t.vars i (place_of nowhere) ≡ slot_of i
    slot i h (yes l) = rw (lt-ltb i t.variables l, ← code_at t.vars i) refl
    slot i h (no l) =
        rw (le-ltb i t.variables (omega arith)) (ap place_of (code_at t.vars i ∙ slot_empty t f i (omega arith) h))

    vars : t.vars ≡ map slot_of (range 0 8)
    vars = tabled slot_of (place_of nowhere) 8 t.vars s.vars (λ i h. slot i h (dec_lt i t.variables))

    used : t.used ≡ map (λ i. not (eqb (get_or (codes t.links) i nowhere) nowhere)) (range 0 64)
    used =
        tabled (λ i. not (eqb (get_or (codes t.links) i nowhere) nowhere)) false 64 t.used s.used (λ i h. sym (used_linked t f i h))

    links : t.links ≡ map (λ i. place_of (get_or (codes t.links) i nowhere)) (range 0 64)
    links =
        tabled (λ i. place_of (get_or (codes t.links) i nowhere)) (place_of nowhere) 64 t.links s.links
        (λ i h. ap place_of (code_at t.links i))

    values : t.values ≡ map (λ i. code_of (value_of (get_or t.values i 0))) (range 0 64)
    values =
        tabled (λ i. code_of (value_of (get_or t.values i 0))) 0 64 t.values s.values (λ i h. sym (code_value (get_or t.values i 0)))

-- ---- values by place

module _ (t : Heap64) (s : Sized t) (f : Formed t) where
  -- what has a value is a cell
  pub valued : (p : ℕ) → (code_in t.values p ≡ 0 → ⊥) → (heap_of t).link p ≡ nowhere → ⊥
  valued =
      by_code (λ p. (code_in t.values p ≡ 0 → ⊥) → (heap_of t).link p ≡ nowhere → ⊥) (λ n e. n refl) (λ n e. n refl) (λ n e. n refl)
      (λ i n. at_cell i n (dec_lt i 64) (get_or t.used i false) refl)
    where
      at_cell : (i : ℕ) → (get_or t.values i 0 ≡ 0 → ⊥) → Dec (i < 64) → (u : Bool) → get_or t.used i false ≡ u
          → get_or (codes t.links) i nowhere ≡ nowhere → ⊥
      at_cell i n (yes h) true u = stands_somewhere t.used _ (link_stands t f i h u)
      at_cell i n (yes h) false u = λ e. n (code_unused t f i h u)
      at_cell i n (no h) u v = λ e. n (get_or-eq_default t.values 0 (omega (arith, s.values)))

  pub value_most : (p : ℕ) → code_in t.values p ≤ 65536
  value_most =
      by_code (λ p. code_in t.values p ≤ 65536) (omega arith) (omega arith) (omega arith) (λ i. at_cell i (dec_lt i 64))
    where
      at_cell : (i : ℕ) → Dec (i < 64) → get_or t.values i 0 ≤ 65536
      at_cell i (yes h) = code_most t f i h
      at_cell i (no h) = let none : get_or t.values i 0 ≡ 0 = get_or-eq_default t.values 0 (omega (arith, s.values)) in omega arith
