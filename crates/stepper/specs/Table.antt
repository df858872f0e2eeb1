-- The stepper's heap as a table of 64 cells, and the heap that it stands for.
use Rattle.std.specs.Prelude.{Bool, true, false, ◌&&◌, not, cond, List, map, ◌≡◌, ℕ, zero, suc, eqb, leb, ltb, length, get_or}
use Rattle.std.proofs.Math.Option.{Option, none, some}
use Rattle.heap.specs.Codes.{var_in, link_in}
use Rattle.heap.specs.Heap.{Heap}
use Rattle.heap.specs.Place.{nowhere, dangling, cell}
use Rattle.lists.specs.Range.{range}
use Rattle.lists.specs.Test.{all_from}
use Rattle.place.specs.Place.{place_of, codes}
use Rattle.place.specs.declared.Place.{Place}
use Rattle.stepper.specs.declared.Heap64.{Heap64}

-- the lengths of a table's arrays, which the type of lists does not have
pub record Sized (t : Heap64) : Type 0 where
  pub vars : length t.vars ≡ 8
  pub used : length t.used ≡ 64
  pub links : length t.links ≡ 64
  pub values : length t.values ≡ 64

-- A value's code: 0 for none, v + 1 for the value v.
abbrev pub value_of : ℕ → Option ℕ
value_of zero = none
value_of (suc v) = some v

abbrev pub code_of : Option ℕ → ℕ
code_of none = 0
code_of (some v) = suc v

-- the code of the value of the cell at a place, 0 where no cell is there: codes of values are looked up as links are
abbrev pub code_in : List ℕ → ℕ → ℕ
code_in values p = link_in values p

-- the heap that a table stands for
abbrev pub heap_of : Heap64 → Heap
heap_of t =
    record { link = link_in (codes t.links); var = var_in (codes t.vars); value = λ p. value_of (code_in t.values p) }

-- the table of a heap with so many variables, of its cells 0 to 63: "An unused cell has link code 0, and variable slots above V hold 0." The
-- table of a heap with a value above 65,535 isn't well formed; no step gives one (`steps`).
unfoldable pub table_of : ℕ → Heap → Heap64
table_of n h =
    record {
      variables = n;
      vars = map (λ i. place_of (cond (ltb i n) (h.var (suc i)) nowhere)) (range 0 8);
      used = map (λ i. not (eqb (h.link (cell i)) nowhere)) (range 0 64);
      links = map (λ i. place_of (h.link (cell i))) (range 0 64);
      values = map (λ i. code_of (h.value (cell i))) (range 0 64);
    }

-- at #, at * or at a used cell
unfoldable pub standing : List Bool → ℕ → Bool
standing used zero = false
standing used (suc zero) = true
standing used (suc (suc zero)) = true
standing used (suc (suc (suc i))) = get_or used i false

-- no cell or a used one
abbrev pub aimed : List Bool → ℕ → Bool
aimed used p = cond (ltb p 3) true (standing used p)

-- so is the i-th of some places
abbrev pub aimed_at : List Bool → List Place → ℕ → Bool
aimed_at used places i = aimed used (get_or (codes places) i nowhere)

-- "a nonzero slot above V, a variable .. that isn't at #, * or a used cell": slot i is right
abbrev pub slot_fits : Heap64 → ℕ → Bool
slot_fits t i = let p = get_or (codes t.vars) i nowhere in cond (ltb i t.variables) (standing t.used p) (eqb p nowhere)

-- "a .. used link that isn't at #, * or a used cell, or an unused cell with a nonzero link": cell i is right
abbrev pub cell_fits : Heap64 → ℕ → Bool
cell_fits t i = let p = get_or (codes t.links) i nowhere in cond (get_or t.used i false) (standing t.used p) (eqb p nowhere)

-- Wish 6: "an unused cell of the stepper has no value"; a used one has none or one from 0 to 65,535: the largest code
abbrev pub most_code : Bool → ℕ
most_code used = cond used 65536 0

-- the code of the value of cell i is right
abbrev pub value_fits : Heap64 → ℕ → Bool
value_fits t i = leb (get_or t.values i 0) (most_code (get_or t.used i false))

-- the opposite of refusal 13, "The stepper's heap is ill formed: V outside 1..8", and so on
unfoldable pub well_formed : Heap64 → Bool
well_formed t =
    (leb 1 t.variables && leb t.variables 8)
    && (all_from 8 0 (slot_fits t) && (all_from 64 0 (cell_fits t) && all_from 64 0 (value_fits t)))

-- a table as the stepper works on it
pub record FormedTable (t : Heap64) : Type 0 where
  pub sized : Sized t
  pub formed : well_formed t ≡ true

-- a place, * instead of the place y
abbrev pub dangle_place : ℕ → Place → Place
dangle_place y p = cond (eqb p.code y) (place_of dangling) p

-- "Delete turns every variable and link at that cell to *."
abbrev pub dangle_vars : Heap64 → ℕ → Heap64
dangle_vars t y =
    record { variables = t.variables; vars = map (dangle_place y) t.vars; used = t.used; links = t.links; values = t.values }

abbrev pub dangle_links : Heap64 → ℕ → Heap64
dangle_links t y =
    record { variables = t.variables; vars = t.vars; used = t.used; links = map (dangle_place y) t.links; values = t.values }
