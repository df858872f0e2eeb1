-- The predecessors of a shape in an array, its facts in rows, stand for those of the shape with its facts.
use mathlib.Core.Bool.{Bool, true, false}
use mathlib.Core.List.Memᴰ
use mathlib.Core.List.{List, [], ◌∷◌, ◌++◌, map, append-nil}
use mathlib.Core.Path.{◌≡◌, refl, sym, ap, ◌∙◌, subst}
use Prim.Native.Nat.{ℕ, ◌≤◌, ◌<◌}
use native.Mathlib.Omega.{arith}
use Rattle.std.proofs.lemmas.Bool.Decides.{nat_tests}
use borrow.Author.Tests.{lt-ltb, le-ltb}
use Rattle.lists.specs.List.{◌∈◌, Every, concat_map, keep}
use Rattle.lists.proofs.List.{every_none, concat_map_mem, keep_mem}
use Rattle.lists.proofs.Reflect.{r_lt}
use Rattle.heap.specs.Operation.{Op, below_value, read, kind_of}
use Rattle.heap.specs.Place.{cell, dangling}
use Rattle.shape.specs.Placing.{place}
use Rattle.shape.specs.Shape.{Shape, var_at, size, InRange}
use Rattle.backward.specs.Predecessors.{with_facts, forget_facts, is_cell, place_cells, retain, before}
use Rattle.backward.proofs.Bare.{placed, behind, concat_map_lem, before_rides, rides_retain, rides_place, placed_bare, BareFrom}
use Rattle.facts.specs.Facts.{Fact, FactOf, FactsOf}
use Rattle.cover.proofs.InRange.{var_below, place_range, place_cells_range, predecessors_range}
use Rattle.factrows.specs.Rows.{cell_number}
use Rattle.layout.specs.ShapeArray.{cell_count, shape_in, ShapeArray}
use Rattle.layout.specs.Transitions.{op_of}
use Rattle.undoing.specs.Rowed.{Rowed, StandsFor, Settled, AllStandFor, rowed}
use Rattle.shapes.proofs.Slots.{size_in, vars_in}
use Rattle.shapes.proofs.Remove.{vars_below, links_below}
use Rattle.undoing.specs.Undone.{shapes_undone, is_undone, is_own, fact_kind, left_cell, right_cell}
use Rattle.undoing.proofs.Rowed.{rowed_stands, all_concat}
use Rattle.undoing.proofs.Undone.{undone_values}
use Rattle.undoing.specs.Before.{facts_before}

-- ---- one shape whose operands are placed

-- kinds 1 to 5 leave the facts
pub facts_left : (kind a b : ℕ) (rows : List ℕ) (t : Shape) → kind ≤ 5 → facts_before kind a b rows t ≡ rowed rows t ∷ []
unfolding facts_before
facts_left kind a b rows t h = rw (le-ltb 5 kind h) refl

-- the number of a cell
cell_number_lem : (p : ℕ) → dangling < p → cell (cell_number p) ≡ p
cell_number_lem p h = grind (arith, nat_tests)

-- a cell is not below itself
clash : (a : ℕ) (rows : List ℕ) (t : Shape) → cell_number (var_at t a) < 14 → facts_before 9 a a rows t ≡ []
unfolding facts_before is_undone is_own fact_kind left_cell right_cell
clash a rows t h = grind (arith, nat_tests)

every_empty : {A B : Type 0} {f : A → List B} (l : List A) → Every (λ x. f x ≡ []) l → concat_map f l ≡ []
every_empty [] h = refl
every_empty {f = f} (x ∷ xs) h = rw (h x (Memᴰ.head refl)) (every_empty {f = f} xs (λ y m. h y (Memᴰ.tail m)))

-- kinds 8 to 13: the operands are at cells
facts_undone : (kind a b : ℕ) (rows : List ℕ) (t s : Shape) → 8 ≤ kind → kind ≤ 13 → Settled (rowed rows t) s → var_at t a ≡ var_at s a → var_at t b ≡ var_at s b
    → (dangling < var_at s a) × (var_at s a < cell (size s)) → (dangling < var_at s b) × (var_at s b < cell (size s))
    → AllStandFor (facts_before kind a b rows t) (shapes_undone kind (var_at s a) (var_at s b) s)
unfolding facts_before
facts_undone kind a b rows t s l h settled ea eb ca cb =
    rw (lt-ltb 5 kind (omega arith), ea, eb)
    (rw (cell_number_lem (var_at s a) ca.0, cell_number_lem (var_at s b) cb.0) at
    (undone_values (rowed rows t) s settled (cell_number (var_at s a)) (cell_number (var_at s b)) (omega (arith, cell_number_lem (var_at s a) ca.0, ca.1)) (omega (arith, cell_number_lem (var_at s b) cb.0, cb.1)) kind l h))

-- what comes behind the placings: nothing for kinds 1 to 5, and `shapes_undone` for 8 to 12
behind_left : (kind a b : ℕ) (s : Shape) → 1 ≤ kind → kind ≤ 5 → behind (op_of (kind_of kind) a b) s ≡ s ∷ []
behind_left kind a b s l h = grind (arith, nat_tests)

behind_undone : (kind a b : ℕ) (s : Shape) → 8 ≤ kind → kind ≤ 12 → behind (op_of (kind_of kind) a b) s ≡ shapes_undone kind (var_at s a) (var_at s b) s
unfolding shapes_undone
behind_undone kind a b s l h = grind (arith, nat_tests)

-- and for 13 the cell's facts go
read_undone : (p : ℕ) (s : Shape) → shapes_undone 13 p p s ≡ forget_facts p s ∷ []
unfolding shapes_undone
read_undone p s = refl

-- the placings of kinds 8 to 12 are at cells
placed_cells : (kind a b : ℕ) (s : Shape) → 8 ≤ kind → kind ≤ 12 → placed (op_of (kind_of kind) a b) s ≡ place_cells a b s
placed_cells kind a b s l h = grind (arith, nat_tests)

placed_before : (kind a b : ℕ) (s : Shape) → 1 ≤ kind → kind ≤ 5 → placed (op_of (kind_of kind) a b) s ≡ before (op_of (kind_of kind) a b) s
placed_before kind a b s l h = grind (arith, nat_tests)

-- results that are kept and then changed
kept_changed : (test : Shape → Bool) (change : Shape → Shape) (l : List Shape) → retain test change l ≡ concat_map (λ t. change t ∷ []) (retain test (λ t. t) l)
kept_changed test change [] = refl
kept_changed test change (t ∷ ts) = go (test t) (kept_changed test change ts)
  where
    go : (b : Bool) → retain test change ts ≡ concat_map (λ t. change t ∷ []) (retain test (λ t. t) ts)
        → keep b (change t) ++ retain test change ts ≡ concat_map (λ t. change t ∷ []) (keep b t ++ retain test (λ t. t) ts)
    go true e = ap (λ r. change t ∷ r) e
    go false e = e

-- ---- a shape in an array, with its facts

pub bare_range : (variables : ℕ) (s : List ℕ) → ShapeArray variables s → (most : ℕ) → cell_count s ≤ most → InRange variables most (shape_in variables s)
bare_range variables s h most few =
    record {
      variables_number = vars_in variables s h;
      cells = omega (arith, size_in variables s h);
      vars = rw (size_in variables s h) (vars_below variables s h);
      links = links_below variables s h;
      facts = every_none (FactOf (size (shape_in variables s)));
    }

module _ (variables : ℕ) (s rows : List ℕ) (array : ShapeArray variables s) (few : cell_count s ≤ 12) (whole : Shape)
    (settled : Settled (rowed rows (shape_in variables s)) whole) where
  abbrev bare : Shape
  bare = shape_in variables s

  abbrev facts : List Fact
  facts = whole.facts

  abbrev back : Shape → Shape
  back t = with_facts t facts

  pub whole_is : back bare ≡ whole
  whole_is = ap (λ (t : Shape). with_facts t facts) settled.stands.bare

  pub same_size : size whole ≡ size bare
  same_size = ap size (sym settled.stands.bare)

  pub facts_of : FactsOf (size bare) facts
  facts_of = rw same_size at settled.stands.facts_of

  pub in_range : InRange variables 12 bare
  in_range = bare_range variables s array 12 few

  -- a bare shape of as many cells or more, with the same facts
  pub stands : (t : Shape) → BareFrom (size bare) t → size t ≤ 14 → StandsFor (rowed rows t) (back t)
  stands t = rowed_stands rows facts settled.stands.facts (size bare) facts_of t

  settled_too : (t : Shape) → BareFrom (size bare) t → size t ≤ 14 → Settled (rowed rows t) (back t)
  settled_too t b m = record { stands = stands t b m; closed = settled.closed; consistent = settled.consistent }

  -- results one by one
  stand_all : (o : Op) (ts : List Shape) (f : Shape → List Shape) (g : Shape → List Rowed) → before o (back bare) ≡ concat_map f (map back ts)
      → Every (λ t. AllStandFor (g t) (f (back t))) ts → AllStandFor (concat_map g ts) (before o whole)
  stand_all o ts f g is each =
      subst (λ (l : List Shape). AllStandFor (concat_map g ts) l) (sym (concat_map_lem f back ts) ∙ sym is ∙ ap (before o) whole_is) (all_concat g (λ t. f (back t)) ts each)

  -- the predecessors of the bare shape have at most 14 cells
  pub before_few : (o : Op) (t : Shape) → t ∈ before o bare → size t ≤ 14
  before_few o t m = (predecessors_range variables 12 o bare in_range t (subst (λ (l : List Shape). t ∈ l) (sym (append-nil (before o bare))) m)).cells

  -- ---- kinds 1 to 5 and 8 to 13, by what is placed

  module _ (kind a b : ℕ) where
    abbrev o : Op
    o = op_of (kind_of kind) a b

    -- kinds 1 to 5 leave the facts; d plays b
    pub left_stand : 1 ≤ kind → kind ≤ 5 → (d : ℕ) → AllStandFor (concat_map (facts_before kind a d rows) (before o bare)) (before o whole)
    left_stand l h d =
        rw (placed_before kind a b bare l h) at
        (stand_all o (placed o bare) (behind o) (facts_before kind a d rows) (before_rides facts o bare)
        (λ t m. rw (facts_left kind a d rows t h, behind_left kind a b (back t) l h) (stands t (placed_bare o bare t m) (before_few o t (rw (placed_before kind a b bare l h) at m)), tt)))

    -- kinds 8 to 12
    pub cells_stand : 8 ≤ kind → kind ≤ 12 → AllStandFor (concat_map (facts_before kind a b rows) (place_cells a b bare)) (before o whole)
    cells_stand l h =
        rw (placed_cells kind a b bare l h) at
        (stand_all o (placed o bare) (behind o) (facts_before kind a b rows) (before_rides facts o bare)
        (λ t m.
        let (r, ca, cb) = place_cells_range variables 12 a b bare in_range t (rw (placed_cells kind a b bare l h) at m) in
        rw (behind_undone kind a b (back t) l h)
        (facts_undone kind a b rows t (back t) l (omega arith) (settled_too t (placed_bare o bare t m) r.cells) refl refl ca cb)))

  -- kind 13
  pub read_stand : (a : ℕ) → AllStandFor (concat_map (facts_before 13 a a rows) (retain (λ t. is_cell (var_at t a)) (λ t. t) (place a bare))) (before (read a) whole)
  read_stand a =
      stand_all (read a) (retain (λ t. is_cell (var_at t a)) (λ t. t) (place a bare)) (λ t. forget_facts (var_at t a) t ∷ []) (facts_before 13 a a rows)
      (kept_changed (λ t. is_cell (var_at t a)) (λ t. forget_facts (var_at t a) t) (place a (back bare))
      ∙ ap (concat_map (λ t. forget_facts (var_at t a) t ∷ [])) (rides_retain facts (λ t. is_cell (var_at t a)) (λ t. t) (λ t. refl) (λ t. refl) (place a) (rides_place facts a) bare))
      each
    where
      each : Every (λ t. AllStandFor (facts_before 13 a a rows t) (forget_facts (var_at (back t) a) (back t) ∷ [])) (retain (λ t. is_cell (var_at t a)) (λ t. t) (place a bare))
      each t m =
          let (u, i, j) = concat_map_mem (λ t. keep (is_cell (var_at t a)) t) (place a bare) t m in
          let (v, e) = keep_mem (is_cell (var_at u a)) u t j in
          let r = place_range variables 12 a bare in_range u i in
          let c = (r_lt dangling (var_at u a)).holds v in
          let b = placed_bare (read a) bare u i in
          subst (λ (t : Shape). AllStandFor (facts_before 13 a a rows t) (forget_facts (var_at (back t) a) (back t) ∷ [])) (sym e)
          (rw (read_undone (var_at u a) (back u)) at
          (facts_undone 13 a a rows u (back u) (omega arith) (omega arith) (settled_too u b (omega (arith, r.cells))) refl refl (c, var_below variables _ a u r) (c, var_below variables _ a u r)))

  -- a variable below itself: nothing is before
  pub below_none : (a : ℕ) → before (below_value a a) whole ≡ []
  below_none a = none (before (below_value a a) whole) (rw nothing at (cells_stand 9 a a (omega arith) (omega arith)))
    where
      none : (l : List Shape) → AllStandFor [] l → l ≡ []
      none [] h = refl
      none (t ∷ ts) h = absurd h

      nothing : concat_map (facts_before 9 a a rows) (place_cells a a bare) ≡ []
      nothing = every_empty (place_cells a a bare) (λ t m. let (r, ca, _) = place_cells_range variables 12 a a bare in_range t m in clash a rows t (omega (arith, r.cells, cell_number_lem (var_at t a) ca.0, ca.1)))
