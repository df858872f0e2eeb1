-- Shapes whose facts are in rows: covers of them are covers of the shapes they stand for, and what choices and cases give by them.
use mathlib.Core.Bool.{Bool, true, false, ◌&&◌, not, cond, and-false}
use mathlib.Core.List.{List, [], ◌∷◌, ◌++◌, map}
use mathlib.Core.Path.{◌≡◌, refl, sym, ap, ◌∙◌}
use Prim.Native.Nat.{ℕ, ◌-◌, ◌≤◌, ◌<◌}
use borrow.Author.Tests.{lt-ltb, le-ltb, eq-eqb, ne_eqb}
use lib.Dec.{eqb}
use Rattle.lists.specs.List.{concat_map}
use Rattle.lists.specs.Range.{range}
use Rattle.lists.proofs.List.{concat_map_append}
use Rattle.shape.specs.Shape.{Shape}
use Rattle.run.specs.Run.{Located}
use Rattle.cover.specs.Test.{closed_in}
use Rattle.factrows.specs.Listed.{closed}
use Rattle.factrows.specs.Rows.{has_fact, no_facts, cell_number, rows_test, lowered}
use Rattle.format.specs.Certificate.{read_cover, read_cover_by}
use Rattle.format.specs.Parser.{certificate_buffer}
use Rattle.format.proofs.Among.{cover_among, cover_bare}
use Rattle.layout.specs.Entries.{version_of}
use Rattle.layout.specs.Loading.{loaded_facts}
use Rattle.layout.specs.ShapeArray.{cell_count, operand_at, shape_in, ShapeArray}
use Rattle.layout.proofs.Facts.{facts_none}
use Rattle.placing.proofs.Ranges.{stretch}
use Rattle.shapes.specs.Change.{cases_of, array_prepared, is_before, array_before}
use Rattle.shapes.specs.declared.Cases.{Cases}
use Rattle.shapes.proofs.Slots.{var_in_lem}
use Rattle.undoing.specs.Rowed.{Rowed, StandsFor, AllStandFor, rowed}
use Rattle.undoing.specs.Undone.{is_undone, rows_undone}
use Rattle.undoing.proofs.None.{has_none, closed_none, lowered_none}
use Rattle.undoing.proofs.Rowed.{rows_among}
use Rattle.checker.specs.Checking.{located, cover_rowed, covers_rowed, covers_of, take_all, Within, Checked, ChecksAll, Checks}
use Rattle.undoing.specs.Before.{facts_before, valued_before, is_taken_out, is_before_rowed, rows_before, before_rowed, cases_rowed}
use Rattle.std.specs.Prelude.{Ok}
use Rattle.checker.specs.declared.checked.Position.{Position}
use Rattle.checker.proofs.Checking.{Same, take_same}

-- ---- covers

module _ (cert : List ℕ) (ms : List Located) (state : ℕ) where
  cover_stands : (o : Rowed) (s : Shape) → StandsFor o s → (at : ℕ) → cover_rowed cert ms state o at ≡ read_cover (certificate_buffer cert) ms (located state s) at
  cover_stands o s h at =
      ap (λ (t : Shape). read_cover_by (certificate_buffer cert) (rows_test o.rows) ms (located state t) at) h.bare
      ∙ cover_bare (certificate_buffer cert) (rows_test o.rows) ms state s at
      ∙ cover_among (rows_test o.rows) (closed_in s) (rows_among o s h) (certificate_buffer cert) ms (located state s) at

  covers_stand : (os : List Rowed) (ss : List Shape) → AllStandFor os ss → Same (covers_rowed cert ms state os) (covers_of cert ms (map (located state) ss))
  covers_stand [] [] h = tt
  covers_stand [] (s ∷ ss) h = absurd h
  covers_stand (o ∷ os) [] h = absurd h
  covers_stand (o ∷ os) (s ∷ ss) (h, hs) = (cover_stands o s h, covers_stand os ss hs)

  pub checks_stand : (os : List Rowed) (ss : List Shape) → AllStandFor os ss → (t : Position) (g : Checked) → Checks cert ms state os t g
      → ChecksAll cert ms (map (located state) ss) t g
  checks_stand os ss h t g (e, w) = (e ∙ take_same (covers_rowed cert ms state os) (covers_of cert ms (map (located state) ss)) (covers_stand os ss h) _ _, w)

-- ---- choices

-- the predecessors of kinds 8 to 13 by their facts, in the array as in the shape
pub facts_valued : (variables kind a b : ℕ) (v rows : List ℕ) → 5 < kind → ShapeArray variables v
    → facts_before kind a b rows (shape_in variables v) ≡ valued_before variables kind a b v rows
unfolding facts_before
facts_valued variables kind a b v rows h array = rw (lt-ltb 5 kind h, var_in_lem variables v array a, var_in_lem variables v array b) refl

over : {A B : Type 0} (g : A → List B) (f : ℕ → List A) (l : List ℕ) → concat_map (λ k. concat_map g (f k)) l ≡ concat_map g (concat_map f l)
over g f [] = refl
over g f (k ∷ ks) = ap (λ r. concat_map g (f k) ++ r) (over g f ks) ∙ sym (concat_map_append g (f k) (concat_map f ks))

pub stretch_over : {A B : Type 0} (g : A → List B) (f : ℕ → List A) (from to : ℕ) → stretch (λ k. concat_map g (f k)) from to ≡ concat_map g (stretch f from to)
stretch_over g f from to = over g f (range from (to - from))

-- ---- cases

-- by the two tests of one case: of the shape, and of the rows
module _ (variables kind count : ℕ) (s rows : List ℕ) (k : ℕ) where
  pub case_none : is_before variables kind s k ≡ false → before_rowed variables kind count s rows k ≡ []
  unfolding before_rowed is_before_rowed
  case_none e = rw e refl

  module _ (b : is_before variables kind s k ≡ true) where
    pub case_new : not (is_taken_out kind s k && has_fact rows 1 k k) ≡ false → before_rowed variables kind count s rows k ≡ []
    unfolding before_rowed is_before_rowed
    case_new e = rw (b, e) refl

    pub case_one : not (is_taken_out kind s k && has_fact rows 1 k k) ≡ true → (v l : List ℕ) → v ≡ array_before variables kind count s k → l ≡ rows_before kind s rows k
        → before_rowed variables kind count s rows k ≡ rowed l (shape_in variables v) ∷ []
    unfolding before_rowed is_before_rowed
    case_one e v l v_is l_is = rw (b, e, v_is, l_is) refl

-- all cases
pub cases_all : (variables kind a : ℕ) (s rows : List ℕ) (cases : Cases) (t : List ℕ) → cases ≡ cases_of variables kind a s → t ≡ array_prepared variables kind a s
    → stretch (before_rowed variables kind cases.end t rows) cases.first cases.end ≡ cases_rowed variables kind a s rows
unfolding cases_rowed
cases_all variables kind a s rows cases t c_is t_is = rw (c_is, t_is) refl

-- the rows of one case, by kind and cell
module _ (kind : ℕ) (s : List ℕ) (k : ℕ) where
  pub taken_kind : (kind ≡ 6 → ⊥) → is_taken_out kind s k ≡ false
  taken_kind n = rw (ne_eqb kind 6 n) refl

  pub taken_past : cell_count s ≤ k → is_taken_out kind s k ≡ false
  taken_past b = rw (le-ltb k (cell_count s) b) (and-false (eqb kind 6))

  pub taken_is : kind ≡ 6 → k < cell_count s → is_taken_out kind s k ≡ true
  taken_is e b = rw (eq-eqb kind 6 e, lt-ltb k (cell_count s) b) refl

module _ (kind : ℕ) (s rows : List ℕ) (k : ℕ) where
  -- they stay, or a cell is taken out that is in no fact
  pub rows_kept : is_taken_out kind s k ≡ false → (true ≡ not (is_taken_out kind s k && has_fact rows 1 k k)) × (rows ≡ rows_before kind s rows k)
  unfolding rows_before
  rows_kept e = rw e (refl, refl)

  pub rows_out : is_taken_out kind s k ≡ true → (r : Bool) (l : List ℕ) → r ≡ not (has_fact rows 1 k k) → l ≡ cond r (lowered k rows) rows
      → (r ≡ not (is_taken_out kind s k && has_fact rows 1 k k)) × (l ≡ cond r (rows_before kind s rows k) rows)
  unfolding rows_before
  rows_out e r l r-is l_is = rw e (r-is, l_is)

-- without facts they stay
pub rows_none : (kind : ℕ) (s : List ℕ) (k : ℕ) (rows : List ℕ) → rows ≡ no_facts
    → (true ≡ not (is_taken_out kind s k && has_fact rows 1 k k)) × (rows ≡ rows_before kind s rows k)
unfolding rows_before
rows_none kind s k rows e = rw (e, has_none 1 k k, and-false (is_taken_out kind s k), lowered_none k) (refl, same (is_taken_out kind s k))
  where
    same : (b : Bool) → no_facts ≡ cond b no_facts no_facts
    same true = refl
    same false = refl

-- ---- facts as they are loaded, and as kinds 8 to 13 undo them

pub loaded_none : (cert : List ℕ) (variables at : ℕ) → (version_of cert ≡ 2 → ⊥) → loaded_facts cert variables at ≡ no_facts
loaded_none cert variables at n = ap closed (facts_none cert variables at n) ∙ closed_none

module _ (variables kind a b : ℕ) (s rows : List ℕ) (u : Bool) (u-is : u ≡ is_undone kind (cell_number (operand_at s a)) (cell_number (operand_at s b)) rows) where
  pub valued_none : u ≡ false → valued_before variables kind a b s rows ≡ []
  valued_none e = rw (← u-is, e) refl

  pub valued_one : u ≡ true → (l : List ℕ) → l ≡ cond u (rows_undone kind (cell_number (operand_at s a)) (cell_number (operand_at s b)) rows) rows
      → valued_before variables kind a b s rows ≡ rowed l (shape_in variables s) ∷ []
  valued_one e l l_is = rw (← u-is, l_is, e) refl

pub checks_none : (cert : List ℕ) (ms : List Located) (state : ℕ) (t : Position) → Within cert t → Checks cert ms state [] t (Ok t)
unfolding take_all
checks_none cert ms state t w = (refl, w)
