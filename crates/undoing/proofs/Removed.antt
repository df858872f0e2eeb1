-- Kinds 6 and 7 by their cases: what comes out of them, facts in rows, stands for the predecessors.
use mathlib.Core.Bool.{Bool, true, false, ◌&&◌, not}
use mathlib.Core.List.Memᴰ
use mathlib.Core.List.{List, [], ◌∷◌, ◌++◌, map, append-nil}
use mathlib.Core.Logic.{◌≢◌}
use mathlib.Core.Path.{◌≡◌, refl, sym, ap, ◌∙◌, subst, subst₂}
use Prim.Native.Nat.{ℕ, zero, suc, ◌+◌, ◌-◌, ◌≤◌, ◌<◌}
use native.Mathlib.Decide.{ℕ_discrete, dec_lt}
use native.Mathlib.Omega.{arith}
use Rattle.std.proofs.lemmas.Bool.Decides.{nat_tests}
use borrow.Author.Tests.{lt-ltb, le-ltb, eq-eqb, ne_eqb}
use lib.ListN.{length, set, length-map}
use lib.Seq.{set-get_or}
use Rattle.lists.specs.List.{concat_map, keep}
use Rattle.lists.specs.Range.{range}
use Rattle.lists.proofs.List.{range_append, range_mem, concat_map_append}
use Rattle.lists.proofs.Reflect.{passes}
use Rattle.heap.specs.Operation.{new, delete}
use Rattle.heap.specs.Place.{nowhere, cell}
use Rattle.facts.specs.Facts.{Fact, FactOf, FactsOf}
use Rattle.shape.specs.Placing.{set_var}
use Rattle.shape.specs.Shape.{Shape, AllBelow, var_at, size}
use Rattle.backward.specs.Predecessors as backward
use Rattle.backward.specs.Predecessors.{with_facts, lower, lower_fact, remove_link, remove_cell, unspoken}
use Rattle.backward.proofs.Bare.{map_concat, concat_one, before_rides, placed_bare}
use Rattle.backward.proofs.Remove.{lower_below, lower_least, links_remove_length}
use Rattle.backward.proofs.Tests.{Unspoken, r_unspoken}
use Rattle.factrows.specs.Rows.{has_fact, lowered}
use Rattle.factrows.proofs.Predecessors.{unspoken_rows, remove_stands}
use Rattle.layout.specs.ShapeArray.{cell_count, operand_at, shape_in, ShapeArray}
use Rattle.shapes.specs.Change.{cases_of_new, cases_of_delete, cases_of, array_prepared, is_before, array_before, before_by_case}
use Rattle.shapes.specs.declared.Cases.{Cases}
use Rattle.shapes.specs.Without.{is_free, without}
use Rattle.shapes.proofs.Before.{s₀, prepared_new, without_cell, unchanged, delete_all}
use Rattle.shapes.proofs.New.{new_at_cell, new_at_null, new_at_dangling, new_at_nowhere}
use Rattle.shapes.proofs.Remove.{vars_below, links_below}
use Rattle.shapes.proofs.Slots.{size_in, vars_in, var_in_lem, shape_operand, count_operand}
use Rattle.undoing.specs.Before.{is_taken_out, is_before_rowed, rows_before, before_rowed, cases_rowed}
use Rattle.undoing.specs.Rowed.{Rowed, rowed, StandsFor, Settled, AllStandFor}
use Rattle.undoing.proofs.Before.{same_size, facts_of, whole_is, before_few}
use Rattle.undoing.proofs.Rowed.{all_append, all_concat, all_rowed}

-- ---- lists

-- one or none, if that is the same
keep_same : {A : Type 0} (b c : Bool) (x y : A) → keep b x ≡ keep c y → (b ≡ c) × (b ≡ true → x ≡ y)
keep_same true true x y e = (refl, λ _. cc)
keep_same true false x y e = absurd (let z : ◌≡◌ {A = ℕ} 0 1 = cc in omega arith)
keep_same false true x y e = absurd (let z : ◌≡◌ {A = ℕ} 0 1 = cc in omega arith)
keep_same false false x y e = (refl, λ z. absurd (let o : ◌≡◌ {A = ℕ} 0 1 = cc in omega arith))

and_swap : (b c : Bool) → (b && c) ≡ (c && b)
and_swap true true = refl
and_swap true false = refl
and_swap false true = refl
and_swap false false = refl

-- a variable that is nowhere may be put nowhere
set_nowhere : (a : ℕ) (s : Shape) → var_at s a ≡ nowhere → set_var a nowhere s ≡ s
set_nowhere zero s e = refl
set_nowhere (suc v) s e = ap (λ (l : List ℕ). record { vars = l; links = s.links; facts = s.facts }) (ap (set s.vars v) (sym e) ∙ set-get_or s.vars v nowhere)

-- ---- a cell taken out

-- the facts of a shape of n cells, once its cell k is gone, are about one cell less
facts_less : (n k : ℕ) (facts : List Fact) → k < n → FactsOf n facts → Unspoken (cell k) facts → FactsOf (n - 1) (map (lower_fact (cell k)) facts)
facts_less n k facts b h none t m =
    let (u, i, e) = Memᴰ.of_map (lower_fact (cell k)) facts m in
    let (kind, p, q) = h u i in
    let (np, nq) = none u i in
    subst (λ (t : Fact). FactOf (n - 1) t) e
    (kind, (lower_least (cell k) u.left (omega arith) p.0, lower_below (cell k) u.left (cell (n - 1)) (omega arith) (omega (arith, p.1)) np), (lower_least (cell k) u.right (omega arith) q.0, lower_below (cell k) u.right (cell (n - 1)) (omega arith) (omega (arith, q.1)) nq))

-- rows that stand for a shape, and then for it without a cell that no fact is about
out_stands : (l : List ℕ) (s : Shape) → StandsFor (rowed l (with_facts s [])) s → (k : ℕ) → k < size s → Unspoken (cell k) s.facts
    → StandsFor (rowed (lowered k l) (remove_cell (cell k) (with_facts s []))) (remove_cell (cell k) s)
out_stands l s h k b none =
    let less : size (remove_cell (cell k) s) ≡ size s - 1 = length-map (remove_link (cell k) s.links) (lower (cell k)) ∙ omega (arith, links_remove_length (cell k) s.links (omega arith, omega arith)) in
    record {
      bare = refl;
      cells = omega (arith, less, h.cells);
      facts_of = rw less (facts_less (size s) k s.facts b h.facts_of none);
      facts = remove_stands l s.facts h.facts k (omega (arith, h.cells)) none;
    }

module _ (variables : ℕ) (s rows : List ℕ) (array : ShapeArray variables s) (few : cell_count s ≤ 12) (whole : Shape)
    (settled : Settled (rowed rows (shape_in variables s)) whole) (a : ℕ) (some : 1 ≤ a) (most : a ≤ variables) where
  abbrev bare : Shape
  bare = shape_in variables s

  abbrev facts : List Fact
  facts = whole.facts

  abbrev n : ℕ
  n = cell_count s

  abbrev x : ℕ
  x = operand_at s a

  -- ---- kind 7: the facts are left

  left : (count : ℕ) (t : List ℕ) (k : ℕ) → before_rowed variables 7 count t rows k ≡ map (rowed rows) (before_by_case variables 7 count t k)
  unfolding before_rowed is_before_rowed rows_before before_by_case
  left count t k = grind (arith, nat_tests)

  abbrev cases : Cases
  cases = cases_of_delete variables a s

  abbrev numbers : List ℕ
  numbers = range cases.first (cases.end - cases.first)

  rowed_all : cases_rowed variables 7 a s rows ≡ map (rowed rows) (backward.before (delete a) bare)
  unfolding cases_rowed cases_of
  rowed_all =
      (λ i. concat_map (λ k. left cases.end (array_prepared variables 7 a s) k i) numbers)
      ∙ sym (map_concat (rowed rows) (before_by_case variables 7 cases.end (array_prepared variables 7 a s)) numbers)
      ∙ ap (map (rowed rows)) (delete_all variables s array few a some most)

  pub delete_stand : AllStandFor (cases_rowed variables 7 a s rows) (backward.before (delete a) whole)
  delete_stand =
      subst₂ AllStandFor (sym rowed_all)
      (concat_one _ ∙ sym (before_rides facts (delete a) bare) ∙ ap (backward.before (delete a)) (whole_is variables s rows array few whole settled))
      (all_rowed rows facts settled.stands.facts (size bare) (facts_of variables s rows array few whole settled) (backward.before (delete a) bare)
      (placed_bare (delete a) bare) (before_few variables s rows array few whole settled (delete a)))

  -- ---- kind 6: the shape under work, a being nowhere

  abbrev t : List ℕ
  t = s₀ variables s array few a some most

  abbrev bare₀ : Shape
  bare₀ = shape_in variables t

  abbrev whole₀ : Shape
  whole₀ = set_var a nowhere whole

  same₀ : bare₀ ≡ with_facts whole₀ []
  same₀ = shape_operand variables s a nowhere array.cells_fit some ∙ ap (set_var a nowhere) settled.stands.bare

  stands₀ : StandsFor (rowed rows (with_facts whole₀ [])) whole₀
  stands₀ = record { bare = refl; cells = settled.stands.cells; facts_of = settled.stands.facts_of; facts = settled.stands.facts }

  size₀ : size whole₀ ≡ n
  size₀ = same_size variables s rows array few whole settled ∙ size_in variables s array

  -- the test by rows
  tested : (k : ℕ) → is_free (cell k) whole₀ ≡ (is_free (cell k) bare₀ && not (has_fact rows 1 k k))
  tested k =
      ap (λ (b : Bool). b && is_free (cell k) (with_facts whole₀ [])) (unspoken_rows rows facts settled.stands.facts k)
      ∙ and_swap (not (has_fact rows 1 k k)) (is_free (cell k) (with_facts whole₀ []))
      ∙ ap (λ (u : Shape). is_free (cell k) u && not (has_fact rows 1 k k)) (sym same₀)

  -- by a cell of the shape
  cell_stands : (count k : ℕ) → k < n → AllStandFor (before_rowed variables 6 count t rows k) (without whole₀ k)
  unfolding before_rowed is_before_rowed rows_before before_by_case
  cell_stands count k b =
      let taken : is_taken_out 6 t k ≡ true = lt-ltb k (cell_count t) (rw (count_operand s a nowhere) b) in
      let (e, same) = keep_same (is_before variables 6 t k) (is_free (cell k) bare₀) _ (remove_cell (cell k) bare₀) (without_cell variables s array few a some most count k b) in
      rw (taken, e, tested k) (go (is_free (cell k) bare₀) (not (has_fact rows 1 k k)) refl refl (λ z. same (e ∙ z)))
    where
      go : (x y : Bool) → is_free (cell k) bare₀ ≡ x → not (has_fact rows 1 k k) ≡ y
          → (x ≡ true → shape_in variables (array_before variables 6 count t k) ≡ remove_cell (cell k) bare₀)
          → AllStandFor (keep (x && y) (rowed (lowered k rows) (shape_in variables (array_before variables 6 count t k)))) (keep (x && y) (remove_cell (cell k) whole₀))
      go true true ex ey same = (
        subst (λ (u : Shape). StandsFor (rowed (lowered k rows) u) (remove_cell (cell k) whole₀)) (sym (same refl ∙ ap (remove_cell (cell k)) same₀))
            (out_stands rows whole₀ stands₀ k (rw size₀ b)
            ((r_unspoken (cell k) facts).holds (passes (unspoken (cell k) facts) (unspoken_rows rows facts settled.stands.facts k ∙ ey)))),
        tt,
      )
      go true false ex ey same = tt
      go false y ex ey same = tt

  -- by one that the shape lacks
  fresh_stands : (count : ℕ) → AllStandFor (before_rowed variables 6 count t rows n) (whole₀ ∷ [])
  unfolding before_rowed is_before_rowed rows_before before_by_case
  fresh_stands count =
      let taken : is_taken_out 6 t n ≡ false = le-ltb n (cell_count t) (omega (arith, count_operand s a nowhere)) in
      let (e, same) = keep_same (is_before variables 6 t n) true (shape_in variables (array_before variables 6 count t n)) bare₀ (unchanged variables s array few a some most count) in
      rw (taken, e)
      (subst (λ (u : Shape). StandsFor (rowed rows u) whole₀) (sym (same e ∙ same₀)) stands₀, tt)

  vars_long : length whole.vars ≡ variables
  vars_long = ap (λ (u : Shape). length u.vars) (sym settled.stands.bare) ∙ vars_in variables s array

  vars_of : AllBelow (cell (size whole)) whole.vars
  vars_of = subst (λ (u : Shape). AllBelow (cell (size u)) u.vars) settled.stands.bare (rw (size_in variables s array) (vars_below variables s array))

  links_of : AllBelow (cell (size whole)) whole.links
  links_of = subst (λ (u : Shape). AllBelow (cell (size u)) u.links) settled.stands.bare (links_below variables s array)

  at_operand : var_at whole a ≡ x
  at_operand = ap (λ (u : Shape). var_at u a) (sym settled.stands.bare) ∙ var_in_lem variables s array a

  abbrev by_numbers : ℕ → ℕ → List Rowed
  by_numbers first end = concat_map (before_rowed variables 6 end t rows) (range first (end - first))

  cases_new : (first end : ℕ) → cases_of_new n x ≡ record { first = first; end = end } → cases_rowed variables 6 a s rows ≡ by_numbers first end
  unfolding cases_rowed cases_of
  cases_new first end e = rw (e, prepared_new variables s array few a some most) refl

  pub new_stand : AllStandFor (cases_rowed variables 6 a s rows) (backward.before (new a) whole)
  unfolding cases_of_new
  new_stand = go (ℕ_discrete x nowhere) (dec_lt x 3)
    where
      go : Dec (x ≡ nowhere) → Dec (x < 3) → AllStandFor (cases_rowed variables 6 a s rows) (backward.before (new a) whole)
      go (yes e) d =
          let all : suc n - 0 ≡ n + 1 = omega arith in
          let last : 0 + n ≡ n = omega arith in
          let same : whole₀ ≡ whole = set_nowhere a whole (at_operand ∙ e) in
          rw (cases_new 0 (suc n) (rw (eq-eqb x 0 e) refl), all, range_append 0 n 1, concat_map_append (before_rowed variables 6 (suc n) t rows) (range 0 n) (range (0 + n) 1), last)
          (subst (λ (l : List Shape). AllStandFor (concat_map (before_rowed variables 6 (suc n) t rows) (range 0 n) ++ concat_map (before_rowed variables 6 (suc n) t rows) (range n 1)) l)
          (ap (λ (u : Shape). concat_map (without u) (range 0 n) ++ (u ∷ [])) same
          ∙ sym (new_at_nowhere whole a some (omega (arith, vars_long)) vars_of links_of settled.stands.facts_of (at_operand ∙ e) ∙ ap (λ (m : ℕ). concat_map (without whole) (range 0 m) ++ (whole ∷ [])) size₀))
          (all_append (concat_map (before_rowed variables 6 (suc n) t rows) (range 0 n)) (concat_map (before_rowed variables 6 (suc n) t rows) (range n 1)) (concat_map (without whole₀) (range 0 n)) (whole₀ ∷ [])
          (all_concat (before_rowed variables 6 (suc n) t rows) (without whole₀) (range 0 n) (λ k m. cell_stands (suc n) k (let b = (range_mem 0 n k m).1 in omega arith)))
          (rw (append-nil (before_rowed variables 6 (suc n) t rows n)) (fresh_stands (suc n)))))
      go (no z) (yes b) = rw (cases_new 0 0 (rw (ne_eqb x 0 z, lt-ltb x 3 b) refl)) (none x at_operand z b)
        where
          none : (x : ℕ) → var_at whole a ≡ x → x ≢ nowhere → x < 3 → AllStandFor [] (backward.before (new a) whole)
          none zero e z b = absurd (z refl)
          none (suc zero) e z b = rw (new_at_null whole a e) tt
          none (suc (suc zero)) e z b = rw (new_at_dangling whole a e) tt
          none (suc (suc (suc x))) e z b = absurd (omega arith)
      go (no z) (no b) =
          let k : ℕ = x - 3 in
          let one : suc k - k ≡ 1 = omega arith in
          let x_is : x ≡ cell k = omega arith in
          rw (cases_new k (suc k) (rw (ne_eqb x 0 z, le-ltb x 3 (omega arith)) refl), one, append-nil (before_rowed variables 6 (suc k) t rows k), new_at_cell whole a k (at_operand ∙ x_is))
          (cell_stands (suc k) k (omega (arith, array.operands_range a)))
