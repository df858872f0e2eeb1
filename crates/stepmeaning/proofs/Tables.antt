-- A well formed table of the stepper stands for a heap as the rules have it. So what is said of every such heap is said of the stepper's.
use mathlib.Core.Bool.{Bool, true, false}
use mathlib.Core.Logic.{◌≢◌, ◌↔◌, inl, inr}
use mathlib.Core.Option.{none, some}
use mathlib.Core.Path.{◌≡◌, refl, ap, sym, ◌∙◌}
use Prim.Native.Nat.{ℕ, zero, suc, ◌≤◌, ◌<◌}
use native.Mathlib.Decide.{dec_lt}
use native.Mathlib.Omega.{arith}
use lib.ListN.{get_or, length-map, get_or-eq_default}
use Rattle.heap.specs.Heap.{IsCell}
use Rattle.heap.specs.Place.{nowhere, cell}
use Rattle.heap.proofs.Codes.{by_code}
use Rattle.shape.specs.Shape.{SatisfiesOne}
use Rattle.run.specs.WellFormed.{StandsInHeap, WellFormed}
use Rattle.place.specs.Place.{codes}
use Rattle.place.specs.declared.Place.{Place}
use Rattle.stepper.specs.Table.{Sized, value_of, heap_of, standing, well_formed}
use Rattle.stepper.specs.declared.Heap64.{Heap64}
use Rattle.stepper.proofs.Formed.{Formed, formed, var_stands, link_stands, link_empty, stands_somewhere, valued}
use Rattle.blocklist.specs.Answers.{blocks}
use Rattle.blocklist.proofs.Bound.{met}
use Rattle.forbidden.specs.Guarantees.{Means}
use Rattle.forbidden.specs.Sets.{not_list_shapes}
use Rattle.forbidden.proofs.Runs.{means}

module _ (t : Heap64) (s : Sized t) (f : Formed t) where
  -- the cells of the heap are the used cells of the table
  cell_used : (i : ℕ) → IsCell (heap_of t) (cell i) → (i < 64) × (get_or t.used i false ≡ true)
  cell_used i k = go (dec_lt i 64) (get_or t.used i false) refl
    where
      go : Dec (i < 64) → (u : Bool) → get_or t.used i false ≡ u → (i < 64) × (u ≡ true)
      go (yes h) true e = (h, refl)
      go (yes h) false e = absurd (k (link_empty t f i h e))
      go (no h) u e =
          absurd (k (get_or-eq_default (codes t.links) nowhere (omega (arith, length-map t.links (λ (p : Place). p.code), s.links))))

  used_cell : (i : ℕ) → get_or t.used i false ≡ true → IsCell (heap_of t) (cell i)
  used_cell i u = go (dec_lt i 64)
    where
      go : Dec (i < 64) → IsCell (heap_of t) (cell i)
      go (yes h) = stands_somewhere t.used (get_or (codes t.links) i nowhere) (link_stands t f i h u)
      go (no h) =
          let e : get_or t.used i false ≡ false = get_or-eq_default t.used false (omega (arith, s.used)) in
          let z : ◌≡◌ {A = ℕ} 0 1 = cc in
          absurd (omega arith)

  stands : (p : ℕ) → standing t.used p ≡ true → StandsInHeap (heap_of t) p
  unfolding standing
  stands =
      by_code (λ p. standing t.used p ≡ true → StandsInHeap (heap_of t) p) (λ e. absurd (stands_somewhere t.used nowhere e refl)) (λ e. inl refl)
      (λ e. inr (inl refl)) (λ i e. inr (inr (used_cell i e)))

  by_tests : WellFormed t.variables (heap_of t)
  by_tests =
      record {
        null_fixed = refl;
        vars = elim [ zero ↦ λ l. inl refl | suc v ↦ λ l. stands (get_or (codes t.vars) v nowhere) (var_stands t f v (omega arith)) ];
        links =
            by_code (λ c. IsCell (heap_of t) c → StandsInHeap (heap_of t) ((heap_of t).link c)) (λ k. absurd (k refl)) (λ k. absurd (k refl)) (λ k. absurd (k refl))
            (λ i k. let (h, u) = cell_used i k in stands (get_or (codes t.links) i nowhere) (link_stands t f i h u));
        low =
            by_code (λ c. IsCell (heap_of t) c → cell 0 ≤ c) (λ k. absurd (k refl)) (λ k. absurd (k refl)) (λ k. absurd (k refl)) (λ i k. omega arith);
        finite = (
          cell 64,
          by_code (λ c. IsCell (heap_of t) c → c < cell 64) (λ k. omega arith) (λ k. omega arith) (λ k. omega arith)
              (λ i k. let (h, u) = cell_used i k in omega arith),
        );
        valued = λ p m e. valued t s f p (λ z. let missing : value_of 0 ≡ some m = ap value_of (sym z) ∙ e in let q : ◌≡◌ {A = ℕ} 0 1 = cc in omega arith);
      }

module _ (t : Heap64) (s : Sized t) (w : well_formed t ≡ true) where
  -- A WELL FORMED TABLE stands for a well formed heap with its variables
  pub table_formed : WellFormed t.variables (heap_of t)
  table_formed = by_tests t s (formed t w)

  -- so the sets mean there what document 02 says
  pub means_in_tables : (x : ℕ) → x ≢ 0 → x ≤ t.variables → Means (heap_of t) t.variables x
  means_in_tables = means (heap_of t) t.variables table_formed

  -- and the block list refuses a table by 29, # not met from its head, exactly if the heap satisfies one of the four for variable 1
  pub no_list_exactly : (blocks t ≡ none) ↔ SatisfiesOne (heap_of t) (not_list_shapes t.variables 1)
  no_list_exactly =
      let unmet = (met t s.links).none_met in
      let four = (means_in_tables 1 (omega arith) (formed t w).some).not_list in
      (λ e. four.1 (λ (k, z). unmet.0 e k z), λ o. unmet.1 (λ k z. four.0 o (k, z)))
