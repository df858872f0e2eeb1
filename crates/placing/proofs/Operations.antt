-- Before each of kinds 1 to 5 is what it retains of two placings.
use mathlib.Core.Bool.{Bool, true, false}
use mathlib.Core.List.{List, [], ◌∷◌, ◌++◌, map}
use mathlib.Core.Logic.{◌≢◌}
use mathlib.Core.Path.{◌≡◌, refl, ap}
use Prim.Native.Nat.{ℕ, suc, ◌≤◌}
use native.Mathlib.Omega.{arith}
use Rattle.std.proofs.lemmas.Bool.Decides.{nat_tests}
use borrow.Author.Tests.{lt-ltb, eq-eqb}
use lib.ListN.{length}
use Rattle.lists.specs.List.{keep}
use Rattle.heap.specs.Operation.{kind_of}
use Rattle.heap.specs.Place.{nowhere}
use Rattle.shape.specs.Placing.{set_var, place_both}
use Rattle.shape.specs.Shape.{Shape, var_at}
use Rattle.backward.specs.Predecessors.{set_link, link_fits, add_helper, drop_helper, retain, before}
use Rattle.layout.specs.Transitions.{op_of}
use Rattle.placing.specs.Retained.{link_open, retained, retained_in, changed, firsts}

module _ (variables a b : ℕ) (s : Shape) where
  -- but where kind 4 has one variable
  pub by_two : (kind : ℕ) → 1 ≤ kind → kind ≤ 5 → (kind ≡ 4 → a ≢ b) → b ≤ variables → before (op_of (kind_of kind) a b) s ≡ firsts variables kind a b s
  unfolding retained_in retained changed link_open
  by_two kind l h apart most = grind (arith, nat_tests)

map_retain : (f : Shape → Shape) (test : Shape → Bool) (change : Shape → Shape) (l : List Shape)
    → map f (retain test change l) ≡ retain test (λ s. f (change s)) l
map_retain f test change [] = refl
map_retain f test change (s ∷ l) = go (test s) (map_retain f test change l)
  where
    go : (x : Bool) → map f (retain test change l) ≡ retain test (λ s. f (change s)) l
        → map f (keep x (change s) ++ retain test change l) ≡ keep x (f (change s)) ++ retain test (λ s. f (change s)) l
    go true e = ap (λ r. f (change s) ∷ r) e
    go false e = e

-- kind 4 with one variable: the helper plays b
pub by_one : (variables a : ℕ) (s : Shape) → length s.vars ≡ variables
    → before (op_of (kind_of 4) a a) s ≡ firsts variables 4 a (suc variables) (add_helper s)
unfolding retained_in retained changed link_open
by_one variables a s e = rw e (simp (eq-eqb a a refl, lt-ltb variables (suc variables) (omega arith))
    (map_retain (drop_helper a variables) (λ t. link_fits (var_at t (suc variables)) (var_at t a) t)
    (λ t. set_var a nowhere (set_link (var_at t (suc variables)) (var_at t a) t)) (place_both a (suc variables) (add_helper s))))
