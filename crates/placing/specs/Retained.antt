-- Kinds 1 to 5 and 8 to 13: what is retained of two placings, how it is changed, and the same by the numbers of the choices.
use Rattle.std.specs.Prelude.{Bool, ◌||◌, ◌&&◌, not, cond, List, ◌≢◌, ℕ, ◌<◌, eqb, ltb}
use Rattle.heap.specs.Codes.{link_in}
use Rattle.heap.specs.Place.{nowhere, dangling, cell}
use Rattle.shape.specs.Placing.{set_var, place, place_both}
use Rattle.shape.specs.Shape.{Shape, var_at}
use Rattle.backward.specs.Predecessors.{set_link, drop_helper, retain}

-- ---- one result of the placings

-- p is "a cell whose link is nowhere or equals" q
unfoldable pub link_open : List ℕ → ℕ → ℕ → Bool
link_open links p q = ltb dangling p && (eqb (link_in links p) nowhere || eqb (link_in links p) q)

-- a at x and b at y are retained
unfoldable pub retained : ℕ → ℕ → ℕ → List ℕ → Bool
retained kind x y links =
    let cells = ltb dangling x && ltb dangling y in
    cond (eqb kind 2) (not (eqb x y))
    (cond (ltb kind 4) (eqb x y) (cond (eqb kind 4) (link_open links y x) (cond (eqb kind 5) (link_open links x y) cells)))

unfoldable pub retained_in : ℕ → ℕ → ℕ → Shape → Bool
retained_in kind a b s = retained kind (var_at s a) (var_at s b) s.links

-- where there are so many variables; one more is the helper of kind 4. Kinds 1 and 2 leave it, and 8 to 13 all but its facts.
unfoldable pub changed : ℕ → ℕ → ℕ → ℕ → Shape → Shape
changed variables kind a b s =
    let loaded = set_var a nowhere (set_link (var_at s b) (var_at s a) s) in
    cond (ltb kind 3 || ltb 5 kind) s
    (cond (eqb kind 3) (cond (eqb a b) s (set_var a nowhere s))
    (cond (eqb kind 4) (cond (ltb variables b) (drop_helper a variables loaded) loaded) (set_link (var_at s a) nowhere s)))

-- ---- all results

-- where a is placed
abbrev pub seconds : ℕ → ℕ → ℕ → ℕ → Shape → List Shape
seconds variables kind a b s = retain (retained_in kind a b) (changed variables kind a b) (place b s)

abbrev pub firsts : ℕ → ℕ → ℕ → ℕ → Shape → List Shape
firsts variables kind a b s = retain (retained_in kind a b) (changed variables kind a b) (place_both a b s)

-- ---- where a variable that is placed stands

-- p has a place in a shape of n cells, and that is not *
pub record At (n p : ℕ) : Type 0 where
  pub some : p ≢ nowhere
  pub safe : p ≢ dangling
  pub inside : p < cell n
