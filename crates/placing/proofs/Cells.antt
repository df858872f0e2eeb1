-- Kinds 8 to 13, which change facts alone: what they retain are the placings of their operands at cells.
use mathlib.Core.Bool.{Bool, true, false, ◌&&◌, cond, and_self}
use mathlib.Core.List.Memᴰ
use mathlib.Core.List.{List, [], ◌∷◌, ◌++◌}
use mathlib.Core.Logic.{◌≢◌}
use mathlib.Core.Path.{◌≡◌, refl, sym, ap, ◌∙◌}
use Prim.Native.Nat.{ℕ, suc, ◌+◌, ◌-◌, ◌≤◌, ◌<◌}
use native.Mathlib.Decide.{ℕ_discrete}
use native.Mathlib.Omega.{arith}
use Rattle.std.proofs.lemmas.Bool.Decides.{nat_tests}
use lib.Dec.{eqb, leb}
use lib.ListN.{length, set, length-set}
use Rattle.lists.specs.List.{◌∈◌, keep}
use Rattle.lists.specs.Range.{range}
use Rattle.lists.proofs.List.{concat_map_mem, keep_mem}
use Rattle.heap.specs.Codes.{link_in}
use Rattle.heap.specs.Place.{nowhere, dangling, cell}
use Rattle.shape.specs.Placing.{place, place_both}
use Rattle.shape.specs.Shape.{Shape, var_at, size}
use Rattle.shape.proofs.Laws.{length_snoc}
use Rattle.shape.proofs.PlacingByNumber.{choice}
use Rattle.backward.specs.Predecessors.{is_cell, place_cells, retain}
use Rattle.placing.specs.Choice.{chosen, exists, opened, made}
use Rattle.placing.specs.Retained.{retained_in, changed, firsts}
use Rattle.placing.proofs.ByNumber.{place_one, place_choices}
use Rattle.placing.proofs.Chosen.{choice_made, made_same, made_links, not_null, chosen_placed, place_dangling}
use Rattle.placing.proofs.Lists.{concat_map_same, concat_map_itself}
use Rattle.placing.proofs.Tests.{retains_cells}

-- a variable that is nowhere is placed by a choice
placed_by : (v : ℕ) (s t : Shape) → var_at s v ≡ nowhere → t ∈ place v s → (k : ℕ) × (t ≡ made v s k)
placed_by v s t e m =
    let (k, _, i) = concat_map_mem (choice v s) (range 0 (size s + (2 + size s))) t (rw (place_choices v s e) at m) in
    let (_, t_is) = keep_mem (exists s.links k) (made v s k) t (rw (choice_made v s k) at i) in
    (k, t_is)

-- what is placed has a place
placed : (v : ℕ) (s t : Shape) → v ≤ length s.vars → t ∈ place v s → (var_at t v ≢ nowhere) × (var_at t v ≢ dangling)
placed v s t h m = go (ℕ_discrete (var_at s v) nowhere) (ℕ_discrete (var_at s v) dangling)
  where
    go : Dec (var_at s v ≡ nowhere) → Dec (var_at s v ≡ dangling) → (var_at t v ≢ nowhere) × (var_at t v ≢ dangling)
    go (yes e) d =
        let (k, t_is) = placed_by v s t e m in
        let v_is : var_at t v ≡ chosen (size s) k = ap (λ (t : Shape). var_at t v) t_is ∙ made_same v s k (not_null s v e) h in
        (λ z. (chosen_placed (size s) k).0 (sym v_is ∙ z), λ z. (chosen_placed (size s) k).1 (sym v_is ∙ z))
    go (no n) (yes e) = absurd (Memᴰ.not-nil (rw (place_dangling v s e) at m))
    go (no n) (no d) = let t_is = Memᴰ.eq_of_singleton (rw (place_one v s n d) at m) in rw t_is (n, d)

module _ (variables kind a b : ℕ) (above : 5 < kind) where
  pub unchanged : (t : Shape) → changed variables kind a b t ≡ t
  unfolding changed
  unchanged t = grind (arith, nat_tests)

  tested : (t : Shape) → keep (retained_in kind a b t) (changed variables kind a b t) ≡ keep (is_cell (var_at t a) && is_cell (var_at t b)) t
  unfolding retained_in
  tested t = rw (← retains_cells kind (var_at t a) (var_at t b) t.links above, unchanged t) refl

  pub cells_by_two : (s : Shape) → firsts variables kind a b s ≡ place_cells a b s
  cells_by_two s =
      concat_map_same (λ t. keep (retained_in kind a b t) (changed variables kind a b t)) (λ t. keep (is_cell (var_at t a) && is_cell (var_at t b)) t)
      (place_both a b s) (λ t _. tested t)

-- the operands are one variable
pub cells_by_one : (variables kind a : ℕ) (s : Shape) → 5 < kind → a ≤ length s.vars
    → firsts variables kind a a s ≡ retain (λ t. is_cell (var_at t a)) (λ t. t) (place a s)
cells_by_one variables kind a s above h =
    cells_by_two variables kind a a above s
    ∙ ap (retain (λ t. is_cell (var_at t a) && is_cell (var_at t a)) (λ t. t)) once
    ∙ concat_map_same (λ t. keep (is_cell (var_at t a) && is_cell (var_at t a)) t) (λ t. keep (is_cell (var_at t a)) t) (place a s)
    (λ t _. ap (λ (x : Bool). keep x t) (and_self (is_cell (var_at t a))))
  where
    once : place_both a a s ≡ place a s
    once = concat_map_itself (place a) (place a s) (λ t m. let (n, d) = placed a s t h m in place_one a t n d)

-- ---- a placing adds at most one cell

opened_length : (links : List ℕ) (k : ℕ) → (length links ≤ length (opened links k)) × (length (opened links k) ≤ suc (length links))
unfolding opened
opened_length links k = go (leb k (length links)) (eqb k (suc (length links)))
  where
    n : ℕ
    n = length links

    i : ℕ
    i = k - (n + 2)

    go : (x y : Bool) → let l = cond x links (cond y (links ++ (nowhere ∷ [])) (set links i (cell n) ++ (link_in links (cell i) ∷ []))) in (n ≤ length l) × (length l ≤ suc n)
    go true y = (omega arith, omega arith)
    go false true = rw (length_snoc links nowhere) (omega arith, omega arith)
    go false false = rw (length_snoc (set links i (cell n)) (link_in links (cell i)), length-set links i (cell n)) (omega arith, omega arith)

pub place_size : (v : ℕ) (s t : Shape) → t ∈ place v s → (size s ≤ size t) × (size t ≤ suc (size s))
place_size v s t m = go (ℕ_discrete (var_at s v) nowhere) (ℕ_discrete (var_at s v) dangling)
  where
    go : Dec (var_at s v ≡ nowhere) → Dec (var_at s v ≡ dangling) → (size s ≤ size t) × (size t ≤ suc (size s))
    go (yes e) d = let (k, t_is) = placed_by v s t e m in rw (t_is, made_links v s k) (opened_length s.links k)
    go (no n) (yes e) = absurd (Memᴰ.not-nil (rw (place_dangling v s e) at m))
    go (no n) (no d) = let t_is = Memᴰ.eq_of_singleton (rw (place_one v s n d) at m) in rw t_is (omega arith, omega arith)

pub cells_size : (a b : ℕ) (s t : Shape) → t ∈ place_cells a b s → (size s ≤ size t) × (size t ≤ suc (suc (size s)))
cells_size a b s t m =
    let (w, i, j) = concat_map_mem (λ t. keep (is_cell (var_at t a) && is_cell (var_at t b)) t) (place_both a b s) t m in
    let (_, t_is) = keep_mem (is_cell (var_at w a) && is_cell (var_at w b)) w t j in
    let (u, first, second) = concat_map_mem (place b) (place a s) w i in
    rw t_is (omega (arith, place_size a s u first, place_size b u w second), omega (arith, place_size a s u first, place_size b u w second))
