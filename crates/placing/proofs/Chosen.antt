-- Where each choice puts a variable, and what it gives.
use mathlib.Core.Bool.{Bool, true, false, ◌&&◌, cond}
use mathlib.Core.List.Memᴰ
use mathlib.Core.List.{List, [], append-nil}
use mathlib.Core.Logic.{◌≢◌}
use mathlib.Core.Path.{◌≡◌, refl, ap, ◌∙◌}
use Prim.Native.Nat.{ℕ, zero, suc, ◌-◌, ◌≤◌, ◌<◌}
use native.Mathlib.Omega.{arith}
use Rattle.std.proofs.lemmas.Bool.Decides.{nat_tests}
use lib.ListN.{length}
use Rattle.lists.specs.List.{◌∈◌, concat_map, keep}
use Rattle.lists.specs.Range.{range}
use Rattle.lists.proofs.List.{keep_mem, concat_map_mem}
use Rattle.heap.specs.Place.{nowhere, null, dangling, cell}
use Rattle.shape.specs.Placing.{place}
use Rattle.shape.specs.Shape.{Shape, var_at, size}
use Rattle.shape.proofs.Laws.{var_set_same, var_set_other}
use Rattle.shape.proofs.PlacingByNumber.{choice, choices_from, choice_from, place_by_number}
use Rattle.backward.specs.Predecessors.{retain}
use Rattle.placing.specs.Choice.{chosen, choice_of, exists, opened, made}
use Rattle.placing.specs.Retained.{link_open, retained, retained_in}

pub choice_made : (v : ℕ) (s : Shape) (k : ℕ) → choice v s k ≡ keep (exists s.links k) (made v s k)
unfolding exists made chosen opened
choice_made v s k = grind (arith, nat_tests)

-- ---- where a choice is

pub chosen_cell : (n k : ℕ) → k < n → chosen n k ≡ cell k
unfolding chosen
chosen_cell n k h = grind (arith, nat_tests)

pub chosen_null : (n k : ℕ) → k ≡ n → chosen n k ≡ null
unfolding chosen
chosen_null n k e = grind (arith, nat_tests)

pub chosen_fresh : (n k : ℕ) → n < k → chosen n k ≡ cell n
unfolding chosen
chosen_fresh n k h = grind (arith, nat_tests)

pub choice_of_null : (n p : ℕ) → p ≡ null → choice_of n p ≡ n
unfolding choice_of
choice_of_null n p e = grind (arith, nat_tests)

pub choice_of_cell : (n p : ℕ) → p ≢ null → choice_of n p ≡ p - 3
unfolding choice_of
choice_of_cell n p e = grind (arith, nat_tests)

-- the fresh cell is in use after a choice above #
pub chosen_inside : (n k m : ℕ) → n ≤ m → (n < k → m ≡ suc n) → chosen n k < cell m
unfolding chosen
chosen_inside n k m l fresh = grind (arith, nat_tests)

-- ---- where variables stand

pub made_same : (v : ℕ) (s : Shape) (k : ℕ) → v ≢ 0 → v ≤ length s.vars → var_at (made v s k) v ≡ chosen (size s) k
unfolding made
made_same v s k n h = var_set_same v (chosen (size s) k) s.vars n h

pub made_other : (v : ℕ) (s : Shape) (k u : ℕ) → u ≢ v → var_at (made v s k) u ≡ var_at s u
unfolding made
made_other v s k u n = var_set_other v (chosen (size s) k) s.vars u n

pub not_null : (s : Shape) (v : ℕ) → var_at s v ≡ nowhere → v ≢ 0
not_null s zero e z = let q : null ≡ nowhere = e in omega arith
not_null s (suc v) e z = omega arith

-- a choice puts a variable at # or at a cell
pub chosen_placed : (n k : ℕ) → (chosen n k ≢ nowhere) × (chosen n k ≢ dangling)
unfolding chosen
chosen_placed n k = (λ e. grind (arith, nat_tests), λ e. grind (arith, nat_tests))

-- only one choice puts a variable at a place of the shape
pub chosen_other : (n k q : ℕ) → q ≢ nowhere → q ≢ dangling → q < cell n → k ≢ choice_of n q → chosen n k ≢ q
unfolding chosen choice_of
chosen_other n k q nn nd h other c = grind (arith, nat_tests)

pub choice_of_most : (n q : ℕ) → q < cell n → choice_of n q ≤ n
unfolding choice_of
choice_of_most n q h = grind (arith, nat_tests)

-- a variable that has a place keeps it
pub place_keeps : (v : ℕ) (s t : Shape) (u : ℕ) → t ∈ place v s → var_at s u ≢ nowhere → var_at t u ≡ var_at s u
place_keeps v s t u m n =
    let (k, _, i) = concat_map_mem (choice_from (var_at s v) v s) (range 0 (choices_from (var_at s v) s)) t (rw (← place_by_number v s) at m) in
    go (var_at s v) refl k i
  where
    go : (p : ℕ) → var_at s v ≡ p → (k : ℕ) → t ∈ choice_from p v s k → var_at t u ≡ var_at s u
    go zero e k i =
        let (_, t_is) = keep_mem (exists s.links k) (made v s k) t (rw (choice_made v s k) at i) in
        ap (λ (t : Shape). var_at t u) t_is ∙ made_other v s k u (λ z. n (ap (var_at s) z ∙ e))
    go (suc p) e k i = let t_is = Memᴰ.eq_of_singleton i in ap (λ (t : Shape). var_at t u) t_is

pub place_dangling : (v : ℕ) (s : Shape) → var_at s v ≡ dangling → place v s ≡ []
place_dangling v s e = rw e refl

-- ---- what is retained

pub retain_keep : (test : Shape → Bool) (change : Shape → Shape) (x : Bool) (t : Shape) → retain test change (keep x t) ≡ keep (x && test t) (change t)
retain_keep test change true t = append-nil (keep (test t) (change t))
retain_keep test change false t = refl

pub concat_map_keep : (f : Shape → List Shape) (x : Bool) (t : Shape) → concat_map f (keep x t) ≡ cond x (f t) []
concat_map_keep f true t = append-nil (f t)
concat_map_keep f false t = refl

pub made_links : (v : ℕ) (s : Shape) (k : ℕ) → (made v s k).links ≡ opened s.links k
unfolding made
made_links v s k = refl

pub tested_at : (kind a b : ℕ) (t : Shape) (x y : ℕ) (links : List ℕ) → var_at t a ≡ x → var_at t b ≡ y → t.links ≡ links
    → retained_in kind a b t ≡ retained kind x y links
unfolding retained_in
tested_at kind a b t x y links ex ey el = grind (arith, nat_tests)

-- the cell whose link the operation changes is there
pub retained_cell : (kind x y : ℕ) (links : List ℕ) → retained kind x y links ≡ true → (kind ≡ 4 → 3 ≤ y) × (kind ≡ 5 → 3 ≤ x)
unfolding retained link_open
retained_cell kind x y links e = grind (arith, nat_tests)
