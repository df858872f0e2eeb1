-- The facts of every predecessor are closed.
use mathlib.Core.Bool.{Bool, ◌&&◌, not, cond}
use mathlib.Core.List.Memᴰ
use mathlib.Core.List.{List, ◌∷◌, map}
use mathlib.Core.Logic.{◌⊎◌, inl, inr}
use mathlib.Core.Path.{◌≡◌, refl, sym, ap, ◌∙◌, subst}
use Prim.Native.Nat.{ℕ, zero, suc, ◌<◌}
use native.Mathlib.Omega.{arith}
use lib.Dec.{T, eqb}
use lib.ListN.{length}
use Rattle.lists.specs.List.{◌∈◌, concat_map, keep}
use Rattle.lists.specs.Range.{range}
use Rattle.lists.proofs.List.{concat_map_mem, keep_mem}
use Rattle.lists.proofs.Reflect.{r_eq, r_or, cond_cases}
use Rattle.heap.specs.Operation.{Op, equal, different, assign, load, store, new, delete, equal_value, below_value, copy, larger, smaller, read}
use Rattle.heap.specs.Place.{nowhere, null, dangling, cell}
use Rattle.heap.specs.Value.{below, equals}
use Rattle.facts.specs.Facts.{Fact, close, consistent}
use Rattle.shape.specs.Placing.{set_var_in, set_var, fresh, grow, split, placed_from, place, place_both}
use Rattle.shape.specs.Shape.{InRange, Shape, var_at, link_at, size}
use Rattle.heap.proofs.Codes.{CellOf}
use Rattle.backward.specs.Predecessors.{set_link, remove_cell, forget_links, vars_before, with_vars, add_helper, drop_helper, together, link_fits, is_new, retain, before_load, with_facts, settle, learn, forget_facts, is_cell, place_cells, before_copy, before_compared, before, predecessors}
use Rattle.backward.proofs.ClosedFacts.{ClosedFacts, close_closed, without_closed, lowered_closed, had_closed}
use Rattle.backward.proofs.Tests.{r_is_new}
use Rattle.cover.proofs.InRange.{settle_range, place_cells_range, told_facts}

-- placing keeps the facts
place_facts : (v : ℕ) (s t : Shape) → t ∈ place v s → t.facts ≡ s.facts
place_facts v s t = go (var_at s v)
  where
    middles : ℕ → List Shape
    middles i = keep (not (eqb (link_at s (cell i)) nowhere)) (set_var v (fresh s) (split i s))

    self : {u : Shape} → u.facts ≡ s.facts → t ≡ u → t.facts ≡ s.facts
    self z e = ap (λ (u : Shape). u.facts) e ∙ z

    from_middle : t ∈ concat_map middles (range 0 (size s)) → t.facts ≡ s.facts
    from_middle i =
        let (j, _, k) = concat_map_mem middles (range 0 (size s)) t i in
        self refl (keep_mem (not (eqb (link_at s (cell j)) nowhere)) (set_var v (fresh s) (split j s)) t k).1

    from_fresh : (t ≡ set_var v (fresh s) (grow s)) ⊎ (t ∈ concat_map middles (range 0 (size s))) → t.facts ≡ s.facts
    from_fresh (inl e) = self refl e
    from_fresh (inr i) = from_middle i

    from_null : (t ≡ set_var v null s) ⊎ (t ∈ (set_var v (fresh s) (grow s) ∷ concat_map middles (range 0 (size s)))) → t.facts ≡ s.facts
    from_null (inl e) = self refl e
    from_null (inr i) = from_fresh (Memᴰ.cases_cons i)

    from_cells : (t ∈ map (λ i. set_var v (cell i) s) (range 0 (size s)))
        ⊎ (t ∈ (set_var v null s ∷ set_var v (fresh s) (grow s) ∷ concat_map middles (range 0 (size s)))) → t.facts ≡ s.facts
    from_cells (inl i) = let (j, _, e) = Memᴰ.of_map (λ i. set_var v (cell i) s) (range 0 (size s)) i in self refl (sym e)
    from_cells (inr i) = from_null (Memᴰ.cases_cons i)

    go : (q : ℕ) → t ∈ placed_from q v s → t.facts ≡ s.facts
    go zero i = from_cells (Memᴰ.append_cases (map (λ i. set_var v (cell i) s) (range 0 (size s))) i)
    go (suc zero) i = self refl (Memᴰ.eq_of_singleton i)
    go (suc (suc zero)) i = absurd (Memᴰ.not-nil i)
    go (suc (suc (suc q))) i = self refl (Memᴰ.eq_of_singleton i)

both_facts : (a b : ℕ) (s t : Shape) → t ∈ place_both a b s → t.facts ≡ s.facts
both_facts a b s t i = let (u, j, k) = concat_map_mem (place b) (place a s) t i in place_facts b u t k ∙ place_facts a s u j

abbrev Has : Shape → Type 0
Has s = ClosedFacts s.facts

retain_closed : (test : Shape → Bool) (change : Shape → Shape) (l : List Shape) → ((t : Shape) → t ∈ l → T (test t) → Has (change t)) → (p : Shape)
    → p ∈ retain test change l → Has p
retain_closed test change l h p i =
    let (t, j, q) = concat_map_mem (λ t. keep (test t) (change t)) l p i in
    let (u, e) = keep_mem (test t) (change t) p q in
    subst Has (sym e) (h t j u)

learn_closed : (n m k p q : ℕ) (s : Shape) → k < 2 → CellOf (size s) p → CellOf (size s) q → InRange n m s → (t : Shape) → t ∈ learn k p q s → Has t
learn_closed n m k p q s b kp kq r t i =
    let l : List Fact = record { kind = k; left = p; right = q } ∷ s.facts in
    let (_, e) = keep_mem (consistent (close (size s) l)) (with_facts s (close (size s) l)) t i in
    subst Has (sym e) (close_closed (size s) l (told_facts (size s) k p q s.facts b kp kq r.facts))

module _ (n m : ℕ) (s : Shape) (r : InRange n m s) (h : Has s) where
  kept : (a b : ℕ) (t : Shape) → t ∈ place_both a b s → Has t
  kept a b t i = subst ClosedFacts (sym (both_facts a b s t i)) h

  -- the results for each shape with both operands placed at cells
  each_closed : (a b : ℕ) (change : Shape → List Shape)
      → ((t : Shape) → InRange n (suc (suc m)) t → Has t → CellOf (size t) (var_at t a) → CellOf (size t) (var_at t b) → (p : Shape) → p ∈ change t → Has p)
      → (p : Shape) → p ∈ concat_map change (place_cells a b s) → Has p
  each_closed a b change g p i =
      let (t, j, k) = concat_map_mem change (place_cells a b s) p i in
      let (x, y, z) = place_cells_range n m a b s r t j in
      let c = retain_closed (λ t. is_cell (var_at t a) && is_cell (var_at t b)) (λ t. t) (place_both a b s) (λ t i _. kept a b t i) t j in
      g t x c y z p k

load_closed : (a b : ℕ) (s : Shape) → Has s → (p : Shape) → p ∈ before_load a b s → Has p
load_closed a b s h =
    retain_closed (λ t. link_fits (var_at t b) (var_at t a) t) (λ t. set_var a nowhere (set_link (var_at t b) (var_at t a) t)) (place_both a b s)
    (λ t i _. subst ClosedFacts (sym (both_facts a b s t i)) h)

copy_closed : (n m c d : ℕ) (t : Shape) → InRange n m t → CellOf (size t) c → CellOf (size t) d → (p : Shape) → p ∈ before_copy c d t → Has p
copy_closed n m c d t r kc kd p i =
    let (u, j, e) = Memᴰ.of_map (λ u. cond (eqb c d) u (forget_facts c u)) (learn equals c d t) i in
    let x = learn_closed n m equals c d t (omega arith) kc kd r u j in
    subst Has e (cond_cases Has (r_eq c d) (λ _. x) (λ _. without_closed c u.facts x))

compared_closed : (n m c d p q : ℕ) (t : Shape) → InRange n m t → Has t → CellOf (size t) p → CellOf (size t) q → (u : Shape)
    → u ∈ before_compared c d p q t → Has u
compared_closed n m c d p q t r h kp kq u =
    cond_cases (λ l. u ∈ l → Has u) (r_eq c d) (λ _ i. subst Has (sym (Memᴰ.eq_of_singleton i)) (had_closed c t.facts h))
    (λ _ i.
    let (v, j, e) = Memᴰ.of_map (forget_facts c) (learn below p q t) i in
    let x = learn_closed n m below p q t (omega arith) kp kq r v j in
    subst Has e (without_closed c v.facts x))

before_closed : (n m : ℕ) (o : Op) (s : Shape) → InRange n m s → Has s → (p : Shape) → p ∈ before o s → Has p
before_closed n m (equal a b) s r h = retain_closed (together a b) (λ t. t) (place_both a b s) (λ t i _. kept n m s r h a b t i)
before_closed n m (different a b) s r h = retain_closed (λ t. not (together a b t)) (λ t. t) (place_both a b s) (λ t i _. kept n m s r h a b t i)
before_closed n m (assign a b) s r h =
    retain_closed (together a b) (λ t. cond (eqb a b) t (set_var a nowhere t)) (place_both a b s)
    (λ t i _. cond_cases Has (r_eq a b) (λ _. kept n m s r h a b t i) (λ _. kept n m s r h a b t i))
before_closed n m (load a b) s r h =
    λ p. cond_cases (λ l. p ∈ l → Has p) (r_eq a b) (λ _. one p) (λ _. load_closed a b s h p)
  where
    N : ℕ
    N = length s.vars

    one : (p : Shape) → p ∈ map (drop_helper a N) (before_load a (suc N) (add_helper s)) → Has p
    one p i =
        let (t, j, e) = Memᴰ.of_map (drop_helper a N) (before_load a (suc N) (add_helper s)) i in
        subst Has e (load_closed a (suc N) (add_helper s) h t j)
before_closed n m (store a b) s r h =
    retain_closed (λ t. link_fits (var_at t a) (var_at t b) t) (λ t. set_link (var_at t a) nowhere t) (place_both a b s) (λ t i _. kept n m s r h a b t i)
before_closed n m (new a) s r h =
    retain_closed (λ t. is_new a (var_at t a) t) (λ t. remove_cell (var_at t a) (set_var a nowhere t)) (place a s)
    (λ t i u.
    lowered_closed (var_at t a) t.facts ((r_is_new a (var_at t a) t).holds u).0 (subst ClosedFacts (sym (place_facts a s t i)) h))
before_closed n m (delete a) s r h =
    λ p. cond_cases (λ l. p ∈ l → Has p) (r_or (r_eq (var_at s a) nowhere) (r_eq (var_at s a) dangling))
    (λ _ i.
    let (vs, _, e) = Memᴰ.of_map (with_vars (grow (forget_links s))) (vars_before (fresh s) (set_var_in a (fresh s) s.vars)) i in subst Has e h)
    (λ _ i. absurd (Memᴰ.not-nil i))
before_closed n m (equal_value a b) s r h =
    each_closed n m s r h a b (λ t. learn equals (var_at t a) (var_at t b) t)
    (λ t x c y z p i. learn_closed n _ equals (var_at t a) (var_at t b) t (omega arith) y z x p i)
before_closed n m (below_value a b) s r h =
    each_closed n m s r h a b (λ t. learn below (var_at t a) (var_at t b) t)
    (λ t x c y z p i. learn_closed n _ below (var_at t a) (var_at t b) t (omega arith) y z x p i)
before_closed n m (copy a b) s r h =
    each_closed n m s r h a b (λ t. before_copy (var_at t a) (var_at t b) t) (λ t x c y z. copy_closed n _ (var_at t a) (var_at t b) t x y z)
before_closed n m (larger a b) s r h =
    each_closed n m s r h a b (λ t. before_compared (var_at t a) (var_at t b) (var_at t b) (var_at t a) t)
    (λ t x c y z. compared_closed n _ (var_at t a) (var_at t b) (var_at t b) (var_at t a) t x c z y)
before_closed n m (smaller a b) s r h =
    each_closed n m s r h a b (λ t. before_compared (var_at t a) (var_at t b) (var_at t a) (var_at t b) t)
    (λ t x c y z. compared_closed n _ (var_at t a) (var_at t b) (var_at t a) (var_at t b) t x c y z)
before_closed n m (read a) s r h =
    retain_closed (λ t. is_cell (var_at t a)) (λ t. forget_facts (var_at t a) t) (place a s)
    (λ t i _. without_closed (var_at t a) t.facts (subst ClosedFacts (sym (place_facts a s t i)) h))

pub predecessors_closed : (n m : ℕ) (o : Op) (s : Shape) → InRange n m s → (p : Shape) → p ∈ predecessors o s → ClosedFacts p.facts
predecessors_closed n m o s r p i =
    let (t, j, k) = concat_map_mem (before o) (settle s) p i in
    let (_, e) = keep_mem (consistent (close (size s) s.facts)) (with_facts s (close (size s) s.facts)) t j in
    before_closed n m o t (settle_range n m s r t j) (subst Has (sym e) (close_closed (size s) s.facts r.facts)) p k
