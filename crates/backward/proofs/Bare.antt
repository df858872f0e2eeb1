-- Facts ride along. Placing variables asks nothing of a shape's facts and changes none, so an operation can be undone on the shape without facts, a bare
-- shape, and the facts put back: for kinds 1 to 5 and 7 at the end, for 6 and 8 to 13 before what these do with facts.
use mathlib.Core.Bool.{Bool, true, false, ◌&&◌, ◌||◌, not, cond}
use mathlib.Core.List.Memᴰ
use mathlib.Core.List.{List, [], ◌∷◌, ◌++◌, map, map-map, map-append}
use mathlib.Core.Path.{◌≡◌, refl, sym, ap, ap₂, subst, ◌∙◌}
use Prim.Native.Nat.{ℕ, zero, suc, ◌≤◌}
use native.Mathlib.Omega.{arith}
use lib.Dec.{eqb}
use lib.ListN.{length, set, length-set, length-map}
use Rattle.lists.specs.List.{◌∈◌, Every, concat_map, keep}
use Rattle.lists.specs.Range.{range}
use Rattle.lists.proofs.List.{every_none, every_cons, every_one, every_append, concat_map_mem, keep_mem}
use Rattle.heap.specs.Operation.{Op, equal, different, assign, load, store, new, delete, equal_value, below_value, copy, larger, smaller, read}
use Rattle.heap.specs.Place.{nowhere, null, dangling, cell}
use Rattle.heap.specs.Value.{below, equals}
use Rattle.facts.specs.Facts.{Fact}
use Rattle.shape.specs.Placing.{set_var_in, set_var, fresh, grow, split, placed_from, place, place_both}
use Rattle.shape.specs.Shape.{Shape, var_at, link_at, size}
use Rattle.shape.proofs.Laws.{length_snoc}
use Rattle.backward.specs.Predecessors.{set_link, remove_cell, forget, forget_links, vars_before, with_vars, add_helper, drop_helper, with_facts, learn, forget_facts, unspoken, is_cell, together, link_fits, is_new, retain, before_load, place_cells, before_copy, before_compared, before}
use Rattle.backward.proofs.Laws.{links_set_length}

-- ---- lists

pub map_keep : {A B : Type 0} (f : A → B) (b : Bool) (x : A) → map f (keep b x) ≡ keep b (f x)
map_keep f true x = refl
map_keep f false x = refl

pub map_concat : {A B C : Type 0} (g : B → C) (f : A → List B) (l : List A) → map g (concat_map f l) ≡ concat_map (λ x. map g (f x)) l
map_concat g f [] = refl
map_concat g f (x ∷ xs) = map-append g (f x) (concat_map f xs) ∙ ap (λ r. map g (f x) ++ r) (map_concat g f xs)

pub concat_map_lem : {A B C : Type 0} (g : B → List C) (f : A → B) (l : List A) → concat_map g (map f l) ≡ concat_map (λ x. g (f x)) l
concat_map_lem g f [] = refl
concat_map_lem g f (x ∷ xs) = ap (λ r. g (f x) ++ r) (concat_map_lem g f xs)

pub concat_one : {A : Type 0} (l : List A) → l ≡ concat_map (λ x. x ∷ []) l
concat_one [] = refl
concat_one (x ∷ xs) = ap (λ r. x ∷ r) (concat_one xs)

-- ---- an operation in two parts

-- its placing, and all else but what looks at facts or changes them
abbrev pub placed : Op → Shape → List Shape
placed (new a) s = place a s
placed (equal_value a b) s = place_cells a b s
placed (below_value a b) s = place_cells a b s
placed (copy a b) s = place_cells a b s
placed (larger a b) s = place_cells a b s
placed (smaller a b) s = place_cells a b s
placed (read a) s = place a s
placed (equal a b) s = before (equal a b) s
placed (different a b) s = before (different a b) s
placed (assign a b) s = before (assign a b) s
placed (load a b) s = before (load a b) s
placed (store a b) s = before (store a b) s
placed (delete a) s = before (delete a) s

-- what comes behind
abbrev pub behind : Op → Shape → List Shape
behind (new a) t = keep (is_new a (var_at t a) t) (remove_cell (var_at t a) (set_var a nowhere t))
behind (equal_value a b) t = learn equals (var_at t a) (var_at t b) t
behind (below_value a b) t = learn below (var_at t a) (var_at t b) t
behind (copy a b) t = before_copy (var_at t a) (var_at t b) t
behind (larger a b) t = before_compared (var_at t a) (var_at t b) (var_at t b) (var_at t a) t
behind (smaller a b) t = before_compared (var_at t a) (var_at t b) (var_at t a) (var_at t b) t
behind (read a) t = keep (is_cell (var_at t a)) (forget_facts (var_at t a) t)
behind (equal a b) t = t ∷ []
behind (different a b) t = t ∷ []
behind (assign a b) t = t ∷ []
behind (load a b) t = t ∷ []
behind (store a b) t = t ∷ []
behind (delete a) t = t ∷ []

-- the two are all: for kinds 1 to 5 and 7 nothing comes behind
pub before_behind : (o : Op) (s : Shape) → before o s ≡ concat_map (behind o) (placed o s)
before_behind (new a) s = refl
before_behind (equal_value a b) s = refl
before_behind (below_value a b) s = refl
before_behind (copy a b) s = refl
before_behind (larger a b) s = refl
before_behind (smaller a b) s = refl
before_behind (read a) s = refl
before_behind (equal a b) s = concat_one (before (equal a b) s)
before_behind (different a b) s = concat_one (before (different a b) s)
before_behind (assign a b) s = concat_one (before (assign a b) s)
before_behind (load a b) s = concat_one (before (load a b) s)
before_behind (store a b) s = concat_one (before (store a b) s)
before_behind (delete a) s = concat_one (before (delete a) s)

-- ---- facts ride along

module _ (facts : List Fact) where
  -- the facts are put back
  abbrev back : Shape → Shape
  back t = with_facts t facts

  -- the results for a shape with these facts are those for the shape, with these facts
  abbrev pub Rides : (Shape → List Shape) → Type 0
  Rides F = (s : Shape) → F (with_facts s facts) ≡ map (λ t. with_facts t facts) (F s)

  -- one after the other
  pub rides_then : (F G : Shape → List Shape) → Rides F → Rides G → Rides (λ s. concat_map G (F s))
  rides_then F G f g s =
      ap (concat_map G) (f s) ∙ concat_map_lem G back (F s) ∙ (λ i. concat_map (λ t. g t i) (F s)) ∙ sym (map_concat back G (F s))

  -- a change that leaves facts, for each result
  rides_map : (change : Shape → Shape) → ((s : Shape) → change (with_facts s facts) ≡ with_facts (change s) facts) → (F : Shape → List Shape) → Rides F → Rides (λ s. map change (F s))
  rides_map change leaves F f s =
      ap (map change) (f s) ∙ map-map change back (F s) ∙ (λ i. map (λ t. leaves t i) (F s)) ∙ sym (map-map back change (F s))

  -- a test that facts do not change, and a change that leaves them
  pub rides_retain : (test : Shape → Bool) (change : Shape → Shape) → ((s : Shape) → test (with_facts s facts) ≡ test s) → ((s : Shape) → change (with_facts s facts) ≡ with_facts (change s) facts)
      → (F : Shape → List Shape) → Rides F → Rides (λ s. retain test change (F s))
  rides_retain test change same leaves F f =
      rides_then F (λ s. keep (test s) (change s)) f (λ s. ap₂ keep (same s) (leaves s) ∙ sym (map_keep back (test s) (change s)))

  -- one of two
  rides_cond : (b : Bool) (F G : Shape → List Shape) → Rides F → Rides G → Rides (λ s. cond b (F s) (G s))
  rides_cond true F G f g = f
  rides_cond false F G f g = g

  pub rides_place : (v : ℕ) → Rides (place v)
  rides_place v s = go (var_at s v)
    where
      cells : List ℕ
      cells = range 0 (size s)

      at : ℕ → Shape
      at i = set_var v (cell i) s

      linked : ℕ → Bool
      linked i = not (eqb (link_at s (cell i)) nowhere)

      middle : ℕ → Shape
      middle i = set_var v (fresh s) (split i s)

      go : (p : ℕ) → placed_from p v (back s) ≡ map back (placed_from p v s)
      go zero =
          sym
          (map-append back (map at cells) (set_var v null s ∷ set_var v (fresh s) (grow s) ∷ concat_map (λ i. keep (linked i) (middle i)) cells)
          ∙ ap₂ (λ x y. x ++ (set_var v null (back s) ∷ set_var v (fresh s) (grow (back s)) ∷ y)) (map-map back at cells)
          (map_concat back (λ i. keep (linked i) (middle i)) cells ∙ (λ j. concat_map (λ i. map_keep back (linked i) (middle i) j) cells)))
      go (suc zero) = refl
      go (suc (suc zero)) = refl
      go (suc (suc (suc i))) = refl

  pub rides_both : (a b : ℕ) → Rides (place_both a b)
  rides_both a b = rides_then (place a) (place b) (rides_place a) (rides_place b)

  pub rides_cells : (a b : ℕ) → Rides (place_cells a b)
  rides_cells a b = rides_retain (λ t. is_cell (var_at t a) && is_cell (var_at t b)) (λ t. t) (λ s. refl) (λ s. refl) (place_both a b) (rides_both a b)

  rides_load : (a b : ℕ) → Rides (before_load a b)
  rides_load a b =
      rides_retain (λ s. link_fits (var_at s b) (var_at s a) s) (λ s. set_var a nowhere (set_link (var_at s b) (var_at s a) s)) (λ s. refl) (λ s. refl) (place_both a b) (rides_both a b)

  -- kind 4 with one variable, of n
  rides_load_same : (a n : ℕ) → Rides (λ s. map (drop_helper a n) (before_load a (suc n) (add_helper s)))
  rides_load_same a n = rides_map (drop_helper a n) (λ s. refl) (λ s. before_load a (suc n) (add_helper s)) (λ s. rides_load a (suc n) (add_helper s))

  rides_delete : (a : ℕ) → Rides (before (delete a))
  rides_delete a s = go (eqb (var_at s a) nowhere || eqb (var_at s a) dangling)
    where
      results : Shape → List Shape
      results s = map (with_vars (grow (forget_links s))) (vars_before (fresh s) (set_var_in a (fresh s) s.vars))

      go : (b : Bool) → cond b (results (back s)) [] ≡ map back (cond b (results s) [])
      go true = sym (map-map back (with_vars (grow (forget_links s))) (vars_before (fresh s) (set_var_in a (fresh s) s.vars)))
      go false = refl

  pub placed_rides : (o : Op) → Rides (placed o)
  placed_rides (equal a b) = rides_retain (together a b) (λ s. s) (λ s. refl) (λ s. refl) (place_both a b) (rides_both a b)
  placed_rides (different a b) = rides_retain (λ s. not (together a b s)) (λ s. s) (λ s. refl) (λ s. refl) (place_both a b) (rides_both a b)
  placed_rides (assign a b) =
      rides_retain (together a b) (λ s. cond (eqb a b) s (set_var a nowhere s)) (λ s. refl) (λ s. go s (eqb a b)) (place_both a b) (rides_both a b)
    where
      go : (s : Shape) (e : Bool) → cond e (back s) (set_var a nowhere (back s)) ≡ back (cond e s (set_var a nowhere s))
      go s true = refl
      go s false = refl
  placed_rides (load a b) =
      λ s. let n = length s.vars in rides_cond (eqb a b) (λ s. map (drop_helper a n) (before_load a (suc n) (add_helper s))) (before_load a b) (rides_load_same a n) (rides_load a b) s
  placed_rides (store a b) =
      rides_retain (λ s. link_fits (var_at s a) (var_at s b) s) (λ s. set_link (var_at s a) nowhere s) (λ s. refl) (λ s. refl) (place_both a b) (rides_both a b)
  placed_rides (delete a) = rides_delete a
  placed_rides (new a) = rides_place a
  placed_rides (equal_value a b) = rides_cells a b
  placed_rides (below_value a b) = rides_cells a b
  placed_rides (copy a b) = rides_cells a b
  placed_rides (larger a b) = rides_cells a b
  placed_rides (smaller a b) = rides_cells a b
  placed_rides (read a) = rides_place a

  -- so a shape with facts has the predecessors of the bare one, with the facts put back before what comes behind
  pub before_rides : (o : Op) (s : Shape) → before o (with_facts s facts) ≡ concat_map (behind o) (map (λ t. with_facts t facts) (placed o (with_facts s [])))
  before_rides o s = before_behind o (back s) ∙ ap (concat_map (behind o)) (placed_rides o (with_facts s []))

  -- a new cell: no fact is about it, and the rest is asked of the bare shape
  pub new_rides : (a c : ℕ) (t : Shape) → is_new a c (with_facts t facts) ≡ unspoken c facts && is_new a c (with_facts t [])
  new_rides a c t = refl

-- ---- bare results

-- a bare shape with at least n cells
abbrev pub BareFrom : ℕ → Shape → Type 0
BareFrom n t = (t.facts ≡ []) × (n ≤ size t)

-- no cell goes
abbrev Grows : (Shape → List Shape) → Type 0
Grows F = (s t : Shape) → t ∈ F s → size s ≤ size t

grows_then : (F G : Shape → List Shape) → Grows F → Grows G → Grows (λ s. concat_map G (F s))
grows_then F G f g s t m =
    let (u, i, j) = concat_map_mem G (F s) t m in
    omega (arith, f s u i, g u t j)

grows_map : (change : Shape → Shape) → ((s : Shape) → size s ≤ size (change s)) → (F : Shape → List Shape) → Grows F → Grows (λ s. map change (F s))
grows_map change more F f s t m =
    let (u, i, e) = Memᴰ.of_map change (F s) m in
    omega (arith, f s u i, more u, ap size e)

grows_retain : (test : Shape → Bool) (change : Shape → Shape) → ((s : Shape) → size s ≤ size (change s)) → (F : Shape → List Shape) → Grows F → Grows (λ s. retain test change (F s))
grows_retain test change more F f =
    grows_then F (λ s. keep (test s) (change s)) f (λ s t m. let (_, e) = keep_mem (test s) (change s) t m in omega (arith, more s, ap size e))

grows_cond : (b : Bool) (F G : Shape → List Shape) → Grows F → Grows G → Grows (λ s. cond b (F s) (G s))
grows_cond true F G f g = f
grows_cond false F G f g = g

grows_place : (v : ℕ) → Grows (place v)
grows_place v s = go (var_at s v)
  where
    P : Shape → Type 0
    P t = size s ≤ size t

    same : size s ≤ size s
    same = omega arith

    middle : Every P (concat_map (λ i. keep (not (eqb (link_at s (cell i)) nowhere)) (set_var v (fresh s) (split i s))) (range 0 (size s)))
    middle t m =
        let (i, _, j) = concat_map_mem (λ i. keep (not (eqb (link_at s (cell i)) nowhere)) (set_var v (fresh s) (split i s))) (range 0 (size s)) t m in
        let (_, e) = keep_mem (not (eqb (link_at s (cell i)) nowhere)) (set_var v (fresh s) (split i s)) t j in
        omega (arith, ap size e, length_snoc (set s.links i (fresh s)) (link_at s (cell i)), length-set s.links i (fresh s))

    go : (p : ℕ) → Every P (placed_from p v s)
    go zero =
        every_append P (map (λ i. set_var v (cell i) s) (range 0 (size s))) (λ t m. let (i, _, e) = Memᴰ.of_map (λ i. set_var v (cell i) s) (range 0 (size s)) m in omega (arith, ap size e))
        (every_cons P same (every_cons P (omega (arith, length_snoc s.links nowhere)) middle))
    go (suc zero) = every_one P same
    go (suc (suc zero)) = every_none P
    go (suc (suc (suc i))) = every_one P same

grows_both : (a b : ℕ) → Grows (place_both a b)
grows_both a b = grows_then (place a) (place b) (grows_place a) (grows_place b)

grows_cells : (a b : ℕ) → Grows (place_cells a b)
grows_cells a b = grows_retain (λ t. is_cell (var_at t a) && is_cell (var_at t b)) (λ t. t) (λ s. omega arith) (place_both a b) (grows_both a b)

grows_load : (a b : ℕ) → Grows (before_load a b)
grows_load a b =
    grows_retain (λ s. link_fits (var_at s b) (var_at s a) s) (λ s. set_var a nowhere (set_link (var_at s b) (var_at s a) s)) (λ s. omega (arith, links_set_length (var_at s b) (var_at s a) s.links)) (place_both a b) (grows_both a b)

grows_delete : (a : ℕ) → Grows (before (delete a))
grows_delete a s = go (eqb (var_at s a) nowhere || eqb (var_at s a) dangling)
  where
    cases : List (List ℕ)
    cases = vars_before (fresh s) (set_var_in a (fresh s) s.vars)

    go : (b : Bool) → Every (λ t. size s ≤ size t) (cond b (map (with_vars (grow (forget_links s))) cases) [])
    go true t m =
        let (_, _, e) = Memᴰ.of_map (with_vars (grow (forget_links s))) cases m in
        omega (arith, ap size e, length_snoc (map forget s.links) nowhere, length-map s.links forget)
    go false t m = absurd (Memᴰ.not-nil m)

placed_grows : (o : Op) → Grows (placed o)
placed_grows (equal a b) = grows_retain (together a b) (λ s. s) (λ s. omega arith) (place_both a b) (grows_both a b)
placed_grows (different a b) = grows_retain (λ s. not (together a b s)) (λ s. s) (λ s. omega arith) (place_both a b) (grows_both a b)
placed_grows (assign a b) = grows_retain (together a b) (λ s. cond (eqb a b) s (set_var a nowhere s)) (λ s. go s (eqb a b)) (place_both a b) (grows_both a b)
  where
    go : (s : Shape) (e : Bool) → size s ≤ size (cond e s (set_var a nowhere s))
    go s true = omega arith
    go s false = omega arith
placed_grows (load a b) =
    λ s. let n = length s.vars in
    grows_cond (eqb a b) (λ s. map (drop_helper a n) (before_load a (suc n) (add_helper s))) (before_load a b)
    (grows_map (drop_helper a n) (λ s. omega arith) (λ s. before_load a (suc n) (add_helper s)) (λ s. grows_load a (suc n) (add_helper s))) (grows_load a b) s
placed_grows (store a b) =
    grows_retain (λ s. link_fits (var_at s a) (var_at s b) s) (λ s. set_link (var_at s a) nowhere s) (λ s. omega (arith, links_set_length (var_at s a) nowhere s.links)) (place_both a b) (grows_both a b)
placed_grows (delete a) = grows_delete a
placed_grows (new a) = grows_place a
placed_grows (equal_value a b) = grows_cells a b
placed_grows (below_value a b) = grows_cells a b
placed_grows (copy a b) = grows_cells a b
placed_grows (larger a b) = grows_cells a b
placed_grows (smaller a b) = grows_cells a b
placed_grows (read a) = grows_place a

-- each result for a bare shape is bare, as no facts ride along, and has at least its cells
pub placed_bare : (o : Op) (s : Shape) → Every (BareFrom (size s)) (placed o (with_facts s []))
placed_bare o s t m =
    let (u, _, e) = Memᴰ.of_map (λ u. with_facts u []) (placed o (with_facts s [])) (subst (λ l. t ∈ l) (placed_rides [] o (with_facts s [])) m) in
    (sym (ap (λ (v : Shape). v.facts) e), placed_grows o (with_facts s []) t m)
