-- The predecessors of a shape under an operation, as a list in document 01's order. "Other results are dropped."
use Rattle.std.specs.Prelude.{Bool, ◌&&◌, ◌||◌, not, cond, List, [], ◌∷◌, ◌++◌, map, ℕ, zero, suc, pred, eqb, ltb, length, set, take}
use Rattle.lists.specs.List.{absent, all_of, concat_map, keep}
use Rattle.heap.specs.Operation.{Op, equal, different, assign, load, store, new, delete, equal_value, below_value, copy, larger, smaller, read}
use Rattle.heap.specs.Place.{nowhere, dangling}
use Rattle.heap.specs.Value.{below, equals}
use Rattle.facts.specs.Facts.{Fact, close, consistent}
use Rattle.shape.specs.Placing.{set_var_in, set_var, fresh, grow, place, place_both}
use Rattle.shape.specs.Shape.{Shape, var_at, link_at, size}

-- ---- changes of a shape

-- the link of the cell c stands at p, if c is a cell
abbrev pub set_link_in : ℕ → ℕ → List ℕ → List ℕ
set_link_in zero p links = links
set_link_in (suc zero) p links = links
set_link_in (suc (suc zero)) p links = links
set_link_in (suc (suc (suc i))) p links = set links i p

abbrev pub set_link : ℕ → ℕ → Shape → Shape
set_link c p s = record { vars = s.vars; links = set_link_in c p s.links; facts = s.facts }

-- without the element at i
abbrev pub remove_at : ℕ → List ℕ → List ℕ
remove_at i [] = []
remove_at zero (x ∷ xs) = xs
remove_at (suc i) (x ∷ xs) = x ∷ remove_at i xs

-- without the link of the cell c
abbrev pub remove_link : ℕ → List ℕ → List ℕ
remove_link zero links = links
remove_link (suc zero) links = links
remove_link (suc (suc zero)) links = links
remove_link (suc (suc (suc i))) links = remove_at i links

-- a place, once the cell c is gone
abbrev pub lower : ℕ → ℕ → ℕ
lower c p = cond (ltb c p) (pred p) p

abbrev pub lower_fact : ℕ → Fact → Fact
lower_fact c t = record { kind = t.kind; left = lower c t.left; right = lower c t.right }

-- "that cell goes, .. and higher cells move down by one"
abbrev pub remove_cell : ℕ → Shape → Shape
remove_cell c s =
    record { vars = map (lower c) s.vars; links = map (lower c) (remove_link c s.links); facts = map (lower_fact c) s.facts }

-- a place, nowhere instead of *
abbrev pub forget : ℕ → ℕ
forget p = cond (eqb p dangling) nowhere p

-- "links to * are still forgotten"
abbrev pub forget_links : Shape → Shape
forget_links s = record { vars = s.vars; links = map forget s.links; facts = s.facts }

-- ---- kind 7: where the variables stood before the cell c was deleted

-- where one that is now at p stood: "it was at * already, or it stood at the deleted cell"
abbrev pub stood : ℕ → ℕ → List ℕ
stood c p = cond (eqb p dangling) (dangling ∷ c ∷ []) (p ∷ [])

-- where all stood: "The lowest such variable changes slowest, 'already' first"
abbrev pub vars_before : ℕ → List ℕ → List (List ℕ)
vars_before c [] = [] ∷ []
vars_before c (p ∷ ps) = let rest = vars_before c ps in concat_map (λ q. map (λ qs. q ∷ qs) rest) (stood c p)

abbrev pub with_vars : Shape → List ℕ → Shape
with_vars s vars = record { vars = vars; links = s.links; facts = s.facts }

-- ---- kind 4 with one variable: "a helper without a place plays b, and at the end a stands where the helper stood and the helper goes."

abbrev pub add_helper : Shape → Shape
add_helper s = record { vars = s.vars ++ (nowhere ∷ []); links = s.links; facts = s.facts }

-- the helper is variable n + 1
abbrev pub drop_helper : ℕ → ℕ → Shape → Shape
drop_helper a n s = record { vars = take n (set_var_in a (var_at s (suc n)) s.vars); links = s.links; facts = s.facts }

-- ---- facts: document 02, Wish 6

abbrev pub with_facts : Shape → List Fact → Shape
with_facts s facts = record { vars = s.vars; links = s.links; facts = facts }

-- "closed under the usual laws of order and equality"; none if that "puts a cell below itself"
abbrev pub settle : Shape → List Shape
settle s = let closed = close (size s) s.facts in keep (consistent closed) (with_facts s closed)

-- "the new fact is added and closed"
abbrev pub learn : ℕ → ℕ → ℕ → Shape → List Shape
learn k p q s = settle (with_facts s (record { kind = k; left = p; right = q } ∷ s.facts))

-- the fact is about the cell c
abbrev pub speaks_of : ℕ → Fact → Bool
speaks_of c t = eqb t.left c || eqb t.right c

abbrev pub without : ℕ → List Fact → List Fact
without c [] = []
without c (t ∷ ts) = let rest = without c ts in cond (speaks_of c t) rest (t ∷ rest)

-- "the written cell's facts go"
abbrev pub forget_facts : ℕ → Shape → Shape
forget_facts c s = with_facts s (without c s.facts)

-- the fact "that it had a value in place of that cell's facts"
abbrev pub had_value : ℕ → Shape → Shape
had_value c s = with_facts s (record { kind = equals; left = c; right = c } ∷ without c s.facts)

-- ---- tests

-- no fact is about the cell c
abbrev pub unspoken : ℕ → List Fact → Bool
unspoken c l = all_of (λ t. not (speaks_of c t)) l

abbrev pub is_cell : ℕ → Bool
is_cell p = ltb dangling p

-- a and b have equal places
abbrev pub together : ℕ → ℕ → Shape → Bool
together a b s = eqb (var_at s a) (var_at s b)

-- c is "a cell whose link is nowhere or equals" p
abbrev pub link_fits : ℕ → ℕ → Shape → Bool
link_fits c p s = is_cell c && (eqb (link_at s c) nowhere || eqb (link_at s c) p)

-- where a is the variable, c is "a cell that no link and no other variable stands at and whose link is nowhere or *"; "A cell with any fact
-- can't come from new"
abbrev pub is_new : ℕ → ℕ → Shape → Bool
is_new a c s = unspoken c s.facts && (link_fits c dangling s && (absent c s.links && absent c (set_var_in a nowhere s.vars)))

-- ---- predecessors

-- of the results, those that pass the test, changed
abbrev pub retain : (Shape → Bool) → (Shape → Shape) → List Shape → List Shape
retain test change = concat_map (λ s. keep (test s) (change s))

-- "Kind 4: place a, then b; b must be at a cell whose link is nowhere or equals a's place; set that link to a's place; a stands nowhere."
abbrev pub before_load : ℕ → ℕ → Shape → List Shape
before_load a b s =
    retain (λ s. link_fits (var_at s b) (var_at s a) s) (λ s. set_var a nowhere (set_link (var_at s b) (var_at s a) s)) (place_both a b s)

-- "Backwards, the variables named are placed, a then b, and must be at cells"
abbrev pub place_cells : ℕ → ℕ → Shape → List Shape
place_cells a b s = retain (λ t. is_cell (var_at t a) && is_cell (var_at t b)) (λ t. t) (place_both a b s)

-- Kind 10, which wrote the value of the cell d into the cell c: the two are equal; "the written cell's facts go; where both operands name one
-- cell, copy adds its fact and leaves all"
abbrev pub before_copy : ℕ → ℕ → Shape → List Shape
before_copy c d s = map (λ t. cond (eqb c d) t (forget_facts c t)) (learn equals c d s)

-- Kinds 11 and 12, which wrote into the cell c a value above or below that of the cell d, so that p is below q; "where both operands name one
-- cell, .. larger and smaller add no other fact and put the one that it had a value in place of that cell's facts"
abbrev pub before_compared : ℕ → ℕ → ℕ → ℕ → Shape → List Shape
before_compared c d p q s =
    let one = had_value c s ∷ [] in
    let two = map (forget_facts c) (learn below p q s) in
    cond (eqb c d) one two

-- "Kinds 1 and 2: place a, then b; retain equal places (1) or different places (2)."
-- "Kind 3: place a, then b; retain equal places; then a stands nowhere, unless a and b are one variable."
-- "Kind 5: place a, then b; a must be at a cell whose link is nowhere or equals b's place; that link becomes nowhere."
-- "Kind 6: place a; it must be at a cell that no link and no other variable stands at and whose link is nowhere or *; that cell goes, a
-- stands nowhere, and higher cells move down by one."
-- "Kind 7: a must be nowhere or at *. .. A fresh cell is added and a stands at it." Document 02, Wish 5: "each variable other than a that is at
-- * gives two cases: it was at * already, or it stood at the deleted cell. The lowest such variable changes slowest, 'already' first; links to
-- * are still forgotten."
-- Kinds 8 to 13 are explained at their definitions above.
abbrev pub before : Op → Shape → List Shape
before (equal a b) s = retain (together a b) (λ s. s) (place_both a b s)
before (different a b) s = retain (λ s. not (together a b s)) (λ s. s) (place_both a b s)
before (assign a b) s = retain (together a b) (λ s. cond (eqb a b) s (set_var a nowhere s)) (place_both a b s)
before (load a b) s =
    let n = length s.vars in
    let one = map (drop_helper a n) (before_load a (suc n) (add_helper s)) in
    let two = before_load a b s in
    cond (eqb a b) one two
before (store a b) s =
    retain (λ s. link_fits (var_at s a) (var_at s b) s) (λ s. set_link (var_at s a) nowhere s) (place_both a b s)
before (new a) s = retain (λ s. is_new a (var_at s a) s) (λ s. remove_cell (var_at s a) (set_var a nowhere s)) (place a s)
before (delete a) s =
    let c = fresh s in
    let results = map (with_vars (grow (forget_links s))) (vars_before c (set_var_in a c s.vars)) in
    cond (eqb (var_at s a) nowhere || eqb (var_at s a) dangling) results []
before (equal_value a b) s = concat_map (λ t. learn equals (var_at t a) (var_at t b) t) (place_cells a b s)
before (below_value a b) s = concat_map (λ t. learn below (var_at t a) (var_at t b) t) (place_cells a b s)
before (copy a b) s = concat_map (λ t. before_copy (var_at t a) (var_at t b) t) (place_cells a b s)
before (larger a b) s = concat_map (λ t. before_compared (var_at t a) (var_at t b) (var_at t b) (var_at t a) t) (place_cells a b s)
before (smaller a b) s = concat_map (λ t. before_compared (var_at t a) (var_at t b) (var_at t a) (var_at t b) t) (place_cells a b s)
before (read a) s = retain (λ t. is_cell (var_at t a)) (λ t. forget_facts (var_at t a) t) (place a s)

-- Every predecessor has its facts closed, and is dropped where a cell is then below itself. None but the new fact of kinds 8 to 12 is ever
-- added, so the shape's own facts are closed first.
abbrev pub predecessors : Op → Shape → List Shape
predecessors o s = concat_map (before o) (settle s)
