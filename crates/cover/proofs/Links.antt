-- The links followed for a cover that holds: the lengths of its paths, one choice of them, at most one for each linked cell.
use mathlib.Core.Bool.{Bool, true, false, not, cond}
use mathlib.Core.List.Memᴰ
use mathlib.Core.List.{List, [], ◌∷◌, ◌++◌, map}
use mathlib.Core.Logic.{◌≢◌, ◌⊎◌, inl, inr}
use mathlib.Core.Path.{◌≡◌, refl, ap, ap₂, ◌∙◌}
use Prim.Native.Nat.{ℕ, zero, suc, ◌+◌, ◌*◌, ◌≤◌, ◌<◌}
use native.Mathlib.Decide.{ℕ_discrete}
use native.Mathlib.Omega.{arith}
use borrow.Author.Tests.{eq-eqb}
use lib.Dec.{eqb}
use lib.ListN.{length, get_or, length-append}
use Rattle.lists.specs.List.{◌∈◌, Every, Distinct, concat_map, keep, sum}
use Rattle.lists.specs.Range.{range}
use Rattle.lists.proofs.List.{every_tail, distinct_append, distinct_length, kept_length, mem_concat_map, mem_keep, mem_below, range_append, concat_map_append, element_mem}
use Rattle.lists.proofs.Reflect.{r_eq, r_not, cond_cases}
use Rattle.heap.specs.Place.{nowhere, cell}
use Rattle.graph.specs.Graph.{Graph, Embeds}
use Rattle.graph.proofs.Chain.{chain_distinct}
use Rattle.graph.proofs.Paths.{path_linked, place_off_path, path_unique, one_path}
use Rattle.graph.proofs.Proper.{Proper, Closed}
use Rattle.shape.specs.Shape.{Shape, link_at, size, shape_graph}
use Rattle.heap.proofs.Codes.{by_number}
use Rattle.shape.proofs.Laws.{shape_proper}
use Rattle.run.specs.Run.{Located}
use Rattle.cover.specs.Cover.{Cover, AllHold}
use Rattle.cover.specs.Lengths.{links_on, path_length, lengths_below, path_lengths, linked_cells}
use Rattle.cover.specs.Links.{mids, links_of}
use Rattle.cover.specs.Test.{image_map, between, links_followed}
use Rattle.cover.proofs.Embeds.{path_of}
use Rattle.cover.proofs.Paths.{between_path, found}

-- ---- the sum depends on the paths alone

lengths_same : (m : Shape) (a b : ℕ → List ℕ) → ((i : ℕ) → link_at m (cell i) ≢ nowhere → a i ≡ b i) → (k : ℕ) → lengths_below m a k ≡ lengths_below m b k
lengths_same m a b h zero = refl
lengths_same m a b h (suc i) = ap₂ ◌+◌ (one (ℕ_discrete (link_at m (cell i)) nowhere)) (lengths_same m a b h i)
  where
    one : Dec (link_at m (cell i) ≡ nowhere) → path_length m a i ≡ path_length m b i
    one (yes z) = rw (eq-eqb (link_at m (cell i)) nowhere z) refl
    one (no n) = ap (λ (l : List ℕ). path_length m (λ _. l) i) (h i n)

-- any two embeddings with the same images have paths of the same lengths
pub lengths_unique : (m : Shape) (h : Graph) (f : ℕ → ℕ) → Proper h → Closed (shape_graph m) → (e e' : Embeds (shape_graph m) h f)
    → path_lengths m (mids e) ≡ path_lengths m (mids e')
lengths_unique m h f w cl e e' = lengths_same m (mids e) (mids e') (λ i. path_unique (shape_graph m) h f w cl e e' (cell i)) (size m)

-- ---- each link followed is that of another cell

linked_few : (s : Shape) → length (linked_cells s) ≤ size s
linked_few s = kept_length (λ i. not (eqb (link_at s (cell i)) nowhere)) cell 0 (size s)

module _ (m p : Shape) (f : ℕ → ℕ) (cl : Closed (shape_graph m)) (e : Embeds (shape_graph m) (shape_graph p) f) where
  abbrev g : Graph
  g = shape_graph m

  abbrev h : Graph
  h = shape_graph p

  -- the cells whose links the path for the link of cell i follows
  followed : ℕ → List ℕ
  followed i = cond (eqb (link_at m (cell i)) nowhere) [] (f (cell i) ∷ mids e i)

  followed_below : ℕ → List ℕ
  followed_below zero = []
  followed_below (suc i) = followed i ++ followed_below i

  followed_length : (i : ℕ) → length (followed_below i) ≡ lengths_below m (mids e) i
  unfolding followed followed_below
  followed_length zero = refl
  followed_length (suc i) = length-append (followed i) (followed_below i) ∙ ap₂ ◌+◌ (one (eqb (link_at m (cell i)) nowhere)) (followed_length i)
    where
      one : (b : Bool) → length (cond b [] (f (cell i) ∷ mids e i)) ≡ cond b 0 (links_on (mids e i))
      one true = refl
      one false = refl

  abbrev On : ℕ → ℕ → Type 0
  On i x = (link_at m (cell i) ≢ nowhere) × (x ∈ (f (cell i) ∷ mids e i))

  followed_on : (i x : ℕ) → x ∈ followed i → On i x
  unfolding followed
  followed_on i x =
      cond_cases (λ l. x ∈ l → On i x) (r_eq (link_at m (cell i)) nowhere) (λ _ k. absurd (Memᴰ.not-nil k)) (λ n k. (n, k))

  below_on : (i x : ℕ) → x ∈ followed_below i → (j : ℕ) × (j < i) × On j x
  unfolding followed_below
  below_on zero x k = absurd (Memᴰ.not-nil k)
  below_on (suc i) x k = go (Memᴰ.append_cases (followed i) k) (below_on i x)
    where
      go : (x ∈ followed i) ⊎ (x ∈ followed_below i) → (x ∈ followed_below i → (j : ℕ) × (j < i) × On j x) → (j : ℕ) × (j < suc i) × On j x
      go (inl a) ih = (i, omega arith, followed_on i x a)
      go (inr a) ih = let (j, b, q) = ih a in (j, omega arith, q)

  followed_distinct : (i : ℕ) → Distinct (followed i)
  unfolding followed
  followed_distinct i =
      cond_cases Distinct (r_eq (link_at m (cell i)) nowhere) (λ _. tt)
      (λ z. (
        λ k. e.paths.no_image (cell i) (f (cell i)) (cell i) z k ((shape_proper m).linked (cell i) z) refl,
        chain_distinct (link_at p) (f (cell i)) (mids e i) (f (link_at m (cell i))) (e.paths.path (cell i) z)
            (place_off_path g h f (shape_proper p) cl e (cell i) z (link_at m (cell i)) (cl.link_place (cell i) z)),
      ))

  below_distinct : (i : ℕ) → Distinct (followed_below i)
  unfolding followed_below
  below_distinct zero = tt
  below_distinct (suc i) =
      distinct_append (followed i) (followed_below i) (followed_distinct i) (below_distinct i)
      (λ x a b.
      let (z, q) = followed_on i x a in
      let (j, o, (z', q')) = below_on i x b in
      let same = one_path g h f (shape_proper m) e (cell i) (cell j) x z z' q q' in
      absurd (omega arith))

  linked_cell : (x : ℕ) → link_at p x ≢ nowhere → x ∈ linked_cells p
  linked_cell x z =
      by_number (size p) (λ x. link_at p x ≢ nowhere → x ∈ linked_cells p)
      (λ i b z. mem_concat_map _ (cell i) (mem_below (size p) i b) (mem_keep (not (eqb (link_at p (cell i)) nowhere)) (cell i) ((r_not (r_eq (link_at p (cell i)) nowhere)).tests z))) x
      ((shape_proper p).linked x z) z

  below_bound : (i : ℕ) → lengths_below m (mids e) i ≤ length (linked_cells p)
  below_bound i =
      let r = distinct_length (followed_below i) (linked_cells p) (below_distinct i)
      (λ x k. let (j, b, (z, q)) = below_on i x k in linked_cell x (path_linked g h f (shape_proper p) cl e (cell j) z x q)) in
      omega (arith, followed_length i)

  -- "at most the number of cells of the covered shape that have a link"
  pub lengths_bound : path_lengths m (mids e) ≤ length (linked_cells p)
  lengths_bound = below_bound (size m)

  -- "so at most 14"
  pub lengths_most : size p ≤ 14 → path_lengths m (mids e) ≤ 14
  lengths_most r = omega (arith, lengths_bound, linked_few p)

-- ---- each linked cell of the member has a path of at least one link

pub lengths_least : (m : Shape) (mid : ℕ → List ℕ) → length (linked_cells m) ≤ path_lengths m mid
lengths_least m mid = below (size m)
  where
    linked : ℕ → List ℕ
    linked i = keep (not (eqb (link_at m (cell i)) nowhere)) (cell i)

    below : (k : ℕ) → length (concat_map linked (range 0 k)) ≤ lengths_below m mid k
    below zero = omega arith
    below (suc i) =
        let next : i + 1 ≡ suc i = omega arith in
        let here : 0 + i ≡ i = omega arith in
        let last : range 0 (suc i) ≡ range 0 i ++ (i ∷ []) = rw (next, here) at (range_append 0 i 1) in
        let long : length (concat_map linked (range 0 (suc i))) ≡ length (concat_map linked (range 0 i)) + length (linked i ++ []) =
        ap (λ (l : List ℕ). length (concat_map linked l)) last
        ∙ ap length (concat_map_append linked (range 0 i) (i ∷ []))
        ∙ length-append (concat_map linked (range 0 i)) (linked i ++ []) in
        let step : length (linked i ++ []) ≤ path_length m mid i = one (eqb (link_at m (cell i)) nowhere) in
        omega (arith, long, below i, step)
      where
        one : (b : Bool) → length (keep (not b) (cell i) ++ []) ≤ cond b 0 (links_on (mid i))
        one true = omega arith
        one false = omega arith

-- ---- what the test computes

-- "the sum of the lengths of its member's paths, by the definition of embedding": whichever embedding has these images
pub links_exact : (m p : Shape) (l : List ℕ) → Closed (shape_graph m) → length l ≡ size m → (e : Embeds (shape_graph m) (shape_graph p) (image_map l))
    → links_followed m p l ≡ path_lengths m (mids e)
links_exact m p l cl number e =
    lengths_same m (between m p l) (mids e)
    (λ i z. between_path m p l i z ∙ (found m p l cl number below i (mids e i) (path_of m p l cl number below e.paths (cell i) z)).1) (size m)
  where
    below : (i : ℕ) → i < size m → get_or l i 0 < size p
    below i b = let (_, q) = e.images.cells (cell i) (omega arith, omega arith) in omega arith

-- ---- all covers

-- at most as many as the covered shapes have linked cells, added up
pub links_bound : (ms : List Located) (cs : List Cover) (os : List Located) (k : AllHold ms cs os)
    → Every (λ m. Closed (shape_graph m.shape)) ms → links_of ms cs os k ≤ sum (map (λ o. length (linked_cells o.shape)) os)
links_bound ms [] [] k cl = omega arith
links_bound ms [] (o ∷ os) k cl = absurd k
links_bound ms (c ∷ cs) [] k cl = absurd k
links_bound ms (c ∷ cs) (o ∷ os) (k, ks) cl =
    let one =
    lengths_bound k.member.shape o.shape (image_map c.images) (cl k.member (element_mem ms c.member k.member k.numbered)) k.embeds in
    let rest = links_bound ms cs os ks cl in
    omega arith

-- which are at most 14 for each
pub linked_most : (os : List Located) → Every (λ o. size o.shape ≤ 14) os → sum (map (λ o. length (linked_cells o.shape)) os) ≤ 14 * length os
linked_most [] r = omega arith
linked_most (o ∷ os) r = omega (arith, linked_few o.shape, r o (Memᴰ.head refl), linked_most os (every_tail r))
