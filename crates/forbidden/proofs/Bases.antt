-- What the ready shapes have in common, and what it says of a heap that satisfies one.
use mathlib.Core.List.{List, [], ◌∷◌, ◌++◌}
use mathlib.Core.Logic.{◌≢◌}
use mathlib.Core.Path.{◌≡◌, refl, sym, ap, ◌∙◌, subst}
use Prim.Native.Nat.{ℕ, ◌≤◌, ◌<◌}
use native.Mathlib.Omega.{arith}
use lib.ListN.{length}
use Rattle.lists.specs.List.{Every}
use Rattle.lists.proofs.List.{every_none, every_cons, every_one, every_append, every_head, every_tail, get_or_mem}
use Rattle.heap.specs.Codes.{var_in, link_in}
use Rattle.heap.specs.Heap.{Heap}
use Rattle.heap.specs.Place.{nowhere, null, dangling, cell}
use Rattle.heap.specs.Follow.{follow}
use Rattle.graph.specs.Graph.{Graph, Embeds}
use Rattle.graph.proofs.Proper.{IsPlace, Closed}
use Rattle.shape.specs.Shape.{Shape, link_at, size, shape_graph, heap_graph}
use Rattle.heap.proofs.Codes.{CellOf, by_number}
use Rattle.facts.specs.Facts.{Follows}
use Rattle.facts.proofs.Closing.{none_follows}
use Rattle.shape.proofs.Laws.{shape_proper}
use Rattle.run.specs.WellFormed.{WellFormed}
use Rattle.run.proofs.WellFormed.{heap_proper}
use Rattle.forbidden.specs.MetFrom.{MetFrom}
use Rattle.forbidden.specs.Sets.{only, standing_at, ending, looping, not_list_shapes}
use Rattle.forbidden.proofs.Only.{only_at, only_place}
use Rattle.graph.proofs.Unmet.{unmet}

-- #, * or one of m cells, and not `bad`
abbrev pub Inside : ℕ → ℕ → ℕ → Type 0
Inside m bad r = (nowhere < r) × (r < cell m) × (r ≢ bad)

-- x alone has a place, each cell has a link, none of these is at `bad`, and there are no facts
pub record Base (n x bad : ℕ) (s : Shape) : Type 0 where
  pub place : ℕ
  pub only_x : s.vars ≡ only n x place
  pub inside : Every (Inside (size s) bad) (place ∷ s.links)
  pub small : size s ≤ 2
  pub no_facts : s.facts ≡ []

-- ---- the six shapes without a loose cell

module _ (n x bad : ℕ) (low : bad < cell 0) where
  base : (p : ℕ) (links : List ℕ) → Inside (length links) bad p × (length links ≤ 2) → Every (Inside (length links) bad) links
      → Base n x bad (record { vars = only n x p; links = links; facts = [] })
  base p links (i, j) is = record { place = p; only_x = refl; inside = every_cons (Inside (length links) bad) i is; small = j; no_facts = refl }

  -- p is # or *
  ending_base : (p : ℕ) → nowhere < p → p < cell 0 → p ≢ bad → Every (Base n x bad) (ending n x p)
  ending_base p a b o =
      every_cons (Base n x bad) (base p [] (omega arith) (every_none (Inside 0 bad)))
      (every_one (Base n x bad) (base (cell 0) (p ∷ []) (omega arith) (every_one (Inside 1 bad) (omega arith))))

  looping_base : Every (Base n x bad) (looping n x)
  looping_base =
      every_cons (Base n x bad) (base (cell 0) (cell 0 ∷ []) (omega arith) (every_one (Inside 1 bad) (omega arith)))
      (every_one (Base n x bad)
      (base (cell 0) (cell 1 ∷ cell 1 ∷ []) (omega arith) (every_cons (Inside 2 bad) (omega arith) (every_one (Inside 2 bad) (omega arith)))))

  -- nothing of the four is at #
  pub four_base : bad ≢ dangling → Every (Base n x bad) (not_list_shapes n x)
  four_base o = every_append (Base n x bad) (ending n x dangling) (ending_base dangling (omega arith) (omega arith) (λ e. o (sym e))) looping_base

pub standing_base : (n x p : ℕ) → nowhere < p → p < cell 0 → Base n x nowhere (standing_at n x p)
standing_base n x p a b = base n x nowhere (omega arith) p [] (omega arith) (every_none (Inside 0 nowhere))

pub six_base : (n x : ℕ) → Every (Base n x nowhere) (not_list_shapes n x ++ ending n x null)
six_base n x =
    every_append (Base n x nowhere) (not_list_shapes n x) (four_base n x nowhere (omega arith) (omega arith))
    (ending_base n x nowhere (omega arith) null (omega arith) (omega arith) (omega arith))

-- ---- a heap that satisfies a base, with the links of its cells or with loose cells too

module _ (h : Heap) (n : ℕ) (w : WellFormed n h) (x : ℕ) (x≢0 : x ≢ 0) (x≤n : x ≤ n) (bad : ℕ) (s : Shape) (b : Base n x bad s) (links : List ℕ)
    (longer : size s ≤ length links) (same : (c : ℕ) → link_in links c ≡ link_at s c) where
  g : Graph
  g = shape_graph (record { vars = s.vars; links = links; facts = s.facts })

  R : ℕ → Type 0
  R = Inside (size s) bad

  linked_inside : (c : ℕ) → CellOf (size s) c → R (link_at s c)
  unfolding R
  linked_inside = by_number (size s) (λ c. R (link_at s c)) (λ i k. every_tail b.inside (link_at s (cell i)) (get_or_mem s.links i k))

  places : (r : ℕ) → R r → IsPlace g r
  unfolding R g
  places r k i j = (omega arith, omega arith)

  closed : Closed g
  unfolding R g
  closed =
      record {
        var_place = λ v. subst (λ (l : List ℕ). var_in l v ≢ nowhere → IsPlace g (var_in l v)) (sym b.only_x)
            (only_place n x b.place x≢0 x≤n g (places b.place (every_head b.inside)) v);
        link_place = λ c l.
            rw (same c) (places (link_at s c) (linked_inside c ((shape_proper s).linked c (λ z. l (same c ∙ z)))));
        fact_cells = λ k p q i. absurd (none_follows (subst (λ l. Follows l k p q) b.no_facts i));
      }

  steps : (r : ℕ) → R r → g.Cell r → (g.link r ≢ nowhere) × R (g.link r)
  unfolding R g
  steps r k c = let i : R (link_at s r) = linked_inside r (c.0, k.1) in rw (same r) (omega arith, i)

  pub base_unmet : (f : ℕ → ℕ) → Embeds (shape_graph (record { vars = s.vars; links = links; facts = s.facts })) (heap_graph h) f
      → IsPlace (shape_graph (record { vars = s.vars; links = links; facts = s.facts })) bad → ¬ MetFrom h x (f bad)
  unfolding R g
  base_unmet f e p (k, z) =
      unmet g (heap_graph h) f (heap_proper h w.low) closed e R places steps bad p (λ r. r.2 refl) b.place start k
      (subst (λ (y : ℕ). follow h.link k y ≡ f bad) at z)
    where
      start : R b.place
      start = every_head b.inside

      there : var_in s.vars x ≡ b.place
      there = ap (λ (l : List ℕ). var_in l x) b.only_x ∙ only_at n x b.place x≢0 x≤n

      at : h.var x ≡ f b.place
      at = e.vars x (omega (arith, there, start.0)) ∙ ap f there
