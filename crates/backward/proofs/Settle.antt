-- Closing the facts of a shape, and learning one: a heap that satisfies the shape satisfies the result.
use mathlib.Core.List.{List, [], ◌∷◌}
use mathlib.Core.Path.{◌≡◌, refl}
use Prim.Native.Nat.{ℕ}
use Rattle.lists.specs.List.{◌∈◌}
use Rattle.lists.proofs.List.{every_cons, mem_keep}
use Rattle.heap.specs.Heap.{Heap}
use Rattle.heap.specs.Value.{below, Meets}
use Rattle.graph.specs.Graph.{Embeds}
use Rattle.graph.proofs.Proper.{Closed}
use Rattle.facts.specs.Facts.{Fact, given, close, consistent}
use Rattle.shape.specs.Shape.{Shape, size, shape_graph, heap_graph}
use Rattle.facts.proofs.Closing.{close_cells, close_follows, close_consistent, lawful, both_laws}
use Rattle.facts.proofs.Meets.{heap_facts, not_below_self}
use Rattle.backward.specs.Predecessors.{with_facts, settle}

-- the shape with its facts closed
abbrev pub settled : Shape → Shape
settled s = with_facts s (close (size s) s.facts)

-- the shape with a fact more, not closed
abbrev pub told : ℕ → ℕ → ℕ → Shape → Shape
told k p q s = with_facts s (record { kind = k; left = p; right = q } ∷ s.facts)

module _ (h : Heap) (s : Shape) (f : ℕ → ℕ) (e : Embeds (shape_graph s) (heap_graph h) f) where
  -- a heap puts no cell below itself
  pub settled_listed : settled s ∈ settle s
  settled_listed =
      mem_keep (consistent (close (size s) s.facts)) (settled s)
      (close_consistent (size s) s.facts (λ p i. not_below_self h.value (f p) (e.facts below p p i)))

  pub settled_embeds : Embeds (shape_graph (settled s)) (heap_graph h) f
  settled_embeds =
      record {
        images = e.images;
        vars = e.vars;
        paths = e.paths;
        facts = heap_facts (close (size s) s.facts) h.value f
            (λ t m. e.facts t.kind t.left t.right (close_follows (size s) s.facts t m));
      }

  pub told_embeds : (k p q : ℕ) → Meets h.value k (f p) (f q) → Embeds (shape_graph (told k p q s)) (heap_graph h) f
  told_embeds k p q i =
      record {
        images = e.images;
        vars = e.vars;
        paths = e.paths;
        facts = heap_facts (record { kind = k; left = p; right = q } ∷ s.facts) h.value f
            (every_cons (λ (t : Fact). Meets h.value t.kind (f t.left) (f t.right)) i
            (λ t m. e.facts t.kind t.left t.right (given m)));
      }

pub settled_closed : (s : Shape) → Closed (shape_graph s) → Closed (shape_graph (settled s))
settled_closed s cl =
    record {
      var_place = cl.var_place;
      link_place = cl.link_place;
      fact_cells = λ k p q i.
          lawful (close (size s) s.facts) (λ k p q. (shape_graph s).Cell p × (shape_graph s).Cell q) (both_laws (shape_graph s).Cell)
          (λ t m. let (_, a, b) = close_cells (size s) s.facts t m in (a, b)) i;
    }

pub told_closed : (k p q : ℕ) (s : Shape) → Closed (shape_graph s) → (shape_graph s).Cell p → (shape_graph s).Cell q → Closed (shape_graph (told k p q s))
told_closed k p q s cl a b =
    record {
      var_place = cl.var_place;
      link_place = cl.link_place;
      fact_cells = λ k' p' q' i.
          lawful (record { kind = k; left = p; right = q } ∷ s.facts) (λ k p q. (shape_graph s).Cell p × (shape_graph s).Cell q) (both_laws (shape_graph s).Cell)
          (every_cons (λ (t : Fact). (shape_graph s).Cell t.left × (shape_graph s).Cell t.right) (a, b)
          (λ t m. cl.fact_cells t.kind t.left t.right (given m))) i;
    }

-- a shape without facts is closed: its predecessors are document 01's
pub settle_none : (vars links : List ℕ) → settle (record { vars = vars; links = links; facts = [] }) ≡ record { vars = vars; links = links; facts = [] } ∷ []
settle_none vars links = refl
