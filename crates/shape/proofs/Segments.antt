-- An embedding made from segments of a walk. Each cell of a shape has a segment: its image and what lies strictly between for its link. Where
-- no place stands twice in the segments, all that an embedding asks of images and paths holds.
use mathlib.Core.List.Memᴰ
use mathlib.Core.List.{List, [], ◌∷◌, ◌++◌}
use mathlib.Core.Logic.{◌≢◌}
use mathlib.Core.Path.{◌≡◌, refl, sym, ap, ◌∙◌}
use Prim.Native.Nat.{ℕ, zero, suc, ◌<◌}
use native.Mathlib.Omega.{arith}
use lib.ListN.{length, get_or}
use Rattle.lists.specs.List.{◌∈◌, Every, Distinct}
use Rattle.lists.proofs.List.{distinct_apart, distinct_right}
use Rattle.heap.specs.Heap.{Heap, IsCell}
use Rattle.heap.specs.Place.{nowhere, null, dangling, cell}
use Rattle.heap.specs.Value.{Meets}
use Rattle.graph.specs.Graph.{Chain, Vars, Embeds}
use Rattle.shape.specs.Shape.{Shape, var_at, link_at, size, shape_graph, heap_graph}
use Rattle.facts.proofs.Meets.{heap_facts}
use Rattle.heap.proofs.Codes.{CellOf, by_number}
use Rattle.shape.proofs.Laws.{shape_proper}

pub record Segment : Type 0 where
  pub first : ℕ
  pub rest : List ℕ

-- all places of the segments
abbrev pub flat : List Segment → List ℕ
flat [] = []
flat (s ∷ ss) = s.first ∷ (s.rest ++ flat ss)

abbrev pub first_at : List Segment → ℕ → ℕ
first_at [] i = nowhere
first_at (s ∷ ss) zero = s.first
first_at (s ∷ ss) (suc i) = first_at ss i

abbrev pub rest_at : List Segment → ℕ → List ℕ
rest_at [] i = []
rest_at (s ∷ ss) zero = s.rest
rest_at (s ∷ ss) (suc i) = rest_at ss i

-- cell i goes to the first place of segment i
abbrev pub image : List Segment → ℕ → ℕ
image ss zero = nowhere
image ss (suc zero) = null
image ss (suc (suc zero)) = dangling
image ss (suc (suc (suc i))) = first_at ss i

abbrev between : List Segment → ℕ → List ℕ
between ss zero = []
between ss (suc zero) = []
between ss (suc (suc zero)) = []
between ss (suc (suc (suc i))) = rest_at ss i

-- each link that has a place leads along its segment to the image of that place
abbrev pub Leads : (ℕ → ℕ) → (ℕ → ℕ) → List ℕ → List Segment → Type 0
Leads link f [] [] = Unit {0}
Leads link f [] (s ∷ ss) = ⊥
Leads link f (l ∷ ls) [] = ⊥
Leads link f (l ∷ ls) (s ∷ ss) = (l ≢ nowhere → Chain link s.first s.rest (f l)) × Leads link f ls ss

leads_length : (link f : ℕ → ℕ) (ls : List ℕ) (ss : List Segment) → Leads link f ls ss → length ls ≡ length ss
leads_length link f [] [] e = refl
leads_length link f [] (s ∷ ss) e = absurd e
leads_length link f (l ∷ ls) [] e = absurd e
leads_length link f (l ∷ ls) (s ∷ ss) e = ap suc (leads_length link f ls ss e.1)

leads_at : (link f : ℕ → ℕ) (ls : List ℕ) (ss : List Segment) → Leads link f ls ss → (i : ℕ) → get_or ls i nowhere ≢ nowhere
    → Chain link (first_at ss i) (rest_at ss i) (f (get_or ls i nowhere))
leads_at link f [] ss e i n = absurd (n refl)
leads_at link f (l ∷ ls) [] e i n = absurd e
leads_at link f (l ∷ ls) (s ∷ ss) e zero n = e.0 n
leads_at link f (l ∷ ls) (s ∷ ss) e (suc i) n = leads_at link f ls ss e.1 i n

-- y stands in segment i
abbrev On : List Segment → ℕ → ℕ → Type 0
On ss i y = y ∈ (first_at ss i ∷ rest_at ss i)

on_flat : (ss : List Segment) (i y : ℕ) → i < length ss → On ss i y → y ∈ flat ss
on_flat [] i y b m = absurd (omega arith)
on_flat (s ∷ ss) zero y b m = Memᴰ.append_left (flat ss) m
on_flat (s ∷ ss) (suc i) y b m = Memᴰ.append_right (s.first ∷ s.rest) (on_flat ss i y (omega arith) m)

on_one : (ss : List Segment) → Distinct (flat ss) → (i j y : ℕ) → i < length ss → j < length ss → On ss i y → On ss j y → i ≡ j
on_one [] d i j y a b m n = absurd (omega arith)
on_one (s ∷ ss) d zero zero y a b m n = refl
on_one (s ∷ ss) d zero (suc j) y a b m n = absurd (distinct_apart (s.first ∷ s.rest) (flat ss) d y m (on_flat ss j y (omega arith) n))
on_one (s ∷ ss) d (suc i) zero y a b m n = absurd (distinct_apart (s.first ∷ s.rest) (flat ss) d y n (on_flat ss i y (omega arith) m))
on_one (s ∷ ss) d (suc i) (suc j) y a b m n =
    ap suc (on_one ss (distinct_right (s.first ∷ s.rest) (flat ss) d) i j y (omega arith) (omega arith) m n)

first_off : (ss : List Segment) → Distinct (flat ss) → (i : ℕ) → i < length ss → ¬ (first_at ss i ∈ rest_at ss i)
first_off [] d i b m = absurd (omega arith)
first_off (s ∷ ss) d zero b m = d.0 (Memᴰ.append_left (flat ss) m)
first_off (s ∷ ss) d (suc i) b m = first_off ss (distinct_right (s.first ∷ s.rest) (flat ss) d) i (omega arith) m

-- ---- the embedding

module _ (h : Heap) (s : Shape) (ss : List Segment) (d : Distinct (flat ss)) (cells : (c : ℕ) → c ∈ flat ss → IsCell h c)
    (leads : Leads h.link (image ss) s.links ss) where
  long : size s ≡ length ss
  long = leads_length h.link (image ss) s.links ss leads

  -- what holds of any two cells by their numbers
  two : (P : ℕ → ℕ → Type 0) → ((i j : ℕ) → i < length ss → j < length ss → P (cell i) (cell j))
      → (c e : ℕ) → CellOf (size s) c → CellOf (size s) e → P c e
  two P f c e k l =
      by_number (size s) (λ c. P c e)
      (λ i a. by_number (size s) (λ e. P (cell i) e) (λ j b. f i j (omega (arith, long)) (omega (arith, long))) e l) c k

  pub segments_embed : Vars (var_at s) h.var (image ss) → Every (λ t. Meets h.value t.kind (image ss t.left) (image ss t.right)) s.facts
      → Embeds (shape_graph s) (heap_graph h) (image ss)
  segments_embed v facts =
      record {
        images = record {
          null_fixed = refl;
          dangling_fixed = refl;
          cells = by_number (size s) (λ c. IsCell h (image ss c))
              (λ i b. cells (first_at ss i) (on_flat ss i (first_at ss i) (omega (arith, long)) (Memᴰ.head refl)));
          distinct = two (λ c e. image ss c ≡ image ss e → c ≡ e)
              (λ i j a b z. ap cell (on_one ss d i j (first_at ss i) a b (Memᴰ.head refl) (Memᴰ.head z)));
        };
        vars = v;
        paths = record {
          between = between ss;
          path = λ c l.
              by_number (size s) (λ c. link_at s c ≢ nowhere → Chain h.link (image ss c) (between ss c) (image ss (link_at s c)))
              (λ i b. leads_at h.link (image ss) s.links ss leads i) c ((shape_proper s).linked c l) l;
          no_image = λ c x e l m k z.
              two (λ c e. x ∈ between ss c → x ≢ image ss e) (off x) c e ((shape_proper s).linked c l) k m z;
          unshared = λ c e x l n.
              two (λ c e. x ∈ between ss c → x ∈ between ss e → c ≡ e)
              (λ i j a b m n. ap cell (on_one ss d i j x a b (Memᴰ.tail m) (Memᴰ.tail n))) c e
              ((shape_proper s).linked c l) ((shape_proper s).linked e n);
        };
        facts = heap_facts s.facts h.value (image ss) facts;
      }
    where
      off : (x i j : ℕ) → i < length ss → j < length ss → x ∈ rest_at ss i → x ≢ first_at ss j
      off x i j a b m z =
          let e : i ≡ j = on_one ss d i j x a b (Memᴰ.tail m) (Memᴰ.head z) in
          first_off ss d i a (Memᴰ.cast (sym (z ∙ ap (first_at ss) (sym e))) m)
