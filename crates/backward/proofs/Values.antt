-- Kinds 8 to 13, which compare and write values.
use mathlib.Core.Bool.{◌&&◌, cond}
use mathlib.Core.List.Memᴰ
use mathlib.Core.List.{List, ◌∷◌}
use mathlib.Core.Logic.{◌≢◌}
use mathlib.Core.Option.{Option, some}
use mathlib.Core.Path.{◌≡◌, refl, sym, ap, ◌∙◌}
use Prim.Native.Nat.{ℕ, ◌≤◌, ◌<◌}
use lib.Dec.{eqb}
use lib.ListN.{length}
use Rattle.lists.specs.List.{◌∈◌, concat_map, keep}
use Rattle.lists.proofs.List.{every_cons, mem_concat_map, mem_keep}
use Rattle.lists.proofs.Reflect.{r_eq, r_lt, r_and, cond_cases}
use Rattle.heap.specs.Heap.{Heap, IsCell, update}
use Rattle.heap.specs.Operation.{copy, larger, smaller, read, write}
use Rattle.heap.specs.Place.{dangling}
use Rattle.heap.specs.Value.{below, equals, HasValue, Meets}
use Rattle.graph.specs.Graph.{Embeds}
use Rattle.graph.proofs.Proper.{Proper, Closed, cell_of}
use Rattle.heap.proofs.Update.{update_same, update_other, update_cases}
use Rattle.facts.specs.Facts.{Fact, given}
use Rattle.shape.specs.Placing.{place}
use Rattle.shape.specs.Shape.{Shape, var_at, size, shape_graph, heap_graph, Satisfies, SatisfiesOne}
use Rattle.facts.proofs.Meets.{heap_facts, meets_kept}
use Rattle.heap.proofs.Codes.{CellOf}
use Rattle.shape.proofs.Placing.{placing}
use Rattle.run.specs.WellFormed.{WellFormed}
use Rattle.run.proofs.WellFormed.{heap_proper}
use Rattle.backward.specs.Predecessors.{learn, without, forget_facts, had_value, is_cell, place_cells, before_copy, before_compared, before}
use Rattle.backward.proofs.Both.{place_both_lem, retained}
use Rattle.backward.proofs.Settle.{settled, told, settled_listed, settled_embeds, settled_closed, told_embeds, told_closed}
use Rattle.backward.proofs.Tests.{without_mem}

-- both operands are placed, at cells
record CellsPlaced (h : Heap) (s : Shape) (a b : ℕ) : Type 0 where
  shape : Shape
  map : ℕ → ℕ
  listed : shape ∈ place_cells a b s
  embeds : Embeds (shape_graph shape) (heap_graph h) map
  closed : Closed (shape_graph shape)
  at_a : h.var a ≡ map (var_at shape a)
  at_b : h.var b ≡ map (var_at shape b)
  cell_a : CellOf (size shape) (var_at shape a)
  cell_b : CellOf (size shape) (var_at shape b)

place_cells_lem : (h : Heap) (s : Shape) (f : ℕ → ℕ) → Proper (heap_graph h) → Closed (shape_graph s) → Embeds (shape_graph s) (heap_graph h) f
    → (a b : ℕ) → a ≤ length s.vars → b ≤ length s.vars → IsCell h (h.var a) → IsCell h (h.var b) → CellsPlaced h s a b
place_cells_lem h s f w cl e a b la lb ka kb =
    let q = place_both_lem h s f w cl e a b la lb (λ _. ka) (λ _. kb) in
    let t = q.shape in
    let ca : CellOf (size t) (var_at t a) = cell_of (shape_graph t) (heap_graph h) q.map w q.embeds.images (var_at t a) q.place_a (rw (← q.at_a) ka) in
    let cb : CellOf (size t) (var_at t b) = cell_of (shape_graph t) (heap_graph h) q.map w q.embeds.images (var_at t b) q.place_b (rw (← q.at_b) kb) in
    record {
      shape = t;
      map = q.map;
      listed =
          mem_concat_map (λ t. keep (is_cell (var_at t a) && is_cell (var_at t b)) t) t q.listed
          (mem_keep (is_cell (var_at t a) && is_cell (var_at t b)) t ((r_and (r_lt dangling (var_at t a)) (r_lt dangling (var_at t b))).tests (ca.0, cb.0)));
      embeds = q.embeds;
      closed = q.closed;
      at_a = q.at_a;
      at_b = q.at_b;
      cell_a = ca;
      cell_b = cb;
    }

-- one of the results for a shape of the list
among : (h : Heap) (change : Shape → List Shape) (list : List Shape) (t : Shape) → t ∈ list → SatisfiesOne h (change t) → SatisfiesOne h (concat_map change list)
among h change list t m (p, n, e) = (p, mem_concat_map change p m n, e)

-- ---- kinds 8 and 9

pub step_test : (k : ℕ) (h : Heap) (s : Shape) (f : ℕ → ℕ) → WellFormed (length s.vars) h → Closed (shape_graph s) → (a b : ℕ) → a ≤ length s.vars → b ≤ length s.vars
    → IsCell h (h.var a) → IsCell h (h.var b) → Meets h.value k (h.var a) (h.var b) → Embeds (shape_graph s) (heap_graph h) f
    → SatisfiesOne h (concat_map (λ t. learn k (var_at t a) (var_at t b) t) (place_cells a b s))
step_test k h s f w cl a b la lb ka kb i e =
    let q = place_cells_lem h s f (heap_proper h w.low) cl e a b la lb ka kb in
    let t = q.shape in
    let i' : Meets h.value k (q.map (var_at t a)) (q.map (var_at t b)) = rw (← q.at_a, ← q.at_b) i in
    let e' = told_embeds h t q.map q.embeds k (var_at t a) (var_at t b) i' in
    let u = told k (var_at t a) (var_at t b) t in
    among h (λ t. learn k (var_at t a) (var_at t b) t) (place_cells a b s) t q.listed
    (settled u, settled_listed h u q.map e', (q.map, settled_embeds h u q.map e'))

-- ---- a value is written

-- what is known of other cells held before
unwritten_facts : (h : Heap) (y : ℕ) (o : Option ℕ) (t : Shape) (f : ℕ → ℕ) (c : ℕ) → Embeds (shape_graph t) (heap_graph (write h y o)) f → Closed (shape_graph t)
    → CellOf (size t) c → f c ≡ y → (u : Fact) → u ∈ without c t.facts → Meets h.value u.kind (f u.left) (f u.right)
unwritten_facts h y o t f c e cl kc z u m =
    let (n, na, nb) = without_mem c t.facts u m in
    let (ka, kb) = cl.fact_cells u.kind u.left u.right (given n) in
    meets_kept h.value (update h.value y o) u.kind (f u.left) (f u.right) (other u.left ka na) (other u.right kb nb)
    (e.facts u.kind u.left u.right (given n))
  where
    other : (p : ℕ) → CellOf (size t) p → p ≢ c → (m : ℕ) → update h.value y o (f p) ≡ some m → h.value (f p) ≡ some m
    other p kp np m i = sym (update_other h.value y o (f p) (λ j. np (e.images.distinct p c kp kc (j ∙ sym z)))) ∙ i

unwritten : (h : Heap) (y : ℕ) (o : Option ℕ) (t : Shape) (f : ℕ → ℕ) (c : ℕ) → Embeds (shape_graph t) (heap_graph (write h y o)) f → Closed (shape_graph t)
    → CellOf (size t) c → f c ≡ y → Satisfies h (forget_facts c t)
unwritten h y o t f c e cl kc z = (
  f,
  record {
    images = e.images;
    vars = e.vars;
    paths = e.paths;
    facts = heap_facts (without c t.facts) h.value f (unwritten_facts h y o t f c e cl kc z);
  },
)

-- the facts that are learned hold after the write; those of other cells held before
module _ (h : Heap) (o : Option ℕ) (s : Shape) (a b : ℕ) (r : CellsPlaced (write h (h.var a) o) s a b) where
  abbrev h' : Heap
  h' = write h (h.var a) o

  abbrev t : Shape
  t = r.shape

  abbrev c : ℕ
  c = var_at t a

  abbrev d : ℕ
  d = var_at t b

  -- the shape with a fact learned, and that the heap after the write satisfies it
  module _ (k p q : ℕ) (kp : CellOf (size t) p) (kq : CellOf (size t) q) (i : Meets h'.value k (r.map p) (r.map q)) where
    told_u : Embeds (shape_graph (told k p q t)) (heap_graph h') r.map
    told_u = told_embeds h' t r.map r.embeds k p q i

    learned_listed : settled (told k p q t) ∈ learn k p q t
    learned_listed = settled_listed h' (told k p q t) r.map told_u

    learned_embeds : Embeds (shape_graph (settled (told k p q t))) (heap_graph h') r.map
    learned_embeds = settled_embeds h' (told k p q t) r.map told_u

    learned_forgotten : Satisfies h (forget_facts c (settled (told k p q t)))
    learned_forgotten =
        unwritten h (h.var a) o (settled (told k p q t)) r.map c learned_embeds
        (settled_closed (told k p q t) (told_closed k p q t r.closed kp kq)) r.cell_a (sym r.at_a)

  value_c : h'.value (r.map c) ≡ o
  value_c = update_same h.value (h.var a) o (r.map c) (sym r.at_a)

  value_d : c ≢ d → h'.value (r.map d) ≡ h.value (h.var b)
  value_d n =
      update_other h.value (h.var a) o (r.map d) (λ z. n (r.embeds.images.distinct c d r.cell_a r.cell_b (sym r.at_a ∙ sym z)))
      ∙ ap h.value (sym r.at_b)

  -- where both are one cell
  one_place : c ≡ d → h.var a ≡ h.var b
  one_place z = r.at_a ∙ ap r.map z ∙ sym r.at_b

  -- ---- kind 10

  copied : o ≡ h.value (h.var b) → HasValue h.value (h.var b) (λ m. Unit {0}) → SatisfiesOne h (before_copy c d t)
  copied z (m, i, _) = (
    change (settled (told equals c d t)),
    Memᴰ.map change (learned_listed equals c d r.cell_a r.cell_b equal_now),
    cond_cases (Satisfies h) (r_eq c d)
        (λ j. (
          r.map,
          record {
            images = r.embeds.images;
            vars = r.embeds.vars;
            paths = r.embeds.paths;
            facts = λ k p q v.
                meets_kept h.value h'.value k (r.map p) (r.map q) (λ _ n. sym (same j (r.map p)) ∙ n) (λ _ n. sym (same j (r.map q)) ∙ n)
                ((learned_embeds equals c d r.cell_a r.cell_b equal_now).facts k p q v);
          },
        ))
        (λ _. learned_forgotten equals c d r.cell_a r.cell_b equal_now),
  )
    where
      change : Shape → Shape
      change u = cond (eqb c d) u (forget_facts c u)

      equal_now : Meets h'.value equals (r.map c) (r.map d)
      equal_now = (
        m,
        value_c ∙ z ∙ i,
        (
          m,
          update_cases (λ v. v ≡ some m) h.value (h.var a) o (r.map d) (λ _. z ∙ i) (λ _. ap h.value (sym r.at_b) ∙ i),
          refl,
        ),
      )

      same : c ≡ d → (p : ℕ) → h'.value p ≡ h.value p
      same j p = update_cases (λ v. v ≡ h.value p) h.value (h.var a) o p (λ n. z ∙ ap h.value (sym (one_place j) ∙ sym n)) (λ _. refl)

  -- ---- kinds 11 and 12

  compared : (p q : ℕ) → CellOf (size t) p → CellOf (size t) q → (m : ℕ) → h.value (h.var b) ≡ some m
      → (c ≢ d → Meets h'.value below (r.map p) (r.map q)) → SatisfiesOne h (before_compared c d p q t)
  compared p q kp kq m i now =
      cond_cases (SatisfiesOne h) (r_eq c d)
      (λ z. (
        had_value c t,
        Memᴰ.head refl,
        (
          r.map,
          record {
            images = r.embeds.images;
            vars = r.embeds.vars;
            paths = r.embeds.paths;
            facts = heap_facts (record { kind = equals; left = c; right = c } ∷ without c t.facts) h.value r.map
                (every_cons (λ (u : Fact). Meets h.value u.kind (r.map u.left) (r.map u.right)) (m, had z, (m, had z, refl))
                (unwritten_facts h (h.var a) o t r.map c r.embeds r.closed r.cell_a (sym r.at_a)));
          },
        ),
      ))
      (λ n. (
        forget_facts c (settled (told below p q t)),
        Memᴰ.map (forget_facts c) (learned_listed below p q kp kq (now n)),
        learned_forgotten below p q kp kq (now n),
      ))
    where
      had : c ≡ d → h.value (r.map c) ≡ some m
      had z = ap h.value (sym r.at_a ∙ one_place z) ∙ i

module _ (h : Heap) (s : Shape) (f : ℕ → ℕ) (w : WellFormed (length s.vars) h) (cl : Closed (shape_graph s)) (a b : ℕ) (la : a ≤ length s.vars)
    (lb : b ≤ length s.vars) (ka : IsCell h (h.var a)) (kb : IsCell h (h.var b)) where
  placed : (o : Option ℕ) → Embeds (shape_graph s) (heap_graph (write h (h.var a) o)) f → CellsPlaced (write h (h.var a) o) s a b
  placed o e = place_cells_lem (write h (h.var a) o) s f (heap_proper (write h (h.var a) o) w.low) cl e a b la lb ka kb

  pub step_copy : HasValue h.value (h.var b) (λ m. Unit {0}) → Embeds (shape_graph s) (heap_graph (write h (h.var a) (h.value (h.var b)))) f
      → SatisfiesOne h (before (copy a b) s)
  step_copy i e =
      let o = h.value (h.var b) in
      let q = placed o e in
      among h (λ t. before_copy (var_at t a) (var_at t b) t) (place_cells a b s) q.shape q.listed (copied h o s a b q refl i)

  pub step_larger : (x : ℕ) → HasValue h.value (h.var b) (λ m. m < x) → Embeds (shape_graph s) (heap_graph (write h (h.var a) (some x))) f
      → SatisfiesOne h (before (larger a b) s)
  step_larger x (m, i, l) e =
      let q = placed (some x) e in
      among h (λ t. before_compared (var_at t a) (var_at t b) (var_at t b) (var_at t a) t) (place_cells a b s) q.shape q.listed
      (compared h (some x) s a b q (var_at q.shape b) (var_at q.shape a) q.cell_b q.cell_a m i
      (λ n. (m, value_d h (some x) s a b q n ∙ i, (x, value_c h (some x) s a b q, l))))

  pub step_smaller : (x : ℕ) → HasValue h.value (h.var b) (λ m. x < m) → Embeds (shape_graph s) (heap_graph (write h (h.var a) (some x))) f
      → SatisfiesOne h (before (smaller a b) s)
  step_smaller x (m, i, l) e =
      let q = placed (some x) e in
      among h (λ t. before_compared (var_at t a) (var_at t b) (var_at t a) (var_at t b) t) (place_cells a b s) q.shape q.listed
      (compared h (some x) s a b q (var_at q.shape a) (var_at q.shape b) q.cell_a q.cell_b m i
      (λ n. (x, value_c h (some x) s a b q, (m, value_d h (some x) s a b q n ∙ i, l))))

-- ---- kind 13

pub step_read : (h : Heap) (s : Shape) (f : ℕ → ℕ) (x : ℕ) → WellFormed (length s.vars) h → Closed (shape_graph s) → (a : ℕ) → a ≤ length s.vars → IsCell h (h.var a)
    → Embeds (shape_graph s) (heap_graph (write h (h.var a) (some x))) f → SatisfiesOne h (before (read a) s)
step_read h s f x w cl a la ka e =
    let h' = write h (h.var a) (some x) in
    let wp : Proper (heap_graph h') = heap_proper h' w.low in
    let r = placing h' s f wp cl e a la (λ _. ka) in
    let t = r.shape in
    let z : h.var a ≡ r.map (var_at t a) = r.embeds.vars a r.placed in
    let kc : CellOf (size t) (var_at t a) =
    cell_of (shape_graph t) (heap_graph h') r.map wp r.embeds.images (var_at t a) (r.closed.var_place a r.placed) (rw (← z) ka) in
    retained h (place a s) (λ t. is_cell (var_at t a)) (λ t. forget_facts (var_at t a) t) t r.listed ((r_lt dangling (var_at t a)).tests kc.0)
    (unwritten h (h.var a) (some x) t r.map (var_at t a) r.embeds r.closed kc (sym z))
