-- What each answer of a cover's test means.
use mathlib.Core.List.{List, [], ◌∷◌}
use mathlib.Core.Logic.{◌≢◌, ◌↔◌}
use mathlib.Core.Path.{◌≡◌, refl, sym, subst}
use Prim.Native.Nat.{ℕ, zero, suc, ◌+◌, ◌≤◌, ◌<◌}
use native.Mathlib.Omega.{arith}
use lib.ListN.{length, get_or}
use Rattle.lists.specs.Test.{all_from, lowest}
use Rattle.lists.proofs.Reflect.{r_eq, r_not, r_iff}
use Rattle.heap.specs.Place.{nowhere, cell}
use Rattle.graph.specs.Graph.{Graph, Images, Vars, Paths, Embeds}
use Rattle.graph.proofs.Proper.{Closed}
use Rattle.facts.specs.Facts.{FactsOf}
use Rattle.shape.specs.Shape.{link_at, size, shape_graph}
use Rattle.shape.proofs.Laws.{var_within, shape_proper}
use Rattle.run.specs.Run.{Located}
use Rattle.cover.specs.Rules.{ImageTwice, VariableElsewhere, Path, LinkMisses, SharedPath, FactMissing, Breaks, wrong_state, image_twice, variable_elsewhere, link_misses, shared_path, fact_missing}
use Rattle.cover.specs.Test.{image_map, image_once, var_fits, link_meets, path_unshared, facts_in, closed_in, Answer, holds, broken, of_cells, of_variables, of_states, cover_rules, cover_answer}
use Rattle.cover.proofs.First.{Says, Decides, Kept, Rules, kept_next, first_broken_lem, says_exactly}
use Rattle.cover.proofs.Embeds.{stable, decide_image, decide_var, decide_link, decide_shared, decide_fact, has_path, images_kept, vars_kept, paths_kept, facts_kept, images_break, vars_break, path_of, shared_break, facts_break}

-- P is so of n, and of none lower
abbrev pub LowestSuch : (ℕ → Type 0) → ℕ → Type 0
LowestSuch P n = P n × ((k : ℕ) → k < n → ¬ P k)

-- what breaks each rule
module _ {m : Located} {images : List ℕ} {o : Located} where
  by_state : {n : ℕ} → Breaks m images o 1 n → (m.state ≢ o.state) × (n ≡ 0)
  by_state (wrong_state b) = (b, refl)

  by_image : {i : ℕ} → Breaks m images o 2 i → ImageTwice (shape_graph m.shape) (shape_graph o.shape) (image_map images) i
  by_image (image_twice _ b) = b

  by_variable : {v : ℕ} → Breaks m images o 3 v → VariableElsewhere (shape_graph m.shape) (shape_graph o.shape) (image_map images) v
  by_variable (variable_elsewhere _ b) = b

  by_link : {i : ℕ} → Breaks m images o 4 i → LinkMisses (shape_graph m.shape) (shape_graph o.shape) (image_map images) i
  by_link (link_misses _ b) = b

  by_path : {i : ℕ} → Breaks m images o 5 i → SharedPath (shape_graph m.shape) (shape_graph o.shape) (image_map images) i
  by_path (shared_path _ b) = b

  by_fact : {i : ℕ} → Breaks m images o 6 i → FactMissing (shape_graph m.shape) (shape_graph o.shape) (image_map images) m.shape.facts i
  by_fact (fact_missing _ b) = b

  numbers : {r n : ℕ} → Breaks m images o r n → (1 ≤ r) × (r ≤ 6)
  numbers (wrong_state _) = (omega arith, omega arith)
  numbers (image_twice _ _) = (omega arith, omega arith)
  numbers (variable_elsewhere _ _) = (omega arith, omega arith)
  numbers (link_misses _ _) = (omega arith, omega arith)
  numbers (shared_path _ _) = (omega arith, omega arith)
  numbers (fact_missing _ _) = (omega arith, omega arith)

module _ (m : Located) (images : List ℕ) (o : Located) (cl : Closed (shape_graph m.shape)) (number : length images ≡ size m.shape) (below : (i : ℕ) → i < size m.shape → get_or images i 0 < size o.shape)
    (of-member : FactsOf (size m.shape) m.shape.facts) (of-covered : FactsOf (size o.shape) o.shape.facts) where
  abbrev f : ℕ → ℕ
  f = image_map images

  abbrev g : Graph
  g = shape_graph m.shape

  abbrev h : Graph
  h = shape_graph o.shape

  abbrev B : ℕ → ℕ → Type 0
  B = Breaks m images o

  -- ---- the answer says what it should

  cell_within : (i : ℕ) → g.Cell (cell i) → (0 ≤ i) × (i < 0 + size m.shape)
  cell_within i k = let (a, b) = k in (omega arith, omega arith)

  linked_within : (i : ℕ) → link_at m.shape (cell i) ≢ nowhere → (0 ≤ i) × (i < 0 + size m.shape)
  linked_within i z = cell_within i ((shape_proper m.shape).linked (cell i) z)

  var_within_names : (v : ℕ) → VariableElsewhere g h f v → (1 ≤ v) × (v < 1 + length m.shape.vars)
  var_within_names zero (z, n) = absurd (n refl)
  var_within_names (suc v) (z, n) = let b = var_within m.shape.vars (suc v) z in (omega arith, omega arith)

  rules : Rules B 1 (cover_rules (closed_in o.shape) m images o)
  rules = (λ _. states, (λ _. images_used, (λ _. variables, (λ _. links, (paths, (λ _. facts, no_others))))))
    where
      states : Decides (B 1) (of_states m o)
      states =
          record {
            within = λ n b. let e = (by_state b).1 in (omega arith, omega arith);
            decides = λ n _ c.
                let n_is : 0 ≡ n = omega arith in
                r_iff (λ z. subst (B 1) n_is (wrong_state z)) (λ b. (by_state b).0) (r_not (r_eq m.state o.state));
          }

      images_used : Decides (B 2) (of_cells m.shape (image_once m.shape o.shape images))
      images_used =
          record {
            within = λ i b. cell_within i (by_image b).1;
            decides = λ i _ c. r_iff (image_twice i) by_image (decide_image m.shape o.shape images cl number below i (omega arith));
          }

      variables : Decides (B 3) (of_variables m.shape (var_fits m.shape o.shape images))
      variables =
          record {
            within = λ v b. var_within_names v (by_variable b);
            decides = λ v _ _. r_iff (variable_elsewhere v) by_variable (decide_var m.shape o.shape images cl number below v);
          }

      links : Decides (B 4) (of_cells m.shape (link_meets m.shape o.shape images))
      links =
          record {
            within = λ i b. linked_within i (by_link b).0;
            decides = λ i _ _. r_iff (link_misses i) by_link (decide_link m.shape o.shape images cl number below i);
          }

      -- each link has its path, where no link misses
      paths : Kept B 5 → Decides (B 5) (of_cells m.shape (path_unshared m.shape o.shape images))
      paths kept =
          record {
            within = λ i b. linked_within i (by_path b).5.linked;
            decides = λ i _ _.
                r_iff (shared_path i) by_path
                (decide_shared m.shape o.shape images cl number below (λ k b. kept 4 (omega arith) k (link_misses k b)) i);
          }

      facts : Decides (B 6) (of_cells m.shape (facts_in m.shape o.shape images (closed_in o.shape)))
      facts =
          record {
            within = λ i b. let (t, j, (left, _)) = by_fact b in cell_within i (subst g.Cell left (of-member t j).1);
            decides = λ i _ _. r_iff (fact_missing i) by_fact (decide_fact m.shape o.shape images cl number below of-member of-covered i);
          }

      no_others : (q : ℕ) → 7 ≤ q → (k : ℕ) → ¬ B q k
      no_others q low k b = let (_, high) = numbers b in omega arith

  none_before : Kept B 1
  none_before q low k b = let (high, _) = numbers b in omega arith

  -- what the answer says is so
  pub answer_says : Says B (cover_answer m images o)
  answer_says = first_broken_lem B 1 (cover_rules (closed_in o.shape) m images o) none_before rules

  -- the answer is the one that says so
  pub answer_exactly : (a : Answer) → (cover_answer m images o ≡ a) ↔ Says B a
  answer_exactly a = (λ e. subst (Says B) e answer_says, says_exactly B (cover_answer m images o) a answer_says)

  -- ---- no earlier rule is broken

  abbrev SameState : Type 0
  SameState = m.state ≡ o.state

  -- each link has its path
  abbrev LinksMeet : Type 0
  LinksMeet = (i : ℕ) → g.link (cell i) ≢ nowhere → (xs : List ℕ) × Path g h f (cell i) xs

  kept_2 : Kept B 2 ↔ SameState
  kept_2 = (λ k. stable m.state o.state (λ n. k 1 (omega arith) 0 (wrong_state n)), λ s. kept_next B 1 none_before (λ n b. (by_state b).0 s))

  kept_3 : Kept B 3 ↔ (SameState × Images g.Cell h.Cell f)
  kept_3 = (
    λ k.
        (kept_2.0 (λ q b. k q (omega arith)), images_kept m.shape o.shape images cl number below (λ i b. k 2 (omega arith) i (image_twice i b))),
    λ (s, im). kept_next B 2 (kept_2.1 s) (λ i b. images_break m.shape o.shape images cl number below im i (by_image b)),
  )

  kept_4 : Kept B 4 ↔ (SameState × Images g.Cell h.Cell f × Vars g.var h.var f)
  kept_4 = (
    λ k.
        let (s, im) = kept_3.0 (λ q b. k q (omega arith)) in
        (s, im, vars_kept m.shape o.shape images cl number below (λ v b. k 3 (omega arith) v (variable_elsewhere v b))),
    λ (s, im, v). kept_next B 3 (kept_3.1 (s, im)) (λ x b. vars_break m.shape o.shape images cl number below v x (by_variable b)),
  )

  kept_5 : Kept B 5 ↔ (SameState × Images g.Cell h.Cell f × Vars g.var h.var f × LinksMeet)
  kept_5 = (
    λ k.
        let (s, im, v) = kept_4.0 (λ q b. k q (omega arith)) in
        (s, im, v, λ i z. (_, has_path m.shape o.shape images cl number below (λ j b. k 4 (omega arith) j (link_misses j b)) i z)),
    λ (s, im, v, l). kept_next B 4 (kept_4.1 (s, im, v)) (λ i b. let (z, n) = by_link b in let (xs, q) = l i z in n xs q),
  )

  kept_6 : Kept B 6 ↔ (SameState × Images g.Cell h.Cell f × Vars g.var h.var f × Paths g.Cell g.link h.link f)
  kept_6 = (
    λ k.
        let (s, im, v) = kept_4.0 (λ q b. k q (omega arith)) in (
          s,
          im,
          v,
          paths_kept m.shape o.shape images cl number below (λ i b. k 4 (omega arith) i (link_misses i b))
              (λ i b. k 5 (omega arith) i (shared_path i b)),
        ),
    λ (s, im, v, p).
        kept_next B 5 (kept_5.1 (s, im, v, λ i z. (_, path_of m.shape o.shape images cl number below p (cell i) z)))
        (λ i b. shared_break m.shape o.shape images cl number below p i (by_path b)),
  )

  kept_7 : Kept B 7 ↔ (SameState × Embeds g h f)
  kept_7 = (
    λ k.
        let (s, im, v, p) = kept_6.0 (λ q b. k q (omega arith)) in
        let t = facts_kept m.shape o.shape images cl number below of-member of-covered (λ i b. k 6 (omega arith) i (fact_missing i b)) in
        (s, record { images = im; vars = v; paths = p; facts = t }),
    λ (s, e).
        kept_next B 6 (kept_6.1 (s, e.images, e.vars, e.paths))
        (λ i b. facts_break m.shape o.shape images cl number below of-member of-covered e.facts i (by_fact b)),
  )

  -- ---- what each answer means

  -- "A cover holds when its member has the state .. and the images are an embedding"
  pub answer_holds : (cover_answer m images o ≡ holds) ↔ (SameState × Embeds g h f)
  answer_holds = (
    λ e. kept_7.0 (λ q b. (answer_exactly holds).0 e q),
    λ k. (answer_exactly holds).1 (λ r n b. let (_, high) = numbers b in kept_7.1 k r (omega arith) n b),
  )

  -- the earlier rules hold, this one is broken at n, and at no lower one
  means : {Kept-before : Type 0} {P : ℕ → Type 0} (r n : ℕ) → Kept B r ↔ Kept-before → ((k : ℕ) → B r k → P k) → ((k : ℕ) → P k → B r k)
      → (cover_answer m images o ≡ broken r n) ↔ (Kept-before × LowestSuch P n)
  means r n k to from = (
    λ e. let a = (answer_exactly (broken r n)).0 e in (k.0 a.earlier, (to n a.here, λ j b p. a.lowest j b (from j p))),
    λ (q, (b, l)). (answer_exactly (broken r n)).1 (record { here = from n b; lowest = λ j c p. l j c (to j p); earlier = k.1 q }),
  )

  pub rule_1 : (n : ℕ) → (cover_answer m images o ≡ broken 1 n) ↔ ((m.state ≢ o.state) × (n ≡ 0))
  rule_1 n = (
    λ e. by_state ((answer_exactly (broken 1 n)).0 e).here,
    λ (b, z).
        (answer_exactly (broken 1 n)).1
        (record { here = subst (B 1) (sym z) (wrong_state b); lowest = λ k c _. absurd (omega arith); earlier = none_before }),
  )

  pub rule_2 : (i : ℕ) → (cover_answer m images o ≡ broken 2 i) ↔ (SameState × LowestSuch (ImageTwice g h f) i)
  rule_2 i = means 2 i kept_2 (λ k. by_image) image_twice

  pub rule_3 : (v : ℕ) → (cover_answer m images o ≡ broken 3 v) ↔ ((SameState × Images g.Cell h.Cell f) × LowestSuch (VariableElsewhere g h f) v)
  rule_3 v = means 3 v kept_3 (λ k. by_variable) variable_elsewhere

  pub rule_4 : (i : ℕ)
      → (cover_answer m images o ≡ broken 4 i) ↔ ((SameState × Images g.Cell h.Cell f × Vars g.var h.var f) × LowestSuch (LinkMisses g h f) i)
  rule_4 i = means 4 i kept_4 (λ k. by_link) link_misses

  pub rule_5 : (i : ℕ)
      → (cover_answer m images o ≡ broken 5 i)
      ↔ ((SameState × Images g.Cell h.Cell f × Vars g.var h.var f × LinksMeet) × LowestSuch (SharedPath g h f) i)
  rule_5 i = means 5 i kept_5 (λ k. by_path) shared_path

  pub rule_6 : (i : ℕ)
      → (cover_answer m images o ≡ broken 6 i)
      ↔ ((SameState × Images g.Cell h.Cell f × Vars g.var h.var f × Paths g.Cell g.link h.link f) × LowestSuch (FactMissing g h f m.shape.facts) i)
  rule_6 i = means 6 i kept_6 (λ k. by_fact) fact_missing

-- ---- two cases that a test cell by cell would get wrong

abbrev four : Located
four = record { state = 0; shape = record { vars = []; links = 5 ∷ 5 ∷ 6 ∷ 0 ∷ []; facts = [] } }

abbrev linked : List ℕ → Located
linked links = record { state = 0; shape = record { vars = []; links = links; facts = [] } }

-- the lowest cell whose image another cell has too is 0, although the images of cells 1 and 2 are the first two that are seen to be the same
pub twice : cover_answer (linked (0 ∷ 0 ∷ 0 ∷ 0 ∷ [])) (3 ∷ 2 ∷ 2 ∷ 3 ∷ []) four ≡ broken 2 0
unfolding lowest all_from
twice = refl

-- cells 0 and 1 share a path and the link of cell 2 misses: the link counts first
pub misses : cover_answer (linked (5 ∷ 5 ∷ 1 ∷ [])) (0 ∷ 1 ∷ 3 ∷ []) four ≡ broken 4 2
unfolding lowest all_from
misses = refl
