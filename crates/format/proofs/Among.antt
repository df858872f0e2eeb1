-- Covers by tests of the covered shape's facts that tell the same read the same. What is tested of its own facts is told by the test alone.
use mathlib.Core.Bool.{Bool, ◌&&◌, ◌||◌, not}
use mathlib.Core.List.{List, [], ◌∷◌}
use mathlib.Core.Path.{◌≡◌, refl, ap, ap₂}
use Prim.Native.Nat.{ℕ}
use lib.Dec.{eqb}
use lib.ListN.{get_elem?}
use Rattle.lists.specs.List.{all_of}
use Rattle.lists.specs.Test.{lowest}
use Rattle.lists.proofs.Lowest.{lowest_same}
use Rattle.heap.specs.Place.{cell}
use Rattle.facts.specs.Facts.{Fact}
use Rattle.shape.specs.Shape.{Shape, size}
use Rattle.run.specs.Run.{Located}
use Rattle.backward.specs.Predecessors.{with_facts}
use Rattle.cover.specs.Test.{fact_in, facts_in, holds, or_else, of_states, of_variables, image_once, var_fits, link_meets, path_unshared, answer_by, links_followed}
use Rattle.format.specs.Certificate.{judge, read_cover_by}
use Rattle.format.specs.Parser.{Parsed, parsed, fault, onward, many, Buffer, read_as, ranged}

module _ (among among' : ℕ → ℕ → ℕ → Bool) (same : (k p q : ℕ) → among k p q ≡ among' k p q) where
  module _ (m : Located) (images : List ℕ) (o : Located) where
    facts_among : (i : ℕ) (l : List Fact)
        → all_of (λ t. not (eqb t.left (cell i)) || fact_in m.shape o.shape images among t) l
        ≡ all_of (λ t. not (eqb t.left (cell i)) || fact_in m.shape o.shape images among' t) l
    facts_among i [] = refl
    facts_among i (t ∷ ts) = ap₂ (λ (x y : Bool). (not (eqb t.left (cell i)) || x) && y) (same _ _ _) (facts_among i ts)

    pub answer_among : answer_by among m images o ≡ answer_by among' m images o
    answer_among =
        ap
        (λ r.
        or_else 1 (lowest 1 0 (of_states m o).test)
        (or_else 2 (lowest (size m.shape) 0 (image_once m.shape o.shape images))
        (or_else 3 (lowest (of_variables m.shape (var_fits m.shape o.shape images)).number 1 (var_fits m.shape o.shape images))
        (or_else 4 (lowest (size m.shape) 0 (link_meets m.shape o.shape images))
        (or_else 5 (lowest (size m.shape) 0 (path_unshared m.shape o.shape images)) (or_else 6 r holds))))))
        (lowest_same (facts_in m.shape o.shape images among) (facts_in m.shape o.shape images among') (size m.shape) 0
        (λ i _ _. facts_among i m.shape.facts))

  pub cover_among : (s : Buffer) (ms : List Located) (o : Located) (at : ℕ) → read_cover_by s among ms o at ≡ read_cover_by s among' ms o at
  unfolding read_cover_by
  cover_among s ms o at = go (read_as s (get_elem? ms) at)
    where
      judged : Located → (ℕ → ℕ → ℕ → Bool) → List ℕ → ℕ → Parsed ℕ
      judged m test images = judge (answer_by test m images o) (links_followed m.shape o.shape images) at

      second : (m : Located) (r : Parsed (List ℕ)) → onward r (judged m among) ≡ onward r (judged m among')
      second m (parsed images next) = ap (λ a. judge a (links_followed m.shape o.shape images) at next) (answer_among m images o)
      second m (fault why place) = refl

      go : (r : Parsed Located)
          → onward r (λ m a. onward (many (size m.shape) (ranged s 0 (size o.shape)) a) (judged m among))
          ≡ onward r (λ m a. onward (many (size m.shape) (ranged s 0 (size o.shape)) a) (judged m among'))
      go (parsed m next) = second m (many (size m.shape) (ranged s 0 (size o.shape)) next)
      go (fault why place) = refl

-- the covered shape's own facts are not looked at
pub cover_bare : (s : Buffer) (among : ℕ → ℕ → ℕ → Bool) (ms : List Located) (state : ℕ) (t : Shape) (at : ℕ)
    → read_cover_by s among ms (record { state = state; shape = with_facts t [] }) at ≡ read_cover_by s among ms (record { state = state; shape = t }) at
unfolding read_cover_by
cover_bare s among ms state t at = refl
