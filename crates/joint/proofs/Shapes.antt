-- The shapes of two entries by their bytes.
use mathlib.Core.Bool.{Bool, true, false, ◌&&◌, not}
use mathlib.Core.List.{List, ◌∷◌}
use mathlib.Core.Path.{◌≡◌, refl, sym, ap₂, ◌∙◌}
use Prim.Native.Nat.{ℕ, ◌+◌, ◌≤◌}
use lib.Dec.{eqb}
use lib.ListN.{get_or, take, drop}
use lib.Pointwise.{pointwise}
use Rattle.shape.specs.Shape.{Shape}
use Rattle.run.specs.Run.{Located}
use Rattle.layout.specs.Entries.{located_at, EntryInRange}
use Rattle.layout.specs.Loading.{entry_facts}
use Rattle.layout.proofs.Facts.{facts_listed, facts_in_threes}
use Rattle.layout.proofs.Whole.{entry_whole}
use Rattle.joining.specs.Join.{same_numbers, same_facts, same_shape}
use Rattle.joint.specs.Answer.{listed_among}
use Rattle.joint.proofs.Same.{same_slices, slices_differ, slices_same, same_listed}

module _
    (bytes : List ℕ)
    (at : ℕ)
    (others : List ℕ)
    (other : ℕ)
    (variables : ℕ)
    (entry : EntryInRange bytes variables at)
    (entry₂ : EntryInRange others variables other)
    (few : variables ≤ 8)
  where
    abbrev s : Shape
    s = (located_at bytes variables at).shape

    abbrev t : Shape
    t = (located_at others variables other).shape

    -- what is told of the bytes where their variables stand, then of those of their links, then of those of their facts
    module _ (a b : ℕ) (a_is : a ≡ variables) (b_is : b ≡ variables) (vars : Bool) (vars-told : vars ≡ not (pointwise eqb (take a (drop (at + 2) bytes)) (take b (drop (other + 2) others)))) where
      vars_are : same_numbers (take a (drop (at + 2) bytes)) (take b (drop (other + 2) others)) ≡ same_numbers s.vars t.vars
      vars_are = rw (a_is, b_is) refl

      pub vars_differ : vars ≡ true → false ≡ same_shape s t
      vars_differ e = rw (sym vars_are ∙ slices_differ (take a (drop (at + 2) bytes)) (take b (drop (other + 2) others)) vars vars-told e) refl

      module _
          (same-vars : vars ≡ false)
          (m n : ℕ)
          (m_is : m ≡ get_or bytes (at + 1) 0)
          (n_is : n ≡ get_or others (other + 1) 0)
          (links : Bool)
          (links-told : links ≡ not (pointwise eqb (take m (drop (at + 2 + variables) bytes)) (take n (drop (other + 2 + variables) others))))
        where
          links_are : same_numbers (take m (drop (at + 2 + variables) bytes)) (take n (drop (other + 2 + variables) others)) ≡ same_numbers s.links t.links
          links_are = rw (m_is, n_is) refl

          pub links_differ : links ≡ true → false ≡ same_shape s t
          links_differ e =
              rw (
                sym vars_are ∙ slices_same (take a (drop (at + 2) bytes)) (take b (drop (other + 2) others)) vars vars-told same-vars,
                sym links_are ∙ slices_differ (take m (drop (at + 2 + variables) bytes)) (take n (drop (other + 2 + variables) others)) links links-told e,
              ) refl

          pub facts_tell : links ≡ false → (facts : Bool) → facts ≡ pointwise eqb (entry_facts bytes variables at) (entry_facts others variables other)
              → facts ≡ same_shape s t
          facts_tell e facts told =
              let w = entry_whole bytes variables at entry few in
              let w₂ = entry_whole others variables other entry₂ few in
              let (k, ks) = facts_in_threes bytes variables at w in
              let (l, ls) = facts_in_threes others variables other w₂ in
              told ∙ same_slices (entry_facts bytes variables at) (entry_facts others variables other)
              ∙ same_listed (entry_facts bytes variables at) (entry_facts others variables other) k l ks ls
              ∙ ap₂ same_facts (sym (facts_listed bytes variables at w)) (sym (facts_listed others variables other w₂))
              ∙ (rw (
                sym vars_are ∙ slices_same (take a (drop (at + 2) bytes)) (take b (drop (other + 2) others)) vars vars-told same-vars,
                sym links_are ∙ slices_same (take m (drop (at + 2 + variables) bytes)) (take n (drop (other + 2 + variables) others)) links links-told e,
              ) refl)

-- ---- a list that begins with a shape

module _ (state : ℕ) (s : Shape) (bad : Located) (bads : List Located) where
  pub listed_here : (eqb bad.state state && same_shape bad.shape s) ≡ true → true ≡ listed_among state (bad ∷ bads) s
  listed_here e = rw e refl

  pub listed_later : (eqb bad.state state && same_shape bad.shape s) ≡ false → listed_among state bads s ≡ listed_among state (bad ∷ bads) s
  listed_later e = rw e refl
