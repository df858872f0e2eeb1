-- The ready shapes are shapes of a job: n variables, at most three cells, every place in range.
use mathlib.Core.List.Memᴰ
use mathlib.Core.List.{
  [],
  ◌∷◌,
  ◌++◌,
}
use mathlib.Core.Logic.{◌≢◌, ◌⊎◌, inl, inr}
use mathlib.Core.Path.{◌≡◌, refl, sym, ap, ◌∙◌, subst}
use Prim.Native.Nat.{ℕ, ◌≤◌, ◌<◌}
use native.Mathlib.Omega.{arith}
use lib.ListN.{length}
use Rattle.lists.specs.List.{◌∈◌}
use Rattle.lists.proofs.List.{every_none}
use Rattle.heap.specs.Place.{nowhere, null, cell}
use Rattle.facts.specs.Facts.{FactOf, FactsOf}
use Rattle.shape.specs.Placing.{grow}
use Rattle.shape.specs.Shape.{Shape, size, AllBelow, InRange}
use Rattle.shape.proofs.Laws.{length_snoc}
use Rattle.forbidden.specs.Sets.{standing_at, ending, not_list_shapes, lost_block_shapes}
use Rattle.forbidden.proofs.Bases.{Base, six_base, standing_base}
use Rattle.forbidden.proofs.Only.{only_below, only_length}

-- in range, and without facts
abbrev pub Plain : ℕ → ℕ → Shape → Type 0
Plain n most s = InRange n most s × (s.facts ≡ [])

module _ (n x most : ℕ) (x≢0 : x ≢ 0) (x≤n : x ≤ n) (room : 3 ≤ most) where
  base_in_range : (s : Shape) → Base n x nowhere s → InRange n most s
  base_in_range s b =
      record {
        variables_number = ap length b.only_x ∙ only_length n x b.place;
        cells = let k = b.small in omega arith;
        vars = subst (AllBelow (cell (size s))) (sym b.only_x)
            (only_below n x b.place x≢0 x≤n (cell (size s)) (b.inside b.place (Memᴰ.head refl)).1);
        links = λ r m. (b.inside r (Memᴰ.tail m)).1;
        facts = subst (FactsOf (size s)) (sym b.no_facts) (every_none (FactOf (size s)));
      }

  -- and with a loose cell
  grown_in_range : (s : Shape) → Base n x nowhere s → InRange n most (grow s)
  grown_in_range s b =
      let k = length_snoc s.links nowhere in
      let i = base_in_range s b in
      record {
        variables_number = i.variables_number;
        cells = let j = b.small in omega arith;
        vars = λ r m. let j = i.vars r m in omega arith;
        links = λ r m. below r (Memᴰ.append_cases s.links m);
        facts = subst (FactsOf (size (grow s))) (sym b.no_facts) (every_none (FactOf (size (grow s))));
      }
    where
      below : (r : ℕ) → (r ∈ s.links) ⊎ (r ∈ (nowhere ∷ [])) → r < cell (size (grow s))
      below r (inl m) = let j = b.inside r (Memᴰ.tail m) in omega (arith, length_snoc s.links nowhere)
      below r (inr m) = let e = Memᴰ.eq_of_singleton m in omega arith

  pub not_list_in_range : (s : Shape) → s ∈ not_list_shapes n x → Plain n most s
  not_list_in_range s m = let b = six_base n x s (Memᴰ.append_left (ending n x null) m) in (base_in_range s b, b.no_facts)

  pub lost_in_range : (s : Shape) → s ∈ lost_block_shapes n x → Plain n most s
  lost_in_range t m =
      let (s, k, z) = Memᴰ.of_map grow (not_list_shapes n x ++ ending n x null) m in
      let b = six_base n x s k in
      subst (Plain n most) z (grown_in_range s b, b.no_facts)

  -- p is # or *
  pub standing_in_range : (p : ℕ) → nowhere < p → p < cell 0 → Plain n most (standing_at n x p)
  standing_in_range p a b = (base_in_range (standing_at n x p) (standing_base n x p a b), refl)
