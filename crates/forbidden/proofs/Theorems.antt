-- THE READY SHAPES say what they are for.
use mathlib.Core.List.Memᴰ
use mathlib.Core.List.{List, [], ◌∷◌, ◌++◌, append-nil}
use mathlib.Core.Logic.{◌≢◌, ◌↔◌, ◌⊎◌, inl, inr}
use mathlib.Core.Path.{refl, sym, ◌∙◌, subst}
use Prim.Native.Nat.{ℕ, ◌≤◌}
use native.Mathlib.Omega.{arith}
use Rattle.lists.specs.List.{◌∈◌, Distinct}
use Rattle.lists.proofs.List.{mem?, distinct_snoc}
use Rattle.heap.specs.Heap.{Heap, IsCell}
use Rattle.heap.specs.Place.{nowhere, null, dangling, cell}
use Rattle.graph.proofs.Follow.{visits_end, visits_met}
use Rattle.shape.specs.Placing.{grow}
use Rattle.shape.specs.Shape.{Shape, size, Satisfies, SatisfiesOne}
use Rattle.shape.proofs.Laws.{length_snoc, link_unlinked}
use Rattle.run.specs.WellFormed.{WellFormed}
use Rattle.forbidden.specs.MetFrom.{MetFrom}
use Rattle.forbidden.specs.Sets.{ending, looping, not_list_shapes, lost_block_shapes}
use Rattle.forbidden.proofs.Bases.{Base, four_base, six_base, base_unmet}
use Rattle.forbidden.proofs.Fits.{Fits, ended, looped}
use Rattle.shape.proofs.Segments.{Segment, flat, Leads}
use Rattle.forbidden.proofs.Walk.{Last, at_null, at_dangling, back, back_before, Walk, walk_from}

module _ (h : Heap) (n : ℕ) (w : WellFormed n h) (x : ℕ) (x≢0 : x ≢ 0) (x≤n : x ≤ n) where
  -- ---- from what is met to the shape

  -- the walk from x shows which shape fits: one of the four, or x leads to #
  module _ (loose : List Segment) (none : List ℕ) (unlinked : (f : ℕ → ℕ) → Leads h.link f none loose) (r : Walk h (h.var x) [])
      (d : Distinct (r.met ++ flat loose)) (k : (c : ℕ) → c ∈ (r.met ++ flat loose) → IsCell h c) where
    by_walk : Fits h none (not_list_shapes n x) ⊎ (MetFrom h x null × Fits h none (ending n x null))
    by_walk = go r.last
      where
        go : Last r.end r.met [] → Fits h none (not_list_shapes n x) ⊎ (MetFrom h x null × Fits h none (ending n x null))
        go (at_null e) =
            let t = rw e at r.visits in
            inr (visits_end h.link (h.var x) r.met null t, ended h n w x x≢0 x≤n loose none unlinked null (λ ss. refl) r.met t d k)
        go (at_dangling e) =
            let (s, m, q) = ended h n w x x≢0 x≤n loose none unlinked dangling (λ ss. refl) r.met (rw e at r.visits) d k in
            inl (s, Memᴰ.append_left (looping n x) m, q)
        go (back m) =
            let (s, m, q) = looped h n w x x≢0 x≤n loose none unlinked r.met r.end m r.visits d k in
            inl (s, Memᴰ.append_right (ending n x dangling) m, q)
        go (back_before m) = absurd (Memᴰ.not-nil m)

  pub four_or_met : SatisfiesOne h (not_list_shapes n x) ⊎ MetFrom h x null
  four_or_met = go (by_walk [] [] (λ f. tt) r (rw (append-nil r.met) r.distinct) (rw (append-nil r.met) r.cells))
    where
      r : Walk h (h.var x) []
      r = walk_from h n w x x≤n

      go : Fits h [] (not_list_shapes n x) ⊎ (MetFrom h x null × Fits h [] (ending n x null)) → SatisfiesOne h (not_list_shapes n x) ⊎ MetFrom h x null
      go (inl (s, m, q)) = inl (s, m, subst (λ (l : List ℕ). Satisfies h (record { vars = s.vars; links = l; facts = s.facts })) (append-nil s.links) q)
      go (inr (m, q)) = inr m

  pub six_or_met : (c : ℕ) → IsCell h c → SatisfiesOne h (lost_block_shapes n x) ⊎ MetFrom h x c
  six_or_met c k = go (mem? c r.met)
    where
      r : Walk h (h.var x) []
      r = walk_from h n w x x≤n

      loose : List Segment
      loose = record { first = c; rest = [] } ∷ []

      unlinked : (f : ℕ → ℕ) → Leads h.link f (nowhere ∷ []) loose
      unlinked f = (λ z. absurd (z refl), tt)

      cells : (y : ℕ) → (y ∈ r.met) ⊎ (y ∈ (c ∷ [])) → IsCell h y
      cells y (inl m) = r.cells y m
      cells y (inr m) = subst (IsCell h) (sym (Memᴰ.eq_of_singleton m)) k

      one : Fits h (nowhere ∷ []) (not_list_shapes n x) ⊎ (MetFrom h x null × Fits h (nowhere ∷ []) (ending n x null)) → SatisfiesOne h (lost_block_shapes n x)
      one (inl (s, m, q)) = (grow s, Memᴰ.map grow (Memᴰ.append_left (ending n x null) m), q)
      one (inr (_, (s, m, q))) = (grow s, Memᴰ.map grow (Memᴰ.append_right (not_list_shapes n x) m), q)

      go : Dec (c ∈ r.met) → SatisfiesOne h (lost_block_shapes n x) ⊎ MetFrom h x c
      go (yes m) = inr (visits_met h.link (h.var x) r.met r.end c r.visits m)
      go (no o) =
          inl (one
          (by_walk loose (nowhere ∷ []) unlinked r (distinct_snoc r.met c r.distinct o)
          (λ y m. cells y (Memᴰ.append_cases r.met m))))

  -- ---- from the shape to what is not met

  four_unmet : SatisfiesOne h (not_list_shapes n x) → ¬ MetFrom h x null
  four_unmet (s, m, (f, e)) = λ (k, z).
      base_unmet h n w x x≢0 x≤n null s (four_base n x null (omega arith) (omega arith) s m) s.links (omega arith) (λ c. refl) f e
      (λ a b. absurd (a refl)) (k, z ∙ sym e.images.null_fixed)

  -- the loose cell is the last
  loose_unmet : (s : Shape) → Base n x nowhere s → Satisfies h (grow s) → (c : ℕ) × IsCell h c × (¬ MetFrom h x c)
  loose_unmet s b (f, e) =
      let k = length_snoc s.links nowhere in (
        f (cell (size s)),
        e.images.cells (cell (size s)) (omega arith, omega arith),
        base_unmet h n w x x≢0 x≤n (cell (size s)) s
            (record { place = b.place; only_x = b.only_x; inside = λ r m. let i = b.inside r m in omega arith; small = b.small; no_facts = b.no_facts })
            (s.links ++ (nowhere ∷ [])) (omega arith) (link_unlinked s.links) f e (λ _ _. (omega arith, omega arith)),
      )

  six_unmet : SatisfiesOne h (lost_block_shapes n x) → (c : ℕ) × IsCell h c × (¬ MetFrom h x c)
  six_unmet (t, m, q) =
      let (s, k, z) = Memᴰ.of_map grow (not_list_shapes n x ++ ending n x null) m in
      loose_unmet s (six_base n x s k) (subst (Satisfies h) (sym z) q)

  -- "A heap satisfies one of the four exactly if # isn't met by following links from x (x at # counts as met),"
  pub not_list : SatisfiesOne h (not_list_shapes n x) ↔ ¬ MetFrom h x null
  not_list = (four_unmet, λ o. go o four_or_met)
    where
      go : ¬ MetFrom h x null → SatisfiesOne h (not_list_shapes n x) ⊎ MetFrom h x null → SatisfiesOne h (not_list_shapes n x)
      go o (inl s) = s
      go o (inr m) = absurd (o m)

  -- "and one of the six exactly if some cell isn't met so."
  pub lost_block : SatisfiesOne h (lost_block_shapes n x) ↔ ((c : ℕ) × IsCell h c × (¬ MetFrom h x c))
  lost_block = (six_unmet, λ (c, k, o). go c o (six_or_met c k))
    where
      go : (c : ℕ) → ¬ MetFrom h x c → SatisfiesOne h (lost_block_shapes n x) ⊎ MetFrom h x c → SatisfiesOne h (lost_block_shapes n x)
      go c o (inl s) = s
      go c o (inr m) = absurd (o m)
