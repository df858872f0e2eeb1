-- Following links, by lists of the places on the way.
use mathlib.Core.List.Memᴰ
use mathlib.Core.List.{List, [], ◌∷◌}
use mathlib.Core.Path.{◌≡◌, refl, sym, ap, ◌∙◌}
use Prim.Native.Nat.{ℕ, zero, suc}
use Rattle.lists.specs.List.{◌∈◌}
use Rattle.heap.specs.Follow.{follow}
use Rattle.graph.specs.Graph.{Chain}

-- Following links from p visits the places of the list, the first of which is p, and then q. With no place, p is q.
abbrev pub Visits : (ℕ → ℕ) → ℕ → List ℕ → ℕ → Type 0
Visits link p [] q = p ≡ q
Visits link p (c ∷ cs) q = (p ≡ c) × Visits link (link c) cs q

module _ (link : ℕ → ℕ) where
  pub visits_chain : (c : ℕ) (cs : List ℕ) (q : ℕ) → Visits link (link c) cs q → Chain link c cs q
  visits_chain c [] q e = e
  visits_chain c (d ∷ ds) q (e, r) = (e, visits_chain d ds q r)

  -- the end is met after some steps
  pub visits_end : (p : ℕ) (cs : List ℕ) (q : ℕ) → Visits link p cs q → (k : ℕ) × (follow link k p ≡ q)
  visits_end p [] q e = (0, e)
  visits_end p (c ∷ cs) q (e, r) = let (k, z) = visits_end (link c) cs q r in (suc k, ap (λ (y : ℕ). follow link k (link y)) e ∙ z)

  -- and so is each place on the way
  pub visits_met : (p : ℕ) (cs : List ℕ) (q c : ℕ) → Visits link p cs q → c ∈ cs → (k : ℕ) × (follow link k p ≡ c)
  visits_met p [] q c t m = absurd (Memᴰ.not-nil m)
  visits_met p (d ∷ ds) q c (e, r) (Memᴰ.head z) = (0, e ∙ sym z)
  visits_met p (d ∷ ds) q c (e, r) (Memᴰ.tail m) =
      let (k, z) = visits_met (link d) ds q c r m in
      (suc k, ap (λ (y : ℕ). follow link k (link y)) e ∙ z)

  -- at least one step is a chain
  pub follow_chain : (k p q : ℕ) → follow link k (link p) ≡ q → (xs : List ℕ) × Chain link p xs q
  follow_chain zero p q e = ([], e)
  follow_chain (suc k) p q e = let (xs, r) = follow_chain k (link p) q e in (link p ∷ xs, (refl, r))

  pub chain_follow : (p : ℕ) (xs : List ℕ) (q : ℕ) → Chain link p xs q → (k : ℕ) × (follow link k (link p) ≡ q)
  chain_follow p [] q e = (0, e)
  chain_follow p (x ∷ xs) q (e, r) = let (k, z) = chain_follow x xs q r in (suc k, ap (λ (y : ℕ). follow link k (link y)) e ∙ z)
