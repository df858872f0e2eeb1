-- What is met, said by chains of links.
use mathlib.Core.List.{List}
use mathlib.Core.Logic.{◌↔◌, ◌⊎◌, inl, inr}
use mathlib.Core.Path.{◌≡◌}
use Prim.Native.Nat.{ℕ, zero, suc}
use Rattle.heap.specs.Heap.{Heap}
use Rattle.heap.specs.Follow.{follow}
use Rattle.graph.specs.Graph.{Chain}
use Rattle.graph.proofs.Follow.{follow_chain, chain_follow}
use Rattle.forbidden.specs.MetFrom.{MetFrom}

-- x stands at q, or a chain of links leads from there to q
pub met_by_chain : (h : Heap) (x q : ℕ) → MetFrom h x q ↔ ((h.var x ≡ q) ⊎ ((xs : List ℕ) × Chain h.link (h.var x) xs q))
met_by_chain h x q = (λ (k, e). out k e, into)
  where
    out : (k : ℕ) → follow h.link k (h.var x) ≡ q → (h.var x ≡ q) ⊎ ((xs : List ℕ) × Chain h.link (h.var x) xs q)
    out zero e = inl e
    out (suc k) e = inr (follow_chain h.link k (h.var x) q e)

    into : (h.var x ≡ q) ⊎ ((xs : List ℕ) × Chain h.link (h.var x) xs q) → MetFrom h x q
    into (inl e) = (0, e)
    into (inr (xs, r)) = let (k, z) = chain_follow h.link (h.var x) xs q r in (suc k, z)
