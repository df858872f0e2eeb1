-- What is not met in a graph is not met in one that it embeds in.
use mathlib.Core.List.Memᴰ
use mathlib.Core.Logic.{◌≢◌, ◌⊎◌, inl, inr}
use mathlib.Core.Path.{◌≡◌, refl, sym, ap, ◌∙◌, subst}
use Prim.Native.Nat.{ℕ, zero, suc}
use native.Mathlib.Decide.{ℕ_discrete}
use native.Mathlib.Omega.{arith}
use Rattle.lists.specs.List.{◌∈◌}
use Rattle.heap.specs.Place.{nowhere, null, dangling}
use Rattle.heap.specs.Follow.{follow}
use Rattle.graph.specs.Graph.{Graph, Embeds}
use Rattle.graph.proofs.Chain.{chain_step}
use Rattle.graph.proofs.Paths.{place_off_path}
use Rattle.graph.proofs.Proper.{Proper, IsPlace, Closed, link_low, image_somewhere, distinct_places}

-- R is a set of places of the graph g that following links does not leave, and each cell in it has a link. Then links in h lead from the image
-- of a place in R only to images of places in R, to what is between for them, and after # and * nowhere.
module _ (g h : Graph) (f : ℕ → ℕ) (wh : Proper h) (cl : Closed g) (e : Embeds g h f) (R : ℕ → Type 0) (places : (r : ℕ) → R r → IsPlace g r)
    (steps : (r : ℕ) → R r → g.Cell r → (g.link r ≢ nowhere) × R (g.link r)) where
  data Way (y : ℕ) : Type 0 where
    on_image : (r : ℕ) → R r → y ≡ f r → Way y
    on_path : (c : ℕ) → g.link c ≢ nowhere → R (g.link c) → y ∈ e.paths.between c → Way y
    off : y ≡ nowhere → Way y

  -- along the path for the link of c
  along : (c : ℕ) → g.link c ≢ nowhere → R (g.link c) → (y : ℕ) → (y ∈ e.paths.between c) ⊎ (y ≡ f (g.link c)) → Way y
  along c l r y (inl m) = on_path c l r m
  along c l r y (inr z) = on_image (g.link c) r z

  way_step : (y : ℕ) → Way y → Way (h.link y)
  way_step y (on_image r k z) = go (ℕ_discrete r null) (ℕ_discrete r dangling)
    where
      go : Dec (r ≡ null) → Dec (r ≡ dangling) → Way (h.link y)
      go (yes i) b = off (ap h.link (z ∙ ap f i ∙ e.images.null_fixed) ∙ link_low h wh null (omega arith))
      go (no a) (yes i) = off (ap h.link (z ∙ ap f i ∙ e.images.dangling_fixed) ∙ link_low h wh dangling (omega arith))
      go (no a) (no b) =
          let (l, k') = steps r k (places r k a b) in
          along r l k' (h.link y)
          (chain_step h.link (f r) (e.paths.between r) (f (g.link r)) (e.paths.path r l) y (Memᴰ.head z))
  way_step y (on_path c l r m) =
      along c l r (h.link y)
      (chain_step h.link (f c) (e.paths.between c) (f (g.link c)) (e.paths.path c l) y (Memᴰ.tail m))
  way_step y (off z) = off (ap h.link z ∙ link_low h wh nowhere (omega arith))

  way_follow : (k y : ℕ) → Way y → Way (follow h.link k y)
  way_follow zero y p = p
  way_follow (suc k) y p = way_follow k (h.link y) (way_step y p)

  -- the image of a place that is not in R is not met
  pub unmet : (p : ℕ) → IsPlace g p → ¬ R p → (r : ℕ) → R r → (k : ℕ) → follow h.link k (f r) ≢ f p
  unmet p s o r m k z = out (subst Way z (way_follow k (f r) (on_image r m refl)))
    where
      out : Way (f p) → ⊥
      out (on_image q n i) = o (subst R (sym (distinct_places g h f wh e.images p q s (places q n) i)) n)
      out (on_path c l n i) = place_off_path g h f wh cl e c l p s i
      out (off i) = image_somewhere g h f wh e.images p s i
