-- Which of the ready shapes a heap satisfies, by the walk from x.
use mathlib.Core.List.Memᴰ
use mathlib.Core.List.{List, [], ◌∷◌, ◌++◌, append_assoc}
use mathlib.Core.Logic.{◌≢◌}
use mathlib.Core.Path.{◌≡◌, refl, sym, ap, ◌∙◌, subst}
use Prim.Native.Nat.{ℕ, ◌≤◌}
use Rattle.lists.specs.List.{◌∈◌, Distinct}
use Rattle.lists.proofs.List.{every_none, cut}
use Rattle.heap.specs.Heap.{Heap, IsCell}
use Rattle.heap.specs.Place.{cell}
use Rattle.graph.specs.Graph.{Chain}
use Rattle.graph.proofs.Chain.{chain_left, chain_right}
use Rattle.graph.proofs.Follow.{Visits, visits_chain}
use Rattle.shape.specs.Shape.{Shape, Satisfies}
use Rattle.run.specs.WellFormed.{WellFormed}
use Rattle.forbidden.specs.Sets.{only, standing_at, linked, ending, looping}
use Rattle.forbidden.proofs.Only.{only_vars}
use Rattle.shape.proofs.Segments.{Segment, flat, image, Leads, segments_embed}

-- a heap satisfies one of the shapes with loose cells, whose links `none` are all nowhere
abbrev pub Fits : Heap → List ℕ → List Shape → Type 0
Fits h none list = (s : Shape) × (s ∈ list) × Satisfies h (record { vars = s.vars; links = s.links ++ none; facts = s.facts })

-- `loose` are the segments of the loose cells. For one loose cell and for none this is said once.
module _ (h : Heap) (n : ℕ) (w : WellFormed n h) (x : ℕ) (x≢0 : x ≢ 0) (x≤n : x ≤ n) (loose : List Segment) (none : List ℕ)
    (unlinked : (f : ℕ → ℕ) → Leads h.link f none loose) where
  -- x stands at p, and the cells have these segments
  fits : (p : ℕ) (links : List ℕ) (ss : List Segment) → h.var x ≡ image ss p → Distinct (flat ss) → ((c : ℕ) → c ∈ flat ss → IsCell h c)
      → Leads h.link (image ss) (links ++ none) ss → Satisfies h (record { vars = only n x p; links = links ++ none; facts = [] })
  fits p links ss e d c l = (
    image ss,
    segments_embed h (record { vars = only n x p; links = links ++ none; facts = [] }) ss d c l
        (only_vars n x p x≢0 x≤n h.var (image ss) w.null_fixed refl e) (every_none _),
  )

  -- the walk ends at p, which is # or *
  pub ended : (p : ℕ) → ((ss : List Segment) → image ss p ≡ p) → (cs : List ℕ) → Visits h.link (h.var x) cs p → Distinct (cs ++ flat loose)
      → ((c : ℕ) → c ∈ (cs ++ flat loose) → IsCell h c) → Fits h none (ending n x p)
  ended p fx [] t d k = (standing_at n x p, Memᴰ.head refl, fits p [] loose (t ∙ sym (fx loose)) d k (unlinked (image loose)))
  ended p fx (c ∷ cs) (e, t) d k =
      let ss : List Segment = record { first = c; rest = cs } ∷ loose in (
        linked n x (p ∷ []),
        Memᴰ.tail (Memᴰ.head refl),
        fits (cell 0) (p ∷ []) ss e d k
            (λ _. subst (Chain h.link c cs) (sym (fx ss)) (visits_chain h.link c cs p t), unlinked (image ss)),
      )

  -- the walk comes back to q
  pub looped : (cs : List ℕ) (q : ℕ) → q ∈ cs → Visits h.link (h.var x) cs q → Distinct (cs ++ flat loose)
      → ((c : ℕ) → c ∈ (cs ++ flat loose) → IsCell h c) → Fits h none (looping n x)
  looped [] q m t d k = absurd (Memᴰ.not-nil m)
  looped (c ∷ cs) q (Memᴰ.head z) (e, t) d k =
      let ss : List Segment = record { first = c; rest = cs } ∷ loose in (
        linked n x (cell 0 ∷ []),
        Memᴰ.head refl,
        fits (cell 0) (cell 0 ∷ []) ss e d k (λ _. subst (Chain h.link c cs) z (visits_chain h.link c cs q t), unlinked (image ss)),
      )
  looped (c ∷ cs) q (Memᴰ.tail m) (e, t) d k =
      let (us, vs, z) = cut m in
      let ss : List Segment = record { first = c; rest = us } ∷ record { first = q; rest = vs } ∷ loose in
      let whole : Chain h.link c (us ++ (q ∷ vs)) q = subst (λ (l : List ℕ). Chain h.link c l q) z (visits_chain h.link c cs q t) in
      let same : c ∷ (cs ++ flat loose) ≡ flat ss =
      ap (λ (l : List ℕ). c ∷ (l ++ flat loose)) z ∙ ap (λ (l : List ℕ). c ∷ l) (append_assoc us (q ∷ vs) (flat loose)) in (
        linked n x (cell 1 ∷ cell 1 ∷ []),
        Memᴰ.tail (Memᴰ.head refl),
        fits (cell 0) (cell 1 ∷ cell 1 ∷ []) ss e (subst Distinct same d) (λ y i. k y (subst (λ (l : List ℕ). y ∈ l) (sym same) i))
            (λ _. chain_left h.link c us q vs q whole, (λ _. chain_right h.link c us q vs q whole, unlinked (image ss))),
      )
