-- The loop follows the paths in turn, as `follow_paths` does. The image of a place that the member has is an end, so what is met there is one. A link
-- that stands there at once is a path of one step (`follow_direct`).
use mathlib.Core.Path.{refl, sym, ◌∙◌}
use native.Mathlib.Omega.{arith}
use Rattle.covering.proofs.Follow.{follow_direct}
use Rattle.covering.proofs.Images.{image_read, image_stops}
use Rattle.covering.proofs.Links.{fit_none, fit_all, fit_skip, fit_walk, fit_walked, walked_few, fit_good}
use Rattle.covering.proofs.quick.quick_links.Goals as goal
use Rattle.covering.proofs.quick.quick_links.Goals.{then-p-ne0+else-count-p+then-s-from, then-p-ne0+else-count-p+else-s-from+else-met-wide, else-p-ne0}

pub loop-i-init : goal.loop-i-init
loop-i-init c = λ m p l. fit_none _ _ _ _ _ _ _ _ l

pub overflow_add-first : goal.overflow_add-first
overflow_add-first c = omega (arith, c.requires.2.inside)

pub bounds-cert-first : goal.bounds-cert-first
bounds-cert-first c = omega (arith, c.requires.2.inside)

pub overflow_add-count : goal.overflow_add-count
overflow_add-count c = omega (arith, c.requires.2.images.few)

pub bounds-images-i : goal.bounds-images-i
bounds-images-i c = omega (arith, c.requires.2.images.few)

-- the image of the cell is one of the covered shape
pub bounds-s-from : goal.bounds-s-from
bounds-s-from c =
    let (m, p, l) = c.requires in
    let w = fit_walk _ _ _ _ _ _ _ _ l _ _ _ (c.loop-i.invariant m p l) (omega arith) _ c.wide-p.ensures.0 _ c.wide-from.ensures.0 in
    omega (arith, w.high, l.linked.fit)

pub bounds-images-p : goal.bounds-images-p
bounds-images-p c = omega (arith, c.requires.2.images.few)

pub overflow_add-links : goal.overflow_add-links
overflow_add-links c =
    let (m, p, l) = c.requires in
    omega (arith, (c.loop-i.invariant m p l).few, l.images.few)

pub bounds-s-from-else-s-from : goal.bounds-s-from-else-s-from
bounds-s-from-else-s-from c =
    let (m, p, l) = c.requires in
    let w = fit_walk _ _ _ _ _ _ _ _ l _ _ _ (c.loop-i.invariant m p l) (omega arith) _ c.wide-p.ensures.0 _ c.wide-from.ensures.0 in
    omega (arith, w.high, l.linked.fit)

pub bounds-images-p-else-s-from : goal.bounds-images-p-else-s-from
bounds-images-p-else-s-from c = omega (arith, c.requires.2.images.few)

-- each of at most 12 walks adds at most 29
pub overflow_add-links-else-s-from : goal.overflow_add-links-else-s-from
overflow_add-links-else-s-from c =
    let (m, p, l) = c.requires in
    let f = c.loop-i.invariant m p l in
    let most = walked_few _ _ _ _ _ _ _ _ l _ _ _ f _ _ c.walk-met.ensures.1 in
    omega (arith, f.few, most, l.images.few)

pub loop-i-preserved : goal.loop-i-preserved
loop-i-preserved c = λ m p l.
    let f = c.loop-i.invariant m p l in
    let e = c.wide-p.ensures.0 in
    let images = c.args.images.now in
    let q = c.wide-p.result in
    elim c.if-p-ne0.branch [
      | then-p-ne0+else-count-p+then-s-from w ↦
          let b = w.if-count-p.false in
          let s = w.wide-from.ensures.0 in
          let stop = image_stops _ _ images l.images q (omega (arith, b)) in
          let read = image_read images q (omega (arith, b, l.images.few)) in
          let walking = fit_walk _ _ _ _ _ _ _ _ l _ _ _ f (omega arith) _ e _ s in
          let v = follow_direct _ _ _ _ _ _ walking _ (w.if-s-from.true ∙ sym read) stop in
          rw (w.marks-is, w.links-is) (fit_good _ _ _ _ _ _ _ _ l _ _ _ f (omega arith) _ e _ s w.if-p-ne0.true _ refl _ _ _ v refl stop (omega arith))
      | then-p-ne0+else-count-p+else-s-from+else-met-wide w ↦
          let b = w.if-count-p.false in
          let s = w.wide-from.ensures.0 in
          let x = w.walk-met.ensures in
          let t = w.wide-else-s-from.ensures.0 in
          let z = w.if-met-wide.false in
          let v = fit_walked _ _ _ _ _ _ _ _ l _ _ _ f (omega arith) _ e _ s _ _ _ _ w.wide.ensures.0 x.0 x.1 x.2 in
          let most = walked_few _ _ _ _ _ _ _ _ l _ _ _ f _ _ x.1 in
          let stop = image_stops _ _ images l.images q (omega (arith, b)) in
          let read = image_read images q (omega (arith, b, l.images.few)) in
          rw (w.marks-is, w.links-is)
          (fit_good _ _ _ _ _ _ _ _ l _ _ _ f (omega arith) _ e _ s w.if-p-ne0.true _ (t ∙ sym read) _ _ _ v z
          (rw (z, t, ← read) stop) most)
      | else-p-ne0 w ↦ rw w.links-is (fit_skip _ _ _ _ _ _ _ _ l _ _ _ f (omega arith) _ e _ w.marks-is w.if-p-ne0.false)
    ]

pub returns : goal.returns
returns c = λ m p l. fit_all _ _ _ _ _ _ _ _ l _ _ _ (c.loop-i.invariant m p l) (omega arith)
