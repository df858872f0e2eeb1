-- The loop looks at the links in turn: the paths of those of the cells before i end where they should (`Passing`).
use mathlib.Core.List.{[]}
use mathlib.Core.Path.{◌∙◌, sym}
use native.Mathlib.Omega.{arith}
use Rattle.lists.proofs.Lowest.{pass_none, pass_all}
use Rattle.covering.proofs.Links.{walk_from, meet_skip, meet_more, meet_not}
use Rattle.covering.proofs.rules.link_misses.Goals as goal
use Rattle.covering.proofs.rules.link_misses.Goals.{then-p-ne0+else-stop_from-end, else-p-ne0}

pub loop-i-init : goal.loop-i-init
loop-i-init c = λ m p l. pass_none _ _

pub overflow_add-first : goal.overflow_add-first
overflow_add-first c = omega (arith, c.requires.2.inside)

pub bounds-cert-first : goal.bounds-cert-first
bounds-cert-first c = omega (arith, c.requires.2.inside)

pub bounds-images-i : goal.bounds-images-i
bounds-images-i c = omega (arith, c.requires.2.images.few)

pub bounds-s-from : goal.bounds-s-from
bounds-s-from c =
    let (m, p, l) = c.requires in
    let w = walk_from _ _ _ _ _ _ _ _ l c.loop-i.i (omega arith) _ c.wide-p.ensures.0 _ c.wide-from.ensures.0 [] _ l.marked in
    omega (arith, w.high, l.linked.fit)

pub returns-then-stop_from-end : goal.returns-then-stop_from-end
returns-then-stop_from-end c = λ m p l.
    let t = c.loop-i in
    sym (meet_not _ _ _ _ _ _ _ _ l t.i (t.invariant m p l) (omega arith) _ c.wide-p.ensures.0 _ c.wide-from.ensures.0 c.if-p-ne0.true _ (c.wide-end.ensures.0 ∙ c.image_of.ensures) _ _
    c.wide.ensures.0 c.stop_from.ensures c.if-stop_from-end.true)

pub loop-i-preserved : goal.loop-i-preserved
loop-i-preserved c = λ m p l.
    let t = c.loop-i in
    let e = c.wide-p.ensures.0 in
    elim c.if-p-ne0.branch [
      | then-p-ne0+else-stop_from-end w ↦
          meet_more _ _ _ _ _ _ _ _ l t.i (t.invariant m p l) (omega arith) _ e _ w.wide-from.ensures.0 w.if-p-ne0.true _ (w.wide-end.ensures.0 ∙ w.image_of.ensures) _ _ w.wide.ensures.0
          w.stop_from.ensures w.if-stop_from-end.false
      | else-p-ne0 w ↦ meet_skip _ _ _ _ _ _ _ _ l t.i (t.invariant m p l) (omega arith) _ e w.if-p-ne0.false
    ]

pub returns : goal.returns
returns c = λ m p l. sym (pass_all _ _ _ (c.loop-i.invariant m p l) (omega arith))
