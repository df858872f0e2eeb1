-- The loop follows the paths of the links in turn: those of the cells before i fit, are marked, and their links are counted (`Fitting`).
use Prim.Native.Nat.{ℕ}
use mathlib.Core.Bool.{true, false}
use mathlib.Core.Path.{◌≡◌, ◌∙◌, sym}
use native.Mathlib.Omega.{arith}
use Rattle.covering.proofs.Links.{fit_none, fit_all, fit_skip, fit_walk, fit_walked, walked_few, fit_good, fit_bad, is_a_stop, told_a_stop}
use Rattle.covering.proofs.fitting.follow_paths.Goals as goal
use Rattle.covering.proofs.fitting.follow_paths.Goals.{then-p-ne0+else-met-end+else-not-is_stop, else-p-ne0}

pub loop-i-init : goal.loop-i-init
loop-i-init c = λ m p l. fit_none _ _ _ _ _ _ _ _ l

pub overflow_add-first : goal.overflow_add-first
overflow_add-first c = omega (arith, c.requires.2.inside)

pub bounds-cert-first : goal.bounds-cert-first
bounds-cert-first c = omega (arith, c.requires.2.inside)

pub bounds-images-i : goal.bounds-images-i
bounds-images-i c = omega (arith, c.requires.2.images.few)

-- the image of the cell is one of the covered shape
pub bounds-s-from : goal.bounds-s-from
bounds-s-from c =
    let (m, p, l) = c.requires in
    let walking = fit_walk _ _ _ _ _ _ _ _ l _ _ _ (c.loop-i.invariant m p l) (omega arith) _ c.wide-p.ensures.0 _ c.wide-from.ensures.0 in
    omega (arith, walking.high, l.linked.fit)

-- where the path does not end as it should, its cell is the one told
pub returns-then-met-end : goal.returns-then-met-end
returns-then-met-end c = λ m p l.
    let f = c.loop-i.invariant m p l in
    let e = c.wide-p.ensures.0 in
    let s = c.wide-from.ensures.0 in
    let x = c.walk-met.ensures in
    let met = fit_walked _ _ _ _ _ _ _ _ l _ _ _ f (omega arith) _ e _ s _ _ _ _ c.wide.ensures.0 x.0 x.1 x.2 in
    fit_bad _ _ _ _ _ _ _ _ l _ _ _ f (omega arith) _ e _ s c.if-p-ne0.true _ (c.wide-end.ensures.0 ∙ c.image_of.ensures) _ _ _ met (λ _. c.if-met-end.true)

pub returns-then-not-is_stop : goal.returns-then-not-is_stop
returns-then-not-is_stop c = λ m p l.
    let f = c.loop-i.invariant m p l in
    let e = c.wide-p.ensures.0 in
    let s = c.wide-from.ensures.0 in
    let x = c.walk-met.ensures in
    let met = fit_walked _ _ _ _ _ _ _ _ l _ _ _ f (omega arith) _ e _ s _ _ _ _ c.wide.ensures.0 x.0 x.1 x.2 in
    fit_bad _ _ _ _ _ _ _ _ l _ _ _ f (omega arith) _ e _ s c.if-p-ne0.true _ (c.wide-end.ensures.0 ∙ c.image_of.ensures) _ _ _ met
    (λ stop _.
    let no : true ≡ false = sym (told_a_stop _ _ _ _ _ _ _ _ l _ _ (met.stop_marked stop)) ∙ sym c.is_stop.ensures ∙ c.if-not-is_stop.true in
    let one : ◌≡◌ {A = ℕ} 0 1 = cc in
    omega arith)

-- each of at most 12 walks adds at most 29
pub overflow_add-links : goal.overflow_add-links
overflow_add-links c =
    let (m, p, l) = c.requires in
    let f = c.loop-i.invariant m p l in
    let most = walked_few _ _ _ _ _ _ _ _ l _ _ _ f _ _ c.walk-met.ensures.1 in
    omega (arith, f.few, most, l.images.few)

pub loop-i-preserved : goal.loop-i-preserved
loop-i-preserved c = λ m p l.
    let f = c.loop-i.invariant m p l in
    let e = c.wide-p.ensures.0 in
    elim c.if-p-ne0.branch [
      | then-p-ne0+else-met-end+else-not-is_stop w ↦
          let s = w.wide-from.ensures.0 in
          let x = w.walk-met.ensures in
          let v = fit_walked _ _ _ _ _ _ _ _ l _ _ _ f (omega arith) _ e _ s _ _ _ _ w.wide.ensures.0 x.0 x.1 x.2 in
          let most = walked_few _ _ _ _ _ _ _ _ l _ _ _ f _ _ x.1 in
          rw (w.marks-is, w.links-is)
          (fit_good _ _ _ _ _ _ _ _ l _ _ _ f (omega arith) _ e _ s w.if-p-ne0.true _ (w.wide-end.ensures.0 ∙ w.image_of.ensures) _ _ _ v w.if-met-end.false
          (v.marked_stop (is_a_stop _ _ _ _ _ _ _ _ l _ _ (sym w.is_stop.ensures ∙ w.if-not-is_stop.false))) most)
      | else-p-ne0 w ↦ rw w.links-is (fit_skip _ _ _ _ _ _ _ _ l _ _ _ f (omega arith) _ e _ w.marks-is w.if-p-ne0.false)
    ]

pub returns : goal.returns
returns c = λ m p l. fit_all _ _ _ _ _ _ _ _ l _ _ _ (c.loop-i.invariant m p l) (omega arith)
