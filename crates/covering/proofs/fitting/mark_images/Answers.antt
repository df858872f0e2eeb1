-- The loop marks the images in turn: those before i are marked, and it is known whether they differ (`Marked`).
use lib.ListN.{get_or}
use mathlib.Core.Path.{◌≡◌, sym, ◌∙◌}
use Prim.Native.Nat.{◌<◌}
use native.Mathlib.Omega.{arith}
use Rattle.heap.specs.Place.{cell}
use Rattle.coverreader.specs.Images.{images_in}
use Rattle.coverreader.proofs.Images.{images_length, image_at}
use Rattle.marks.proofs.Images.{marking_read, was_free, was_marked}
use Rattle.covering.proofs.Marks.{marks_none}
use Rattle.covering.proofs.Marking.{marked_none, mark_new, mark_again, mark_all}
use Rattle.covering.proofs.fitting.mark_images.Goals as goal
use Rattle.covering.proofs.fitting.mark_images.Goals.{then-not-mark_image, else-not-mark_image}

pub loop-i-init : goal.loop-i-init
loop-i-init c = marked_none _ (rw c.clear.ensures marks_none)

pub overflow_add-i : goal.overflow_add-i
overflow_add-i c = omega (arith, c.requires.few)

pub bounds-images-i : goal.bounds-images-i
bounds-images-i c = omega (arith, c.requires.few)

pub loop-i-preserved : goal.loop-i-preserved
loop-i-preserved c =
    let l = c.loop-i in
    let m = c.requires in
    let images = images_in c.args.count c.args.images.now in
    let inside = images_length _ _ _ m in
    let p = c.wide.result in
    let e : p ≡ cell (get_or images l.i 0) = c.wide.ensures.0 ∙ sym (image_at _ _ _ m l.i (omega arith)) in
    let room : p < 28 = omega (arith, c.wide.ensures.0, m.high l.i (omega arith)) in
    let was = c.mark_image.ensures.0 in
    let now = c.mark_image.ensures.1 in
    elim c.if-not-mark_image.branch [
      | then-not-mark_image w ↦ rw (w.apart-is, now, marking_read l.marks p room) (mark_again images _ _ l.i l.invariant (omega arith) p e room (was_marked l.marks p room (sym was ∙ w.if-not-mark_image.true)))
      | else-not-mark_image w ↦ rw (w.apart-is, now, marking_read l.marks p room) (mark_new images _ _ l.i l.invariant (omega arith) p e room (was_free l.marks p room (sym was ∙ w.if-not-mark_image.false)))
    ]

pub returns : goal.returns
returns c =
    let a = c.args in
    mark_all (images_in a.count a.images.now) _ _ c.loop-i.i c.loop-i.invariant (omega (arith, images_length _ _ _ c.requires))
