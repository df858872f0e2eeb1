-- Each return is the case of `read_cover_by` that the reading so far leaves.
use Rattle.std.proofs.Common.{◌∙◌, get_or, refl, sym, arith}
use Rattle.std.proofs.lemmas.Result.{err_from_is_err_and}
use Rattle.layout.proofs.Whole.{whole}
use Rattle.coverreader.proofs.Covers.{cover_unreadable, cover_outside, cover_absent, cover_refused, cover_taken}
use Rattle.coverreader.proofs.Images.{images_none}
use Rattle.coverreader.proofs.read_cover.Goals as goal

pub returns-in_default : goal.returns-in_default
returns-in_default c = cover_unreadable _ _ _ _ _ _ (sym c.in_default.ensures)

pub returns-then-starts-member : goal.returns-then-starts-member
returns-then-starts-member c = cover_outside _ _ _ _ _ _ _ (sym c.in-Ok.ensures) c.if-starts-member.true

pub returns-then-not-is_whole : goal.returns-then-not-is_whole
returns-then-not-is_whole c = cover_absent _ _ _ _ _ _ _ (sym c.in-Ok.ensures) (omega arith) (sym c.is_whole.ensures ∙ c.if-not-is_whole.true)

pub bounds-cert-start : goal.bounds-cert-start
bounds-cert-start c = omega (arith, (whole _ _ _ (sym c.is_whole.ensures ∙ c.if-not-is_whole.false)).inside)

pub read_images-requires : goal.read_images-requires
read_images-requires c =
    (images_none _ c.cells_held.ensures.1, (whole _ _ _ (sym c.is_whole.ensures ∙ c.if-not-is_whole.false)).cells, c.cells_held.ensures.1)

pub returns-in_err-next : goal.returns-in_err-next
returns-in_err-next c =
    let p = err_from_is_err_and c.from_residual.result c.from_residual.ensures.1 in
    rw (p.1, p.2, ← c.cells_held.ensures.2)
    (cover_refused _ _ _ _ _ _ _ (sym c.in-Ok.ensures) (omega arith) (sym c.is_whole.ensures ∙ c.if-not-is_whole.false) _ refl _ _ c.read_images.ensures _ c.in_err-next.was)

pub returns : goal.returns
returns c =
    rw (← c.cells_held.ensures.2)
    (cover_taken _ _ _ _ _ _ _ (sym c.in-Ok.ensures) (omega arith) (sym c.is_whole.ensures ∙ c.if-not-is_whole.false) _ refl _ _ c.read_images.ensures
    (omega (arith, c.type_inv.cert (get_or c.args.starts.now c.in-Ok.number.value 0))) _ c.in_ok-next.was)
