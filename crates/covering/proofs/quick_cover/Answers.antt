-- The member stands whole, and its number and images are read and embed it.
use Prim.Native.Nat.{◌+◌, ◌≤◌}
use mathlib.Core.Path.{◌≡◌, sym}
use native.Mathlib.Omega.{arith}
use lib.ListN.{get_or}
use borrow.Author.Rules.{rules}
use Rattle.number.specs.Number.{number_at, numeral}
use Rattle.number.proofs.Reading.{one_byte, two_bytes}
use Rattle.layout.specs.Entries.{Whole}
use Rattle.covering.proofs.CoverCases.{quick_embedding}
use Rattle.covering.proofs.Facts.{bare_facts, bare_whole}
use Rattle.covering.proofs.quick_cover.Goals as goal
use Rattle.covering.proofs.quick_cover.Goals.{then-m-ge128+else-high-eq0+else-high-ge128, else-m-ge128}

pub is_bare-requires : goal.is_bare-requires
is_bare-requires c = (omega arith, c.wide-count.ensures.0, omega arith, omega arith)

pub images_embed-requires : goal.images_embed-requires
images_embed-requires c =
    let ends : c.if-m-ge128.first ≤ c.args.at + 2 =
    elim c.if-m-ge128.branch [
      | then-m-ge128+else-high-eq0+else-high-ge128 b ↦ omega (arith, b.first-is)
      | else-m-ge128 b ↦ omega (arith, b.first-is)
    ] in
    let bare = c.is_bare.ensures c.if-not-is_bare.false in
    (bare_whole _ _ _ bare (omega arith) (omega (arith, c.wide-count.ensures.0)) (omega arith), bare_facts _ _ _ bare, c.wide-count.ensures.0, omega arith)

pub overflow_add-result : goal.overflow_add-result
overflow_add-result c =
    let ends : c.if-m-ge128.first ≤ c.args.at + 2 =
    elim c.if-m-ge128.branch [
      | then-m-ge128+else-high-eq0+else-high-ge128 b ↦ omega (arith, b.first-is)
      | else-m-ge128 b ↦ omega (arith, b.first-is)
    ] in
    search rules

-- the member's number, of one byte or two, and the place after it
pub returns : goal.returns
returns c = λ among.
    let a = c.args in
    let w = c.wide-m in
    let read : number_at a.cert.now a.at ≡ numeral c.if-m-ge128.m c.if-m-ge128.first =
    elim c.if-m-ge128.branch [
      | then-m-ge128+else-high-eq0+else-high-ge128 b ↦ rw (b.m-is, b.first-is) (sym (two_bytes a.cert.now a.at w.result w.ensures.0 b.if-m-ge128.true b.wide-high.result b.wide-high.ensures.0 (omega arith) b.if-high-eq0.false b.if-high-ge128.false))
      | else-m-ge128 b ↦ rw (b.m-is, b.first-is) (sym (one_byte a.cert.now a.at w.result w.ensures.0 (omega arith) b.if-m-ge128.false))
    ] in
    let bare = c.is_bare.ensures c.if-not-is_bare.false in
    let stands : Whole a.cert.now a.variables (get_or a.starts.now c.if-m-ge128.m 0) = bare_whole _ _ _ bare (omega arith) (omega (arith, c.wide-count.ensures.0)) (omega arith) in
    quick_embedding _ _ a.starts.now _ _ (omega (arith, c.ranges.state)) _ _ _ read (omega (arith, c.if-starts-m.false)) stands
    (sym c.if-state-cert.false) _ c.wide-count.ensures.0 _ c.in_ok-links.ensures among
