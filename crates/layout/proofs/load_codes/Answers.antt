-- Three moves where the most codes are inside (`moved`), else two copies (`copied_own`).
use Rattle.std.proofs.Common.{◌∙◌, sym, arith}
use Rattle.layout.proofs.Loading.{most, moved, copied_own}
use Rattle.layout.proofs.load_codes.Goals as goal

pub overflow_sub-links : goal.overflow_sub-links
overflow_sub-links c = let m = most _ _ _ (sym c.if-most_inside.ensures) in omega arith

pub move_eight-requires : goal.move_eight-requires
move_eight-requires c = let m = most _ _ _ (sym c.if-most_inside.ensures) in (omega arith, omega arith)

pub move_eight-requires-then-most_inside : goal.move_eight-requires-then-most_inside
move_eight-requires-then-most_inside c = let m = most _ _ _ (sym c.if-most_inside.ensures) in (omega arith, omega arith)

pub move_eight-requires-then-most_inside-2 : goal.move_eight-requires-then-most_inside-2
move_eight-requires-then-most_inside-2 c = let m = most _ _ _ (sym c.if-most_inside.ensures) in (omega arith, omega arith)

pub returns-then-most_inside : goal.returns-then-most_inside
returns-then-most_inside c =
    c.move_eight-then-most_inside-2.ensures
    ∙ rw (c.move_eight-then-most_inside.ensures, c.move_eight.ensures) (moved _ _ _ c.args.n _ (sym c.if-most_inside.ensures) c.told-s)

pub returns : goal.returns
returns c = c.copy_bytes-2.ensures ∙ rw c.copy_bytes.ensures (copied_own _ _ _ _ _ (sym c.if-most_inside.ensures) (omega arith))
