-- Where the links are inside, the codes are loaded, and two stores follow.
use Rattle.std.proofs.Common.{sym, arith}
use Rattle.layout.proofs.Whole.{inside}
use Rattle.layout.proofs.load_shape.Goals as goal

pub overflow_add-n : goal.overflow_add-n
overflow_add-n c = let w = inside _ _ _ (sym c.if-not-links_inside.ensures) in omega arith

pub bounds-bytes-at : goal.bounds-bytes-at
bounds-bytes-at c = let w = inside _ _ _ (sym c.if-not-links_inside.ensures) in omega arith

pub overflow_add-at : goal.overflow_add-at
overflow_add-at c = let w = inside _ _ _ (sym c.if-not-links_inside.ensures) in omega arith

pub overflow_add-at-2 : goal.overflow_add-at-2
overflow_add-at-2 c = let w = inside _ _ _ (sym c.if-not-links_inside.ensures) in omega arith

pub load_codes-requires : goal.load_codes-requires
load_codes-requires c =
    let w = inside _ _ _ (sym c.if-not-links_inside.ensures) in
    (w.variables_most, omega (arith, c.wide.ensures.0, w.cells), omega arith, omega (arith, c.wide.ensures.0, w.inside))
