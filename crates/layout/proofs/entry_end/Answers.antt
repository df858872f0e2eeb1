-- Where the links are not inside, or the facts, there is no end.
use Rattle.std.proofs.Common.{◌∙◌, sym, ap, arith}
use Rattle.std.specs.Prelude.{Some}
use Rattle.layout.proofs.Whole.{inside, no_end, end_told_lem, lost_inside}
use Rattle.layout.proofs.entry_end.Goals as goal

pub returns-then-not-links_inside : goal.returns-then-not-links_inside
returns-then-not-links_inside c = no_end _ _ _ (lost_inside _ _ _ (sym c.if-not-links_inside.ensures))

pub overflow_add-at : goal.overflow_add-at
overflow_add-at c = let w = inside _ _ _ (sym c.if-not-links_inside.ensures) in omega arith

pub bounds-bytes-at : goal.bounds-bytes-at
bounds-bytes-at c = let w = inside _ _ _ (sym c.if-not-links_inside.ensures) in omega arith

pub overflow_add-at-2 : goal.overflow_add-at-2
overflow_add-at-2 c = let w = inside _ _ _ (sym c.if-not-links_inside.ensures) in omega arith

pub overflow_add-at-3 : goal.overflow_add-at-3
overflow_add-at-3 c = let w = inside _ _ _ (sym c.if-not-links_inside.ensures) in omega arith

pub overflow_add-at-4 : goal.overflow_add-at-4
overflow_add-at-4 c = let w = inside _ _ _ (sym c.if-not-links_inside.ensures) in omega (arith, c.wide-n.ensures.0)

pub facts_end-end-requires : goal.facts_end-end-requires
facts_end-end-requires c = let w = inside _ _ _ (sym c.if-not-links_inside.ensures) in omega (arith, c.wide-n.ensures.0, w.inside)

pub returns-then-bytes-end : goal.returns-then-bytes-end
returns-then-bytes-end c = let end = rw c.wide-n.ensures.0 at c.facts_end-end.ensures in no_end _ _ _ (λ w. omega (arith, w.facts_inside, end))

pub returns : goal.returns
returns c =
    let i = inside _ _ _ (sym c.if-not-links_inside.ensures) in
    let end = rw c.wide-n.ensures.0 at c.facts_end-end.ensures in
    ap Some end ∙ end_told_lem _ _ _ (record { variables_most = i.variables_most; cells = i.cells; inside = i.inside; facts_inside = omega (arith, end) })
