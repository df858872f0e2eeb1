-- None in version 1. Else the member's facts are those that the bytes list: where they hold none is missing, else the lowest is found.
use mathlib.Core.Path.{◌∙◌, sym}
use native.Mathlib.Omega.{arith}
use Rattle.factrows.specs.Rows.{rows_test}
use Rattle.layout.specs.Entries.{located_at}
use Rattle.coverreader.specs.Images.{images_in}
use Rattle.lists.proofs.Lowest.{found_at, found_none}
use Rattle.covering.proofs.Facts.{missing_found, missing_none, bare_holds, bare_facts}
use Rattle.covering.proofs.fitting.fact_missing.Goals as goal

pub returns-then-version_of-ne2 : goal.returns-then-version_of-ne2
returns-then-version_of-ne2 c = λ covered.
    let a = c.args in
    let none = bare_facts a.cert.now a.variables a.start (λ e. absurd (c.if-version_of-ne2.true (c.version_of.ensures ∙ e))) in
    sym (bare_holds (located_at a.cert.now a.variables a.start).shape covered (images_in a.cells a.images.now) (rows_test a.facts.now) none a.cells)

pub returns-then-holds_all : goal.returns-then-holds_all
returns-then-holds_all c = λ covered.
    let (w, (n, m)) = c.requires in
    sym (missing_none _ _ _ w _ n _ m c.args.facts.now _ c.fact_span-span.ensures.2 covered (sym c.holds_all.ensures ∙ c.if-holds_all.true))

pub returns-then-missing-cells : goal.returns-then-missing-cells
returns-then-missing-cells c = λ covered.
    let (w, (n, m)) = c.requires in
    let found = missing_found _ _ _ w _ n _ m c.args.facts.now _ c.fact_span-span.ensures.2 covered _ c.first_missing-missing.ensures in
    sym (found_at _ _ _ found c.if-missing-cells.true)

pub returns-else-missing-cells : goal.returns-else-missing-cells
returns-else-missing-cells c = λ covered.
    let (w, (n, m)) = c.requires in
    let found = missing_found _ _ _ w _ n _ m c.args.facts.now _ c.fact_span-span.ensures.2 covered _ c.first_missing-missing.ensures in
    sym (found_none _ _ _ found (omega arith))
