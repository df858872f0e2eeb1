-- So says the test of all.
use Rattle.std.proofs.Common.{◌∙◌, refl, arith, rules}
use Rattle.std.proofs.lemmas.Iterator.{YieldsList-from_range}
use Rattle.std.proofs.lemmas.Iterator.Search.{all_from_yields_List}
use borrow.Author.Tests.{tests}
use Rattle.factrows.specs.Listed.{count, holds_for}
use Rattle.factrows.proofs.Cases.{all_numbers}
use Rattle.factrows.proofs.cell_holds.Goals as goal

pub returns : goal.returns
returns c =
    let a = c.args in
    let n = count a.s.now in
    all_from_yields_List (holds_for a.rows.now a.s.now a.images.now a.p) _ _ _ c.all.ensures.ran (YieldsList-from_range 0 n n refl (omega arith)) (λ x b q k. search (rules, tests))
    ∙ all_numbers (holds_for a.rows.now a.s.now a.images.now a.p) n 0
