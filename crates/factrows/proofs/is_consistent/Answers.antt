-- No cell is below itself: so says the test of all.
use Rattle.std.proofs.Common.{◌∙◌, refl, rules}
use Rattle.std.proofs.lemmas.Iterator.{YieldsList-from_range}
use Rattle.std.proofs.lemmas.Iterator.Search.{all_from_yields_List}
use borrow.Author.Tests.{tests}
use Rattle.factrows.specs.Rows.{loose_at}
use Rattle.factrows.proofs.Cases.{all_numbers}
use Rattle.factrows.proofs.is_consistent.Goals as goal

pub returns : goal.returns
returns c =
    let l = c.args.rows.now in
    all_from_yields_List (loose_at l) _ _ _ c.all.ensures.ran (YieldsList-from_range 0 14 14 refl refl) (λ x b q k. search (rules, tests)) ∙ all_numbers (loose_at l) 14 0
