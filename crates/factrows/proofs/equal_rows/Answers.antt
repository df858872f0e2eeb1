-- The rows of below are new.
use Rattle.std.proofs.Common.{◌≡◌, ◌∙◌, get_or, take, bit_or, zero-add, arith, rules}
use Rattle.std.proofs.lemmas.List.{get_or-take}
use Rattle.factrows.specs.Rows.{equal_at, equal_row}
use Rattle.factrows.proofs.Turning.{half_new, equal_new, equal_rest}
use Rattle.factrows.proofs.equal_rows.Goals as goal

pub returns : goal.returns
returns c =
    let a = c.args in
    let class = c.class_of-class in
    let over = c.over_of-over in
    let some = c.some_of-some in
    half_new (equal_at a.c a.d a.rows.now) a.rows.now _ 0 c.told-rows (omega (arith, c.each_row.auto.rows)) (omega arith)
    (λ j h.
    let m = c.each_row.ensures.made j (omega arith) in
    let e : get_or c.each_row.new.rows j 0 ≡ equal_row (get_or (take 14 a.rows.now) j 0) j a.c a.d class.result (bit_or over.result class.result) some.result = search rules in
    rw zero-add (rw (get_or-take 14 a.rows.now j 0 h) at e ∙ equal_new _ _ _ j _ _ _ h class.ensures over.ensures some.ensures))
    (λ j h. absurd (omega arith)) (λ j h b. equal_rest _ _ _ j (omega arith))
