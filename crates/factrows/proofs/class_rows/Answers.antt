-- The rows of equal are new.
use Rattle.std.proofs.Common.{◌≡◌, ◌∙◌, get_or, take, drop, arith, rules}
use Rattle.std.proofs.lemmas.List.{get_or-take, get_or-drop}
use Rattle.factrows.specs.Rows.{class_at, class_row}
use Rattle.factrows.proofs.Turning.{half_new, class_first, class_new}
use Rattle.factrows.proofs.class_rows.Goals as goal

pub returns : goal.returns
returns c =
    let l = c.args.rows.now in
    let class = c.args.class in
    half_new (class_at class l) l _ 14 c.told-rows (omega (arith, c.each_row.auto.rows)) (omega arith)
    (λ j h.
    let m = c.each_row.ensures.made j (omega arith) in
    let e : get_or c.each_row.new.rows j 0 ≡ class_row (get_or (take 14 (drop 14 l)) j 0) j class = search rules in
    rw (get_or-take 14 (drop 14 l) j 0 h, get_or-drop 14 l j 0) at e ∙ class_new class l j)
    (class_first class l) (λ j h b. absurd (omega arith))
