-- Number after number as the parser of a fact reads them; the test of its second cell is one of its rank.
use Rattle.std.proofs.Common.{sym, arith}
use Rattle.std.proofs.lemmas.Result.{err_from_is_err_and}
use Rattle.reader.specs.Number.{buffer_in}
use Rattle.reader.proofs.Facts.{lost_kind, lost_left, lost_right, rank_fits, too_low, fact_made}
use Rattle.reader.proofs.Source.fact.Goals as goal

pub returns-in_err-kind : goal.returns-in_err-kind
returns-in_err-kind c = λ last due.
    let p = err_from_is_err_and c.from_residual.result c.from_residual.ensures.1 in
    rw (p.1, p.2) (lost_kind (buffer_in c.args.self.now) c.args.n last c.args.first (sym c.in_err-kind.ensures))

pub returns-in_err-left : goal.returns-in_err-left
returns-in_err-left c = λ last due.
    let p = err_from_is_err_and c.from_residual-in_err-left.result c.from_residual-in_err-left.ensures.1 in
    rw (p.1, p.2) (lost_left (buffer_in c.args.self.now) c.args.n last c.args.first (sym c.in_ok-kind.ensures) (sym c.in_err-left.ensures))

pub returns-in_err-right : goal.returns-in_err-right
returns-in_err-right c = λ last due.
    let p = err_from_is_err_and c.from_residual-in_err-right.result c.from_residual-in_err-right.ensures.1 in
    rw (p.1, p.2)
    (lost_right (buffer_in c.args.self.now) c.args.n last c.args.first (sym c.in_ok-kind.ensures) (sym c.in_ok-left.ensures)
    (sym c.in_err-right.ensures))

pub overflow_mul-rank : goal.overflow_mul-rank
overflow_mul-rank c =
    omega (arith, rank_fits (buffer_in c.args.self.now) c.args.n _ _ _ c.requires (sym c.in_ok-kind.ensures) (sym c.in_ok-left.ensures) (sym c.in_ok-right.ensures))

pub overflow_mul-rank-2 : goal.overflow_mul-rank-2
overflow_mul-rank-2 c =
    omega (arith, rank_fits (buffer_in c.args.self.now) c.args.n _ _ _ c.requires (sym c.in_ok-kind.ensures) (sym c.in_ok-left.ensures) (sym c.in_ok-right.ensures))

pub overflow_add-rank : goal.overflow_add-rank
overflow_add-rank c =
    omega (arith, rank_fits (buffer_in c.args.self.now) c.args.n _ _ _ c.requires (sym c.in_ok-kind.ensures) (sym c.in_ok-left.ensures) (sym c.in_ok-right.ensures))

pub overflow_add-rank-2 : goal.overflow_add-rank-2
overflow_add-rank-2 c =
    omega (arith, rank_fits (buffer_in c.args.self.now) c.args.n _ _ _ c.requires (sym c.in_ok-kind.ensures) (sym c.in_ok-left.ensures) (sym c.in_ok-right.ensures))

pub returns-then-rank-least : goal.returns-then-rank-least
returns-then-rank-least c = λ last due.
    too_low (buffer_in c.args.self.now) c.args.n last c.args.first (sym c.in_ok-kind.ensures) (sym c.in_ok-left.ensures) (sym c.in_ok-right.ensures)
    c.requires c.args.least due _ c.outside.ensures (omega arith)

pub returns : goal.returns
returns c = λ last due.
    fact_made (buffer_in c.args.self.now) c.args.n last c.args.first (sym c.in_ok-kind.ensures) (sym c.in_ok-left.ensures) (sym c.in_ok-right.ensures)
    c.requires c.args.least due (omega arith)
