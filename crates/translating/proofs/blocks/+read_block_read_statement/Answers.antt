-- A block is its statements, a statement may hold a block: the place in the text moves on at each call, and the position with it.
use native.Mathlib.Omega.{arith}
use Rattle.std.proofs.lemmas.Result.{err_from_is_err_and}
use Rattle.std.specs.Prelude.{Ok, Err}
use Rattle.translating.specs.declared.blocks.Block.TheVariants as block
use Rattle.translating.proofs.Nesting.{mark_in_lem, moved, block_after, block_over, block_last, statement_on, statement_refused, open_over, open_refused, close_statement, close_refused}
use Rattle.translating.proofs.blocks.+read_block_read_statement.Goals as goal

-- ---- a block

pub read_block-returns-in_default : goal.read_block-returns-in_default
read_block-returns-in_default t c =
    let a = c.args in
    let l = c.loop-reached in
    block_after a.text.now a.depth a.p a.work.now l.reached l.work l.invariant (Err c.refused.result) l.work
    (block_last a.text.now a.depth l.reached l.work c.refused.result c.loop-reached-test.true c.in_default.ensures c.refused.ensures)

pub read_block-read_statement-requires : goal.read_block-read_statement-requires
read_block-read_statement-requires t c =
    let l = c.loop-reached in
    let line = c.in-Some.ensures in (
      omega (arith, c.decreases, l.invariant.further.on, line.0),
      (mark_in_lem _ _ c.read_line-line.ensures, moved l.reached l.work _ l.invariant.further.within, omega (arith, line.0), c.requires.2),
    )

pub read_block-returns : goal.read_block-returns
read_block-returns t c =
    let a = c.args in
    let l = c.loop-reached in
    block_after a.text.now a.depth a.p a.work.now l.reached l.work l.invariant (Ok (block.Over l.reached)) l.work
    (block_over a.text.now a.depth l.reached l.work l.invariant.further.within c.loop-reached-test.false)

-- ---- a statement

pub read_statement-returns-in_err-q : goal.read_statement-returns-in_err-q
read_statement-returns-in_err-q t c =
    let a = c.args in
    let p = err_from_is_err_and c.from_residual.result c.from_residual.ensures.1 in
    rw (p.1, p.2) (statement_refused a.text.now a.line a.depth a.p a.work.now c.requires.1 c.requires.2 c.begin.new.work c.in_err-q.field-0.0 c.in_err-q.ensures)

pub read_statement-returns-in_err-r-in-Opened : goal.read_statement-returns-in_err-r-in-Opened
read_statement-returns-in_err-r-in-Opened t c =
    let a = c.args in
    let p = err_from_is_err_and c.from_residual-in_err-r-in-Opened.result c.from_residual-in_err-r-in-Opened.ensures.1 in
    rw (p.1, p.2) (open_refused a.text.now a.line a.depth a.p a.work.now c.requires.1 c.requires.2 c.begin.new.work c.in_ok-q.field-0 c.in_ok-q.ensures
    c.in-Opened.q c.in-Opened.open c.in-Opened.is c.in_err-r-in-Opened.field-0.0 c.read_block.new.work c.in_err-r-in-Opened.ensures)

pub read_statement-returns-in_err-close-in-Ended-2 : goal.read_statement-returns-in_err-close-in-Ended-2
read_statement-returns-in_err-close-in-Ended-2 t c =
    let a = c.args in
    let p = err_from_is_err_and c.from_residual-in_err-close-in-Ended-2.result c.from_residual-in_err-close-in-Ended-2.ensures.1 in
    rw (p.1, p.2) (close_refused a.text.now a.line a.depth a.p a.work.now c.requires.1 c.requires.2 c.begin.new.work c.in_ok-q.field-0 c.in_ok-q.ensures
    c.in-Opened.q c.in-Opened.open c.in-Opened.is c.in_ok-r-in-Opened.field-0 c.read_block.new.work c.in_ok-r-in-Opened.ensures
    c.in-Ended-2.r c.in-Ended-2.is c.in_err-close-in-Ended-2.field-0.0 c.close.new.work c.in_err-close-in-Ended-2.ensures)

pub read_statement-returns-in-On : goal.read_statement-returns-in-On
read_statement-returns-in-On t c =
    let a = c.args in
    statement_on a.text.now a.line a.depth a.p a.work.now c.requires.1 c.requires.2 c.begin.new.work c.in_ok-q.field-0 c.in_ok-q.ensures c.in-On.q c.in-On.is

pub read_statement-returns-in-Over : goal.read_statement-returns-in-Over
read_statement-returns-in-Over t c =
    let a = c.args in
    open_over a.text.now a.line a.depth a.p a.work.now c.requires.1 c.requires.2 c.begin.new.work c.in_ok-q.field-0 c.in_ok-q.ensures
    c.in-Opened.q c.in-Opened.open c.in-Opened.is c.in_ok-r-in-Opened.field-0 c.read_block.new.work c.in_ok-r-in-Opened.ensures
    c.in-Over.r c.in-Over.is c.refused.result c.refused.ensures

pub read_statement-returns-in_ok-close-in-Ended-2 : goal.read_statement-returns-in_ok-close-in-Ended-2
read_statement-returns-in_ok-close-in-Ended-2 t c =
    let a = c.args in
    close_statement a.text.now a.line a.depth a.p a.work.now c.requires.1 c.requires.2 c.begin.new.work c.in_ok-q.field-0 c.in_ok-q.ensures
    c.in-Opened.q c.in-Opened.open c.in-Opened.is c.in_ok-r-in-Opened.field-0 c.read_block.new.work c.in_ok-r-in-Opened.ensures
    c.in-Ended-2.r c.in-Ended-2.is c.in_ok-close-in-Ended-2.field-0 c.close.new.work c.in_ok-close-in-Ended-2.ensures
