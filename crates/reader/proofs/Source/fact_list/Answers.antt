-- The loop: i of the facts are read, and what is left of the parser goes on at the place, after a fact that the least rank is due after.
use Rattle.std.proofs.Common.{sym, arith}
use Rattle.reader.specs.Number.{buffer_in}
use Rattle.reader.proofs.Answers.{handed}
use Rattle.reader.proofs.Facts.{rise_all, rise_lost, rank_small, rise_more}
use Rattle.reader.proofs.Source.fact_list.Goals as goal

pub returns-in_err-fact : goal.returns-in_err-fact
returns-in_err-fact c =
    let l = c.loop-i in
    handed _ _ c.from_residual.ensures.1
    (rise_lost (buffer_in c.args.self.now) c.args.n c.args.count c.args.first l.at l.least l._i l.invariant (omega arith) _ _ (sym (c.in_err-fact.ensures l.invariant.last l.invariant.due)))

pub overflow_add-least : goal.overflow_add-least
overflow_add-least c =
    let l = c.loop-i in
    omega (arith, rank_small (buffer_in c.args.self.now) c.args.n c.args.count c.args.first l.at l.least l._i l.invariant (omega arith) _ _ (sym (c.in_ok-fact.ensures l.invariant.last l.invariant.due)) c.requires)

pub loop-i-preserved : goal.loop-i-preserved
loop-i-preserved c =
    let l = c.loop-i in
    rise_more (buffer_in c.args.self.now) c.args.n c.args.count c.args.first l.at l.least l._i l.invariant (omega arith) _ _ (sym (c.in_ok-fact.ensures l.invariant.last l.invariant.due))

pub returns : goal.returns
returns c = let l = c.loop-i in rise_all (buffer_in c.args.self.now) c.args.n c.args.count c.args.first l.at l.least l._i l.invariant (omega arith)
