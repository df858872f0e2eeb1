-- The loop: whether there is a place just where one is wanted, so far, with what is left to test, decides. Then each is a used cell's.
use mathlib.Core.Bool.{◌&&◌}
use mathlib.Core.Path.{◌≡◌, sym, ap, ◌∙◌}
use native.Mathlib.Omega.{arith}
use borrow.Author.Rules.{rules}
use lib.ListN.{length}
use Rattle.lists.specs.Test.{all_from}
use Rattle.stepper.specs.Table.{aimed_at}
use Rattle.stepper.proofs.Fits.{one_tested, all_tested, slot_marked, slots_are}
use Rattle.stepper.proofs.Places.{code_at}
use Rattle.stepper.proofs.Heap64.slots_fit.Goals as goal

pub loop-i-preserved : goal.loop-i-preserved
loop-i-preserved c =
    let t = c.args.self.now in
    rw (c.ne.ensures, code_at t.vars c.loop-i.i) (one_tested (slot_marked t) 8 c.loop-i.i c.loop-i.marked (omega arith) ∙ c.loop-i.invariant)

pub returns-then-not-marked : goal.returns-then-not-marked
returns-then-not-marked c =
    let t = c.args.self.now in
    let e = all_tested (slot_marked t) 8 c.loop-i.i c.loop-i.marked (omega arith) c.loop-i.invariant in
    sym (slots_are t ∙ ap (λ b. b && all_from 8 0 (aimed_at t.used t.vars)) (sym e ∙ c.if-not-marked.true))

pub returns : goal.returns
returns c =
    let t = c.args.self.now in
    let e = all_tested (slot_marked t) 8 c.loop-i.i c.loop-i.marked (omega arith) c.loop-i.invariant in
    let size : length t.vars ≡ 8 = search rules in
    c.all_aimed.ensures ∙ ap (λ k. all_from k 0 (aimed_at t.used t.vars)) size
    ∙ sym (slots_are t ∙ ap (λ b. b && all_from 8 0 (aimed_at t.used t.vars)) (sym e ∙ c.if-not-marked.false))
