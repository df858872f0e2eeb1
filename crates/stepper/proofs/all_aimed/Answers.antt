-- The loop: every place before the index passes the test.
use mathlib.Core.Path.{◌≡◌, sym, ap, ◌∙◌}
use native.Mathlib.Omega.{arith}
use lib.ListN.{length}
use Rattle.lists.proofs.Test.{all_passed, all_failed, all_done}
use Rattle.stepper.specs.Table.{aimed, aimed_at}
use Rattle.stepper.proofs.Places.{code_at}
use Rattle.stepper.proofs.all_aimed.Goals as goal

pub returns-then-not-is_aimed : goal.returns-then-not-is_aimed
returns-then-not-is_aimed c =
    let used = c.args.used.now in
    let places = c.args.places.now in
    let i = c.loop-p.p-index in
    let tested : aimed_at used places i ≡ c.is_aimed.result = sym (ap (aimed used) (code_at places i)) ∙ sym c.is_aimed.ensures in
    sym (all_failed (aimed_at used places) (length places) i (omega arith) (tested ∙ c.if-not-is_aimed.true)) ∙ c.loop-p.invariant

pub loop-p-preserved : goal.loop-p-preserved
loop-p-preserved c =
    let used = c.args.used.now in
    let places = c.args.places.now in
    let i = c.loop-p.p-index in
    let tested : aimed_at used places i ≡ c.is_aimed.result = sym (ap (aimed used) (code_at places i)) ∙ sym c.is_aimed.ensures in
    sym (all_passed (aimed_at used places) (length places) i (omega arith) (tested ∙ c.if-not-is_aimed.false)) ∙ c.loop-p.invariant

pub returns : goal.returns
returns c =
    let places = c.args.places.now in
    sym (all_done (aimed_at c.args.used.now places) (length places) c.loop-p.p-index (omega arith)) ∙ c.loop-p.invariant
