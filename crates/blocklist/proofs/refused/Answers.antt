-- By the outcome of the test.
use mathlib.Core.Bool.{Bool, true, cond}
use mathlib.Core.Path.{◌≡◌, refl, sym, ap, ◌∙◌}
use Rattle.stepper.specs.Step.{Steps}
use Rattle.stepper.specs.declared.Heap64.{Heap64}
use Rattle.stepper.specs.declared.Outcome.{Outcome}
use Rattle.stepper.specs.declared.Outcome.TheVariants.{Moved, Blocked, Refused}
use Rattle.stepper.specs.declared.StepRefusal.{StepRefusal}
use Rattle.stepper.specs.declared.Stepped.{Stepped}
use Rattle.blocklist.specs.Answers.{ready}
use Rattle.blocklist.specs.declared.ListRefusal.TheVariants.{IllFormed}
use Rattle.blocklist.proofs.Answering.{goes_on, probe}
use Rattle.blocklist.proofs.refused.Goals as goal

-- the test tells whether the table is ready
told : (t : Heap64) (r : Stepped) → Steps t 1 3 3 0 r → (o : Outcome) → r.outcome ≡ o → goes_on o ≡ ready t
told t r e o is = ap goes_on (sym is) ∙ ap (λ (q : Stepped). goes_on q.outcome) e.result ∙ probe t

-- an outcome other than a refusal goes on
stands : (o : Outcome) → ((r : StepRefusal) → o ≡ Refused r → ⊥) → goes_on o ≡ true
stands Moved n = refl
stands Blocked n = refl
stands (Refused r) n = absurd (n r refl)

pub returns-in-Refused : goal.returns-in-Refused
returns-in-Refused c =
    ap (λ (b : Bool). cond b c.args.refusal IllFormed) (told c.args.heap.now c.step-tested.result c.step-tested.ensures _ c.in-Refused.is)

pub returns-in_default : goal.returns-in_default
returns-in_default c =
    let s = c.step-tested.result in
    ap (λ (b : Bool). cond b c.args.refusal IllFormed) (sym (stands s.outcome c.in_default.not-Refused) ∙ told c.args.heap.now s c.step-tested.ensures _ refl)
