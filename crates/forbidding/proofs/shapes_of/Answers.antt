-- By the set that is asked for: four, six, or the count over the transitions.
use mathlib.Core.Path.{ap, sym, ◌∙◌}
use lib.ListN.{length}
use Rattle.forbidden.specs.Written.{shapes_of}
use Rattle.reader.specs.Transitions.{transitions_in}
use Rattle.forbidding.specs.Answers.{set_of}
use Rattle.forbidding.proofs.Answers.{steps_in}
use Rattle.forbidding.proofs.shapes_of.Goals as goal

pub count_steps-requires : goal.count_steps-requires
count_steps-requires c = (steps_in c.args.job.now c.args.h c.requires, c.requires.transitions_number)

pub returns-in-BadSteps : goal.returns-in-BadSteps
returns-in-BadSteps c =
    let a = c.args in (
      c.count_steps.ensures.0 ∙ ap (λ s. length (shapes_of (set_of s) a.h.variables (transitions_in a.job.now a.h))) (sym c.in-BadSteps.is),
      c.count_steps.ensures.1,
    )
